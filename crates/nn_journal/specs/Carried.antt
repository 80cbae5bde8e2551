-- Several steps in all live directories: what each moment has, who is live, and how low those that were dropped are.
use Rattle.std.specs.Prelude.{◌≡◌, ℕ, ◌≤◌, true, false}
use Rattle.nn_base.specs.DirSets.{Members, has}
use Rattle.nn_host.specs.Moments.{State, disk_at}
use Rattle.nn_host.specs.Runs.{Throughout, EachDir}
use Rattle.nn_marks.specs.declared.version.Version.{Version}
use Rattle.nn_segment_file.specs.Log.{Shared, Logs}
use Rattle.nn_segment_file.specs.Stages.{Stage, base_of, last_of, OneInProgress}
use Rattle.nn_journal.specs.Among.{AllAt, AmongAt, EachCounted}
use Rattle.nn_journal.specs.Ahead.{HoldersAhead}

-- each directory that was dropped ends, after each fair stop, at this id or below
abbrev pub DroppedBelow : Version → Shared → ℕ → ℕ → Members → Members → State → Type 0
DroppedBelow version list lo hi old_live live s = (j : ℕ) → has old_live j ≡ true → has live j ≡ false → Logs version list lo hi (disk_at s j)

-- The live directories came from one stage to another. At each moment each of them ends between the two, and no other is touched. Those that are still live stand at the second with no other segment in progress, and those that were dropped end at `below` or before. At each moment none that was live without a saved state is ahead of a holder that hasn't failed: those that were dropped earlier end strictly below.
pub record Carried (told : Type 0) (version : Version) (list : Shared) (from to : Stage) (below : ℕ) (holders old_live live : Members) (old new : State) : Type 0 where
  pub grows : last_of from ≤ last_of to
  pub rises : base_of from ≤ base_of to
  pub counted : EachCounted old_live old_live live old new
  pub any_moment : Throughout told old new (EachDir (AmongAt version list from to old_live old))
  pub stands : told → AllAt version list to live new
  pub alone : told → (j : ℕ) → has live j ≡ true → OneInProgress from to (disk_at new j)
  pub dropped : told → DroppedBelow version list (last_of from) below old_live live new
  pub ahead : HoldersAhead told version list (last_of from) (last_of to) old_live holders old new
