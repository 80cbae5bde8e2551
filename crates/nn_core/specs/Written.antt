-- What a line writes: which lines do, how many ids and calls that takes, and which segment is in progress then.
use Rattle.std.specs.Prelude.{◌≡◌, ◌⊎◌, ℕ, ◌+◌, ◌*◌, ◌<◌, ◌≤◌, true, false, Some, None, Ok, Option, Result, OnOk}
use Rattle.nn_base.specs.DirSets.{Members, has, count_of}
use Rattle.nn_base.specs.Limits.{most_record}
use Rattle.nn_base.specs.declared.sub.Sub.TheVariants.{Current}
use Rattle.nn_host.specs.Moments.{State, moment, disk_at}
use Rattle.nn_host.specs.Runs.{Throughout}
use Rattle.nn_marks.specs.declared.version.Version.{Version}
use Rattle.nn_tree.specs.Namespace.{Namespace}
use Rattle.nn_chain.specs.Folder.{folder_at}
use Rattle.nn_ops.specs.Step.{refusal_of}
use Rattle.nn_script.specs.declared.command.ScriptCommand.{ScriptCommand}
use Rattle.nn_script.specs.declared.command.ScriptCommand.TheVariants.{Namespace as Change, Roll, Checkpoint, Restore}
use Rattle.nn_script.specs.declared.syntax.Syntax.{Syntax}
use Rattle.nn_journal.specs.declared.journal.JournalSet.{JournalSet}
use Rattle.nn_journal.specs.Places.{full_segment}
use Rattle.nn_kept.specs.Laws.{EachLeft}
use Rattle.nn_ckpt.specs.Checkpointed.{IsCheckpointed}
use Rattle.nn_run.specs.Flights.{Flies}
use Rattle.nn_core.specs.declared.event.End.{End}
use Rattle.nn_core.specs.Standing.{Stands, GoesFrom, HasIds}

-- a command of the namespace
abbrev pub IsChange : Result (Option ScriptCommand) Syntax → Type 0
IsChange reading = (it : _) × (reading ≡ Ok (Some (Change it)))

-- one that isn't refused
abbrev pub Takes : Result (Option ScriptCommand) Syntax → Namespace → Type 0
Takes reading ns = (it : _) × (reading ≡ Ok (Some (Change it))) × (refusal_of ns it ≡ None)

-- a line that begins another segment, whatever the directories hold
abbrev pub Begins : Result (Option ScriptCommand) Syntax → Type 0
Begins reading = (reading ≡ Ok (Some Roll)) ⊎ (reading ≡ Ok (Some Checkpoint))

-- the directories are to be written to: by a roll, a checkpoint, or a command that is taken
abbrev pub Writes : Result (Option ScriptCommand) Syntax → Namespace → Type 0
Writes reading ns = Begins reading ⊎ Takes reading ns

-- a line that makes an image of the namespace: where there is no memory for that, some of it may be done
abbrev pub Saves : Result (Option ScriptCommand) Syntax → Type 0
Saves reading = (reading ≡ Ok (Some Checkpoint)) ⊎ ((dir : ℕ) × (reading ≡ Ok (Some (Restore dir))))

-- a listed directory that was dropped is to be taken back
abbrev pub IsToTakeBack : Result (Option ScriptCommand) Syntax → ℕ → Members → Type 0
IsToTakeBack reading count live = (dir : ℕ) × (reading ≡ Ok (Some (Restore dir))) × (dir < count) × (has live dir ≡ false)

-- Each live directory has nothing under way, and whatever a fair stop leaves of it has its chain end at the last id, with this namespace and nothing saved.
abbrev pub AllStand : Version → Namespace → JournalSet → State → Type 0
AllStand version ns journal s = (j : ℕ) → has journal.live j ≡ true → Flies version (λ n. ns) journal.last journal.last (disk_at s j)

-- Each live directory has the image of the namespace at one id above this one, and is purged beside it.
abbrev pub AllCheckpointed : Version → Namespace → JournalSet → JournalSet → State → Type 0
AllCheckpointed version ns journal after s = (id : ℕ) × (journal.last < id) × ((j : ℕ) → has after.live j ≡ true → EachLeft (disk_at s j) (λ c. IsCheckpointed version id after.last ns (folder_at c Current)))

-- What it wrote. Nothing where nothing was to be written; one id and no more for a command that was taken, where none was dropped and the segment has room.
pub record HasWritten (told : Type 0) (reading : Result (Option ScriptCommand) Syntax) (version : Version) (ns : Namespace) (journal after : JournalSet) (old new : State) (result : Result (Unit {0}) End) : Type 0 where
  pub idle : ¬ Writes reading ns → ¬ IsToTakeBack reading old.count journal.live → (after ≡ journal) × Throughout told old new (λ m. m.dirs ≡ old.now.dirs)
  pub adds : Takes reading ns → after.live ≡ journal.live → journal.size + most_record ≤ full_segment → OnOk result ((after.last ≡ journal.last + 1) × (after.first ≡ journal.first))
  -- how many ids it gave
  pub last : after.last + 2 * count_of after.live ≤ journal.last + 8 + 2 * count_of journal.live
  -- how many calls a command took, where none was dropped and the segment has room: two for each live directory, and one for the answer
  pub calls : told → IsChange reading → after.live ≡ journal.live → journal.size + most_record ≤ full_segment → moment new ≤ moment old + 2 * count_of journal.live + 1
  -- once a roll was answered, the segment in progress begins with the last id, for the journal and in each live directory
  pub begins : reading ≡ Ok (Some Roll) → OnOk result (after.first ≡ after.last)
  pub rolled : told → HasIds journal → Stands version journal ns old → reading ≡ Ok (Some Roll) → OnOk result ((j : ℕ) → has after.live j ≡ true → GoesFrom after.last (disk_at new j))
  -- once a checkpoint was answered, each live directory is checkpointed at one id above all that were given before the line, whatever a fair stop leaves
  pub checkpointed : told → HasIds journal → Stands version journal ns old → reading ≡ Ok (Some Checkpoint) → OnOk result (AllCheckpointed version ns journal after new)
  -- once a line `restore` was answered, each live directory ranks as the others, the one that was taken back among them
  pub restored : told → HasIds journal → Stands version journal ns old → (dir : ℕ) → reading ≡ Ok (Some (Restore dir)) → OnOk result (AllStand version ns after new)
