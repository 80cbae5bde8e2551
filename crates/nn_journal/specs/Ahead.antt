-- No directory without a saved state is ahead of one that has one.
use Rattle.std.specs.Prelude.{◌≡◌, ℕ, ◌-◌, ◌^◌, ◌<◌, ◌≤◌, true, false}
use Rattle.nn_base.specs.DirSets.{Members, has}
use Rattle.nn_host.specs.Moments.{State, Moment, faults_at}
use Rattle.nn_host.specs.Runs.{Throughout}
use Rattle.nn_marks.specs.declared.version.Version.{Version}
use Rattle.nn_segment_file.specs.Log.{Shared, Logs}

-- At a moment each holder on which no call has failed ends at `mid` or later, and each other directory there or before.
pub record AheadAt (version : Version) (list : Shared) (lo hi : ℕ) (live holders : Members) (old : State) (m : Moment) : Type 0 where
  pub mid : ℕ
  pub low : lo ≤ mid
  pub holding : (j : ℕ) → has live j ≡ true → has holders j ≡ true → faults_at old j < 2 ^ 64 - 1 → (m.dirs j).faults ≡ faults_at old j → Logs version list mid hi (m.dirs j).disk
  pub others : (j : ℕ) → has live j ≡ true → has holders j ≡ false → Logs version list lo mid (m.dirs j).disk

abbrev pub HoldersAhead : Type 0 → Version → Shared → ℕ → ℕ → Members → Members → State → State → Type 0
HoldersAhead told version list lo hi live holders old new = Throughout told old new (AheadAt version list lo hi live holders old)
