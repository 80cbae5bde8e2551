-- Runs of calls on one directory that end with the first one that fails.
use Rattle.std.specs.Prelude.{◌≡◌, ◌<◌, ℕ}
use Rattle.nn_host.specs.Moments.{State, faults_at}
use Rattle.nn_host.specs.Runs.{Throughout}

-- At each moment at which its count of faults has risen, the directory is as it is in the end.
abbrev pub EndsByFailure : Type 0 → ℕ → State → State → Type 0
EndsByFailure told i old new = Throughout told old new (λ m. faults_at old i < (m.dirs i).faults → m.dirs i ≡ new.now.dirs i)
