-- Which counts of faults rose, by the answer.
use Rattle.std.specs.Prelude.{◌≡◌, ℕ, Result, Ok, Err}
use Rattle.nn_host.specs.Moments.{State, faults_at}
use Rattle.nn_host.specs.Calls.{next_count}
use Rattle.nn_remake.specs.declared.fault.MakeFault.{MakeFault}
use Rattle.nn_remake.specs.declared.fault.MakeFault.TheVariants.{Failed, Memory}

-- that of the directory where a call on it failed, and else none
abbrev pub IsCountedBy : {T : Type 0} → ℕ → State → State → Result T MakeFault → Type 0
IsCountedBy i old new (Ok v) = faults_at new i ≡ faults_at old i
IsCountedBy i old new (Err Failed) = faults_at new i ≡ next_count (faults_at old i)
IsCountedBy i old new (Err Memory) = faults_at new i ≡ faults_at old i
