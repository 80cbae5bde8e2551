-- A dropped directory while it is emptied, and why it isn't.
use Rattle.std.specs.Prelude.{◌≡◌, ◌⊎◌, ℕ, Bool, true, false, Result, Ok, Err, IsErrOf}
use Rattle.nn_host.specs.Disk.{Disk, Reads}
use Rattle.nn_host.specs.Moments.{State}
use Rattle.nn_host.specs.Runs.{Looked}
use Rattle.nn_state.specs.declared.state.StorageState.TheVariants.{NonExistent}
use Rattle.nn_state.specs.declared.state.Why.{Why}
use Rattle.nn_state.specs.Table.{seven_of, table_of}
use Rattle.nn_state.specs.Recovery.{KeepsSeat, IsRecovered}
use Rattle.nn_remake.specs.Clearing.{IsAtRest, IsClearing}
use Rattle.nn_restore.specs.declared.emptying.Unfit.{Unfit}
use Rattle.nn_restore.specs.declared.emptying.Unfit.TheVariants.{Missing, Inconsistent, Failed}

-- ---- why not

-- it has no usable root; the table calls it inconsistent
abbrev pub IsMissing : Reads → Type 0
IsMissing r = table_of (seven_of r) ≡ Ok NonExistent

abbrev pub IsInconsistent : Reads → Type 0
IsInconsistent r = (why : Why) × (table_of (seven_of r) ≡ Err why)

-- Refused exactly so, but where a call on it failed before that was known.
pub record IsRefusedBy {T : Type 0} (r : Reads) (result : Result T Unfit) : Type 0 where
  pub missing : IsErrOf result Missing → IsMissing r
  pub inconsistent : IsErrOf result Inconsistent → IsInconsistent r
  pub is_missing : IsMissing r → IsErrOf result Missing ⊎ IsErrOf result Failed
  pub is_inconsistent : IsInconsistent r → IsErrOf result Inconsistent ⊎ IsErrOf result Failed

-- each call on it was answered
abbrev pub is_answered : {T : Type 0} → Result T Unfit → Bool
is_answered (Err Failed) = false
is_answered (Err Missing) = true
is_answered (Err Inconsistent) = true
is_answered (Ok it) = true

-- it alone was looked at
abbrev pub WasLookedAt : {T : Type 0} → Type 0 → ℕ → State → State → Result T Unfit → Type 0
WasLookedAt told i old new result = Looked told i old new (is_answered result)

-- ---- at each moment

-- It is as it was; or it keeps its seat, while it is recovered; or it is cleared after that, with nothing under way any more.
abbrev pub IsEmptying : Disk → Disk → Type 0
IsEmptying old d = (d ≡ old) ⊎ KeepsSeat old d ⊎ ((mid : Disk) × KeepsSeat old mid × IsRecovered old mid × (IsAtRest mid → IsClearing mid d))
