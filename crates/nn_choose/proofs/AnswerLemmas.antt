-- What an answer says of a refusal, as it is handed on.
use Rattle.std.proofs.Common.{◌≡◌, ◌≢◌, Result, refl}
use Rattle.std.specs.Prelude.{IsErrAnd, IfErr}
use Rattle.nn_host.specs.Moments.{State}
use Rattle.nn_pick.specs.declared.fault.OpenFault.{OpenFault}
use Rattle.nn_pick.specs.declared.fault.OpenFault.TheVariants.{Refused, Failed, Memory}
use Rattle.nn_pick.specs.declared.intent.Intent.{Intent}
use Rattle.nn_pick.specs.declared.refusal.Refusal.{Refusal}
use Rattle.nn_pick.specs.Dirs.{Dirs}
use Rattle.nn_choose.specs.Looking.{OnlyLooked, dirs_read}
use Rattle.nn_choose.specs.Picking.{IsRefusedTruly, IsRefusedAnyway}
use Rattle.nn_choose.proofs.LookingLemmas.{handed_on, moved_back}

-- no refusal
pub anyway_unrefused : (dirs : Dirs) (fault : OpenFault) → ((refusal : Refusal) → fault ≢ Refused refusal) → IsRefusedAnyway dirs fault
anyway_unrefused dirs (Refused refusal) none intent = absurd (none refusal refl)
anyway_unrefused dirs (Failed i) none intent = tt
anyway_unrefused dirs Memory none intent = tt

-- after looks, for one intent
pub truly_then : {T told : Type 0} {a b : State} (intent : Intent) (result : Result T OpenFault) (fault : OpenFault) → IsErrAnd result (λ e. e ≡ fault) → OnlyLooked told a b → told → IsRefusedAnyway (dirs_read b) fault → IfErr result (IsRefusedTruly (dirs_read a) intent)
truly_then {a = a} intent result fault is p tells refused = handed_on (IsRefusedTruly (dirs_read a) intent) result fault is (moved_back (λ dirs. IsRefusedAnyway dirs fault) p tells refused intent)

-- a fault that is no refusal
pub none_on : {T : Type 0} (result : Result T OpenFault) (fault : OpenFault) → IsErrAnd result (λ e. e ≡ fault) → ((refusal : Refusal) → fault ≢ Refused refusal) → IfErr result (λ e. (refusal : Refusal) → e ≢ Refused refusal)
none_on result fault is none = handed_on (λ e. (refusal : Refusal) → e ≢ Refused refusal) result fault is none
