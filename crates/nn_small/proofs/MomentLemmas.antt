-- A call raises the moment by one at most.
use Rattle.std.proofs.Common.{◌⊎◌, ⊎_elim, ℕ, ◌+◌, ◌≤◌, [], ◌∷◌, Result, Ok, Err, OnOk, OnErr, ap, arith, length-append}
use Rattle.std.specs.Prelude.{length}
use Rattle.nn_host.specs.Disk.{Call}
use Rattle.nn_host.specs.Moments.{State, Event, moment}
use Rattle.nn_host.specs.Calls.{Recorded, Unrecorded, Done, Interrupted, Unbegun, Called}

once_recorded : {event : Event} {a b : State} → Recorded event a b → moment b ≤ moment a + 1
once_recorded {event} {a} {b} p = omega (arith, ap length p.trace, length-append a.trace (record { ended = a.ended; before = a.now; event = event } ∷ []))

none_recorded : {a b : State} → Unrecorded a b → moment b ≤ moment a + 1
none_recorded p = omega (arith, ap length p.trace)

pub moment_once : {T E told : Type 0} {i : ℕ} {call : Call} {a b : State} {result : Result T E} → Called told i call a b result → told → moment b ≤ moment a + 1
moment_once {T} {E} {told} {i} {call} {a} {b} {result} called tells = by result (called.effect tells).ok (called.effect tells).err
  where
    by : (r : Result T E) → OnOk r (Done i call a b) → OnErr r (Interrupted i call a b ⊎ Unbegun i a b) → moment b ≤ moment a + 1
    by (Ok v) ok err = once_recorded ok.recorded
    by (Err e) ok err = ⊎_elim (λ cut. once_recorded cut.recorded) (λ none. none_recorded none.unrecorded) err
