-- Runs that end with the first call that fails, from call to call.
use Rattle.std.proofs.Common.{◌≡◌, ⊎_elim, inl, inr, ℕ, Result, Ok, refl, ◌∙◌, sym, ap, arith}
use Rattle.nn_host.specs.Disk.{Call}
use Rattle.nn_host.specs.Moments.{Dir, Moment, State, faults_at}
use Rattle.nn_host.specs.Calls.{Called}
use Rattle.nn_host.proofs.MomentsLemmas.{since_called, moment_called}
use Rattle.nn_host.proofs.RunsLemmas.{throughout_trans, throughout_weaker}
use Rattle.nn_small.specs.Failure.{EndsByFailure}

-- one call
pub failed_once : {T E told : Type 0} {i : ℕ} {call : Call} {a b : State} {result : Result T E} → Called told i call a b result → EndsByFailure told i a b
failed_once {i = i} {call = call} {a = a} {b = b} {result = result} called = record {
  count = called.frame.count;
  later = λ tells. moment_called i call a b result (called.effect tells);
  ends = λ tells rose. refl;
  each = λ tells t m le since. ⊎_elim
      (λ earlier. inl earlier)
      (λ here. inr (⊎_elim
      (λ stopped rose. absurd (omega (arith, rose, stopped.2)))
      (λ now rose. ap (λ (x : Moment). x.dirs i) now)
      here))
      (since_called i call a b result (called.effect tells) t m le since);
}

-- a run in which none failed, and another
pub failed_then : {told : Type 0} {i : ℕ} {a b c : State} → faults_at b i ≡ faults_at a i → EndsByFailure told i a b → EndsByFailure told i b c → EndsByFailure told i a c
failed_then same p q = throughout_trans
    (throughout_weaker p (λ tells m at rose. absurd (omega (arith, rose, same, ap (λ (d : Dir). d.faults) (at rose)))))
    (throughout_weaker q (λ tells m at rose. at (omega (arith, rose, same))))

-- a call that was answered, and a run
pub answered_then : {T E told : Type 0} {i : ℕ} {call : Call} {a b c : State} {v : T} → Called {E = E} told i call a b (Ok v) → EndsByFailure told i b c → EndsByFailure told i a c
answered_then called then = failed_then called.counted.ok (failed_once called) then
