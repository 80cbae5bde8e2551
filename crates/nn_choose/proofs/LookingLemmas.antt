-- Runs that only look, from call to call.
use Rattle.std.proofs.Common.{◌≡◌, ℕ, ◌<◌, true, false, Result, Ok, Err, refl, sym, ◌∙◌, subst}
use Rattle.std.specs.Prelude.{IsErrAnd, IfErr}
use Rattle.nn_host.specs.Moments.{State, disk_at}
use Rattle.nn_host.specs.Runs.{OnlyAt, Looked}
use Rattle.nn_host.proofs.RunsLemmas.{untouched_refl, untouched_trans, unspoken_refl, unspoken_trans, counts_refl, counts_trans, rose_last, rose_then, all_answered_looked}
use Rattle.nn_host.proofs.WorkLemmas.{unspoken_work}
use Rattle.nn_pick.specs.declared.fault.OpenFault.{OpenFault}
use Rattle.nn_pick.specs.declared.fault.OpenFault.TheVariants.{Refused, Failed, Memory}
use Rattle.nn_pick.specs.Dirs.{Dirs}
use Rattle.nn_choose.specs.Looking.{OnlyLooked, LookFailed, LookedUntil, LookedBy, dirs_read}

pub looked_refl : {told : Type 0} {a : State} → OnlyLooked told a a
looked_refl = record { untouched = untouched_refl; quiet = unspoken_refl; counts = counts_refl; reads = λ tells j. refl }

pub looked_trans : {told : Type 0} {a b c : State} → OnlyLooked told a b → OnlyLooked told b c → OnlyLooked told a c
looked_trans p q = record {
  untouched = untouched_trans p.untouched q.untouched;
  quiet = unspoken_trans p.quiet q.quiet;
  counts = counts_trans p.counts q.counts;
  reads = λ tells j. q.reads tells j ∙ p.reads tells j;
}

pub failed_then : {told : Type 0} {i : ℕ} {a b c : State} → OnlyLooked told a b → LookFailed told i b c → LookFailed told i a c
failed_then p q = record {
  untouched = untouched_trans p.untouched q.untouched;
  quiet = unspoken_trans p.quiet q.quiet;
  rose = rose_then p.counts p.untouched.count q.rose;
  reads = λ tells j apart. q.reads tells j apart ∙ p.reads tells j;
}

-- looks that were answered, and then some until a fault
pub looked_until : {told : Type 0} {a b : State} (c : State) (fault : OpenFault) → OnlyLooked told a b → LookedUntil told b c fault → LookedUntil told a c fault
looked_until c (Refused refusal) p q = looked_trans p q
looked_until c (Failed i) p q = failed_then p q
looked_until c Memory p q = looked_trans p q

-- a fault that is handed on

pub looked_on : {T : Type 0} (told : Type 0) (a b : State) (result : Result T OpenFault) (fault : OpenFault) → IsErrAnd result (λ e. e ≡ fault) → LookedUntil told a b fault → LookedBy told a b result
looked_on told a b (Ok value) fault is p = absurd is
looked_on told a b (Err e) fault is p = subst (λ (x : OpenFault). LookedUntil told a b x) (sym is) p

pub looked_fault : {T : Type 0} (told : Type 0) (a b c : State) (result : Result T OpenFault) (fault : OpenFault) → IsErrAnd result (λ e. e ≡ fault) → OnlyLooked told a b → LookedUntil told b c fault → LookedBy told a c result
looked_fault told a b c result fault is p q = looked_on told a c result fault is (looked_until c fault p q)

pub handed_on : {T : Type 0} (P : OpenFault → Type 0) (result : Result T OpenFault) (fault : OpenFault) → IsErrAnd result (λ e. e ≡ fault) → P fault → IfErr result P
handed_on P (Ok value) fault is p = absurd is
handed_on P (Err e) fault is p = subst P (sym is) p

-- ---- calls on one directory

pub answered_looks : {told : Type 0} {i : ℕ} {a b : State} → Looked told i a b true → OnlyAt told i a b (λ d. d ≡ disk_at a i) → OnlyLooked told a b
answered_looks p q =
    let all = all_answered_looked p in
    record { untouched = p.untouched; quiet = unspoken_work q; counts = record { faults = all.faults }; reads = all.reads }

pub failed_looks : {told : Type 0} {i : ℕ} {a b : State} → i < a.count → Looked told i a b false → OnlyAt told i a b (λ d. d ≡ disk_at a i) → LookFailed told i a b
failed_looks below p q = record {
  untouched = p.untouched;
  quiet = unspoken_work q;
  rose = rose_last counts_refl below p.frame p.counted;
  reads = λ tells j apart. p.frame.reads j apart;
}

-- ---- the directories stay the same

pub same_dirs : {told : Type 0} {a b : State} → OnlyLooked told a b → told → dirs_read b ≡ dirs_read a
same_dirs {told} {a} {b} p tells = λ k. record { count = p.untouched.count k; at = λ i. p.reads tells i k }

-- what holds of them before looks holds afterwards, and the other way round

pub moved : {told : Type 0} {a b : State} (P : Dirs → Type 0) → OnlyLooked told a b → told → P (dirs_read a) → P (dirs_read b)
moved P p tells x = subst P (sym (same_dirs p tells)) x

pub moved_back : {told : Type 0} {a b : State} (P : Dirs → Type 0) → OnlyLooked told a b → told → P (dirs_read b) → P (dirs_read a)
moved_back P p tells x = subst P (same_dirs p tells) x
