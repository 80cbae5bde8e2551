-- Files that are removed one after the other, call by call.
use Rattle.std.proofs.Common.{◌≡◌, ◌≢◌, inl, inr, ⊎_elim, ℕ, List, [], ◌∷◌, ◌++◌, Contains, Option, None, Result, Ok, refl, sym, ◌∙◌, ap, subst, arith, append_assoc}
use Rattle.std.proofs.lemmas.List.{append-nil}
use Rattle.std.proofs.lemmas.List.Elements.{Contains-append_left, Contains-append_right, Contains-append_cases, Contains-push, Contains-push_cases}
use Rattle.nn_base.specs.declared.sub.Sub.TheVariants.{Current}
use Rattle.nn_base.specs.declared.file_name.FileName.{FileName}
use Rattle.nn_base.proofs.NamesLemmas.{file_tells}
use Rattle.nn_host.specs.Disk.{Held, RemoveFile, with_file}
use Rattle.nn_host.specs.Moments.{State, disk_at, faults_at}
use Rattle.nn_host.specs.Calls.{Called}
use Rattle.nn_host.specs.Runs.{OnlyAt}
use Rattle.nn_host.proofs.FilesLemmas.{there, beside, elsewhere}
use Rattle.nn_host.proofs.RunsLemmas.{throughout_refl}
use Rattle.nn_host.proofs.WorkLemmas.{work_refl, work_more}
use Rattle.nn_small.specs.Failure.{EndsByFailure}
use Rattle.nn_small.proofs.FailureLemmas.{failed_once, failed_then}
use Rattle.nn_remake.specs.Removing.{IsWithout, IsCutBack, WasWithout}

module _ {A : Type 0} where
  pub without_none : (d : Held A) → IsWithout [] d d
  without_none d = record { root = refl; subs = λ s. refl; other_subs = λ s n ne. refl; removed = λ n has. absurd (omega (arith, has.1)); kept = λ n out. refl }

  -- one file more
  pub without_more : (gone : List FileName) (name : FileName) (old d : Held A) → IsWithout gone old d → IsWithout (name ∷ gone) old (with_file d Current name None)
  without_more gone name old d is = record {
    root = is.root;
    subs = is.subs;
    other_subs = λ s n ne. ap (λ (f : FileName → Option A). f n) (elsewhere d Current name None s ne) ∙ is.other_subs s n ne;
    removed = λ n has. elim (file_tells n name) [
      | inl same ↦ subst (λ (m : FileName). (with_file d Current name None).file Current m ≡ None) (sym same.1) (there d Current name None)
      | inr other ↦ beside d Current name n None other.1 ∙ is.removed n (later n other.1 has)
    ];
    kept = λ n out. beside d Current name n None (λ same. out (front n same)) ∙ is.kept n (λ has. out (Contains-append_right (name ∷ []) gone n has));
  }
    where
      later : (n : FileName) → n ≢ name → Contains (name ∷ gone) n → Contains gone n
      later n ne has = ⊎_elim
          (λ here. ⊎_elim (λ none. absurd (omega (arith, none.1))) (λ same. absurd (ne (sym same))) (Contains-push_cases [] name n here))
          (λ behind. behind)
          (Contains-append_cases (name ∷ []) gone n has)

      front : (n : FileName) → n ≡ name → Contains (name ∷ gone) n
      front n same = subst (λ (m : FileName). Contains (name ∷ gone) m) (sym same) (Contains-append_left (name ∷ []) gone name (Contains-push [] name))

-- nothing was called yet
pub failed_none : {told : Type 0} {i : ℕ} {a : State} → EndsByFailure told i a a
failed_none = throughout_refl (λ tells rose. refl)

-- so far the last of the names are gone
pub record Removing (told : Type 0) (names left : List FileName) (i : ℕ) (start now : State) : Type 0 where
  pub gone : List FileName
  pub split : names ≡ left ++ gone
  pub run : OnlyAt told i start now (IsCutBack names (disk_at start i))
  pub disk : told → IsWithout gone (disk_at start i) (disk_at now i)
  pub reads : told → IsWithout gone (start.reads i) (now.reads i)
  pub still : EndsByFailure told i start now
  pub counted : faults_at now i ≡ faults_at start i

pub removing_none : {told : Type 0} (names : List FileName) (i : ℕ) (a : State) → Removing told names names i a a
removing_none names i a = record {
  gone = [];
  split = sym (append-nil names);
  run = work_refl (λ tells. record { left = names; gone = []; split = sym (append-nil names); without = without_none (disk_at a i) });
  disk = λ tells. without_none (disk_at a i);
  reads = λ tells. without_none (a.reads i);
  still = failed_none;
  counted = refl;
}

module _ {told : Type 0} {names left : List FileName} {i : ℕ} {a b : State} (rest : List FileName) (name : FileName) (so_far : Removing told names left i a b) (last : left ≡ rest ++ name ∷ []) where
  split_more : names ≡ rest ++ name ∷ so_far.gone
  split_more = so_far.split ∙ ap (λ (l : List FileName). l ++ so_far.gone) last ∙ append_assoc rest (name ∷ []) so_far.gone

  pub removing_run : {T E : Type 0} {c : State} {result : Result T E} → Called told i (RemoveFile Current name) b c result → OnlyAt told i a c (IsCutBack names (disk_at a i))
  removing_run called = work_more so_far.run called (λ tells now part made. record {
    left = rest;
    gone = name ∷ so_far.gone;
    split = split_more;
    without = subst (IsWithout (name ∷ so_far.gone) (disk_at a i)) (sym made) (without_more so_far.gone name (disk_at a i) (disk_at b i) (so_far.disk tells));
  })

  pub removing_still : {T E : Type 0} {c : State} {result : Result T E} → Called told i (RemoveFile Current name) b c result → EndsByFailure told i a c
  removing_still called = failed_then so_far.counted so_far.still (failed_once called)

  pub removing_more : {T E : Type 0} {v : T} {c : State} → Called {E = E} told i (RemoveFile Current name) b c (Ok v) → Removing told names rest i a c
  removing_more called = record {
    gone = name ∷ so_far.gone;
    split = split_more;
    run = removing_run called;
    disk = λ tells. subst (IsWithout (name ∷ so_far.gone) (disk_at a i)) (sym (called.effect tells).ok.disk) (without_more so_far.gone name (disk_at a i) (disk_at b i) (so_far.disk tells));
    reads = λ tells. subst (IsWithout (name ∷ so_far.gone) (a.reads i)) (sym (called.effect tells).ok.reads) (without_more so_far.gone name (a.reads i) (b.reads i) (so_far.reads tells));
    still = removing_still called;
    counted = called.counted.ok ∙ so_far.counted;
  }

pub removed_all : {told : Type 0} {names left : List FileName} {i : ℕ} {a b : State} → Removing told names left i a b → left ≡ [] → told → WasWithout names i a b
removed_all {told} {names} {left} {i} {a} {b} so_far none tells = record {
  disk = subst (λ (gone : List FileName). IsWithout gone (disk_at a i) (disk_at b i)) all (so_far.disk tells);
  reads = subst (λ (gone : List FileName). IsWithout gone (a.reads i) (b.reads i)) all (so_far.reads tells);
}
  where
    all : so_far.gone ≡ names
    all = sym (so_far.split ∙ ap (λ (l : List FileName). l ++ so_far.gone) none)
