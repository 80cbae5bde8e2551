-- Steps on files, taken one after the other, call by call.
use Rattle.std.proofs.Common.{◌≡◌, ◌≢◌, ◌⊎◌, inl, inr, ⊎_elim, ℕ, List, [], ◌∷◌, ◌++◌, Contains, Option, Some, None, true, is_some, if◌then◌else◌, Result, Ok, refl, sym, ◌∙◌, ap, subst, arith, append_assoc}
use Rattle.std.specs.List.{AllPairs}
use Rattle.std.proofs.lemmas.List.{append-nil}
use Rattle.std.proofs.lemmas.List.Elements.{All-contains, Contains-append_left, Contains-append_right, Contains-append_cases, Contains-push, Contains-push_cases}
use Rattle.nn_base.specs.declared.sub.Sub.TheVariants.{Current}
use Rattle.nn_base.specs.declared.file_name.FileName.{FileName}
use Rattle.nn_host.specs.Disk.{Held, Disk, Reads, File, LeavesFile, with_file, disk_after, reads_after}
use Rattle.nn_host.specs.Moments.{State, IsLawful, disk_at, faults_at}
use Rattle.nn_host.specs.Calls.{Called}
use Rattle.nn_host.specs.Runs.{OnlyAt}
use Rattle.nn_host.proofs.FilesLemmas.{there, beside, elsewhere}
use Rattle.nn_host.proofs.MakesLemmas.{Makes}
use Rattle.nn_host.proofs.WorkLemmas.{work_refl, work_more}
use Rattle.nn_tidy.specs.declared.steps.Step.{Step}
use Rattle.nn_tidy.specs.Steps.{call_by, call_of, IsApart, AreApart, AreThere, HasTaken, AreTaken, WereTaken}
use Rattle.nn_tidy.proofs.PairLemmas.{pairs_across}

-- ---- one step more

-- what a step makes of a directory in which its file is there
abbrev pub stepped : {A : Type 0} → FileName → Option FileName → Held A → Held A
stepped from None d = with_file d Current from None
stepped from (Some to) d = with_file (with_file d Current from None) Current to (d.file Current from)

rename_is : {A : Type 0} (d : Held A) (from to : FileName) → is_some (d.file Current from) ≡ true
    → (if is_some (d.file Current from) then with_file (with_file d Current from None) Current to (d.file Current from) else d) ≡ stepped from (Some to) d
rename_is d from to is = rw is

pub disk_stepped : (r : Reads) (d : Disk) (from : FileName) (to : Option FileName) → is_some (d.file Current from) ≡ true → disk_after (call_by from to) r d ≡ stepped from to d
disk_stepped r d from None is = refl
disk_stepped r d from (Some to) is = rename_is d from to is

pub reads_stepped : (r : Reads) (from : FileName) (to : Option FileName) → is_some (r.file Current from) ≡ true → reads_after (call_by from to) r ≡ stepped from to r
reads_stepped r from None is = refl
reads_stepped r from (Some to) is = rename_is r from to is

makes_after : (r : Reads) (d part : Disk) (from : FileName) (to : Option FileName) → Makes (call_by from to) r d part → part ≡ disk_after (call_by from to) r d
makes_after r d part from None made = made
makes_after r d part from (Some to) made = made

first_one : (s : Step) (taken : List Step) → Contains (s ∷ taken) s
first_one s taken = Contains-append_left (s ∷ []) taken s (Contains-push [] s)

one_of : (s : Step) (taken : List Step) (q : Step) → Contains (s ∷ taken) q → (s ≡ q) ⊎ Contains taken q
one_of s taken q has = ⊎_elim
    (λ here. ⊎_elim (λ none. absurd (omega (arith, none.1))) (λ same. inl same) (Contains-push_cases [] s q here))
    (λ behind. inr behind)
    (Contains-append_cases (s ∷ []) taken q has)

module _ {A : Type 0} where
  pub taken_none : (d : Held A) → HasTaken [] d d
  taken_none d = record { root = refl; subs = λ s. refl; other_subs = λ s n ne. refl; gone = λ s has. absurd (omega (arith, has.1)); renamed = λ s n has e. absurd (omega (arith, has.1)); kept = λ n out. refl }

  module _ (taken : List Step) (from : FileName) (old d : Held A) (is : HasTaken taken old d) where
    -- a file that goes
    removed : ((q : Step) → Contains taken q → IsApart (record { from = from; to = None }) q) → HasTaken (record { from = from; to = None } ∷ taken) old (stepped from None d)
    removed apart = record {
      root = is.root;
      subs = is.subs;
      other_subs = λ s n ne. ap (λ (f : FileName → Option A). f n) (elsewhere d Current from None s ne) ∙ is.other_subs s n ne;
      gone = λ q has. ⊎_elim
          (λ same. subst (λ (x : Step). (stepped from None d).file Current x.from ≡ None) same (there d Current from None))
          (λ later. beside d Current from q.from None (λ e. (apart q later).from (sym e)) ∙ is.gone q later)
          (one_of it taken q has);
      renamed = λ q n has e. ⊎_elim
          (λ same. absurd (none_is q (sym same) n e))
          (λ later. beside d Current from n None (λ x. (apart q later).back (e ∙ ap (λ (m : FileName). Some m) x)) ∙ is.renamed q n later e)
          (one_of it taken q has);
      kept = λ n out. beside d Current from n None (out it (first_one it taken)).0 ∙ is.kept n (λ q has. out q (Contains-append_right (it ∷ []) taken q has));
    }
      where
        it : Step
        it = record { from = from; to = None }

        none_is : (q : Step) → q ≡ it → (n : FileName) → q.to ≡ Some n → ⊥
        none_is q same n e = let f = sym (ap (λ (x : Step). x.to) same) ∙ e in cc

    -- a file that gets another name
    renamed : (to : FileName) → to ≢ from → ((q : Step) → Contains taken q → IsApart (record { from = from; to = Some to }) q) → HasTaken (record { from = from; to = Some to } ∷ taken) old (stepped from (Some to) d)
    renamed to own apart = record {
      root = is.root;
      subs = is.subs;
      other_subs = λ s n ne. ap (λ (f : FileName → Option A). f n) (elsewhere mid Current to (d.file Current from) s ne) ∙ ap (λ (f : FileName → Option A). f n) (elsewhere d Current from None s ne) ∙ is.other_subs s n ne;
      gone = λ q has. ⊎_elim
          (λ same. subst (λ (x : Step). (stepped from (Some to) d).file Current x.from ≡ None) same (beside mid Current to from (d.file Current from) (λ e. own (sym e)) ∙ there d Current from None))
          (λ later. beside mid Current to q.from (d.file Current from) (λ e. (apart q later).into (ap (λ (m : FileName). Some m) (sym e))) ∙ beside d Current from q.from None (λ e. (apart q later).from (sym e)) ∙ is.gone q later)
          (one_of it taken q has);
      renamed = λ q n has e. ⊎_elim
          (λ same. subst (λ (x : Step). x.to ≡ Some n → (stepped from (Some to) d).file Current n ≡ old.file Current x.from) same (λ f. here n f) e)
          (λ later. beside mid Current to n (d.file Current from) (λ x. (apart q later).names to refl (e ∙ ap (λ (m : FileName). Some m) x)) ∙ beside d Current from n None (λ x. (apart q later).back (e ∙ ap (λ (m : FileName). Some m) x)) ∙ is.renamed q n later e)
          (one_of it taken q has);
      kept = λ n out.
          let here = out it (first_one it taken) in
          beside mid Current to n (d.file Current from) (λ e. here.1 (ap (λ (m : FileName). Some m) (sym e))) ∙ beside d Current from n None here.0 ∙ is.kept n (λ q has. out q (Contains-append_right (it ∷ []) taken q has));
    }
      where
        it : Step
        it = record { from = from; to = Some to }

        mid : Held A
        mid = with_file d Current from None

        same_from : d.file Current from ≡ old.file Current from
        same_from = is.kept from (λ q has. ((apart q has).from, (apart q has).back))

        here : (n : FileName) → it.to ≡ Some n → (stepped from (Some to) d).file Current n ≡ old.file Current from
        here n e = let same : to ≡ n = cc in subst (λ (m : FileName). (stepped from (Some to) d).file Current m ≡ old.file Current from) same (there mid Current to (d.file Current from) ∙ same_from)

  pub taken_more : (taken : List Step) (s : Step) (old d : Held A) → HasTaken taken old d → s.to ≢ Some s.from → ((q : Step) → Contains taken q → IsApart s q) → HasTaken (s ∷ taken) old (stepped s.from s.to d)
  taken_more taken s old d is own apart = by s.to refl
    where
      by : (t : Option FileName) → s.to ≡ t → HasTaken (s ∷ taken) old (stepped s.from s.to d)
      by None e =
          let whole : record { from = s.from; to = None } ≡ s = (λ i. record { from = s.from; to = sym e i }) in
          subst (λ (x : Step). HasTaken (x ∷ taken) old (stepped x.from x.to d)) whole
          (removed taken s.from old d is (λ q has. subst (λ (x : Step). IsApart x q) (sym whole) (apart q has)))
      by (Some to) e =
          let whole : record { from = s.from; to = Some to } ≡ s = (λ i. record { from = s.from; to = sym e i }) in
          subst (λ (x : Step). HasTaken (x ∷ taken) old (stepped x.from x.to d)) whole
          (renamed taken s.from old d is to (λ f. own (e ∙ ap (λ (m : FileName). Some m) f)) (λ q has. subst (λ (x : Step). IsApart x q) (sym whole) (apart q has)))

-- ---- call by call

-- what reads stands on the disk
there_left : (f : Option File) (w : Option (List ℕ)) → LeavesFile f w → is_some w ≡ true → is_some f ≡ true
there_left None None left is = is
there_left None (Some bytes) left is = absurd left
there_left (Some f) w left is = refl

pub there_on_disk : (steps : List Step) (a : State) (i : ℕ) → IsLawful a → AreThere steps (a.reads i) → AreThere steps (disk_at a i)
there_on_disk steps a i lawful are s has = there_left ((disk_at a i).file Current s.from) ((a.reads i).file Current s.from) ((lawful.reads i).files Current s.from) (are s has)

-- so far the last of the steps were taken
pub record Taking (told : Type 0) (steps left : List Step) (i : ℕ) (start now : State) : Type 0 where
  pub taken : List Step
  pub split : steps ≡ left ++ taken
  pub run : OnlyAt told i start now (AreTaken steps (disk_at start i))
  pub disk : told → HasTaken taken (disk_at start i) (disk_at now i)
  pub reads : told → HasTaken taken (start.reads i) (now.reads i)
  pub counted : faults_at now i ≡ faults_at start i

pub taking_none : {told : Type 0} (steps : List Step) (i : ℕ) (a : State) → Taking told steps steps i a a
taking_none steps i a = record {
  taken = [];
  split = sym (append-nil steps);
  run = work_refl (λ tells. record { left = steps; taken = []; split = sym (append-nil steps); has = taken_none (disk_at a i) });
  disk = λ tells. taken_none (disk_at a i);
  reads = λ tells. taken_none (a.reads i);
  counted = refl;
}

module _ {told : Type 0} {steps left : List Step} {i : ℕ} {a b : State} (apart : told → AreApart steps) (are : told → AreThere steps (a.reads i)) (lawful : told → IsLawful a) (rest : List Step) (s : Step) (so_far : Taking told steps left i a b) (last : left ≡ rest ++ s ∷ []) where
  split_more : steps ≡ rest ++ s ∷ so_far.taken
  split_more = so_far.split ∙ ap (λ (l : List Step). l ++ so_far.taken) last ∙ append_assoc rest (s ∷ []) so_far.taken

  in_steps : Contains steps s
  in_steps = subst (λ (xs : List Step). Contains xs s) (sym split_more) (Contains-append_right rest (s ∷ so_far.taken) s (Contains-append_left (s ∷ []) so_far.taken s (Contains-push [] s)))

  own : told → s.to ≢ Some s.from
  own tells = All-contains (λ (x : Step). x.to ≢ Some x.from) steps s (apart tells).1 in_steps

  from_others : told → (q : Step) → Contains so_far.taken q → IsApart s q
  from_others tells q has = pairs_across IsApart left so_far.taken s q (subst (AllPairs IsApart) so_far.split (apart tells).0) (subst (λ (xs : List Step). Contains xs s) (sym last) (Contains-push rest s)) has

  -- its file is still there
  module _ {A : Type 0} (old d : Held A) (is : HasTaken so_far.taken old d) where
    still_there : told → AreThere steps old → is_some (d.file Current s.from) ≡ true
    still_there tells were = ap (λ (f : Option A). is_some f) (is.kept s.from (λ q has. ((from_others tells q has).from, (from_others tells q has).back))) ∙ were s in_steps

  after_disk : told → HasTaken (s ∷ so_far.taken) (disk_at a i) (disk_after (call_of s) (b.reads i) (disk_at b i))
  after_disk tells = subst (HasTaken (s ∷ so_far.taken) (disk_at a i))
      (sym (disk_stepped (b.reads i) (disk_at b i) s.from s.to (still_there (disk_at a i) (disk_at b i) (so_far.disk tells) tells (there_on_disk steps a i (lawful tells) (are tells)))))
      (taken_more so_far.taken s (disk_at a i) (disk_at b i) (so_far.disk tells) (own tells) (from_others tells))

  after_reads : told → HasTaken (s ∷ so_far.taken) (a.reads i) (reads_after (call_of s) (b.reads i))
  after_reads tells = subst (HasTaken (s ∷ so_far.taken) (a.reads i))
      (sym (reads_stepped (b.reads i) s.from s.to (still_there (a.reads i) (b.reads i) (so_far.reads tells) tells (are tells))))
      (taken_more so_far.taken s (a.reads i) (b.reads i) (so_far.reads tells) (own tells) (from_others tells))

  pub taking_run : {T E : Type 0} {c : State} {result : Result T E} → Called told i (call_of s) b c result → OnlyAt told i a c (AreTaken steps (disk_at a i))
  taking_run called = work_more so_far.run called (λ tells now part made. record {
    left = rest;
    taken = s ∷ so_far.taken;
    split = split_more;
    has = subst (HasTaken (s ∷ so_far.taken) (disk_at a i)) (sym (makes_after (b.reads i) (disk_at b i) part s.from s.to made)) (after_disk tells);
  })

  pub taking_more : {T E : Type 0} {v : T} {c : State} → Called {E = E} told i (call_of s) b c (Ok v) → Taking told steps rest i a c
  taking_more called = record {
    taken = s ∷ so_far.taken;
    split = split_more;
    run = taking_run called;
    disk = λ tells. subst (HasTaken (s ∷ so_far.taken) (disk_at a i)) (sym (called.effect tells).ok.disk) (after_disk tells);
    reads = λ tells. subst (HasTaken (s ∷ so_far.taken) (a.reads i)) (sym (called.effect tells).ok.reads) (after_reads tells);
    counted = called.counted.ok ∙ so_far.counted;
  }

pub taken_all : {told : Type 0} {steps left : List Step} {i : ℕ} {a b : State} → Taking told steps left i a b → left ≡ [] → told → WereTaken steps i a b
taken_all {told} {steps} {left} {i} {a} {b} so_far none tells = record {
  disk = subst (λ (xs : List Step). HasTaken xs (disk_at a i) (disk_at b i)) all (so_far.disk tells);
  reads = subst (λ (xs : List Step). HasTaken xs (a.reads i) (b.reads i)) all (so_far.reads tells);
}
  where
    all : so_far.taken ≡ steps
    all = sym (so_far.split ∙ ap (λ (l : List Step). l ++ so_far.taken) none)
