-- A directory that was made, and is taken back: one more is live.
use Rattle.std.proofs.Common.{◌≡◌, ◌≢◌, inl, inr, ℕ, zero, suc, ◌+◌, ◌≤◌, ◌==◌, ◌||◌, ◌&&◌, not, true, false, Bool, List, [], ◌∷◌, length, Ok, refl, sym, ◌∙◌, ap, subst, arith}
use Rattle.std.specs.Prelude.{get_or}
use Rattle.std.proofs.lemmas.Bool.Decides.{eqb_tells}
use Rattle.nn_base.specs.DirSets.{Members, has, values, count_true, count_of}
use Rattle.nn_host.specs.Moments.{State, disk_at, faults_at}
use Rattle.nn_host.specs.Runs.{OnlyAt}
use Rattle.nn_marks.specs.declared.version.Version.{Version}
use Rattle.nn_tree.specs.Namespace.{Namespace}
use Rattle.nn_journal.specs.declared.journal.JournalSet.{JournalSet}
use Rattle.nn_journal.specs.Places.{place_of}
use Rattle.nn_remake.specs.Made.{FreshOrMade, IsMade}
use Rattle.nn_restore.specs.Making.{MakesIn}

-- ---- how many

no_more_true : (xs ys : List Bool) → length xs ≡ length ys → ((j : ℕ) → get_or ys j false ≡ true → get_or xs j false ≡ true) → count_true ys ≤ count_true xs
no_more_true [] [] size sub = omega arith
no_more_true [] (y ∷ ys) size sub = absurd (omega (arith, size))
no_more_true (x ∷ xs) [] size sub = omega arith
no_more_true (true ∷ xs) (true ∷ ys) size sub = omega (arith, no_more_true xs ys (omega (arith, size)) (λ j. sub (suc j)))
no_more_true (true ∷ xs) (false ∷ ys) size sub = omega (arith, no_more_true xs ys (omega (arith, size)) (λ j. sub (suc j)))
no_more_true (false ∷ xs) (true ∷ ys) size sub = absurd (let apart = sub 0 refl in cc)
no_more_true (false ∷ xs) (false ∷ ys) size sub = no_more_true xs ys (omega (arith, size)) (λ j. sub (suc j))

-- at most one more, where it is more in one place only
one_more_true : (xs ys : List Bool) (i : ℕ) → length xs ≡ length ys → ((j : ℕ) → j ≢ i → get_or ys j false ≡ true → get_or xs j false ≡ true) → count_true ys ≤ count_true xs + 1
one_more_true [] [] i size sub = omega arith
one_more_true [] (y ∷ ys) i size sub = absurd (omega (arith, size))
one_more_true (x ∷ xs) [] i size sub = omega arith
one_more_true (true ∷ xs) (true ∷ ys) zero size sub = omega (arith, no_more_true xs ys (omega (arith, size)) (λ j. sub (suc j) (λ e. cc)))
one_more_true (true ∷ xs) (false ∷ ys) zero size sub = omega (arith, no_more_true xs ys (omega (arith, size)) (λ j. sub (suc j) (λ e. cc)))
one_more_true (false ∷ xs) (true ∷ ys) zero size sub = omega (arith, no_more_true xs ys (omega (arith, size)) (λ j. sub (suc j) (λ e. cc)))
one_more_true (false ∷ xs) (false ∷ ys) zero size sub = omega (arith, no_more_true xs ys (omega (arith, size)) (λ j. sub (suc j) (λ e. cc)))
one_more_true (true ∷ xs) (true ∷ ys) (suc i) size sub = omega (arith, one_more_true xs ys i (omega (arith, size)) (λ j ne. sub (suc j) (λ e. let same : suc j ≡ suc i = e in ne (omega (arith, same)))))
one_more_true (true ∷ xs) (false ∷ ys) (suc i) size sub = omega (arith, one_more_true xs ys i (omega (arith, size)) (λ j ne. sub (suc j) (λ e. let same : suc j ≡ suc i = e in ne (omega (arith, same)))))
one_more_true (false ∷ xs) (true ∷ ys) (suc i) size sub = absurd (let apart = sub 0 (λ e. let same : 0 ≡ suc i = e in omega (arith, same)) refl in cc)
one_more_true (false ∷ xs) (false ∷ ys) (suc i) size sub = one_more_true xs ys i (omega (arith, size)) (λ j ne. sub (suc j) (λ e. let same : suc j ≡ suc i = e in ne (omega (arith, same))))

pub one_more : (a b : Members) (i : ℕ) → ((j : ℕ) → j ≢ i → has b j ≡ has a j) → count_of b ≤ count_of a + 1
one_more a b i same = one_more_true (values a) (values b) i refl (λ j ne there. sym (same j ne) ∙ there)

-- ---- it was made

module _ (i : ℕ) (journal after : JournalSet) (live : (j : ℕ) → has after.live j ≡ ((j == i) || has journal.live j)) (holders : (j : ℕ) → has after.holders j ≡ (not (j == i) && has journal.holders j)) where
  live_other : (j : ℕ) → j ≢ i → has after.live j ≡ has journal.live j
  live_other j ne = live j ∙ elim (eqb_tells j i) [ inl is ↦ absurd (ne is.1) | inr differs ↦ ap (λ (x : Bool). x || has journal.live j) differs.0 ]

  holders_other : (j : ℕ) → j ≢ i → has after.holders j ≡ has journal.holders j
  holders_other j ne = holders j ∙ elim (eqb_tells j i) [ inl is ↦ absurd (ne is.1) | inr differs ↦ ap (λ (x : Bool). not x && has journal.holders j) differs.0 ]

  live_own : has after.live i ≡ true
  live_own = live i ∙ elim (eqb_tells i i) [ inl is ↦ ap (λ (x : Bool). x || has journal.live i) is.0 | inr differs ↦ absurd (differs.1 refl) ]

  holders_own : has after.holders i ≡ false
  holders_own = holders i ∙ elim (eqb_tells i i) [ inl is ↦ ap (λ (x : Bool). not x && has journal.holders i) is.0 | inr differs ↦ absurd (differs.1 refl) ]

  pub makes_back : {E told : Type 0} {version : Version} {ns : Namespace} (id : ℕ) {a b : State} → id ≡ journal.last → OnlyAt told i a b (FreshOrMade version id ns) → (told → IsMade version id ns (disk_at b i)) → faults_at b i ≡ faults_at a i → (place_of after ≡ place_of journal) × (after.buffer ≡ journal.buffer)
      → MakesIn {E = E} told version ns i journal after a b (Ok tt)
  makes_back {E} {told} {version} {ns} id {a} {b} at work made whole kept = record {
    any_moment = subst (λ (n : ℕ). OnlyAt told i a b (FreshOrMade version n ns)) at work;
    others = live_other;
    holders = holders_other;
    no_holder = (λ there. holders_own, λ gone. absurd (let apart = sym gone ∙ live_own in cc));
    place = kept.0;
    buffer = kept.1;
    count = one_more journal.live after.live i live_other;
    made = λ tells there. subst (λ (n : ℕ). IsMade version n ns (disk_at b i)) at (made tells);
    whole = λ there. whole;
    failed = λ gone. absurd (let apart = sym gone ∙ live_own in cc);
    memory = tt;
  }
