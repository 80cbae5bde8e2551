-- The better of two, as values of the code.
use Rattle.std.proofs.Common.{◌≡◌, ◌≢◌, inl, inr, ℕ, ◌+◌, ◌<◌, ◌≤◌, Bool, true, false, refl, sym, ◌∙◌, ap, subst, arith}
use Rattle.std.specs.Prelude.{◌==◌, ◌||◌}
use Rattle.std.proofs.lemmas.Bool.Decides.{eqb_tells}
use Rattle.nn_base.specs.DirSets.{has}
use Rattle.nn_marks.specs.declared.version.Version.{Version}
use Rattle.nn_tree.specs.Namespace.{Namespace}
use Rattle.nn_chain.specs.declared.why.ImageWhy.{ImageWhy}
use Rattle.nn_choose.specs.declared.best.Best.{Best}
use Rattle.nn_choose.specs.declared.best.Best.TheVariants.{Chain, NoImage}
use Rattle.nn_choose.specs.declared.best.Furthest.{Furthest}
use Rattle.nn_choose.specs.declared.served.Lead.{Lead}
use Rattle.nn_pick.specs.Dirs.{Dirs}
use Rattle.nn_choose.specs.Picking.{IsBest, IsBestChain, HaveNoImage, IsNextLoaded, IsOfOne, IsOfFirst}
use Rattle.nn_choose.proofs.BestLemmas.{best_stays, best_begins, best_lower, best_equal, best_after_none, no_image_stays, none_here, no_chain_here}

-- ---- sets of directories

pub alone_has : (set before : ℕ → Bool) (i : ℕ) → ((j : ℕ) → set j ≡ ((j == i) || before j)) → ((j : ℕ) → before j ≡ false) → (set i ≡ true) × ((j : ℕ) → set j ≡ true → j ≡ i)
alone_has set before i with_i none = (here, alone)
  where
    here : set i ≡ true
    here = elim (eqb_tells i i) [
      | inl same ↦ with_i i ∙ ap (λ (b : Bool). b || before i) same.0
      | inr differs ↦ absurd (differs.1 refl)
    ]

    alone : (j : ℕ) → set j ≡ true → j ≡ i
    alone j is = elim (eqb_tells j i) [
      | inl same ↦ same.1
      | inr differs ↦ let gone = sym is ∙ with_i j ∙ ap (λ (b : Bool). b || before j) differs.0 ∙ none j in cc
    ]

pub with_here : (set before : ℕ → Bool) (i : ℕ) → ((j : ℕ) → set j ≡ ((j == i) || before j)) → set i ≡ true
with_here set before i with_i = elim (eqb_tells i i) [
  | inl same ↦ with_i i ∙ ap (λ (b : Bool). b || before i) same.0
  | inr differs ↦ absurd (differs.1 refl)
]

pub with_others : (set before : ℕ → Bool) (i : ℕ) → ((j : ℕ) → set j ≡ ((j == i) || before j)) → (j : ℕ) → j ≢ i → set j ≡ before j
with_others set before i with_i j ne = elim (eqb_tells j i) [
  | inl same ↦ absurd (ne same.1)
  | inr differs ↦ with_i j ∙ ap (λ (b : Bool). b || before j) differs.0
]

-- ---- two chains

module _ {T : Type 0} (meaning : T → Namespace) (dirs : Dirs) (n : ℕ) where
  -- this one's, as a best chain
  abbrev pub IsBestOf : ℕ → Furthest T → Type 0
  IsBestOf m it = IsBestChain dirs m (meaning it.tree) it.last it.version (has it.dirs)

  under_its : (its : Furthest T) (version : Version) (m : ℕ) → its.version ≡ version → IsBestChain dirs m (meaning its.tree) its.last version (has its.dirs) → IsBestOf m its
  under_its its version m same best = subst (λ (v : Version). IsBestChain dirs m (meaning its.tree) its.last v (has its.dirs)) (sym same) best

  pub goes_further : (before its : Furthest T) → IsBestOf n before → IsNextLoaded meaning dirs n (Chain its) → IsOfOne n (Chain its) → before.last < its.last → IsBestOf (n + 1) its
  goes_further before its best next one further = under_its its next.0 (n + 1) next.3.1
      (best_begins dirs n next.0 next.1 next.2 (meaning its.tree) its.last next.3.0 (has its.dirs) one.0 one.1
      (λ j other theirs end lt ahead chain. let le = (best.all j other theirs end lt ahead chain).0 in omega (arith, le, further)))

  pub stays_back : (before its : Furthest T) → IsBestOf n before → IsNextLoaded meaning dirs n (Chain its) → its.last < before.last → IsBestOf (n + 1) before
  stays_back before its best next less = best_lower dirs n next.0 next.1 next.2 (meaning its.tree) its.last next.3.0 best less

  pub goes_as_far : (before its : Furthest T) (more : ℕ → Bool) → IsBestOf n before → IsNextLoaded meaning dirs n (Chain its) → before.last ≤ its.last → its.last ≤ before.last → ((j : ℕ) → more j ≡ ((j == n) || has before.dirs j))
      → IsBestChain dirs (n + 1) (meaning before.tree) before.last before.version more
  goes_as_far before its more best next le ge noted =
      best_equal dirs n next.0 next.1 next.2 (meaning its.tree) its.last next.3.0 more best (omega (arith, le, ge)) (with_here more (has before.dirs) n noted) (with_others more (has before.dirs) n noted)

  -- the same chain, with what it is of written out
  pub with_noted : (before more : Furthest T) → (more.tree ≡ before.tree) × (more.last ≡ before.last) × (more.version ≡ before.version) → IsBestChain dirs (n + 1) (meaning before.tree) before.last before.version (has more.dirs) → IsBestOf (n + 1) more
  with_noted before more same best =
      subst (λ (v : Version). IsBestChain dirs (n + 1) (meaning more.tree) more.last v (has more.dirs)) (sym same.2)
      (subst (λ (l : ℕ). IsBestChain dirs (n + 1) (meaning more.tree) l before.version (has more.dirs)) (sym same.1)
      (subst (λ (t : T). IsBestChain dirs (n + 1) (meaning t) before.last before.version (has more.dirs)) (sym same.0) best))

  pub goes_first : (lead : Lead) (why : ImageWhy) (its : Furthest T) → HaveNoImage dirs n lead why → IsNextLoaded meaning dirs n (Chain its) → IsOfOne n (Chain its) → IsBestOf (n + 1) its
  goes_first lead why its none next one = under_its its next.0 (n + 1) next.3.1 (best_after_none dirs n next.0 next.1 next.2 (meaning its.tree) its.last next.3.0 (has its.dirs) none one.0 one.1)

  -- the next has no image
  pub has_none : (lead : Lead) (best : Best T) (why : ImageWhy) → IsBest meaning dirs lead n best → IsNextLoaded meaning dirs n (NoImage why) → IsBest meaning dirs lead (n + 1) best
  has_none lead (Chain it) why best next = best_stays dirs n best (λ other theirs end ahead chain. absurd (no_chain_here dirs n next.0 next.1 next.2 why next.3 other theirs end ahead chain))
  has_none lead (NoImage first) why none next = no_image_stays dirs n none (none_here dirs n next.0 next.1 next.2 why next.3)

-- ---- which directories are noted

pub noted_more : {T : Type 0} (n : ℕ) (before : Furthest T) (more : ℕ → Bool) → IsOfFirst n (Chain before) → ((j : ℕ) → more j ≡ ((j == n) || has before.dirs j)) → (j : ℕ) → more j ≡ true → j < n + 1
noted_more n before more first noted j is = elim (eqb_tells j n) [
  | inl same ↦ omega (arith, same.1)
  | inr differs ↦ let lt = first j (sym (with_others more (has before.dirs) n noted j differs.1) ∙ is) in omega (arith, lt)
]
