-- Which directories a journal is over.
use Rattle.std.proofs.Common.{◌≡◌, inl, inr, ℕ, ◌<◌, nat_lt, true, Result, Ok, Err, IfOk, sym, ◌∙◌, ap, subst, le-ltb}
use Rattle.std.proofs.lemmas.Bool.{cases_lt}
use Rattle.nn_base.specs.DirSets.{Members, has}
use Rattle.nn_journal.specs.declared.journal.JournalSet.{JournalSet}

first_below : (set : Members) (count : ℕ) → ((j : ℕ) → has set j ≡ nat_lt j count) → (j : ℕ) → has set j ≡ true → j < count
first_below set count is j there = elim (cases_lt j count) [
  | inl below ↦ below
  | inr above ↦ absurd (let apart = sym there ∙ is j ∙ le-ltb j count above in cc)
]

-- the same set is below the same number
pub below_kept : (old new : Members) (n : ℕ) → new ≡ old → ((j : ℕ) → has old j ≡ true → j < n) → (j : ℕ) → has new j ≡ true → j < n
below_kept old new n same below j there = below j (ap (λ (s : Members). has s j) (sym same) ∙ there)

-- a journal over the first directories
pub over_first : {E : Type 0} (result : Result JournalSet E) (live : Members) (holders : Members) (count n : ℕ) → IfOk result (λ journal. (journal.live ≡ live) × (journal.holders ≡ holders)) → ((j : ℕ) → has live j ≡ nat_lt j count) → count ≡ n
    → IfOk result (λ journal. (j : ℕ) → has journal.live j ≡ true → j < n)
over_first (Ok journal) live holders count n sets is same = below_kept live journal.live n sets.0 (subst (λ (m : ℕ). (j : ℕ) → has live j ≡ true → j < m) same (first_below live count is))
over_first (Err e) live holders count n sets is same = tt
