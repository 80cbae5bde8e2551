-- Which directories a journal is over, and what it keeps of its buffer.
use Rattle.std.proofs.Common.{◌≡◌, inl, inr, ℕ, ◌<◌, ◌==◌, ◌||◌, ◌+◌, ◌≤◌, nat_lt, true, Result, Ok, Err, IfOk, vec_len, vec_capacity, sym, ◌∙◌, ap, subst, le-ltb, arith}
use Rattle.std.proofs.lemmas.Bool.{cases_lt}
use Rattle.std.proofs.lemmas.Bool.Decides.{eqb_tells}
use Rattle.nn_base.specs.DirSets.{Members, has}
use Rattle.nn_journal.specs.Places.{Place, IsFit, place_of, most_buffer, full_segment}
use Rattle.nn_journal.specs.declared.journal.JournalSet.{JournalSet}

first_below : (set : Members) (count : ℕ) → ((j : ℕ) → has set j ≡ nat_lt j count) → (j : ℕ) → has set j ≡ true → j < count
first_below set count is j there = elim (cases_lt j count) [
  | inl below ↦ below
  | inr above ↦ absurd (let apart = sym there ∙ is j ∙ le-ltb j count above in cc)
]

-- the same set is below the same number
pub below_kept : (old new : Members) (n : ℕ) → new ≡ old → ((j : ℕ) → has old j ≡ true → j < n) → (j : ℕ) → has new j ≡ true → j < n
below_kept old new n same below j there = below j (ap (λ (s : Members). has s j) (sym same) ∙ there)

-- one more that is below it
pub below_with : (old new : Members) (i n : ℕ) → ((j : ℕ) → has new j ≡ ((j == i) || has old j)) → i < n → ((j : ℕ) → has old j ≡ true → j < n) → (j : ℕ) → has new j ≡ true → j < n
below_with old new i n is low below j there = elim (eqb_tells j i) [
  | inl same ↦ omega (arith, same.1, low)
  | inr other ↦ below j (sym (is j ∙ ap (λ b. b || has old j) other.0) ∙ there)
]

-- a journal over the first directories
pub over_first : {E : Type 0} (result : Result JournalSet E) (live : Members) (holders : Members) (count n : ℕ) → IfOk result (λ journal. (journal.live ≡ live) × (journal.holders ≡ holders)) → ((j : ℕ) → has live j ≡ nat_lt j count) → count ≡ n
    → IfOk result (λ journal. (j : ℕ) → has journal.live j ≡ true → j < n)
over_first (Ok journal) live holders count n sets is same = below_kept live journal.live n sets.0 (subst (λ (m : ℕ). (j : ℕ) → has live j ≡ true → j < m) same (first_below live count is))
over_first (Err e) live holders count n sets is same = tt

-- one that keeps the same in mind, with the same buffer
pub fit_same : (old new : JournalSet) → place_of new ≡ place_of old → new.buffer ≡ old.buffer → IsFit old → IsFit new
fit_same old new place buffer fit = (
  subst (λ b. most_buffer ≤ vec_capacity b) (sym buffer) fit.0,
  subst (λ b. vec_len b ≤ most_buffer) (sym buffer) fit.1,
  subst (λ (p : Place). p.first ≤ p.last + 1) (sym place) fit.2,
  subst (λ (p : Place). p.going ≡ true → p.first ≤ p.last) (sym place) fit.3,
  subst (λ (p : Place). p.size ≤ full_segment) (sym place) fit.4,
)
