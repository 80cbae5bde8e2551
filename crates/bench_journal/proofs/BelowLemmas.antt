-- Which directories a journal over the first ones has.
use Rattle.std.specs.Prelude.{IfOk}
use Rattle.std.proofs.Common.{◌≡◌, ◌<◌, ℕ, true, nat_lt, ap, ◌∙◌, sym, Result, Ok, Err}
use Rattle.std.proofs.lemmas.Bool.{ltb-true}
use Rattle.nn_base.specs.DirSets.{Members, has}
use Rattle.nn_journal.specs.declared.journal.JournalSet.{JournalSet}

pub below_first : {live set : Members} {count : ℕ} → live ≡ set → ((j : ℕ) → has set j ≡ nat_lt j count) → (j : ℕ) → has live j ≡ true → j < count
below_first {count = count} same first j is = ltb-true j count (sym (ap (λ (s : Members). has s j) same ∙ first j) ∙ is)

pub below_still : {old new : Members} {count : ℕ} → new ≡ old → ((j : ℕ) → has old j ≡ true → j < count) → (j : ℕ) → has new j ≡ true → j < count
below_still same below j is = below j (sym (ap (λ (s : Members). has s j) same) ∙ is)

pub all_below : {E : Type 0} (result : Result JournalSet E) (set holding : Members) (count : ℕ) → IfOk result (λ journal. (journal.live ≡ set) × (journal.holders ≡ holding)) → ((j : ℕ) → has set j ≡ nat_lt j count)
    → IfOk result (λ journal. (j : ℕ) → has journal.live j ≡ true → j < count)
all_below (Ok journal) set holding count sets first = below_first sets.0 first
all_below (Err e) set holding count sets first = record {}
