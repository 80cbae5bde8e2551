-- The spelling of a number is the one text that the grammar gives it.
use Rattle.std.proofs.Common.{◌≡◌, ◌≢◌, ℕ, zero, suc, ◌+◌, ◌-◌, ◌*◌, ◌/◌, ◌%◌, ◌^◌, ◌<◌, ◌≤◌, List, [], ◌∷◌, ◌++◌, sym, ap, subst, ◌∙◌, inl, inr, arith}
use Rattle.std.specs.Prelude.{◌↔◌}
use Rattle.std.proofs.lemmas.Bool.{cases_lt}
use Rattle.nn_wire.specs.Varint.{worth, IsLinked, IsVarint, spelled_within, varint}
use Rattle.nn_wire.proofs.SpellingLemmas.{room, spelled_last, spelled_more, spelled_joined}

-- ---- what is spelled is in the grammar

linked_more : (b : ℕ) (t : List ℕ) → 128 ≤ b → b < 256 → IsLinked t → IsLinked (b ∷ t)
linked_more b [] more byte linked = absurd linked
linked_more b (c ∷ bs) more byte linked = (more, byte, linked)

spelled_linked : (k n : ℕ) → n < room (suc k) → IsLinked (spelled_within (suc k) n)
unfolding room
spelled_linked zero n fits = let low : n < 128 = omega arith in subst IsLinked (sym (spelled_last zero n low)) low
spelled_linked (suc k) n fits = elim (cases_lt n 128) [
  | inl low ↦ subst IsLinked (sym (spelled_last (suc k) n low)) low
  | inr high ↦ subst IsLinked (sym (spelled_more (suc k) n high)) (linked_more (n % 128 + 128) _ (omega arith) (omega arith) (spelled_linked k (n / 128) (omega arith)))
]

spelled_worth : (k n : ℕ) → n < room (suc k) → worth (spelled_within (suc k) n) ≡ n
unfolding room
spelled_worth zero n fits = ap worth (spelled_last zero n (omega arith)) ∙ omega arith
spelled_worth (suc k) n fits = elim (cases_lt n 128) [
  | inl low ↦ ap worth (spelled_last (suc k) n low) ∙ omega arith
  | inr high ↦ ap worth (spelled_more (suc k) n high) ∙ omega (arith, spelled_worth k (n / 128) (omega arith))
]

no_end : (middle : List ℕ) (c : ℕ) → [] ≢ middle ++ c ∷ []
no_end [] c e = absurd cc
no_end (m ∷ ms) c e = absurd cc

one_end : (b : ℕ) (middle : List ℕ) → 0 < b → b ∷ [] ≢ middle ++ 0 ∷ []
one_end b [] some e = let z : b ≡ 0 = cc in absurd (omega arith)
one_end b (m ∷ ms) some e = no_end ms 0 cc

more_end : (b : ℕ) (t middle : List ℕ) → 0 < b → ((ms : List ℕ) → t ≢ ms ++ 0 ∷ []) → b ∷ t ≢ middle ++ 0 ∷ []
more_end b t [] some above e = let z : b ≡ 0 = cc in absurd (omega arith)
more_end b t (m ∷ ms) some above e = above ms cc

-- the last byte of a number above 0 isn't 0
spelled_end : (k n : ℕ) → 0 < n → n < room (suc k) → (middle : List ℕ) → spelled_within (suc k) n ≢ middle ++ 0 ∷ []
unfolding room
spelled_end zero n some fits middle e = one_end n middle some (sym (spelled_last zero n (omega arith)) ∙ e)
spelled_end (suc k) n some fits middle e = elim (cases_lt n 128) [
  | inl low ↦ one_end n middle some (sym (spelled_last (suc k) n low) ∙ e)
  | inr high ↦ more_end (n % 128 + 128) _ middle (omega arith) (spelled_end k (n / 128) (omega arith) (omega arith)) (sym (spelled_more (suc k) n high) ∙ e)
]

spelled_needs_all : (k n : ℕ) → n < room (suc k) → (first : ℕ) (middle : List ℕ) → spelled_within (suc k) n ≢ first ∷ (middle ++ 0 ∷ [])
unfolding room
spelled_needs_all zero n fits first middle e = no_end middle 0 (let f : n ∷ [] ≡ first ∷ (middle ++ 0 ∷ []) = sym (spelled_last zero n (omega arith)) ∙ e in cc)
spelled_needs_all (suc k) n fits first middle e = elim (cases_lt n 128) [
  | inl low ↦ no_end middle 0 (let f : n ∷ [] ≡ first ∷ (middle ++ 0 ∷ []) = sym (spelled_last (suc k) n low) ∙ e in cc)
  | inr high ↦
      let f : (n % 128 + 128) ∷ spelled_within (suc k) (n / 128) ≡ first ∷ (middle ++ 0 ∷ []) = sym (spelled_more (suc k) n high) ∙ e in
      spelled_end k (n / 128) (omega arith) (omega arith) middle cc
]

-- ---- what is in the grammar is spelled so

worth_pos : (t : List ℕ) → IsLinked t → ((middle : List ℕ) → t ≢ middle ++ 0 ∷ []) → 0 < worth t
worth_pos [] linked ends = absurd linked
worth_pos (c ∷ []) linked ends =
    let apart : c ≢ 0 = λ e. ends [] (ap (λ x. x ∷ []) e) in
    omega arith
worth_pos (c ∷ d ∷ ds) linked ends = omega (arith, worth_pos (d ∷ ds) linked.2 (λ middle e. ends (c ∷ middle) (ap (λ t. c ∷ t) e)))

grammar_spelled : (k : ℕ) (bytes : List ℕ) → IsLinked bytes → ((first : ℕ) (middle : List ℕ) → bytes ≢ first ∷ (middle ++ 0 ∷ [])) → worth bytes < room (suc k) → bytes ≡ spelled_within (suc k) (worth bytes)
unfolding room
grammar_spelled k [] linked ends fits = absurd linked
grammar_spelled k (b ∷ []) linked ends fits =
    let is : b % 128 + 128 * 0 ≡ b = omega arith in
    sym (ap (spelled_within (suc k)) is ∙ spelled_last k b linked)
grammar_spelled zero (b ∷ c ∷ bs) linked ends fits = absurd (omega (arith, worth_pos (c ∷ bs) linked.2 (λ middle e. ends b middle (ap (λ t. b ∷ t) e))))
grammar_spelled (suc k) (b ∷ c ∷ bs) linked ends fits =
    let t = c ∷ bs in
    let some : 0 < worth t = worth_pos t linked.2 (λ middle e. ends b middle (ap (λ t. b ∷ t) e)) in
    let is : b % 128 + 128 * worth t ≡ b - 128 + 128 * worth t = omega (arith, linked.0, linked.1) in
    let above : t ≡ spelled_within (suc k) (worth t) = grammar_spelled k t linked.2 (λ first middle e. ends b (first ∷ middle) (ap (λ t. b ∷ t) e)) (omega arith) in
    ap (λ t. b ∷ t) above ∙ sym (ap (spelled_within (suc (suc k))) is ∙ spelled_joined (suc k) b (worth t) linked.0 linked.1 some)

pub one_spelling : (bytes : List ℕ) (n : ℕ) → n < 2 ^ 64 → IsVarint bytes n ↔ (bytes ≡ varint n)
unfolding varint room
one_spelling bytes n small = (
  (λ v. grammar_spelled 9 bytes v.linked v.no_needless_end (omega (arith, v.worth_is)) ∙ ap (spelled_within 10) v.worth_is),
  (λ e. record {
    linked = subst IsLinked (sym e) (spelled_linked 9 n small);
    no_needless_end = λ first middle f. spelled_needs_all 9 n small first middle (sym e ∙ f);
    worth_is = ap worth e ∙ spelled_worth 9 n small;
    small = small;
  }),
)
