-- An empty word of a line: a space behind another one, at the begin or at the end.
use Rattle.std.proofs.Common.{◌≡◌, ◌==◌, ℕ, Bool, true, false, cond, List, [], ◌∷◌, length, ◌||◌, ◌&&◌, refl, sym, ap, ◌∙◌}
use Rattle.std.specs.List.{list_any, onto_first}
use Rattle.std.proofs.Math.Dec.{eqb-suc-zero}
use Rattle.nn_base.specs.Paths.{Bytes}
use Rattle.nn_script.specs.Words.{words}

-- whether a word begins where the text does
abbrev pub has_gap : Bool → Bytes → Bool
has_gap fresh [] = fresh
has_gap fresh (byte ∷ rest) = (byte == 32 && fresh) || has_gap (byte == 32) rest

abbrev is_empty : Bytes → Bool
is_empty word = length word == 0

abbrev behind : List Bytes → List Bytes
behind [] = []
behind (word ∷ words) = words

-- behind a byte of a word the first piece ends that word
grown : (x : ℕ) (pieces : List Bytes) → list_any is_empty (onto_first x pieces) ≡ list_any is_empty (behind pieces)
grown x [] = refl
grown x (piece ∷ pieces) = ap (λ b. b || list_any is_empty pieces) (eqb-suc-zero (length piece))

behind_first : (x : ℕ) (pieces : List Bytes) → list_any is_empty (behind (onto_first x pieces)) ≡ list_any is_empty (behind pieces)
behind_first x [] = refl
behind_first x (piece ∷ pieces) = refl

record Gaps (line : Bytes) : Type 0 where
  within : has_gap false line ≡ list_any is_empty (behind (words line))
  fresh : has_gap true line ≡ list_any is_empty (words line)

gaps : (line : Bytes) → Gaps line
gaps [] = record { within = refl; fresh = refl }
gaps (x ∷ xs) = let rest = gaps xs in record {
  within = elim (x == 32) as (λ b. ((b && false) || has_gap b xs) ≡ list_any is_empty (behind (cond b ([] ∷ words xs) (onto_first x (words xs))))) [
    | true ↦ rest.fresh
    | false ↦ rest.within ∙ sym (behind_first x (words xs))
  ];
  fresh = elim (x == 32) as (λ b. ((b && true) || has_gap b xs) ≡ list_any is_empty (cond b ([] ∷ words xs) (onto_first x (words xs)))) [
    | true ↦ refl
    | false ↦ rest.within ∙ sym (grown x (words xs))
  ];
}

pub gap_is : (line : Bytes) → list_any (λ word. length word == 0) (words line) ≡ has_gap true line
gap_is line = let g = gaps line in sym g.fresh
