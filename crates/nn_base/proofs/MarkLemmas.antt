-- The first place of a mark in a text, as of a newline.
use Rattle.std.proofs.Common.{◌≡◌, ℕ, ◌+◌, ◌<◌, Bool, false, ◌==◌, refl, ◌∷◌, ◌++◌, length, take, drop, get_or, Some, None, sym, ap, ◌∙◌, arith, not, lt-ltb, inl, inr}
use Rattle.std.specs.List.{All, position, position_or_len}
use Rattle.std.proofs.lemmas.List.{take-append-drop, drop_more, get_or-take, length-take-le, get_or_default}
use Rattle.std.proofs.lemmas.List.Quantifiers.{position-Some}
use Rattle.std.proofs.lemmas.List.Sums.{prefix_len_passes}
use Rattle.std.proofs.lemmas.Option.{none-some}
use Rattle.std.proofs.lemmas.Bool.{cases_lt, eqb-true, not-true}
use Rattle.nn_base.specs.Paths.{Bytes}

abbrev pub is_mark : ℕ → ℕ → Bool
is_mark mark byte = byte == mark

-- the text is what stands before it, the mark, and what stands behind it
pub split_at_mark : (mark : ℕ) (text : Bytes) (end : ℕ) → position (is_mark mark) text ≡ Some end → text ≡ take end text ++ mark ∷ drop (end + 1) text
split_at_mark mark text end e =
    let first = position-Some (is_mark mark) text end 0 e in
    let here : get_or text end 0 ≡ mark = eqb-true (get_or text end 0) mark first.1 in
    sym (take-append-drop end text) ∙ ap (λ back. take end text ++ back) (drop_more text end 0 first.0 ∙ ap (λ byte. byte ∷ drop (end + 1) text) here)

pub mark_within : (mark : ℕ) (text : Bytes) (end : ℕ) → position (is_mark mark) text ≡ Some end → end < length text
mark_within mark text end e = (position-Some (is_mark mark) text end 0 e).0

-- before it there is none
pub no_mark_before : (mark : ℕ) (text : Bytes) (end : ℕ) → position (is_mark mark) text ≡ Some end → All (λ byte. is_mark mark byte ≡ false) (take end text)
no_mark_before mark text end e = λ k d h.
    let first = position-Some (is_mark mark) text end 0 e in
    let below : k < end = omega (arith, length-take-le end text (omega (arith, first.0))) in
    ap (is_mark mark) (get_or-take end text k d below ∙ get_or_default text k d 0 (omega (arith, first.0))) ∙ first.2 k below

position_within : (p : ℕ → Bool) (text : Bytes) → position_or_len p text < length text → Some (position_or_len p text) ≡ position p text
position_within p text below = rw (lt-ltb _ _ below) refl

-- where none is found, there is none
pub no_mark : (mark : ℕ) (text : Bytes) → position (is_mark mark) text ≡ None → All (λ byte. is_mark mark byte ≡ false) text
no_mark mark text e = λ k d h. elim (cases_lt (position_or_len (is_mark mark) text) (length text)) [
  | inl below ↦ absurd (none-some _ (sym e ∙ sym (position_within (is_mark mark) text below)))
  | inr past ↦ not-true (is_mark mark (get_or text k d)) (prefix_len_passes (λ x. not (is_mark mark x)) text k d (omega arith))
]
