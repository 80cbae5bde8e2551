-- What a byte separates in a text: the first piece, and the pieces behind it.
use Rattle.std.proofs.Common.{◌≡◌, ℕ, ◌+◌, ◌<◌, List, [], ◌∷◌, length, take, drop, Some, None, Err, ap, ◌∙◌, refl, arith}
use Rattle.std.specs.List.{slice_split, position}
use Rattle.std.proofs.lemmas.List.Splits.{slice_split_none, slice_split_at, length-slice_split}
use Rattle.std.proofs.lemmas.Bool.{eq-eqb}
use Rattle.nn_base.specs.Paths.{Bytes}
use Rattle.nn_base.proofs.MarkLemmas.{is_mark, split_at_mark, no_mark_before, no_mark}
use Rattle.nn_script.specs.declared.syntax.Syntax.TheVariants.{Words}
use Rattle.nn_script.specs.Arguments.{no_word}

pub cut_at : (mark : ℕ) (text : Bytes) (end : ℕ) → position (is_mark mark) text ≡ Some end → slice_split (is_mark mark) text ≡ take end text ∷ slice_split (is_mark mark) (drop (end + 1) text)
cut_at mark text end e =
    ap (slice_split (is_mark mark)) (split_at_mark mark text end e) ∙ slice_split_at (is_mark mark) (take end text) mark (drop (end + 1) text) (no_mark_before mark text end e) (eq-eqb mark mark refl)

pub cut_nowhere : (mark : ℕ) (text : Bytes) → position (is_mark mark) text ≡ None → slice_split (is_mark mark) text ≡ text ∷ []
cut_nowhere mark text e = slice_split_none (is_mark mark) text (no_mark mark text e)

not_none : (pieces : List Bytes) → 0 < length pieces → no_word pieces ≡ Err Words
not_none [] some = absurd (omega arith)
not_none (piece ∷ pieces) some = refl

-- a text has a piece, be it an empty one
pub some_piece : (mark : ℕ) (text : Bytes) → no_word (slice_split (is_mark mark) text) ≡ Err Words
some_piece mark text = not_none (slice_split (is_mark mark) text) (omega (arith, length-slice_split (is_mark mark) text))
