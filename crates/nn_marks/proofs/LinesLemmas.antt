-- The first line of a text, and the lines behind it.
use Rattle.std.proofs.Common.{◌≡◌, ℕ, ◌+◌, ◌<◌, Bool, true, false, ◌==◌, List, [], ◌∷◌, ◌++◌, length, take, drop, Some, None, ap, ◌∙◌, refl, arith}
use Rattle.std.specs.List.{All, slice_split, position}
use Rattle.std.specs.Str.Lines.{lines, lines_of_parts, strip_carriage_return}
use Rattle.std.proofs.lemmas.List.Splits.{slice_split_none, slice_split_at, length-slice_split}
use Rattle.std.proofs.lemmas.Bool.Decides.{nat_tests}
use Rattle.nn_base.proofs.MarkLemmas.{is_mark, split_at_mark, no_mark_before, no_mark}

abbrev pub is_newline : ℕ → Bool
is_newline = is_mark 10

-- a part before a newline is a line, whatever stands behind it
lines_more : (part : List ℕ) (parts : List (List ℕ)) → 0 < length parts → lines_of_parts (part ∷ parts) ≡ strip_carriage_return part ∷ lines_of_parts parts
lines_more part [] some = absurd (omega arith)
lines_more part (x ∷ more) some = refl

pub lines-append : (line rest : List ℕ) → All (λ byte. is_newline byte ≡ false) line → lines (line ++ 10 ∷ rest) ≡ strip_carriage_return line ∷ lines rest
lines-append line rest none =
    ap lines_of_parts (slice_split_at is_newline line 10 rest none refl)
    ∙ lines_more line (slice_split is_newline rest) (omega (arith, length-slice_split is_newline rest))

pub lines_at_newline : (text : List ℕ) (end : ℕ) → position is_newline text ≡ Some end → lines text ≡ strip_carriage_return (take end text) ∷ lines (drop (end + 1) text)
lines_at_newline text end e = ap lines (split_at_mark 10 text end e) ∙ lines-append (take end text) (drop (end + 1) text) (no_mark_before 10 text end e)

one_part : (text : List ℕ) → 0 < length text → lines_of_parts (text ∷ []) ≡ text ∷ []
one_part [] some = absurd (omega arith)
one_part (byte ∷ text) some = grind (arith, nat_tests)

pub lines_without_newline : (text : List ℕ) → 0 < length text → position is_newline text ≡ None → lines text ≡ text ∷ []
lines_without_newline text some e = ap lines_of_parts (slice_split_none is_newline text (no_mark 10 text e)) ∙ one_part text some

pub no_lines : (text : List ℕ) → true ≡ (length text == 0) → lines text ≡ []
no_lines [] e = refl
no_lines (byte ∷ text) e = absurd (grind (arith, nat_tests))
