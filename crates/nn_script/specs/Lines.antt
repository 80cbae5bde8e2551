-- The lines of a script, and which of them have no answer.
use Rattle.std.specs.Prelude.{◌-◌, Bool, true, ◌==◌, List, [], ◌∷◌, length, take, map}
use Rattle.std.specs.List.{slice_split}
use Rattle.std.specs.Str.Lines.{lines, strip_carriage_return}
use Rattle.nn_base.specs.Paths.{Bytes}

-- what stands before each newline, less one carriage return right before it; and what stands behind the last newline, if that is anything
abbrev pub lines_of : Bytes → List Bytes
lines_of script = lines script

-- the parts but for the last
abbrev pub all_but_last : List Bytes → List Bytes
all_but_last parts = take (length parts - 1) parts

-- those of a script that is cut off: what stands before each newline
abbrev pub ended_lines : Bytes → List Bytes
ended_lines bytes = map strip_carriage_return (all_but_last (slice_split (λ byte. byte == 10) bytes))

-- an empty line, or one that begins with a `#`, whatever its length and its other bytes
abbrev pub has_no_answer : Bytes → Bool
has_no_answer [] = true
has_no_answer (byte ∷ rest) = byte == 35
