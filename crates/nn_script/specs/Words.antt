-- The words of a line, the mode that a word may write, and the bytes that a word with escapes stands for.
use Rattle.std.specs.Prelude.{ℕ, ◌+◌, ◌-◌, ◌*◌, Bool, ◌&&◌, ◌==◌, nat_le, List, [], ◌∷◌, ◌++◌, length, map, Option, Some, None, option_and_then, option_map, if◌then◌else◌}
use Rattle.std.specs.List.{slice_split, list_all}
use Rattle.std.specs.Char.{is_ascii_digit}
use Rattle.std.specs.Str.Parse.{digits_value}
use Rattle.nn_base.specs.Paths.{Bytes}
use Rattle.nn_base.specs.Limits.{most_mode}

-- what stands between the spaces
abbrev pub words : Bytes → List Bytes
words line = slice_split (λ byte. byte == 32) line

-- a space, or what ASCII prints
abbrev pub is_line_byte : ℕ → Bool
is_line_byte byte = nat_le 32 byte && nat_le byte 126

-- what a byte separates in the rest of a text, if there is a rest
abbrev pub pieces_behind : ℕ → Option Bytes → List Bytes
pieces_behind mark None = []
pieces_behind mark (Some rest) = slice_split (λ byte. byte == mark) rest

abbrev pub words_behind : Option Bytes → List Bytes
words_behind rest = pieces_behind 32 rest

-- ---- modes

abbrev pub is_octal_digit : ℕ → Bool
is_octal_digit byte = nat_le 48 byte && nat_le byte 55

-- 1 to 4 octal digits that write a mode
abbrev pub is_mode : Bytes → Bool
is_mode word = nat_le 1 (length word) && (nat_le (length word) 4 && (list_all is_octal_digit word && nat_le (digits_value 8 word) most_mode))

abbrev pub mode_in : Bytes → Option ℕ
mode_in word = if is_mode word then Some (digits_value 8 word) else None

-- ---- escapes: a `%` and two hex digits

-- the value of a hex digit, of which the letters are small ones
abbrev pub hex_value : ℕ → Option ℕ
hex_value digit =
    if is_ascii_digit digit then Some (digit - 48)
    else if nat_le 97 digit && nat_le digit 102 then Some (digit - 87)
    else None

-- the byte that two such digits write
abbrev pub byte_of : ℕ → ℕ → Option ℕ
byte_of high low = option_and_then (λ h. option_map (λ l. 16 * h + l) (hex_value low)) (hex_value high)

-- what stands behind a `%`, up to the next one: the two digits of a byte, and then bytes that stand for themselves
abbrev pub unescaped_part : Bytes → Option Bytes
unescaped_part [] = None
unescaped_part (digit ∷ []) = None
unescaped_part (high ∷ low ∷ rest) = option_map (λ byte. byte ∷ rest) (byte_of high low)

-- the parts of a list behind each other, if each is there
abbrev pub joined : List (Option Bytes) → Option Bytes
joined [] = Some []
joined (None ∷ parts) = None
joined (Some part ∷ parts) = option_map (λ rest. part ++ rest) (joined parts)

-- of the parts that the `%`s of a word separate, the first stands for itself
abbrev pub unescaped_parts : List Bytes → Option Bytes
unescaped_parts [] = Some []
unescaped_parts (part ∷ parts) = joined (Some part ∷ map unescaped_part parts)

-- the bytes that a word stands for, if each `%` has its two digits
unfoldable pub unescaped : Bytes → Option Bytes
unescaped word = unescaped_parts (slice_split (λ byte. byte == 37) word)
