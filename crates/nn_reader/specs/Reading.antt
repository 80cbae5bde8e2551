-- How the bytes of a script become lines.
use Rattle.std.specs.Prelude.{◌≡◌, ◌==◌, ◌+◌, ℕ, Bool, true, false, [], ◌∷◌, take}
use Rattle.std.specs.List.{All}
use Rattle.nn_base.specs.Limits.{most_line}
use Rattle.nn_base.specs.Paths.{Bytes}
use Rattle.nn_reader.specs.declared.reader.Next.{Next}
use Rattle.nn_reader.specs.declared.reader.Next.TheVariants.{Last, End, TooLong}

-- bytes without a newline
abbrev pub IsUnended : Bytes → Type 0
IsUnended bytes = All (λ byte. (byte == 10) ≡ false) bytes

-- how many bytes are kept of a line: a longer one is too long even without a carriage return at its end
abbrev pub most_kept : ℕ
most_kept = most_line + 2

-- what is kept of a line
abbrev pub front_of : Bytes → Bytes
front_of line = take most_kept line

-- what is behind the last newline, if that is anything
abbrev pub kept_of : Bytes → Next
kept_of [] = End
kept_of (byte ∷ bytes) = Last

-- behind the most bytes that lines may have one byte was taken, which is too many, or there is nothing
abbrev pub IsBehind : Type 0 → Bool → Bytes → Bytes → Type 0
IsBehind told true left_before left_after = (byte : ℕ) × (told → left_before ≡ byte ∷ left_after)
IsBehind told false left_before left_after = (told → left_before ≡ []) × (told → left_after ≡ [])

-- where all the bytes that lines may have are read, by whether one more is there
abbrev pub past_of : Bool → Bytes → Next
past_of true line = TooLong
past_of false line = kept_of line
