-- What can be wrong with a VERSION file, in the order in which it is told: the first is the answer.
use Rattle.std.specs.Prelude.{ℕ, ◌+◌, Bool, false, not, ◌&&◌, ◌||◌, ◌==◌, List, [], ◌∷◌, length, take, map, codes, nat_le, nat_lt, Option, Some, None, is_some, if◌then◌else◌}
use Rattle.std.specs.List.{list_any, list_all, enumerate_from}
use Rattle.std.specs.Option.{option_and_then, option_map}
use Rattle.std.specs.Str.{bytes_eq}
use Rattle.std.specs.Str.Lines.{lines}
use Rattle.std.specs.Str.Parse.{digits_value}
use Rattle.nn_base.specs.Limits.{most_version}
use Rattle.nn_base.specs.First.{when, first_of}
use Rattle.nn_base.specs.Decimal.{is_number}
use Rattle.nn_base.specs.Words.{is_word}
use Rattle.nn_marks.specs.declared.key.Key.{Key}
use Rattle.nn_marks.specs.declared.key.Key.TheVariants.{NamespaceId, ClusterId, CTime, StorageType, BlockpoolId, LayoutVersion}
use Rattle.nn_marks.specs.declared.fault.VersionFault.{VersionFault}
use Rattle.nn_marks.specs.declared.fault.VersionFault.TheVariants.{TooLong, NotText, BadLine, Twice, Missing, BadNumber, BadWord}
use Rattle.nn_marks.specs.Version.{Line, keys, value_of, key_in, is_skipped}

-- a tab, a newline, a carriage return, and what ASCII prints
abbrev pub is_text_byte : ℕ → Bool
is_text_byte byte = (byte == 9) || ((byte == 10) || ((byte == 13) || (nat_le 32 byte && nat_le byte 126)))

-- a line that says something and has no `=`
abbrev pub is_bad : Line → Bool
is_bad line = not (is_skipped line) && not (list_any (λ byte. byte == 61) line)

-- the key that a line gives, where one of the lines before it gave that too
abbrev pub twice_key : List Line → Line → Option Key
twice_key before line = option_and_then (λ key. if is_some (value_of key before) then Some key else None) (key_in line)

-- the fault of a line behind the lines before it
abbrev pub line_fault : List Line → Line → Option VersionFault
line_fault before line = if is_bad line then Some (BadLine (length before + 1)) else option_map Twice (twice_key before line)

-- 1 to 2147483647
abbrev pub is_positive : List ℕ → Bool
is_positive digits = is_number digits && (nat_le 1 (digits_value 10 digits) && nat_le (digits_value 10 digits) 2147483647)

-- what a value has to be
abbrev pub is_value : Key → List ℕ → Bool
is_value NamespaceId text = is_positive text
is_value ClusterId text = is_word text
is_value CTime text = is_number text
is_value StorageType text = bytes_eq text (codes "NAME_NODE")
is_value BlockpoolId text = is_word text
is_value LayoutVersion [] = false
is_value LayoutVersion (sign ∷ digits) = (sign == 45) && is_positive digits

-- what it is called where it isn't that
abbrev pub bad_value : Key → VersionFault
bad_value NamespaceId = BadNumber NamespaceId
bad_value ClusterId = BadWord ClusterId
bad_value CTime = BadNumber CTime
bad_value StorageType = BadWord StorageType
bad_value BlockpoolId = BadWord BlockpoolId
bad_value LayoutVersion = BadNumber LayoutVersion

abbrev pub value_fault : Key → Option (List ℕ) → Option VersionFault
value_fault key None = Some (Missing key)
value_fault key (Some text) = if is_value key text then None else Some (bad_value key)

-- the fault of a key among the lines
abbrev pub key_fault : List Line → Key → Option VersionFault
key_fault lines key = value_fault key (value_of key lines)

-- the faults of lines, each by the lines before it
abbrev pub line_faults : List Line → List (Option VersionFault)
line_faults lines = map (λ place. line_fault (take place.0 lines) place.1) (enumerate_from 0 lines)

-- the first fault of a file
unfoldable pub fault_of : List ℕ → Option VersionFault
fault_of bytes = first_of (
    when (nat_lt most_version (length bytes)) TooLong
    ∷ when (not (list_all is_text_byte bytes)) NotText
    ∷ first_of (line_faults (lines bytes))
    ∷ map (key_fault (lines bytes)) keys)
