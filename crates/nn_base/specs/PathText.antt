-- The texts of paths: what stands between their slashes, and what can be wrong with them, in the order in which it is told.
use Rattle.std.specs.Prelude.{Bool, false, not, ◌==◌, [], ◌∷◌, length, drop, map, nat_lt, Option}
use Rattle.std.specs.List.{slice_split}
use Rattle.nn_base.specs.declared.path.fault.PathFault.{PathFault}
use Rattle.nn_base.specs.declared.path.fault.PathFault.TheVariants.{Empty, Relative, LongPath, BadName, LongName, Deep}
use Rattle.nn_base.specs.Limits.{most_path, most_levels}
use Rattle.nn_base.specs.First.{when, first_of}
use Rattle.nn_base.specs.Paths.{Bytes, Names, is_bad_name, is_long_name}

-- the parts that slashes separate; no bytes have no part
unfoldable pub parts : Bytes → Names
parts [] = []
parts (byte ∷ rest) = slice_split (λ b. b == 47) (byte ∷ rest)

-- the parts of a text, behind the slash that it begins with
abbrev pub parts_of : Bytes → Names
parts_of text = parts (drop 1 text)

abbrev pub is_absolute : Bytes → Bool
is_absolute [] = false
is_absolute (byte ∷ rest) = byte == 47

abbrev pub part_fault : Bytes → Option PathFault
part_fault part = first_of (when (is_bad_name part) BadName ∷ when (is_long_name part) LongName ∷ [])

-- the first fault of some parts, from left to right
abbrev pub fault_among : Names → Option PathFault
fault_among parts = first_of (map part_fault parts)

-- the first fault of a text
unfoldable pub fault_of : Bytes → Option PathFault
fault_of text = first_of (
    when (length text == 0) Empty
    ∷ when (not (is_absolute text)) Relative
    ∷ when (nat_lt most_path (length text)) LongPath
    ∷ fault_among (parts_of text)
    ∷ when (nat_lt most_levels (length (parts_of text))) Deep
    ∷ [])
