-- Words of the command line, and directories that they name.
use Rattle.std.specs.Prelude.{◌==◌, ℕ, Bool, true, not, ◌&&◌, nat_le, List, [], ◌∷◌, length, map, String}
use Rattle.std.specs.List.{list_all, list_any}
use Rattle.std.specs.Str.{bytes_eq}
use Rattle.std.specs.String.{string_bytes}
use Rattle.nn_base.specs.Limits.{most_dirs}

-- a word is its bytes
abbrev pub Word : Type 0
Word = List ℕ

abbrev pub texts : {Z : Type 0} → List (String Z) → List Word
texts words = map string_bytes words

-- a word that is no option: it doesn't begin with `-`, or it is `-` alone
abbrev pub is_plain : Word → Bool
is_plain [] = true
is_plain (first ∷ []) = true
is_plain (first ∷ second ∷ later) = not (first == 45)

-- a value that is a word of its own doesn't begin with `-`
abbrev pub can_stand_apart : Word → Bool
can_stand_apart [] = true
can_stand_apart (first ∷ later) = not (first == 45)

abbrev pub is_among : List Word → Word → Bool
is_among words word = list_any (λ other. bytes_eq word other) words

abbrev pub are_distinct : List Word → Bool
are_distinct [] = true
are_distinct (word ∷ words) = not (is_among words word) && are_distinct words

-- a name has a byte at least
abbrev pub is_named : Word → Bool
is_named dir = nat_le 1 (length dir)

-- one to eight directories, none without a name, no two with the same
abbrev pub are_dirs : List Word → Bool
are_dirs dirs = nat_le 1 (length dirs) && (nat_le (length dirs) most_dirs && (list_all is_named dirs && are_distinct dirs))
