-- What the words behind a command are, read from left to right, and which of them make a line.
use Rattle.std.specs.Prelude.{◌==◌, Bool, true, false, not, ◌&&◌, List, [], ◌∷◌, ◌++◌, map, codes, Option, Some, None, if◌then◌else◌}
use Rattle.std.specs.List.{flat_map, list_all}
use Rattle.std.specs.Str.{bytes_eq}
use Rattle.nn_top.specs.Words.{Word, is_plain, can_stand_apart, is_among}

pub data Part : Type 0 where
  -- an option with its value
  Given : Word → Word → Part
  -- a directory
  Dir : Word → Part
  -- the first `--`
  Mark : Part
  -- any other word
  Stray : Part

-- ---- from words to parts

-- what stands in a word behind this front, if the word begins with it
abbrev pub behind : Word → Word → Option Word
behind [] word = Some word
behind (byte ∷ front) [] = None
behind (byte ∷ front) (first ∷ word) = if first == byte then behind front word else None

abbrev pub given_or : Word → Option Word → Part → Part
given_or name (Some value) other = Given name value
given_or name None other = other

-- a word that is an option of one of these names, `=` and its value
abbrev pub joined_in : List Word → Word → Part
joined_in [] word = Stray
joined_in (name ∷ names) word = given_or name (behind (name ++ codes "=") word) (joined_in names word)

-- a word by itself, where options have these names
abbrev pub part_of : List Word → Word → Part
part_of names word = if is_plain word then Dir word else if bytes_eq word (codes "--") then Mark else joined_in names word

-- behind the first `--` each word is a directory; the name of an option takes the next word as its value
abbrev pub parts_of : List Word → List Word → List Part
parts_of names [] = []
parts_of names (word ∷ []) = part_of names word ∷ []
parts_of names (word ∷ next ∷ words) =
    if is_plain word then Dir word ∷ parts_of names (next ∷ words)
    else if bytes_eq word (codes "--") then Mark ∷ map Dir (next ∷ words)
    else if is_among names word && can_stand_apart next then Given word next ∷ parts_of names words
    else joined_in names word ∷ parts_of names (next ∷ words)

-- ---- from parts to a line

abbrev pub is_dir : Part → Bool
is_dir (Dir dir) = true
is_dir (Given name value) = false
is_dir Mark = false
is_dir Stray = false

abbrev pub is_known : Part → Bool
is_known (Given name value) = true
is_known (Dir dir) = true
is_known Mark = true
is_known Stray = false

abbrev pub no_dirs : List Part → Bool
no_dirs parts = list_all (λ part. not (is_dir part)) parts

-- what follows a directory: more of them, and none behind anything else
abbrev pub follow : List Part → Bool
follow [] = true
follow (Dir dir ∷ parts) = follow parts
follow (Given name value ∷ parts) = no_dirs parts
follow (Mark ∷ parts) = no_dirs parts
follow (Stray ∷ parts) = no_dirs parts

-- no option and no `--` stands between two directories
abbrev pub stand_together : List Part → Bool
stand_together [] = true
stand_together (Dir dir ∷ parts) = follow parts
stand_together (Given name value ∷ parts) = stand_together parts
stand_together (Mark ∷ parts) = stand_together parts
stand_together (Stray ∷ parts) = stand_together parts

abbrev pub is_line : List Part → Bool
is_line parts = list_all is_known parts && stand_together parts

abbrev pub dir_in : Part → List Word
dir_in (Dir dir) = dir ∷ []
dir_in (Given name value) = []
dir_in Mark = []
dir_in Stray = []

abbrev pub dirs_among : List Part → List Word
dirs_among parts = flat_map dir_in parts

abbrev pub value_in : Word → Part → List Word
value_in option (Given name value) = if bytes_eq name option then value ∷ [] else []
value_in option (Dir dir) = []
value_in option Mark = []
value_in option Stray = []

-- each value that an option is given, in order
abbrev pub values_of : Word → List Part → List Word
values_of option parts = flat_map (value_in option) parts
