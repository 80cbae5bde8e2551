-- How the words of a line begin, and how they end.
use Rattle.std.specs.Prelude.{◌≡◌, ◌⊎◌, Bool, true, false, List, [], ◌∷◌, ◌++◌, codes, IsTrue}
use Rattle.nn_top.specs.Words.{Word, can_stand_apart}
use Rattle.nn_top.specs.Parts.{Part, Given, Dir, Mark, Stray}

-- the words begin with this option and its value
abbrev pub BeginWith : List Word → Word → Word → List Word → Type 0
BeginWith words option value rest = (words ≡ (option ++ codes "=" ++ value) ∷ rest) ⊎ ((words ≡ option ∷ value ∷ rest) × IsTrue (can_stand_apart value))

-- nothing is left, or a last `--`
abbrev pub IsEnd : List Word → Type 0
IsEnd words = (words ≡ []) ⊎ (words ≡ codes "--" ∷ [])

abbrev pub is_given : Part → Bool
is_given (Given name value) = true
is_given (Dir dir) = false
is_given Mark = false
is_given Stray = false

abbrev pub begins : (Part → Bool) → List Part → Bool
begins test [] = false
begins test (part ∷ parts) = test part
