-- The names of a subfolder's files with their texts, as they are put in order.
use Rattle.std.specs.Prelude.{◌≡◌, ◌⊎◌, ℕ, true, List, [], ◌∷◌, Contains, AllPairs, is_some}
use Rattle.std.specs.Global.{Vec}
use Rattle.std.specs.BTreeMap.{BTreeMap, IsOrdered, insert_entry}
use Rattle.std.specs.List.{AllByRecursion}
use Rattle.std.specs.Ordering.{nat_cmp}
use Rattle.std.specs.declared.cmp.Ordering.{Ordering}
use Rattle.std.specs.Cmp.Lexicographic.{slice_cmp}
use Rattle.nn_base.specs.declared.sub.Sub.{Sub}
use Rattle.nn_base.specs.declared.file_name.FileName.{FileName}
use Rattle.nn_base.specs.FileText.{text_of, IsInRange}
use Rattle.nn_host.specs.Listing.{IsBefore}
use Rattle.nn_memhost.specs.Kept.{Placed, find_in}

abbrev pub text_cmp : Vec ℕ → Vec ℕ → Ordering
text_cmp a b = slice_cmp nat_cmp a.items b.items

-- the text beside the name is its text, and the file is there
pub record IsSpelled (files : List Placed) (s : Sub) (e : Vec ℕ × FileName) : Type 0 where
  pub text : text_of e.1 ≡ e.0.items
  pub range : IsInRange e.1
  pub there : is_some (find_in files s e.1) ≡ true

abbrev pub AreSpelled : List Placed → Sub → List (Vec ℕ × FileName) → Type 0
AreSpelled files s es = AllByRecursion (IsSpelled files s) es

-- the name is among these
abbrev pub Among : List (Vec ℕ × FileName) → FileName → Type 0
Among [] n = ⊥
Among (e ∷ es) n = (e.1 ≡ n) ⊎ Among es n

-- each file's name is
pub record AllThere (files : List Placed) (s : Sub) (es : List (Vec ℕ × FileName)) : Type 0 where
  pub all : (n : FileName) → is_some (find_in files s n) ≡ true → Among es n

-- these are just the names of the subfolder's files, in the order of their texts
pub record AreListed (files : List Placed) (s : Sub) (names : List FileName) : Type 0 where
  pub all : (n : FileName) → is_some (find_in files s n) ≡ true → Contains names n
  pub only : (n : FileName) → Contains names n → is_some (find_in files s n) ≡ true
  pub ascending : AllPairs IsBefore names

-- this name is among the others by its text, which no other name has
pub record IsAdded (name : FileName) (old new : BTreeMap (Vec ℕ) FileName) : Type 0 where
  pub text : Vec ℕ
  pub spells : text_of name ≡ text.items
  pub range : IsInRange name
  pub alone : (other : FileName) → IsInRange other → text_of other ≡ text.items → other ≡ name
  pub entries : new.entries ≡ insert_entry text_cmp old.entries text name
  pub ordered : IsOrdered text_cmp new
