-- Which keys a list of lines gave, as a flag for each key.
use Rattle.std.specs.Prelude.{◌≡◌, ℕ, Bool, false, List, slice_index_or, is_some}
use Rattle.nn_marks.specs.declared.key.Key.{Key}
use Rattle.nn_marks.specs.declared.key.Key.TheVariants.{NamespaceId, ClusterId, CTime, StorageType, BlockpoolId, LayoutVersion}
use Rattle.nn_marks.specs.Version.{Line, value_of}

abbrev pub place_of : Key → ℕ
place_of NamespaceId = 0
place_of ClusterId = 1
place_of CTime = 2
place_of StorageType = 3
place_of BlockpoolId = 4
place_of LayoutVersion = 5

abbrev pub Marks : List Bool → List Line → Type 0
Marks flags lines = (key : Key) → slice_index_or flags (place_of key) false ≡ is_some (value_of key lines)
