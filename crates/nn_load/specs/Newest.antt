-- The images of a listing, from the last one down.
use Rattle.std.specs.Prelude.{◌≡◌, ◌+◌, ◌<◌, ◌≤◌, ◌^◌, ℕ, List, length}
use Rattle.nn_base.specs.declared.file_name.FileName.{FileName}
use Rattle.nn_base.specs.declared.file_name.FileName.TheVariants.{Image}
use Rattle.nn_marks.specs.declared.version.Version.{Version}
use Rattle.nn_tree.specs.Namespace.{Namespace}
use Rattle.nn_chain.specs.Folder.{Folder}
use Rattle.nn_chain.specs.Images.{HasIntact, IsIntact, IsNewest, IsLastUnsound}
use Rattle.nn_chain.specs.declared.image.ReadImage.{ReadImage}
use Rattle.nn_chain.specs.declared.image.ReadImage.TheVariants.{Failed, Unsound, Memory}
use Rattle.nn_load.specs.Queue.{StandsAt}

-- between the two places there is no image
abbrev pub HasNoImages : List FileName → ℕ → ℕ → Type 0
HasNoImages names from to = (j id : ℕ) → from ≤ j → j < to → ¬ StandsAt names j (Image id)

-- the last image before a place of the listing
pub record IsLastBefore (names : List FileName) (end k id : ℕ) : Type 0 where
  pub below : k < end
  pub ranged : id < 2 ^ 63
  pub stands : StandsAt names k (Image id)
  pub behind : HasNoImages names (k + 1) end

-- from this place on no image is intact
abbrev pub NoneIntactFrom : Folder → Version → List FileName → ℕ → Type 0
NoneIntactFrom folder version names from = (j id : ℕ) → from ≤ j → StandsAt names j (Image id) → ¬ HasIntact folder version id

-- the newest intact image, of this namespace
pub record IsNewestOf (folder : Folder) (version : Version) (id : ℕ) (ns : Namespace) : Type 0 where
  pub intact : IsIntact folder version id ns
  pub newest : IsNewest folder version id

-- It wasn't read, or it isn't intact: none from its place on is, and where it is the last of all, this is wrong with it.
abbrev pub IsPassedOver : Folder → Version → List FileName → ℕ → ℕ → ReadImage → Type 0
IsPassedOver folder version names end k Failed = Unit {0}
IsPassedOver folder version names end k (Unsound why) = NoneIntactFrom folder version names k × (end ≡ length names → IsLastUnsound folder version why)
IsPassedOver folder version names end k Memory = Unit {0}
