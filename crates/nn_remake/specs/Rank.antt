-- What becomes of a folder's chain while an image is put into it.
use Rattle.std.specs.Prelude.{◌⊎◌, ℕ, List}
use Rattle.nn_base.specs.declared.sub.Sub.TheVariants.{Current}
use Rattle.nn_host.specs.Disk.{Disk, Reads, Leaves}
use Rattle.nn_host.specs.Moments.{State}
use Rattle.nn_marks.specs.declared.version.Version.{Version}
use Rattle.nn_tree.specs.Namespace.{Namespace}
use Rattle.nn_record.specs.declared.transaction.Record.{Record}
use Rattle.nn_chain.specs.Folder.{Folder, folder_at}
use Rattle.nn_chain.specs.Images.{HasIntact, IsIntact, IsNewest}
use Rattle.nn_chain.specs.Chain.{Reached, Leads, IsEnd, IsChain}
use Rattle.nn_chain.specs.Fair.{IsFair}
use Rattle.nn_remake.specs.Publishing.{BesideImage}

-- the chain goes through this place, and on to its end
pub record IsChainThrough (folder : Folder) (version : Version) (at end : Reached) : Type 0 where
  pub image : ℕ
  pub newest : IsNewest folder version image
  pub base : Namespace
  pub intact : IsIntact folder version image base
  pub before : List Record
  pub leads : Leads folder version.layout (record { last = image; ns = base }) before at
  pub behind : List Record
  pub goes_on : Leads folder version.layout at behind end
  pub ends : IsEnd folder version.layout end

abbrev pub HasNone : Folder → Version → Type 0
HasNone folder version = (image : ℕ) → ¬ HasIntact folder version image

-- The rank stays. A chain through this place keeps its end. Where no record goes on from this place, a chain keeps its end or ends here, and a folder without a chain stays so or gets one that ends here.
pub record KeepsRank (version : Version) (at : Reached) (old new : Folder) : Type 0 where
  pub through : (end : Reached) → IsChainThrough old version at end → IsChain new version end
  pub last : IsEnd old version.layout at → (end : Reached) → IsChain old version end → IsChain new version end ⊎ IsChain new version at
  pub none : IsEnd old version.layout at → HasNone old version → HasNone new version ⊎ IsChain new version at

-- What a stop leaves of a disk keeps the rank of something that one could leave of the old disk, and is the same but for the image's files.
pub record LeftRanked (version : Version) (at : Reached) (old d : Disk) (c : Reads) : Type 0 where
  pub before : Reads
  pub left : Leaves old before
  pub fair : IsFair d c → IsFair old before
  pub beside : BesideImage at.last before c
  pub keeps : KeepsRank version at (folder_at before Current) (folder_at c Current)

pub record IsRanked (version : Version) (at : Reached) (old d : Disk) : Type 0 where
  pub left : (c : Reads) → Leaves d c → LeftRanked version at old d c

-- the rank stays, as the folder reads before and after
abbrev pub ReadsRanked : Version → Reached → ℕ → State → State → Type 0
ReadsRanked version at i old new = KeepsRank version at (folder_at (old.reads i) Current) (folder_at (new.reads i) Current)
