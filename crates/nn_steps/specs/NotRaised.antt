-- That a directory's rank isn't raised.
use Rattle.std.specs.Prelude.{◌≡◌, ◌⊎◌, Bool, ℕ, ◌<◌}
use Rattle.nn_base.specs.declared.sub.Sub.TheVariants.{Current}
use Rattle.nn_base.specs.declared.file_name.FileName.TheVariants as name
use Rattle.nn_host.specs.Disk.{Disk, Reads, Leaves}
use Rattle.nn_marks.specs.declared.version.Version.{Version}
use Rattle.nn_tree.specs.Namespace.{Namespace}
use Rattle.nn_chain.specs.Folder.{Folder, folder_at}
use Rattle.nn_chain.specs.Chain.{Reached, IsChain}
use Rattle.nn_chain.specs.Fair.{IsFair}
use Rattle.nn_remake.specs.Topping.{IsToppingUp, IsBroughtTo}

-- whatever bounds the ends of the chains of the one folder bounds those of the other
abbrev pub IsNotRaised : Version → Folder → Folder → Type 0
IsNotRaised version old new = (bound : ℕ) → ((was : Reached) → IsChain old version was → was.last < bound) → (end : Reached) → IsChain new version end → end.last < bound

-- What a stop leaves of a disk has the VERSION of something that one could leave of the old disk, and ranks no higher; or it is brought to this namespace, as of this id.
pub record LeftNotRaised (version : Version) (id : ℕ) (ns : Namespace) (old d : Disk) (c : Reads) : Type 0 where
  pub before : Reads
  pub left : Leaves old before
  pub fair : IsFair d c → IsFair old before
  pub says : c.file Current name.Version ≡ before.file Current name.Version
  pub rank : ((v : Version) → IsNotRaised v (folder_at before Current) (folder_at c Current)) ⊎ IsBroughtTo version id ns c

-- At each moment of its topping up a directory's rank isn't raised, or it is the one to which it is brought.
abbrev pub ToppingUpIsNotRaised : Type 0
ToppingUpIsNotRaised = (saved : Bool) (version : Version) (id : ℕ) (ns : Namespace) (old d : Disk) → IsToppingUp saved version id ns old d → (c : Reads) → Leaves d c → LeftNotRaised version id ns old d c
