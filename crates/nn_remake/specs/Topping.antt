-- A directory while it is brought up to a namespace, in place of the older one that it has.
use Rattle.std.specs.Prelude.{◌≡◌, ◌⊎◌, ℕ, Bool, true, false}
use Rattle.nn_base.specs.declared.sub.Sub.TheVariants.{Current, Previous}
use Rattle.nn_host.specs.Disk.{Held, Disk, Reads}
use Rattle.nn_host.specs.Moments.{State, disk_at}
use Rattle.nn_marks.specs.declared.version.Version.{Version}
use Rattle.nn_tree.specs.Namespace.{Namespace}
use Rattle.nn_chain.specs.Folder.{folder_at}
use Rattle.nn_chain.specs.Images.{IsIntact}
use Rattle.nn_chain.specs.Chain.{IsChain, EndsBare}
use Rattle.nn_remake.specs.Publishing.{IsPublishing}
use Rattle.nn_remake.specs.Published.{IsPublished}
use Rattle.nn_remake.specs.Clearing.{IsGivingUp, IsGivenUp}
use Rattle.nn_remake.specs.Cutting.{IsCutting, IsCutDown, WasCutDown}

-- ---- at each moment

-- nothing has changed, or the saved state is given up, which it is only where it isn't to stay
abbrev pub IsGivingUpUnless : {A : Type 0} → Bool → Held A → Held A → Type 0
IsGivingUpUnless saved old d = (d ≡ old) ⊎ ((saved ≡ false) × IsGivingUp old d)

-- a saved state is there only if it is to stay
abbrev pub SavedAsAsked : {A : Type 0} → Bool → Held A → Type 0
SavedAsAsked saved d = (saved ≡ true) ⊎ (d.has Previous ≡ false)

-- nothing has changed, as is asked, or the saved state, which isn't to stay, is gone
abbrev pub KeptOrGivenUp : {A : Type 0} → Bool → Held A → Held A → Type 0
KeptOrGivenUp saved old mid = ((mid ≡ old) × SavedAsAsked saved old) ⊎ ((saved ≡ false) × IsGivenUp old mid)

-- the saved state is given up; or `current` is cut down after that; or the image is published after that
abbrev pub IsCuttingAfter : Bool → ℕ → Disk → Disk → Type 0
IsCuttingAfter saved id old d = (mid : Disk) × KeptOrGivenUp saved old mid × IsCutting id mid d

abbrev pub IsPublishingAfter : Bool → Version → ℕ → Namespace → Disk → Disk → Type 0
IsPublishingAfter saved version id ns old d = (mid : Disk) × (low : Disk) × KeptOrGivenUp saved old mid × IsCutDown id mid low × IsPublishing version id ns low d

abbrev pub IsToppingUp : Bool → Version → ℕ → Namespace → Disk → Disk → Type 0
IsToppingUp saved version id ns old d = IsGivingUpUnless saved old d ⊎ IsCuttingAfter saved id old d ⊎ IsPublishingAfter saved version id ns old d

-- ---- afterwards

-- on the disk of this directory, and as it reads
pub record WasKeptOrGivenUp (saved : Bool) (i : ℕ) (old new : State) : Type 0 where
  pub disk : KeptOrGivenUp saved (disk_at old i) (disk_at new i)
  pub reads : KeptOrGivenUp saved (old.reads i) (new.reads i)

-- all of it was done, one after the other
pub record WasToppedUp (saved : Bool) (version : Version) (id : ℕ) (ns : Namespace) (i : ℕ) (old new : State) : Type 0 where
  pub mid : State
  pub low : State
  pub kept : WasKeptOrGivenUp saved i old mid
  pub cut : WasCutDown id i mid low
  pub published : IsPublished version id ns i low new

-- The image of this id is intact and of this namespace, and the chain ends there, before an id without a record.
pub record IsBroughtTo (version : Version) (id : ℕ) (ns : Namespace) (c : Reads) : Type 0 where
  pub intact : IsIntact (folder_at c Current) version id ns
  pub chain : IsChain (folder_at c Current) version (record { last = id; ns = ns })
  pub bare : EndsBare (folder_at c Current) version (record { last = id; ns = ns })
