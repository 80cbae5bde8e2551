-- What follows from the definitions of chains and of intact images alone.
use Rattle.std.specs.Prelude.{◌≡◌, ℕ}
use Rattle.nn_marks.specs.declared.version.Version.{Version}
use Rattle.nn_chain.specs.declared.why.ImageWhy.{ImageWhy}
use Rattle.nn_chain.specs.Folder.{Folder}
use Rattle.nn_chain.specs.Images.{HasIntact, IsUnsound, HasNoImage}
use Rattle.nn_chain.specs.Chain.{Reached, IsChain}

-- ---- chains

-- Two chains are one: they begin at the same image, go over the same records, and end at the same id and namespace.
pub record AreOneChain (folder : Folder) (version : Version) (end other : Reached) (one : IsChain folder version end) (two : IsChain folder version other) : Type 0 where
  pub image : one.image ≡ two.image
  pub base : one.from.base ≡ two.from.base
  pub records : one.from.records ≡ two.from.records
  pub ends : end ≡ other

-- a folder has at most one chain
abbrev pub OneChain : Type 0
OneChain = (folder : Folder) (version : Version) (end other : Reached) (one : IsChain folder version end) (two : IsChain folder version other) → AreOneChain folder version end other one two

-- ---- why an image isn't intact

-- at most one thing is wrong with it first
abbrev pub OneWhy : Type 0
OneWhy = (folder : Folder) (version : Version) (id : ℕ) (why other : ImageWhy) → IsUnsound folder version id why → IsUnsound folder version id other → why ≡ other

-- with an intact image nothing is wrong
abbrev pub NoneIntactUnsound : Type 0
NoneIntactUnsound = (folder : Folder) (version : Version) (id : ℕ) (why : ImageWhy) → HasIntact folder version id → ¬ IsUnsound folder version id why

-- ---- why a folder has no intact image

-- there is at most one reason
abbrev pub OneReason : Type 0
OneReason = (folder : Folder) (version : Version) (why other : ImageWhy) → HasNoImage folder version why → HasNoImage folder version other → why ≡ other

-- there is none where a folder has one
abbrev pub NoReasonBesideIntact : Type 0
NoReasonBesideIntact = (folder : Folder) (version : Version) (id : ℕ) (why : ImageWhy) → HasIntact folder version id → ¬ HasNoImage folder version why
