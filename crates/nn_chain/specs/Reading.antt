-- What reading an image answers.
use Rattle.std.specs.Prelude.{◌≡◌, ◌≢◌, ◌≤◌, ℕ, List, length, unsigned_abs, Option, Some, None, Bool, true, false, Result, Ok, Err}
use Rattle.hex.specs.Hex.{IsBytes}
use Rattle.nn_base.specs.Limits.{most_image}
use Rattle.nn_base.specs.declared.file_name.FileName.TheVariants.{Md5}
use Rattle.nn_marks.specs.declared.version.Version.{Version}
use Rattle.nn_marks.specs.Digest.{md5_text_of}
use Rattle.nn_image.specs.declared.fault.ImageFault.{ImageFault}
use Rattle.nn_image.specs.declared.fault.ImageFault.TheVariants as fault
use Rattle.nn_chain.specs.declared.why.ImageWhy.TheVariants.{Absent, Digest, Named, Fault}
use Rattle.nn_image.specs.Faults.{IsFault}
use Rattle.nn_chain.specs.declared.image.ReadImage.{ReadImage}
use Rattle.nn_chain.specs.declared.image.ReadImage.TheVariants.{Failed, Unsound, Memory}
use Rattle.nn_chain.specs.Folder.{Folder}
use Rattle.nn_chain.specs.Images.{HasDigest, NamesImage, HasImage, IsUnsound, IsAnother}

-- no call of the host failed
abbrev pub answered : {T : Type 0} → Result T ReadImage → Bool
answered (Ok value) = true
answered (Err Failed) = false
answered (Err (Unsound why)) = true
answered (Err Memory) = true

-- Before the image is read nothing is wrong with it: it is there, within its limit, and its MD5 file is one of this id.
pub record MayBeIntact (folder : Folder) (id : ℕ) : Type 0 where
  pub image : HasImage folder id (λ bytes. length bytes ≤ most_image)
  pub digest : NamesImage folder id

-- What is told of the image of this id where it wasn't read. A call that failed tells nothing of it; memory may lack for one that may be intact.
abbrev pub IsTold : Folder → Version → ℕ → ReadImage → Type 0
IsTold folder version id Failed = Unit {0}
IsTold folder version id (Unsound why) = IsUnsound folder version id why
IsTold folder version id Memory = MayBeIntact folder id

-- the digest that its MD5 file has for the image of this id; none where no bytes can have it
abbrev pub IsDigest : Folder → ℕ → Option (List ℕ) → Type 0
IsDigest folder id None = (bytes : List ℕ) → ¬ HasDigest folder id bytes
IsDigest folder id (Some digest) = (length digest ≡ 16) × IsBytes digest × (folder (Md5 id) ≡ Some (md5_text_of digest id))

-- the same, whatever VERSION says
abbrev pub IsToldAnyhow : Folder → ℕ → ReadImage → Type 0
IsToldAnyhow folder id answer = (version : Version) → IsTold folder version id answer

-- ---- bytes whose digest agrees

-- what is told of them where they aren't the image of this id
abbrev pub IsToldOf : List ℕ → Version → ℕ → ReadImage → Type 0
IsToldOf bytes version id Failed = ⊥
IsToldOf bytes version id (Unsound Absent) = ⊥
IsToldOf bytes version id (Unsound Digest) = ⊥
IsToldOf bytes version id (Unsound Named) = IsAnother version id bytes
IsToldOf bytes version id (Unsound (Fault found)) = (found ≢ fault.Memory) × IsFault found bytes (unsigned_abs version.layout)
IsToldOf bytes version id Memory = Unit {0}

-- the answer where loading them had this fault
abbrev pub unloaded : ImageFault → ReadImage
unloaded fault.TooLarge = Unsound (Fault fault.TooLarge)
unloaded fault.Magic = Unsound (Fault fault.Magic)
unloaded fault.Short = Unsound (Fault fault.Short)
unloaded fault.Field = Unsound (Fault fault.Field)
unloaded fault.Codec = Unsound (Fault fault.Codec)
unloaded (fault.Layout found) = Unsound (Fault (fault.Layout found))
unloaded fault.Section = Unsound (Fault fault.Section)
unloaded fault.Tree = Unsound (Fault fault.Tree)
unloaded fault.Memory = Memory
