-- The images of a folder: which are intact, and which is the newest of them.
use Rattle.std.specs.Prelude.{◌≡◌, ◌≢◌, ◌⊎◌, ◌<◌, ◌≤◌, ◌^◌, ℕ, List, length, unsigned_abs, Some, None}
use Rattle.hex.specs.Hex.{IsBytes}
use Rattle.md5.specs.Md5.{md5}
use Rattle.nn_base.specs.Limits.{most_image}
use Rattle.nn_base.specs.declared.file_name.FileName.TheVariants.{Image, Md5}
use Rattle.nn_marks.specs.declared.version.Version.{Version}
use Rattle.nn_marks.specs.Digest.{md5_text_of}
use Rattle.nn_tree.specs.Namespace.{Namespace}
use Rattle.nn_image.specs.declared.fault.ImageFault.TheVariants as fault
use Rattle.nn_image.specs.Imaged.{IsImage}
use Rattle.nn_image.specs.Faults.{IsFault}
use Rattle.nn_chain.specs.declared.why.ImageWhy.{ImageWhy}
use Rattle.nn_chain.specs.declared.why.ImageWhy.TheVariants.{Absent, Digest, Named, Fault}
use Rattle.nn_chain.specs.Folder.{Folder}

-- Its MD5 file names the image of this id and has the digest of these bytes.
abbrev pub HasDigest : Folder → ℕ → List ℕ → Type 0
HasDigest folder id bytes = folder (Md5 id) ≡ Some (md5_text_of (md5 bytes) id)

-- Its MD5 file names the image of this id, with some digest.
abbrev pub NamesImage : Folder → ℕ → Type 0
NamesImage folder id = (digest : List ℕ) × (length digest ≡ 16) × IsBytes digest × (folder (Md5 id) ≡ Some (md5_text_of digest id))

-- The image of this id is intact, and of this namespace: the MD5 file agrees, it reads under the layout and the namespaceID of VERSION, and the id inside is its own. That it has at most 2^30 bytes follows, as each image has.
pub record IsIntact (folder : Folder) (version : Version) (id : ℕ) (ns : Namespace) : Type 0 where
  pub bytes : List ℕ
  pub there : folder (Image id) ≡ Some bytes
  pub digest : HasDigest folder id bytes
  pub image : IsImage bytes ns id version.namespace (unsigned_abs version.layout)

abbrev pub HasIntact : Folder → Version → ℕ → Type 0
HasIntact folder version id = (ns : Namespace) × IsIntact folder version id ns

-- the intact image of greatest id
pub record IsNewest (folder : Folder) (version : Version) (id : ℕ) : Type 0 where
  pub intact : HasIntact folder version id
  pub last : (later : ℕ) → id < later → ¬ HasIntact folder version later

-- ---- why an image isn't intact

-- The image file of this id has these bytes, of which P holds.
abbrev pub HasImage : Folder → ℕ → (List ℕ → Type 0) → Type 0
HasImage folder id P = (bytes : List ℕ) × (folder (Image id) ≡ Some bytes) × P bytes

-- the bytes are an image, but of another id or of another namespaceID
pub record IsAnother (version : Version) (id : ℕ) (bytes : List ℕ) : Type 0 where
  pub ns : Namespace
  pub inner : ℕ
  pub namespace : ℕ
  pub image : IsImage bytes ns inner namespace (unsigned_abs version.layout)
  pub other : (inner ≢ id) ⊎ (namespace ≢ version.namespace)

-- The first that is wrong with the image of this id. A file that is too large is told before its digest is looked at.
abbrev pub IsUnsound : Folder → Version → ℕ → ImageWhy → Type 0
IsUnsound folder version id Absent = folder (Image id) ≡ None
IsUnsound folder version id Digest = HasImage folder id (λ bytes. (length bytes ≤ most_image) × ¬ HasDigest folder id bytes)
IsUnsound folder version id (Fault found) = HasImage folder id (λ bytes. ((found ≡ fault.TooLarge) ⊎ HasDigest folder id bytes) × (found ≢ fault.Memory) × IsFault found bytes (unsigned_abs version.layout))
IsUnsound folder version id Named = HasImage folder id (λ bytes. HasDigest folder id bytes × IsAnother version id bytes)

-- ---- why a folder has no intact image

-- the image file of greatest id
pub record IsLastImage (folder : Folder) (id : ℕ) : Type 0 where
  pub ranged : id < 2 ^ 63
  pub there : folder (Image id) ≢ None
  pub last : (later : ℕ) → later < 2 ^ 63 → id < later → folder (Image later) ≡ None

-- there is no image file
abbrev pub HasNoImageFile : Folder → Type 0
HasNoImageFile folder = (id : ℕ) → id < 2 ^ 63 → folder (Image id) ≡ None

-- why the image file of greatest id isn't intact
pub record IsLastUnsound (folder : Folder) (version : Version) (why : ImageWhy) : Type 0 where
  pub id : ℕ
  pub last : IsLastImage folder id
  pub unsound : IsUnsound folder version id why

-- No image is intact: there is no image file, or this is wrong with the one of greatest id.
pub record HasNoImage (folder : Folder) (version : Version) (why : ImageWhy) : Type 0 where
  pub none : (id : ℕ) → ¬ HasIntact folder version id
  pub why_is : ((why ≡ Absent) × HasNoImageFile folder) ⊎ IsLastUnsound folder version why
