-- Which files of a folder stay beside its two images of greatest id, and a folder while the others are purged from it.
use Rattle.std.specs.Prelude.{◌≡◌, ◌≢◌, ◌⊎◌, ℕ, ◌<◌, ◌≤◌, List, Contains, Some, None}
use Rattle.nn_base.specs.declared.sub.Sub.{Sub}
use Rattle.nn_base.specs.declared.sub.Sub.TheVariants.{Current}
use Rattle.nn_base.specs.declared.file_name.FileName.{FileName}
use Rattle.nn_base.specs.declared.file_name.FileName.TheVariants as name
use Rattle.nn_host.specs.Disk.{Held}
use Rattle.nn_host.specs.Moments.{State, disk_at}
use Rattle.nn_chain.specs.Folder.{Folder, folder_at}
use Rattle.nn_ckpt.specs.declared.retention.Retained.{Retained}

-- ---- which images stay

-- the file of an image of this id is there
abbrev pub IsThere : Folder → ℕ → Type 0
IsThere folder id = folder (name.Image id) ≢ None

-- It is one of the two images of greatest id: no two later ones are there.
pub record Stays (folder : Folder) (id : ℕ) : Type 0 where
  pub there : IsThere folder id
  pub last : (a b : ℕ) → id < a → a < b → IsThere folder a → ¬ IsThere folder b

-- It is the older one of two that stay.
pub record IsOlder (folder : Folder) (id : ℕ) : Type 0 where
  pub stays : Stays folder id
  pub later : (a : ℕ) × (id < a) × IsThere folder a

-- ---- which files go

-- an image that doesn't stay, and its MD5 file; an image on the way; and a finalized segment that ends at or before the older image
abbrev pub Goes : Folder → FileName → Type 0
Goes folder (name.Image id) = ¬ Stays folder id
Goes folder (name.Md5 id) = ¬ Stays folder id
Goes folder (name.Ckpt id) = Unit {0}
Goes folder (name.Edits span) = (older : ℕ) × IsOlder folder older × (span.1 ≤ older)
Goes folder name.Version = ⊥
Goes folder name.VersionTmp = ⊥
Goes folder name.Seen = ⊥
Goes folder name.SeenTmp = ⊥
Goes folder (name.Md5Tmp id) = ⊥
Goes folder (name.InProgress first) = ⊥

-- ---- at each moment, and afterwards

-- Of a directory whose `current` read so, each file there is as it was, or gone if it goes.
pub record IsPurging {A : Type 0} (folder : Folder) (old d : Held A) : Type 0 where
  pub root : d.root ≡ old.root
  pub subs : (s : Sub) → d.has s ≡ old.has s
  pub other_subs : (s : Sub) (n : FileName) → s ≢ Current → d.file s n ≡ old.file s n
  pub files : (n : FileName) → (d.file Current n ≡ old.file Current n) ⊎ (Goes folder n × (d.file Current n ≡ None))

-- Each file that goes is gone.
pub record IsPurged {A : Type 0} (folder : Folder) (old d : Held A) : Type 0 where
  pub purging : IsPurging folder old d
  pub gone : (n : FileName) → Goes folder n → d.file Current n ≡ None

-- on the disk of this directory, and as it reads
pub record WasPurged (i : ℕ) (old new : State) : Type 0 where
  pub disk : IsPurged (folder_at (old.reads i) Current) (disk_at old i) (disk_at new i)
  pub reads : IsPurged (folder_at (old.reads i) Current) (old.reads i) (new.reads i)

-- At most two images are left, no MD5 file without its image, no image on the way, and no finalized segment, of those that a span names, that ends at or before the older image.
pub record IsPruned (folder : Folder) : Type 0 where
  pub images : (id : ℕ) → IsThere folder id → Stays folder id
  pub digests : (id : ℕ) → folder (name.Image id) ≡ None → folder (name.Md5 id) ≡ None
  pub named : (id : ℕ) → folder (name.Ckpt id) ≡ None
  pub segments : (older first last : ℕ) → IsOlder folder older → first ≤ last → last ≤ older → folder (name.Edits (first, last)) ≡ None

-- ---- by a listing of the folder

-- an image of this id is among these files
abbrev pub IsAmong : List FileName → ℕ → Type 0
IsAmong names id = Contains names (name.Image id)

-- Of the images among these files none is later than the newest, and of the others none is later than the older one.
pub record AreImagesOf (names : List FileName) (retained : Retained) : Type 0 where
  pub newest : (id : ℕ) → retained.newest ≡ Some id → IsAmong names id × ((other : ℕ) → IsAmong names other → other ≤ id)
  pub older : (id : ℕ) → retained.older ≡ Some id → IsAmong names id × ((newest : ℕ) × (retained.newest ≡ Some newest) × (id < newest)) × ((other : ℕ) → IsAmong names other → id < other → retained.newest ≡ Some other)
  pub one : retained.older ≡ None → (a b : ℕ) → IsAmong names a → a < b → ¬ IsAmong names b
  pub none : retained.newest ≡ None → (id : ℕ) → ¬ IsAmong names id

-- They are the images of a folder that stay.
pub record AreRetained (folder : Folder) (retained : Retained) : Type 0 where
  pub stays : (id : ℕ) → Stays folder id → (retained.newest ≡ Some id) ⊎ (retained.older ≡ Some id)
  pub newest : (id : ℕ) → retained.newest ≡ Some id → Stays folder id
  pub older : (id : ℕ) → retained.older ≡ Some id → IsOlder folder id
  pub is_older : (id : ℕ) → IsOlder folder id → retained.older ≡ Some id

-- Of a folder with these files, just those go that are found.
pub record ArePurged (names found : List FileName) : Type 0 where
  pub all : (folder : Folder) → ((n : FileName) → Contains names n → folder n ≢ None) → ((n : FileName) → folder n ≢ None → Contains names n) → (n : FileName) → folder n ≢ None → Goes folder n → Contains found n
  pub only : (folder : Folder) → ((n : FileName) → Contains names n → folder n ≢ None) → ((n : FileName) → folder n ≢ None → Contains names n) → (n : FileName) → Contains found n → Goes folder n
