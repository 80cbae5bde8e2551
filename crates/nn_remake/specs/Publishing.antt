-- An image while it is put into `current`, and once it is there.
use Rattle.std.specs.Prelude.{◌≡◌, ◌≢◌, ◌⊎◌, ℕ, List, [], unsigned_abs, Option, Some, None}
use Rattle.md5.specs.Md5.{md5}
use Rattle.nn_base.specs.declared.sub.Sub.{Sub}
use Rattle.nn_base.specs.declared.sub.Sub.TheVariants.{Current}
use Rattle.nn_base.specs.declared.file_name.FileName.{FileName}
use Rattle.nn_base.specs.declared.file_name.FileName.TheVariants.{Image, Md5, Md5Tmp, Ckpt}
use Rattle.nn_host.specs.Disk.{Held, Disk, certain, with_file}
use Rattle.nn_host.specs.Moments.{State, disk_at}
use Rattle.nn_marks.specs.declared.version.Version.{Version}
use Rattle.nn_marks.specs.Digest.{md5_text_of}
use Rattle.nn_tree.specs.Namespace.{Namespace}
use Rattle.nn_image.specs.Image.{image_of}
use Rattle.nn_image.specs.Imaged.{IsImage}

-- ---- what is changed, and what isn't

-- all but this file of `current` is as it was
pub record BesideFile (name : FileName) (old d : Disk) : Type 0 where
  pub root : d.root ≡ old.root
  pub subs : (s : Sub) → d.has s ≡ old.has s
  pub files : (s : Sub) (n : FileName) → ((s ≡ Current) × (n ≡ name) → ⊥) → d.file s n ≡ old.file s n

-- all but the four files of the image of this id is as it was
pub record BesideImage {A : Type 0} (id : ℕ) (old d : Held A) : Type 0 where
  pub root : d.root ≡ old.root
  pub subs : (s : Sub) → d.has s ≡ old.has s
  pub other_subs : (s : Sub) (n : FileName) → s ≢ Current → d.file s n ≡ old.file s n
  pub other_files : (n : FileName) → n ≢ Image id → n ≢ Md5 id → n ≢ Ckpt id → n ≢ Md5Tmp id → d.file Current n ≡ old.file Current n

-- these stand under the names of the image and of its MD5 file
pub record HasImage {A : Type 0} (id : ℕ) (whole sum : Option A) (d : Held A) : Type 0 where
  pub image : d.file Current (Image id) ≡ whole
  pub digest : d.file Current (Md5 id) ≡ sum

-- these alone are the files of the image; all else is as before
pub record Placed {A : Type 0} (id : ℕ) (image digest : Option A) (old new : Held A) : Type 0 where
  pub beside : BesideImage id old new
  pub stands : HasImage id image digest new
  pub ckpt : new.file Current (Ckpt id) ≡ None
  pub tmp : new.file Current (Md5Tmp id) ≡ None

-- ---- the image of a namespace

-- These are the bytes of its image at this id, under the namespaceID and the layout of VERSION.
abbrev pub IsImageUnder : Version → ℕ → Namespace → List ℕ → Type 0
IsImageUnder version id ns bytes = IsImage bytes ns id version.namespace (unsigned_abs version.layout)

-- the bytes of that image
abbrev pub image_under : Version → ℕ → Namespace → List ℕ
image_under version id ns = image_of ns id version.namespace (unsigned_abs version.layout)

-- the text of the MD5 file of an image
abbrev pub digest_of : ℕ → List ℕ → List ℕ
digest_of id bytes = md5_text_of (md5 bytes) id

-- the image has its name, and it and its MD5 file are synced
pub record IsWhole (version : Version) (id : ℕ) (ns : Namespace) (d : Disk) : Type 0 where
  pub bytes : List ℕ
  pub image : IsImageUnder version id ns bytes
  pub stands : HasImage id (certain (Some bytes)) (certain (Some (digest_of id bytes))) d

-- ---- at each moment

-- while what stands under the names of the image is removed: all is as it was, or the image isn't there
pub record IsRemoving (id : ℕ) (old d : Disk) : Type 0 where
  pub beside : BesideImage id old d
  pub image : (d ≡ old) ⊎ (d.file Current (Image id) ≡ None)

-- while the image is published: all is as it was, or the image isn't there, or it is there whole
pub record IsPublishing (version : Version) (id : ℕ) (ns : Namespace) (old d : Disk) : Type 0 where
  pub beside : BesideImage id old d
  pub image : (d ≡ old) ⊎ (d.file Current (Image id) ≡ None) ⊎ IsWhole version id ns d

-- ---- once it is done

-- the image isn't there, and nothing but its files was changed
pub record WasRemoved (id : ℕ) (i : ℕ) (old new : State) : Type 0 where
  pub disk : BesideImage id (disk_at old i) (disk_at new i)
  pub image : (disk_at new i).file Current (Image id) ≡ None
  pub reads : BesideImage id (old.reads i) (new.reads i)

-- the staged file has just these bytes; all else stands and reads as before
pub record WasFilled (id : ℕ) (bytes : List ℕ) (i : ℕ) (old new : State) : Type 0 where
  pub disk : disk_at new i ≡ with_file (disk_at old i) Current (Ckpt id) (Some (record { synced = []; pending = bytes }))
  pub reads : new.reads i ≡ with_file (old.reads i) Current (Ckpt id) (Some bytes)

-- and they are synced
pub record WasStaged (id : ℕ) (bytes : List ℕ) (i : ℕ) (old new : State) : Type 0 where
  pub disk : disk_at new i ≡ with_file (disk_at old i) Current (Ckpt id) (certain (Some bytes))
  pub reads : new.reads i ≡ with_file (old.reads i) Current (Ckpt id) (Some bytes)

-- the image was written, and is synced with its MD5 file
pub record WasWritten (version : Version) (id : ℕ) (ns : Namespace) (i : ℕ) (old new : State) : Type 0 where
  pub bytes : List ℕ
  pub image : IsImageUnder version id ns bytes
  pub disk : Placed id (certain (Some bytes)) (certain (Some (digest_of id bytes))) (disk_at old i) (disk_at new i)
  pub reads : Placed id (Some bytes) (Some (digest_of id bytes)) (old.reads i) (new.reads i)
