-- A directory before, while and after it is made.
use Rattle.std.specs.Prelude.{◌≡◌, ◌≢◌, ◌⊎◌, ℕ, true, false, List, Option, Some, None}
use Rattle.nn_base.specs.declared.sub.Sub.{Sub}
use Rattle.nn_base.specs.declared.sub.Sub.TheVariants.{Current}
use Rattle.nn_base.specs.declared.file_name.FileName.{FileName}
use Rattle.nn_base.specs.declared.file_name.FileName.TheVariants as name
use Rattle.nn_host.specs.Disk.{Held, Disk, Reads, Leaves, certain}
use Rattle.nn_host.specs.Moments.{State, disk_at}
use Rattle.nn_state.specs.declared.state.StorageState.TheVariants.{Normal}
use Rattle.nn_state.specs.Typed.{IsIn, FitsFresh}
use Rattle.nn_marks.specs.declared.version.Version.{Version}
use Rattle.nn_marks.specs.Seen.{seen_text_of}
use Rattle.nn_marks.specs.VersionText.{version_text_of}
use Rattle.nn_tree.specs.Namespace.{Namespace}
use Rattle.nn_chain.specs.Folder.{folder_at, HasVersion, SaysSeen}
use Rattle.nn_chain.specs.Chain.{IsChain, EndsBare}
use Rattle.nn_remake.specs.Publishing.{HasImage, IsImageUnder, digest_of}

-- a root without any subfolder
pub record IsBare (d : Disk) : Type 0 where
  pub root : d.root ≡ true
  pub subs : (s : Sub) → d.has s ≡ false

-- the only subfolder is `current`, and it holds no other files than these four
pub record JustCurrent {A : Type 0} (id : ℕ) (version seen image digest : Option A) (d : Held A) : Type 0 where
  pub root : d.root ≡ true
  pub current : d.has Current ≡ true
  pub other_subs : (s : Sub) → s ≢ Current → d.has s ≡ false
  pub version_file : d.file Current name.Version ≡ version
  pub seen_file : d.file Current name.Seen ≡ seen
  pub image_files : HasImage id image digest d
  pub other_files : (n : FileName) → n ≢ name.Version → n ≢ name.Seen → n ≢ name.Image id → n ≢ name.Md5 id → d.file Current n ≡ None

-- VERSION, seen_txid of this id, and an image of it
abbrev pub HasFour : {A : Type 0} → (List ℕ → Option A) → Version → ℕ → List ℕ → Held A → Type 0
HasFour kept version id bytes d = JustCurrent id (kept (version_text_of version)) (kept (seen_text_of id)) (kept bytes) (kept (digest_of id bytes)) d

-- just these four, all synced, and so NORMAL by the table
pub record IsMade (version : Version) (id : ℕ) (ns : Namespace) (d : Disk) : Type 0 where
  pub normal : IsIn Normal d
  pub bytes : List ℕ
  pub image : IsImageUnder version id ns bytes
  pub whole : HasFour (λ text. certain (Some text)) version id bytes d

-- the same, as it reads
pub record ReadsMade (version : Version) (id : ℕ) (ns : Namespace) (r : Reads) : Type 0 where
  pub normal : IsIn Normal r
  pub bytes : List ℕ
  pub image : IsImageUnder version id ns bytes
  pub whole : HasFour (λ text. Some text) version id bytes r

abbrev pub FreshOrMade : Version → ℕ → Namespace → Disk → Type 0
FreshOrMade version id ns d = FitsFresh d ⊎ IsMade version id ns d

-- made, on the disk and as it reads
pub record WasMade (version : Version) (id : ℕ) (ns : Namespace) (i : ℕ) (new : State) : Type 0 where
  pub disk : IsMade version id ns (disk_at new i)
  pub reads : ReadsMade version id ns (new.reads i)

-- ---- what a stop leaves of it

-- It serves: its marks say this, and the chain ends at the image, before an id without a record.
pub record Serves (version : Version) (id : ℕ) (ns : Namespace) (c : Reads) : Type 0 where
  pub says : HasVersion (folder_at c Current) version
  pub seen : SaysSeen (folder_at c Current) id
  pub chain : IsChain (folder_at c Current) version (record { last = id; ns = ns })
  pub bare : EndsBare (folder_at c Current) version (record { last = id; ns = ns })

pub record LeftMade (version : Version) (id : ℕ) (ns : Namespace) (c : Reads) : Type 0 where
  pub whole : ReadsMade version id ns c
  pub serves : Serves version id ns c

abbrev pub FreshOrMadeIsLeft : Version → ℕ → Namespace → Type 0
FreshOrMadeIsLeft version id ns = (d : Disk) (c : Reads) → FreshOrMade version id ns d → Leaves d c → FitsFresh c ⊎ LeftMade version id ns c
