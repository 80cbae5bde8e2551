-- What a checkpoint asks of the live directories, what each moment of it keeps, and what it leaves.
use Rattle.std.specs.Prelude.{◌≡◌, ◌≢◌, ℕ, ◌<◌, ◌≤◌, List, true, None, Result, OnOk, IfOk}
use Rattle.nn_base.specs.DirSets.{has}
use Rattle.nn_base.specs.declared.ids.Txid.{Txid}
use Rattle.nn_base.specs.declared.sub.Sub.TheVariants.{Current}
use Rattle.nn_base.specs.declared.file_name.FileName.TheVariants.{Image}
use Rattle.nn_host.specs.Disk.{Disk, Reads}
use Rattle.nn_host.specs.Moments.{State, disk_at}
use Rattle.nn_marks.specs.declared.version.Version.{Version}
use Rattle.nn_tree.specs.Namespace.{Namespace}
use Rattle.nn_chain.specs.Folder.{Folder, folder_at}
use Rattle.nn_chain.specs.Images.{IsIntact}
use Rattle.nn_record.specs.declared.transaction.Record.{Record}
use Rattle.nn_chain.specs.Chain.{Reached, Leads, IsChain, IsChainFrom}
use Rattle.nn_segment_file.specs.Log.{Shared}
use Rattle.nn_segment_file.specs.Stages.{Stage}
use Rattle.nn_journal.specs.declared.journal.JournalSet.{JournalSet}
use Rattle.nn_journal.specs.Among.{AllAt, AllAlone}
use Rattle.nn_journal.specs.Places.{Matches, place_of}
use Rattle.nn_remake.specs.Publishing.{IsPublishing, IsWhole, WasWritten}
use Rattle.nn_kept.specs.Laws.{EachLeft}
use Rattle.nn_run.specs.Flights.{Flies, Flown}
use Rattle.nn_ckpt.specs.declared.fault.RunFault.{RunFault}
use Rattle.nn_ckpt.specs.Retention.{IsOlder, IsPurging, IsPruned}

-- ---- one directory

-- Its image of greatest id is whole and synced, of an id up to this one, and of the namespace that the list has there.
pub record HasLastImage (version : Version) (list : Shared) (last : ℕ) (d : Disk) : Type 0 where
  pub id : ℕ
  pub whole : IsWhole version id (list id) d
  pub low : id ≤ last
  pub later : (other : ℕ) → id < other → d.file Current (Image other) ≡ None

-- From the intact image of this id records lead to this place.
pub record IsLedTo (folder : Folder) (version : Version) (image : ℕ) (place : Reached) : Type 0 where
  pub base : Namespace
  pub intact : IsIntact folder version image base
  pub records : List Record
  pub leads : Leads folder version.layout (record { last = image; ns = base }) records place

-- Its image of greatest id is whole and synced, of the namespace that the list has there; and after each fair stop records lead to it from the image before it, that of the older id.
pub record HasTwoImages (version : Version) (list : Shared) (older id : ℕ) (d : Disk) : Type 0 where
  pub whole : IsWhole version id (list id) d
  pub less : older < id
  pub later : (other : ℕ) → older < other → other ≢ id → d.file Current (Image other) ≡ None
  pub leads : EachLeft d (λ c. IsLedTo (folder_at c Current) version older (record { last = id; ns = list id }))

-- It has an intact image of this namespace at this id and none of a later one, one older image and no more than that needs; and begun at either its chain ends at the same id, with this namespace.
pub record IsCheckpointed (version : Version) (id last : ℕ) (ns : Namespace) (folder : Folder) : Type 0 where
  pub intact : IsIntact folder version id ns
  pub newest : (later : ℕ) → id < later → folder (Image later) ≡ None
  pub two : (older : ℕ) × IsOlder folder older
  pub pruned : IsPruned folder
  pub chain : IsChain folder version (record { last = last; ns = ns })
  pub older : (older : ℕ) → IsOlder folder older → IsChainFrom folder version older (record { last = last; ns = ns })

-- ---- the live directories

-- Nothing is saved. Each live directory stands at this stage of the list, as the journal has it in mind, with no other segment in progress, and has its last image.
pub record AreImaged (version : Version) (list : Shared) (stage : Stage) (journal : JournalSet) (s : State) : Type 0 where
  pub matches : Matches version list stage (place_of journal)
  pub disks : AllAt version list stage journal.live s
  pub alone : AllAlone stage journal.live s
  pub flies : (j : ℕ) → has journal.live j ≡ true → Flies version list journal.last journal.last (disk_at s j)
  pub images : (j : ℕ) → has journal.live j ≡ true → HasLastImage version list journal.last (disk_at s j)

-- they do at some stage
abbrev pub StayImaged : Version → Shared → JournalSet → State → Type 0
StayImaged version list journal s = (stage : Stage) × AreImaged version list stage journal s

-- From there they came on: at each moment each live directory's chain ends between the last ids, those dropped end below, and no other is touched.
abbrev pub ComesOn : Version → Shared → JournalSet → JournalSet → State → State → Type 0
ComesOn version list journal after old new = Flown (Unit {0}) version list (has journal.live) (has after.live) journal.last after.last old new

-- So they did, if an id was ever given; and they stand there.
pub record HasGoneOn (version : Version) (list : Shared) (journal after : JournalSet) (old new : State) : Type 0 where
  pub comes : 0 < journal.last → ComesOn version list journal after old new
  pub stands : StayImaged version list after new

-- ---- an image that is published in each

-- at a moment of it, whatever the directory read
abbrev pub IsPublishingOf : Version → ℕ → Namespace → Reads → Disk → Disk → Type 0
IsPublishingOf version id ns r old d = IsPublishing version id ns old d

-- it was written, if `current` is there
abbrev pub HasPublished : Version → ℕ → Namespace → ℕ → State → State → Type 0
HasPublished version id ns j old new = (disk_at old j).has Current ≡ true → WasWritten version id ns j old new

-- Where no segment is in progress and the image is that of the last id, of its namespace and later than all others, they go on; and once it is done each that is live has it behind the one that was its last.
abbrev pub Publishes : Type 0 → Version → ℕ → Namespace → JournalSet → JournalSet → State → State → Result (Unit {0}) RunFault → Type 0
Publishes told version id ns journal after old new result = told → (list : Shared) (stage : Stage) → AreImaged version list stage journal old → journal.last ≡ id → list id ≡ ns → ((j : ℕ) → has journal.live j ≡ true → (later : ℕ) → id ≤ later → (disk_at old j).file Current (Image later) ≡ None)
    → HasGoneOn version list journal after old new × OnOk result ((j : ℕ) → has after.live j ≡ true → (older : ℕ) × HasTwoImages version list older id (disk_at new j))

-- ---- what no longer counts is purged from each

-- of a directory that read so
abbrev pub IsPurgingOf : Reads → Disk → Disk → Type 0
IsPurgingOf r old d = IsPurging (folder_at r Current) old d

-- what it keeps of its two images
abbrev pub StaysTwoImages : Version → Shared → Disk → Disk → Type 0
StaysTwoImages version list old d = (older id : ℕ) → HasTwoImages version list older id old → HasTwoImages version list older id d

-- They go on; and once it is done each that is live is pruned, with the last image that it had and the one before it.
abbrev pub Purges : Type 0 → JournalSet → JournalSet → State → State → Result (Unit {0}) RunFault → Type 0
Purges told journal after old new result = told → (version : Version) (list : Shared) (stage : Stage) → AreImaged version list stage journal old
    → HasGoneOn version list journal after old new × OnOk result ((j : ℕ) → has after.live j ≡ true → EachLeft (disk_at new j) (λ c. IsPruned (folder_at c Current)) × StaysTwoImages version list (disk_at old j) (disk_at new j))

-- ---- a checkpoint

-- They come on, and stand there; and once it is done each that is live is checkpointed at one id.
pub record HasCheckpointed (version : Version) (list : Shared) (ns : Namespace) (journal after : JournalSet) (old new : State) (result : Result Txid RunFault) : Type 0 where
  pub comes : ComesOn version list journal after old new
  pub stands : StayImaged version list after new
  pub each : IfOk result (λ id. (j : ℕ) → has after.live j ≡ true → EachLeft (disk_at new j) (λ c. IsCheckpointed version id after.last ns (folder_at c Current)))

-- Wherever they stand, at the namespace of the tree.
abbrev pub Checkpoints : Type 0 → Version → Namespace → JournalSet → JournalSet → State → State → Result Txid RunFault → Type 0
Checkpoints told version ns journal after old new result = told → (list : Shared) (stage : Stage) → AreImaged version list stage journal old → list journal.last ≡ ns
    → HasCheckpointed version list ns journal after old new result
