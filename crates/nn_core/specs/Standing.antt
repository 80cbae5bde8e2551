-- When directories stand as a run has them in mind, and how records bring them on.
use Rattle.std.specs.Prelude.{◌≡◌, ◌≢◌, ℕ, ◌+◌, ◌<◌, true, false, Some, None}
use Rattle.nn_base.specs.declared.sub.Sub.TheVariants.{Current}
use Rattle.nn_base.specs.declared.file_name.FileName.TheVariants.{Seen, InProgress}
use Rattle.nn_base.specs.FileText.{IsInRange}
use Rattle.nn_base.specs.DirSets.{has}
use Rattle.nn_host.specs.Disk.{Disk, File, certain}
use Rattle.nn_host.specs.Moments.{State, disk_at}
use Rattle.nn_marks.specs.declared.version.Version.{Version}
use Rattle.nn_marks.specs.Seen.{seen_text_of}
use Rattle.nn_tree.specs.Namespace.{Namespace}
use Rattle.nn_record.specs.declared.op.Op.{Op}
use Rattle.nn_ops.specs.Step.{Fits}
use Rattle.nn_ops.specs.Effects.{effect}
use Rattle.nn_segment_file.specs.Log.{Shared}
use Rattle.nn_segment_file.specs.Stages.{Stage}
use Rattle.nn_journal.specs.declared.journal.JournalSet.{JournalSet}
use Rattle.nn_journal.specs.Among.{AllAt, AllAlone}
use Rattle.nn_journal.specs.Places.{Matches, place_of}
use Rattle.nn_pick.specs.Refusing.{spent_from}
use Rattle.nn_pick.specs.Opening.{Book}
use Rattle.nn_ckpt.specs.Checkpointed.{HasLastImage}
use Rattle.nn_run.specs.Steps.{BetweenLines}
use Rattle.nn_run.specs.Flights.{Flown, LeadsTo}

-- each live directory has its last image, of an id up to this one
abbrev pub AllImaged : Version → Shared → ℕ → JournalSet → State → Type 0
AllImaged version list last journal s = (j : ℕ) → has journal.live j ≡ true → HasLastImage version list last (disk_at s j)

-- a Book with nothing saved
abbrev pub unsaved : Namespace → Book
unsaved ns = record { ns = ns; saved = None }

-- Nothing is saved. Each live directory has what the journal has in mind under this VERSION, with no other segment in progress, and its last image; and they stand as is to hold between two lines.
pub record Stands (version : Version) (journal : JournalSet) (ns : Namespace) (s : State) : Type 0 where
  pub list : Shared
  pub stage : Stage
  pub matches : Matches version list stage (place_of journal)
  pub disks : AllAt version list stage journal.live s
  pub alone : AllAlone stage journal.live s
  pub images : AllImaged version list journal.last journal s
  pub between : BetweenLines version list s.count (has journal.live) (λ i. false) (unsaved ns) journal.last s.now

-- ---- the segments of one directory

-- The segment in progress begins with this id, no other is in progress, and seen_txid holds this id.
pub record GoesFrom (first : ℕ) (d : Disk) : Type 0 where
  pub file : File
  pub stands : d.file Current (InProgress first) ≡ Some file
  pub others : (other : ℕ) → IsInRange (InProgress other) → other ≢ first → d.file Current (InProgress other) ≡ None
  pub seen : d.file Current Seen ≡ certain (Some (seen_text_of first))

-- no segment is in progress
abbrev pub NoneGoes : Disk → Type 0
NoneGoes d = (first : ℕ) → IsInRange (InProgress first) → d.file Current (InProgress first) ≡ None

-- ---- how records bring them on

-- The live directories go from one namespace to another: each moment of it, by a list that leads from the one to the other.
pub record Goes (version : Version) (list : Shared) (journal after : JournalSet) (ns ns_after : Namespace) (old new : State) : Type 0 where
  pub before : BetweenLines version list old.count (has journal.live) (λ i. false) (unsaved ns) journal.last old.now
  pub leads : LeadsTo list (unsaved ns) (unsaved ns_after) journal.last after.last
  pub flown : Flown (Unit {0}) version list (has journal.live) (has after.live) journal.last after.last old new

-- They came there: what they have then.
pub record Comes (version : Version) (journal after : JournalSet) (ns ns_after : Namespace) (old new : State) : Type 0 where
  pub list : Shared
  pub goes : Goes version list journal after ns ns_after old new
  pub stage : Stage
  pub matches : Matches version list stage (place_of after)
  pub disks : AllAt version list stage after.live new
  pub alone : AllAlone stage after.live new
  pub images : AllImaged version list after.last after new

-- so high an id leaves room for a step
abbrev pub HasIds : JournalSet → Type 0
HasIds journal = journal.last + 128 < spent_from

-- a record that does this was logged and synced
abbrev pub Logs : Type 0 → Op → JournalSet → JournalSet → State → State → Type 0
Logs told op journal after old new = told → (version : Version) (ns : Namespace) → Fits ns op → HasIds journal → Stands version journal ns old → Comes version journal after ns (effect op ns) old new

-- marks of segments alone were
abbrev pub Rolls : Type 0 → JournalSet → JournalSet → State → State → Type 0
Rolls told journal after old new = told → (version : Version) (ns : Namespace) → HasIds journal → Stands version journal ns old → Comes version journal after ns ns old new
