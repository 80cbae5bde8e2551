-- The record that a folder has of each id: that of the first segment file, in byte order of names, whose intact run reaches it.
use Rattle.std.specs.Prelude.{◌≡◌, ℕ, ℤ, ◌<◌, ◌≤◌, List, length, Option, Some, None, Contains}
use Rattle.nn_base.specs.declared.file_name.FileName.{FileName}
use Rattle.nn_base.specs.declared.file_name.FileName.TheVariants.{Version, VersionTmp, Seen, SeenTmp, Image, Md5, Md5Tmp, Ckpt, Edits, InProgress}
use Rattle.nn_base.specs.FileText.{IsInRange}
use Rattle.nn_base.specs.Limits.{most_segment_read}
use Rattle.nn_host.specs.Listing.{IsBefore}
use Rattle.nn_record.specs.declared.transaction.Record.{Record}
use Rattle.nn_segment.specs.Segment.{IsIntactRun}
use Rattle.nn_chain.specs.Folder.{Folder}

-- the first id of a segment file
abbrev pub first_in : FileName → Option ℕ
first_in Version = None
first_in VersionTmp = None
first_in Seen = None
first_in SeenTmp = None
first_in (Image id) = None
first_in (Md5 id) = None
first_in (Md5Tmp id) = None
first_in (Ckpt id) = None
first_in (Edits span) = Some span.0
first_in (InProgress first) = Some first

-- A finalized segment ends at its last id, whatever follows in the file.
abbrev pub IsWithin : FileName → ℕ → Type 0
IsWithin (Edits span) id = id ≤ span.1
IsWithin name id = Unit {0}

-- a segment file, no longer than is read, whose intact run has this record
pub record HoldsRecord (folder : Folder) (layout : ℤ) (name : FileName) (r : Record) : Type 0 where
  pub ranged : IsInRange name
  pub first : ℕ
  pub begins : first_in name ≡ Some first
  pub bytes : List ℕ
  pub there : folder name ≡ Some bytes
  pub small : length bytes ≤ most_segment_read
  pub run : List Record
  pub intact : IsIntactRun bytes layout first run
  pub has : Contains run r
  pub within : IsWithin name r.id

-- this is the record of its id
pub record IsRecordOf (folder : Folder) (layout : ℤ) (r : Record) : Type 0 where
  pub name : FileName
  pub holds : HoldsRecord folder layout name r
  pub first : (other : FileName) (s : Record) → IsBefore other name → s.id ≡ r.id → ¬ HoldsRecord folder layout other s

-- no segment file has a record of this id
abbrev pub HasNoRecord : Folder → ℤ → ℕ → Type 0
HasNoRecord folder layout id = (name : FileName) (r : Record) → r.id ≡ id → ¬ HoldsRecord folder layout name r

-- no segment file has a record of a later id
abbrev pub HasNoneAfter : Folder → ℤ → ℕ → Type 0
HasNoneAfter folder layout last = (name : FileName) (r : Record) → last < r.id → ¬ HoldsRecord folder layout name r
