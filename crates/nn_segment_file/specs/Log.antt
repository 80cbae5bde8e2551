-- The log of one directory: what each stop leaves of it, and the segment whose records are on its disk.
use Rattle.std.specs.Prelude.{◌≡◌, ◌≢◌, ◌⊎◌, ℕ, ℤ, ◌+◌, ◌<◌, ◌≤◌, List, [], ◌∷◌, ◌++◌, length, true, Some, None}
use Rattle.nn_base.specs.declared.sub.Sub.{Sub}
use Rattle.nn_base.specs.declared.sub.Sub.TheVariants.{Current}
use Rattle.nn_base.specs.declared.file_name.FileName.{FileName}
use Rattle.nn_base.specs.declared.file_name.FileName.TheVariants.{Seen, SeenTmp, Edits, InProgress}
use Rattle.nn_base.specs.FileText.{IsInRange}
use Rattle.nn_base.specs.Limits.{most_segment}
use Rattle.nn_host.specs.Disk.{Disk, File, Reads, Leaves, certain, with_file}
use Rattle.nn_marks.specs.declared.version.Version.{Version}
use Rattle.nn_tree.specs.Namespace.{Namespace}
use Rattle.nn_record.specs.declared.transaction.Record.{Record}
use Rattle.nn_segment.specs.Segment.{header, spelled, AreFrom}
use Rattle.nn_ops.specs.Step.{Fits}
use Rattle.nn_ops.specs.Effects.{effect}
use Rattle.nn_chain.specs.Folder.{Folder, folder_at, HasVersion, HasSeen}
use Rattle.nn_chain.specs.Records.{first_in, IsWithin, HasNoneAfter}
use Rattle.nn_chain.specs.Chain.{IsChain}
use Rattle.nn_chain.specs.Fair.{IsFair}

-- ---- the list of records that directories share

-- the namespace after each id
abbrev pub Shared : Type 0
Shared = ℕ → Namespace

-- the second list says what the first does up to this id
abbrev pub AgreeTo : Shared → Shared → ℕ → Type 0
AgreeTo list longer last = (n : ℕ) → n ≤ last → longer n ≡ list n

-- these records go on from this id: each fits the namespace before it, and leads to the next
abbrev pub Follows : Shared → ℕ → List Record → Type 0
Follows list last [] = Unit {0}
Follows list last (r ∷ rs) = Fits (list last) r.op × (list (last + 1) ≡ effect r.op (list last)) × Follows list (last + 1) rs

-- ---- what a stop leaves

-- Its VERSION says this, its chain ends at this id with the namespace of the list, no segment has a later record, and seen_txid is at most the next id.
pub record EndsAt (version : Version) (list : Shared) (last : ℕ) (folder : Folder) : Type 0 where
  pub says : HasVersion folder version
  pub seen : (id : ℕ) → HasSeen folder id → id ≤ last + 1
  pub chain : IsChain folder version (record { last = last; ns = list last })
  pub none : HasNoneAfter folder version.layout last

-- it ends at some id from lo to hi
pub record EndsWithin (version : Version) (list : Shared) (lo hi : ℕ) (folder : Folder) : Type 0 where
  pub last : ℕ
  pub least : lo ≤ last
  pub most : last ≤ hi
  pub ends : EndsAt version list last folder

-- each fair stop leaves a folder that does
pub record Logs (version : Version) (list : Shared) (lo hi : ℕ) (d : Disk) : Type 0 where
  pub left : (c : Reads) → Leaves d c → IsFair d c → EndsWithin version list lo hi (folder_at c Current)

-- ---- a disk between two segments

-- no segment file begins after this id
abbrev pub NoneBeginsAfter : ℕ → Disk → Type 0
NoneBeginsAfter last d = (name : FileName) (first : ℕ) → IsInRange name → first_in name ≡ Some first → last < first → d.file Current name ≡ None

-- all that was logged, up to this id, stands in whole segments
pub record Rests (version : Version) (list : Shared) (last : ℕ) (d : Disk) : Type 0 where
  pub has : d.has Current ≡ true
  pub logs : Logs version list last last d
  pub none : NoneBeginsAfter last d

-- ---- a disk with a segment behind the others

-- the bytes of a segment with these records: the header is written with the first of them
abbrev pub segment_text : ℤ → List Record → List ℕ
segment_text layout [] = []
segment_text layout (r ∷ rs) = header layout ++ spelled (r ∷ rs)

-- a file with the records `kept`, which a stop keeps, and behind them `more`, which it may tear
pub record IsSegment (layout : ℤ) (kept more : List Record) (f : File) : Type 0 where
  pub synced : f.synced ≡ segment_text layout kept
  pub whole : f.synced ++ f.pending ≡ segment_text layout (kept ++ more)

-- without this file
abbrev pub without : FileName → Disk → Disk
without name d = with_file d Current name None

-- Under this name stands a segment with the records after `last`; without it the disk rests at `last`.
pub record Writes (version : Version) (list : Shared) (last : ℕ) (kept more : List Record) (name : FileName) (d : Disk) : Type 0 where
  pub rests : Rests version list last (without name d)
  pub ranged : IsInRange name
  pub begins : first_in name ≡ Some (last + 1)
  pub within : (id : ℕ) → id ≤ last + length (kept ++ more) → IsWithin name id
  pub file : File
  pub stands : d.file Current name ≡ Some file
  pub segment : IsSegment version.layout kept more file
  pub small : length (segment_text version.layout (kept ++ more)) ≤ most_segment
  pub ids : AreFrom (last + 1) (kept ++ more)
  pub follows : Follows list last (kept ++ more)

-- ---- a segment that was ended

-- These records after `last` are a segment under its last name, that to `end`; without it the disk rests at `last`, so that none is in progress behind it.
pub record IsEnded (version : Version) (list : Shared) (last : ℕ) (kept : List Record) (end : ℕ) (d : Disk) : Type 0 where
  pub some : 1 ≤ length kept
  pub ends : end ≡ last + length kept
  pub writes : Writes version list last kept [] (Edits (last + 1, end)) d

-- The finalized segment from `first` to `end` has these records, all of it synced, and none is in progress under its first id.
pub record IsFinalized (layout : ℤ) (first end : ℕ) (records : List Record) (d : Disk) : Type 0 where
  pub whole : d.file Current (Edits (first, end)) ≡ certain (Some (segment_text layout records))
  pub gone : d.file Current (InProgress first) ≡ None

-- ---- what isn't touched

-- all but the files in `current` of which this is said is as it was
pub record Beside (touched : FileName → Type 0) (old d : Disk) : Type 0 where
  pub root : d.root ≡ old.root
  pub subs : (s : Sub) → d.has s ≡ old.has s
  pub other_subs : (s : Sub) (n : FileName) → s ≢ Current → d.file s n ≡ old.file s n
  pub other_files : (n : FileName) → ¬ touched n → d.file Current n ≡ old.file Current n

-- seen_txid, its .tmp, and each segment file that begins after this id
abbrev pub IsOfLog : ℕ → FileName → Type 0
IsOfLog base n = (n ≡ Seen) ⊎ (n ≡ SeenTmp) ⊎ ((first : ℕ) × (first_in n ≡ Some first) × (base < first))
