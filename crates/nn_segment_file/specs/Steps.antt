-- What the steps of one directory's segment in progress ask for, and what they give.
use Rattle.std.specs.Prelude.{◌≡◌, ◌⊎◌, ℕ, ◌+◌, ◌≤◌, List, [], ◌++◌, length, Result, OnOk, Some, None}
use Rattle.nn_base.specs.Limits.{most_segment}
use Rattle.nn_base.specs.declared.sub.Sub.TheVariants.{Current}
use Rattle.nn_base.specs.declared.file_name.FileName.TheVariants.{InProgress, Edits, Seen, SeenTmp}
use Rattle.nn_host.specs.Disk.{Disk, certain}
use Rattle.nn_host.specs.Moments.{State, disk_at}
use Rattle.nn_host.specs.Runs.{OnlyAt}
use Rattle.nn_marks.specs.declared.version.Version.{Version}
use Rattle.nn_marks.specs.Seen.{seen_text_of}
use Rattle.nn_record.specs.declared.transaction.Record.{Record}
use Rattle.nn_segment.specs.Segment.{AreFrom}
use Rattle.nn_segment_file.specs.Log.{Shared, Follows, Logs, Rests, Writes, IsEnded, Beside, IsOfLog, segment_text}

-- These records go on in the list behind those of the segment that begins with `first`, and these are the bytes that go behind its own.
pub record GoesOn (version : Version) (list : Shared) (last : ℕ) (kept new : List Record) (first : ℕ) (bytes : List ℕ) : Type 0 where
  pub begins : first ≡ last + 1
  pub some : 1 ≤ length new
  pub adds : segment_text version.layout (kept ++ new) ≡ segment_text version.layout kept ++ bytes
  pub ids : AreFrom (last + 1 + length kept) new
  pub follows : Follows list (last + length kept) new
  pub small : length (segment_text version.layout (kept ++ new)) ≤ most_segment

-- a segment is in progress behind this id, all of it synced, and seen_txid holds its first id, with no .tmp beside it
pub record IsGoing (version : Version) (list : Shared) (last : ℕ) (kept : List Record) (d : Disk) : Type 0 where
  pub writes : Writes version list last kept [] (InProgress (last + 1)) d
  pub seen : d.file Current Seen ≡ certain (Some (seen_text_of (last + 1)))
  pub tmp : d.file Current SeenTmp ≡ None

-- each fair stop leaves a chain that ends from lo to hi, and all but the log after `base` is as it was
pub record Logged (version : Version) (list : Shared) (base lo hi : ℕ) (old d : Disk) : Type 0 where
  pub logs : Logs version list lo hi d
  pub beside : Beside (IsOfLog base) old d

-- ---- records go behind the segment in progress

-- At each moment some of them are there.
abbrev pub WritesAtAnyMoment : Type 0 → ℕ → ℕ → List ℕ → State → State → Type 0
WritesAtAnyMoment told i first bytes old new = (version : Version) (list : Shared) (last : ℕ) (kept rs : List Record) → GoesOn version list last kept rs first bytes → (told → Writes version list last kept [] (InProgress first) (disk_at old i))
    → OnlyAt told i old new (Logged version list last (last + length kept) (last + length (kept ++ rs)) (disk_at old i))

-- Once it is done, they all are, synced.
abbrev pub HasWritten : {T E : Type 0} → ℕ → ℕ → List ℕ → State → State → Result T E → Type 0
HasWritten i first bytes old new result = (version : Version) (list : Shared) (last : ℕ) (kept rs : List Record) → GoesOn version list last kept rs first bytes → Writes version list last kept [] (InProgress first) (disk_at old i)
    → OnOk result (Writes version list last (kept ++ rs) [] (InProgress first) (disk_at new i))

-- ---- a segment is begun with its first records

abbrev pub StartsAtAnyMoment : Type 0 → ℕ → ℕ → List ℕ → State → State → Type 0
StartsAtAnyMoment told i first bytes old new = (version : Version) (list : Shared) (last : ℕ) (rs : List Record) → GoesOn version list last [] rs first bytes → (told → Rests version list last (disk_at old i))
    → OnlyAt told i old new (Logged version list last last (last + length rs) (disk_at old i))

-- At each moment seen_txid is as it was, or the segment stands there with all of them, synced.
abbrev pub StartsInTurn : Type 0 → ℕ → ℕ → List ℕ → State → State → Type 0
StartsInTurn told i first bytes old new = (version : Version) (list : Shared) (last : ℕ) (rs : List Record) → GoesOn version list last [] rs first bytes → (told → Rests version list last (disk_at old i))
    → OnlyAt told i old new (λ d. (d.file Current Seen ≡ (disk_at old i).file Current Seen) ⊎ Writes version list last rs [] (InProgress first) d)

-- Once it is done, they all are, synced, and seen_txid holds the first id.
abbrev pub HasStarted : {T E : Type 0} → ℕ → ℕ → List ℕ → State → State → Result T E → Type 0
HasStarted i first bytes old new result = (version : Version) (list : Shared) (last : ℕ) (rs : List Record) → GoesOn version list last [] rs first bytes → Rests version list last (disk_at old i)
    → OnOk result (IsGoing version list last rs (disk_at new i))

-- ---- a segment is ended with its last records

abbrev pub EndsAtAnyMoment : Type 0 → ℕ → ℕ → ℕ → List ℕ → State → State → Type 0
EndsAtAnyMoment told i first end bytes old new = (version : Version) (list : Shared) (last : ℕ) (kept rs : List Record) → GoesOn version list last kept rs first bytes → end ≡ last + length (kept ++ rs) → (told → Writes version list last kept [] (InProgress first) (disk_at old i))
    → OnlyAt told i old new (Logged version list last (last + length kept) end (disk_at old i))

-- At each moment nothing has the last name that hadn't, or the segment has it with all its records, synced.
abbrev pub EndsInTurn : Type 0 → ℕ → ℕ → ℕ → List ℕ → State → State → Type 0
EndsInTurn told i first end bytes old new = (version : Version) (list : Shared) (last : ℕ) (kept rs : List Record) → GoesOn version list last kept rs first bytes → end ≡ last + length (kept ++ rs) → (told → Writes version list last kept [] (InProgress first) (disk_at old i))
    → OnlyAt told i old new (λ d. (d.file Current (Edits (first, end)) ≡ (disk_at old i).file Current (Edits (first, end))) ⊎ Writes version list last (kept ++ rs) [] (Edits (first, end)) d)

-- Once it is done, the segment has its last name with all its records, synced.
abbrev pub HasEnded : {T E : Type 0} → ℕ → ℕ → ℕ → List ℕ → State → State → Result T E → Type 0
HasEnded i first end bytes old new result = (version : Version) (list : Shared) (last : ℕ) (kept rs : List Record) → GoesOn version list last kept rs first bytes → end ≡ last + length (kept ++ rs) → Writes version list last kept [] (InProgress first) (disk_at old i)
    → OnOk result (IsEnded version list last (kept ++ rs) end (disk_at new i))
