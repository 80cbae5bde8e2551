-- A segment in progress that is held in memory.
use Rattle.std.specs.Prelude.{◌≡◌, ℕ, ◌+◌, ◌<◌, ◌≤◌, ℤ, Bool, true, List, ◌++◌, length, drop, Some, Contains}
use Rattle.nn_base.specs.Limits.{most_segment_read}
use Rattle.nn_base.specs.declared.file_name.FileName.TheVariants.{InProgress}
use Rattle.nn_record.specs.declared.transaction.Record.{Record}
use Rattle.nn_segment.specs.Segment.{AreFrom, spelled, IsIntactRun, last_id}
use Rattle.nn_chain.specs.Chain.{Reached}
use Rattle.nn_chain.specs.Folder.{Folder}
use Rattle.nn_load.specs.declared.held.Held.{Held}
use Rattle.nn_load.specs.Replaying.{AreReplayed}

-- its last record has this id
pub record EndsWith (bytes : List ℕ) (layout : ℤ) (first last : ℕ) : Type 0 where
  pub run : List Record
  pub intact : IsIntactRun bytes layout first run
  pub last_is : last_id run ≡ Some last

-- Behind the header stand records from the first id on, up to the one before the next, with so many bytes.
pub record AreWalked (bytes : List ℕ) (first end next : ℕ) : Type 0 where
  pub rs : List Record
  pub ids : AreFrom first rs
  pub text : drop 8 bytes ≡ spelled rs ++ drop end (drop 8 bytes)
  pub len : end ≡ length (spelled rs)
  pub count : next ≡ first + length rs

-- It has a last record, and so many of its records were gone over.
pub record IsGoneOver (held : Held) : Type 0 where
  pub ends : EndsWith held.bytes.items held.layout held.first held.last
  pub walked : AreWalked held.bytes.items held.first held.end held.next

-- the file of a folder that it was read from
abbrev pub IsOf : Folder → ℤ → Held → Type 0
IsOf folder layout held = (folder (InProgress held.first) ≡ Some held.bytes.items) × (length held.bytes.items ≤ most_segment_read) × (held.layout ≡ layout)

-- none of its records was gone over
abbrev pub IsFresh : ℕ → Held → Type 0
IsFresh first held = (held.first ≡ first) × (held.next ≡ first) × IsGoneOver held

-- Its records were replayed up to this id, as long as they fit: all that come, where the last was gone over.
pub record WasReplayed (old new : Held) (until : ℕ) (start end : Reached) (fit : Bool) : Type 0 where
  pub run : List Record
  pub intact : IsIntactRun old.bytes.items old.layout old.first run
  pub replayed : AreReplayed (Contains run) until start end fit
  pub spent : fit ≡ true → new.last < new.next → (r : Record) → Contains run r → r.id ≤ end.last
  pub stops : fit ≡ true → new.next ≤ new.last → end.last ≡ until
  pub near : fit ≡ true → new.next ≤ end.last + 1
  pub within : (start.last ≤ end.last) × (end.last ≤ until)
  pub gone_over : IsGoneOver new
  pub same : (new.first ≡ old.first) × (new.bytes.items ≡ old.bytes.items) × (new.layout ≡ old.layout)
