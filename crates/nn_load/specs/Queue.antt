-- What is left to read of a listing: two queues, in the order of their names, of finalized segments and of those in progress.
use Rattle.std.specs.Prelude.{◌≡◌, ◌⊎◌, ◌<◌, ◌≤◌, ℕ, ℤ, List, length, slice_index_or}
use Rattle.nn_base.specs.declared.file_name.FileName.{FileName}
use Rattle.nn_base.specs.declared.file_name.FileName.TheVariants.{Edits, InProgress}
use Rattle.nn_base.specs.FileText.{IsInRange}
use Rattle.nn_host.specs.Listing.{IsBefore}
use Rattle.nn_record.specs.declared.transaction.Record.{Record}
use Rattle.nn_chain.specs.Folder.{Folder}
use Rattle.nn_chain.specs.Records.{HoldsRecord}
use Rattle.nn_load.specs.Segments.{IsSpent}

-- this name stands at this place
pub record StandsAt (names : List FileName) (k : ℕ) (name : FileName) : Type 0 where
  pub below : k < length names
  pub is : slice_index_or names k name ≡ name

-- ---- the first that is left

-- between the two places each finalized segment ends by this id
abbrev pub EndBy : List FileName → ℕ → ℕ → ℕ → Type 0
EndBy names from to last = (j : ℕ) (span : ℕ × ℕ) → from ≤ j → j < to → StandsAt names j (Edits span) → span.1 ≤ last

pub record IsNextFinalized (names : List FileName) (from last k : ℕ) (span : ℕ × ℕ) : Type 0 where
  pub from_on : from ≤ k
  pub ranged : IsInRange (Edits span)
  pub stands : StandsAt names k (Edits span)
  pub after : last < span.1
  pub before : EndBy names from k last

abbrev pub HasNoFinalized : List FileName → ℕ → ℕ → Type 0
HasNoFinalized names from last = EndBy names from (length names) last

-- between the two places no segment is in progress
abbrev pub NoneInProgress : List FileName → ℕ → ℕ → Type 0
NoneInProgress names from to = (j first : ℕ) → from ≤ j → j < to → ¬ StandsAt names j (InProgress first)

pub record IsNextInProgress (names : List FileName) (from k first : ℕ) : Type 0 where
  pub from_on : from ≤ k
  pub ranged : IsInRange (InProgress first)
  pub stands : StandsAt names k (InProgress first)
  pub before : NoneInProgress names from k

abbrev pub HasNoInProgress : List FileName → ℕ → Type 0
HasNoInProgress names from = NoneInProgress names from (length names)

-- ---- the queues

-- From these two places on the listing is left to read: no segment before them holds a record of a later id.
pub record AreLeft (folder : Folder) (layout : ℤ) (names : List FileName) (finalized in_progress last : ℕ) : Type 0 where
  pub finalized_spent : (j : ℕ) (span : ℕ × ℕ) → j < finalized → StandsAt names j (Edits span) → IsSpent folder layout last (Edits span)
  pub in_progress_spent : (j first : ℕ) → j < in_progress → StandsAt names j (InProgress first) → IsSpent folder layout last (InProgress first)

-- No finalized segment from this place on holds a record of an id that comes after `last`, up to `until`.
abbrev pub HasGap : List FileName → ℕ → ℕ → ℕ → Type 0
HasGap names from last until = (j : ℕ) (span : ℕ × ℕ) → from ≤ j → IsInRange (Edits span) → StandsAt names j (Edits span) → (span.1 ≤ last) ⊎ (until < span.0)

-- The records of this file come first, from those after `last` up to `until`: no file before it holds one of them.
pub record ComesFirst (folder : Folder) (layout : ℤ) (last until : ℕ) (name : FileName) : Type 0 where
  pub none : (other : FileName) (r : Record) → IsBefore other name → last < r.id → r.id ≤ until → ¬ HoldsRecord folder layout other r
