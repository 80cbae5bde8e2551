-- Segment files: which of their records are wanted, and what is left of a folder's to read.
use Rattle.std.specs.Prelude.{◌≡◌, ◌<◌, ◌≤◌, ℕ, ℤ, Some}
use Rattle.nn_base.specs.declared.file_name.FileName.{FileName}
use Rattle.nn_base.specs.FileText.{IsInRange}
use Rattle.nn_record.specs.declared.transaction.Record.{Record}
use Rattle.nn_chain.specs.Folder.{Folder}
use Rattle.nn_chain.specs.Records.{first_in, IsWithin, HoldsRecord}

-- The segment file of this name begins with the record of this id, and may hold each record up to the other id.
pub record IsPart (name : FileName) (first until : ℕ) : Type 0 where
  pub ranged : IsInRange name
  pub begins : first_in name ≡ Some first
  pub within : (id : ℕ) → id ≤ until → IsWithin name id

-- The file holds no record of a later id.
abbrev pub IsSpent : Folder → ℤ → ℕ → FileName → Type 0
IsSpent folder layout last name = (r : Record) → last < r.id → ¬ HoldsRecord folder layout name r
