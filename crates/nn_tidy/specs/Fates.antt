-- What becomes of each file of `current`, by its name and by what was read of it.
use Rattle.std.specs.Prelude.{◌≡◌, ◌≢◌, ℕ, ℤ, Bool, true, ◌||◌, List, Contains, Option, Some, None}
use Rattle.nn_base.specs.declared.file_name.FileName.{FileName}
use Rattle.nn_base.specs.declared.file_name.FileName.TheVariants.{Edits, InProgress}
use Rattle.nn_base.specs.FileText.{IsInRange}
use Rattle.nn_record.specs.declared.transaction.Record.{Record}
use Rattle.nn_segment.specs.Segment.{AreFrom, last_id}
use Rattle.nn_chain.specs.Folder.{Folder}
use Rattle.nn_chain.specs.Records.{first_in, IsWithin, HoldsRecord}
use Rattle.nn_remake.specs.Removing.{is_later_image}
use Rattle.nn_remake.specs.Tidying.{is_unnamed, IsBeyond, GetsName, GetsNone, Goes}
use Rattle.nn_tidy.specs.declared.fate.Fate.{Fate}
use Rattle.nn_tidy.specs.declared.fate.Fate.TheVariants.{Stays, Loose, Beyond, Ends}

-- The records of the segment file that begins with `first`: as many as its name allows it, up to the one of this id; there are none where there is no such id.
pub record ReadTo (folder : Folder) (layout : ℤ) (n : FileName) (first : ℕ) (last : Option ℕ) : Type 0 where
  pub run : List Record
  pub ids : AreFrom first run
  pub last_is : last ≡ last_id run
  pub holds : IsInRange n → first_in n ≡ Some first → (r : Record) → Contains run r → IsWithin n r.id → HoldsRecord folder layout n r
  pub only : first_in n ≡ Some first → (r : Record) → HoldsRecord folder layout n r → Contains run r

-- the name of a finalized segment, if no file has it
abbrev pub IsFreeName : Folder → ℕ × ℕ → Option FileName → Type 0
IsFreeName folder span None = folder (Edits span) ≢ None
IsFreeName folder span (Some to) = (folder (Edits span) ≡ None) × (to ≡ Edits span)

-- the name alone says that it goes
abbrev pub is_loose : ℕ → FileName → Bool
is_loose id n = is_unnamed n || is_later_image id n

-- a segment in progress, not beyond the id: the name that it gets, if it gets one
abbrev pub IsEnding : Folder → ℤ → ℕ → FileName → Option FileName → Type 0
IsEnding folder layout id n None = ¬ IsBeyond folder layout id n × GetsNone folder layout id n
IsEnding folder layout id n (Some to) = ¬ IsBeyond folder layout id n × ((first : ℕ) × (last : ℕ) × (n ≡ InProgress first) × (to ≡ Edits (first, last)) × GetsName folder layout id first last)

abbrev pub IsFate : Folder → ℤ → ℕ → FileName → Fate → Type 0
IsFate folder layout id n Stays = ¬ Goes folder layout id n × ((first : ℕ) → n ≢ InProgress first)
IsFate folder layout id n Loose = is_loose id n ≡ true
IsFate folder layout id n Beyond = IsBeyond folder layout id n
IsFate folder layout id n (Ends to) = IsEnding folder layout id n to
