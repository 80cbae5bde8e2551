-- A segment of the edit log: a header that says its layout, and records one after the other.
use Rattle.std.specs.Prelude.{◌≡◌, ℕ, ◌+◌, ◌≤◌, ℤ, Bool, List, [], ◌∷◌, ◌++◌, length, nat_eq, Option, Some, None, if◌then◌else◌}
use Rattle.std.specs.Int.{w32, to_be_bytes, cast_unsigned}
use Rattle.std.specs.List.{flat_map, starts_with}
use Rattle.nn_record.specs.declared.transaction.Record.{Record}
use Rattle.nn_record.specs.Spelling.{spelling, IsRecord, BeginsWithFrame}

-- the layout, a signed number of four bytes with the highest first, and four zero bytes
unfoldable pub header : ℤ → List ℕ
header layout = to_be_bytes w32 (cast_unsigned w32 layout) ++ 0 ∷ 0 ∷ 0 ∷ 0 ∷ []

unfoldable pub has_header : List ℕ → ℤ → Bool
has_header bytes layout = starts_with nat_eq bytes (header layout)

-- the spellings of records, one after the other
unfoldable pub spelled : List Record → List ℕ
spelled rs = flat_map spelling rs

-- records with this id, the next one and so on
abbrev pub AreFrom : ℕ → List Record → Type 0
AreFrom id [] = Unit {0}
AreFrom id (r ∷ rs) = (r.id ≡ id) × IsRecord r × AreFrom (id + 1) rs

-- A run: no record, or records from the first id on that follow the header, whatever follows them.
abbrev pub IsRun : List ℕ → ℤ → ℕ → List Record → Type 0
IsRun bytes layout first [] = Unit {0}
IsRun bytes layout first (r ∷ rs) = AreFrom first (r ∷ rs) × (after : List ℕ) × (bytes ≡ header layout ++ spelled (r ∷ rs) ++ after)

-- the intact run: a run, and none is longer
pub record IsIntactRun (bytes : List ℕ) (layout : ℤ) (first : ℕ) (rs : List Record) : Type 0 where
  pub run : IsRun bytes layout first rs
  pub longest : (others : List Record) → IsRun bytes layout first others → length others ≤ length rs

-- bytes have one intact run
abbrev pub OneIntactRun : Type 0
OneIntactRun = (bytes : List ℕ) (layout : ℤ) (first : ℕ) (rs others : List Record) → IsIntactRun bytes layout first rs → IsIntactRun bytes layout first others → rs ≡ others

-- The header has the layout, and behind it and some records from the first id on stands a whole frame.
pub record ReachesFrame (bytes : List ℕ) (layout : ℤ) (first : ℕ) : Type 0 where
  pub rs : List Record
  pub after : List ℕ
  pub ids : AreFrom first rs
  pub text : bytes ≡ header layout ++ spelled rs ++ after
  pub frame : BeginsWithFrame after

-- ---- what is told of a run

-- the id of the last record
abbrev pub last_id : List Record → Option ℕ
last_id [] = None
last_id (r ∷ []) = Some r.id
last_id (r ∷ s ∷ rs) = last_id (s ∷ rs)

-- the place after the last record, or after the header where there is no record; 0 without that header
abbrev pub end_of : List ℕ → ℤ → List Record → ℕ
end_of bytes layout rs = if has_header bytes layout then 8 + length (spelled rs) else 0
