-- How far the records of a segment reach.
use Rattle.std.specs.Prelude.{◌≡◌, ◌≢◌, ℕ, ◌≤◌, List, ◌++◌, length, drop, Option}
use Rattle.nn_record.specs.declared.transaction.Record.{Record}
use Rattle.nn_record.specs.Spelling.{spelling, Begins, BeginsWithFrame}
use Rattle.nn_segment.specs.Segment.{AreFrom, spelled, last_id}

-- this record, which has this id, stands at the front, and has so many bytes
pub record IsNext (bytes : List ℕ) (id : ℕ) (r : Record) (len : ℕ) : Type 0 where
  pub id_is : r.id ≡ id
  pub begins : Begins bytes r (drop len bytes)
  pub len_is : len ≡ length (spelling r)

-- no record with this id stands at the front
abbrev pub NoneNext : List ℕ → ℕ → Type 0
NoneNext bytes id = (r : Record) (rest : List ℕ) → Begins bytes r rest → r.id ≢ id

-- bytes that begin with records from an id on
pub record BeginWith (bytes : List ℕ) (first : ℕ) (rs : List Record) : Type 0 where
  pub ids : AreFrom first rs
  pub after : List ℕ
  pub text : bytes ≡ spelled rs ++ after

-- and with no more of them
pub record IsWhole (bytes : List ℕ) (first : ℕ) (rs : List Record) : Type 0 where
  pub begin : BeginWith bytes first rs
  pub longest : (others : List Record) → BeginWith bytes first others → length others ≤ length rs

-- behind some records from an id on stands a whole frame
pub record ReachFrame (bytes : List ℕ) (first : ℕ) : Type 0 where
  pub rs : List Record
  pub begin : BeginWith bytes first rs
  pub frame : BeginsWithFrame begin.after

-- all records from an id on: the id of the last, and how many bytes they have
abbrev pub IsAll : List ℕ → ℕ → Option ℕ → ℕ → Type 0
IsAll bytes first last len = (rs : List Record) × IsWhole bytes first rs × (last ≡ last_id rs) × (len ≡ length (spelled rs))
