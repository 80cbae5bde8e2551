-- What a journal keeps in mind, when its live directories stand so, and what a call makes of both.
use Rattle.std.specs.Prelude.{◌≡◌, ℕ, ◌+◌, ◌<◌, ◌≤◌, ◌-◌, ◌^◌, Bool, true, false, List, [], ◌∷◌, length, vec_len, vec_capacity}
use Rattle.nn_base.specs.DirSets.{Members}
use Rattle.nn_base.specs.Limits.{most_segment}
use Rattle.nn_host.specs.Moments.{State}
use Rattle.nn_host.specs.Runs.{Unspoken}
use Rattle.nn_marks.specs.declared.version.Version.{Version}
use Rattle.nn_record.specs.declared.op.Op.TheVariants.{EndLogSegment, StartLogSegment}
use Rattle.nn_record.specs.declared.transaction.Record.{Record}
use Rattle.nn_segment.specs.Segment.{header, spelled, AreFrom}
use Rattle.nn_segment_file.specs.Log.{Shared, Follows, segment_text}
use Rattle.nn_segment_file.specs.Stages.{Stage, Ended, Going}
use Rattle.nn_journal.specs.Among.{AllAt, EachCounted, LeavesAlone}
use Rattle.nn_journal.specs.Carried.{Carried}
use Rattle.nn_journal.specs.declared.journal.JournalSet.{JournalSet}

-- ---- limits, in bytes

-- of the records that were logged and not yet synced
abbrev pub most_buffer : ℕ
most_buffer = 2 ^ 20

-- a segment above this is ended by the sync that made it so: what a buffer adds and its last record still fit
abbrev pub full_segment : ℕ
full_segment = most_segment - most_buffer - 64

-- room for its last record
abbrev pub most_unended : ℕ
most_unended = most_segment - 64

-- ---- what a journal keeps in mind

-- whether a segment is in progress; the header of segments; its first id, the last id given, and the bytes that are synced of it
pub record Place : Type 0 where
  pub going : Bool
  pub head : List ℕ
  pub first : ℕ
  pub last : ℕ
  pub size : ℕ

abbrev pub place_of : JournalSet → Place
place_of j = record { going = j.going; head = j.header; first = j.first; last = j.last; size = j.size }

-- A journal has its buffer, which no call of it makes larger, and a segment that isn't full.
abbrev pub IsFit : JournalSet → Type 0
IsFit j = (most_buffer ≤ vec_capacity j.buffer) × (vec_len j.buffer ≤ most_buffer) × (j.first ≤ j.last + 1) × (j.going ≡ true → j.first ≤ j.last) × (j.size ≤ full_segment)

-- ---- the marks of a segment

abbrev pub end_record : ℕ → Record
end_record id = record { id = id; op = EndLogSegment }

abbrev pub start_record : ℕ → Record
start_record id = record { id = id; op = StartLogSegment }

-- a segment that is in progress has its mark first
abbrev pub IsMarked : Stage → Type 0
IsMarked (Ended last) = Unit {0}
IsMarked (Going base kept) = (rest : List Record) × (kept ≡ start_record (base + 1) ∷ rest)

-- nothing but marks of segments comes after this id in the list
abbrev pub IsSteady : Shared → ℕ → Type 0
IsSteady list last = (n : ℕ) → last ≤ n → list (n + 1) ≡ list n

-- ---- when directories stand as the journal has it in mind

-- A segment is in progress behind `base`, with the records `kept`. Behind them others were logged, up to the last id, and these are their bytes.
pub record IsInProgress (version : Version) (list : Shared) (base : ℕ) (kept logged : List Record) (bytes : List ℕ) (place : Place) : Type 0 where
  pub going : place.going ≡ true
  pub head : header version.layout ≡ place.head
  pub first : place.first ≡ base + 1
  pub last : place.last ≡ base + length kept + length logged
  pub some : 1 ≤ length kept
  pub size : place.size ≡ length (segment_text version.layout kept)
  pub text : bytes ≡ spelled logged
  pub ids : AreFrom (base + 1 + length kept) logged
  pub follows : Follows list (base + length kept) logged
  pub steady : IsSteady list place.last

-- no segment is in progress, and the last one ended here
pub record IsBetween (version : Version) (list : Shared) (end : ℕ) (place : Place) : Type 0 where
  pub going : place.going ≡ false
  pub head : header version.layout ≡ place.head
  pub last : place.last ≡ end
  pub steady : IsSteady list end

-- with an empty buffer the journal has this stage in mind
abbrev pub Matches : Version → Shared → Stage → Place → Type 0
Matches version list (Ended end) place = IsBetween version list end place
Matches version list (Going base kept) place = IsInProgress version list base kept [] [] place

-- ---- what a call makes of both

-- The live directories came from one stage to the one that the journal has in mind now. A segment that was begun has its mark first.
pub record HasCome (told : Type 0) (version : Version) (list : Shared) (from : Stage) (place : Place) (below : ℕ) (holders old_live live : Members) (old new : State) : Type 0 where
  pub to : Stage
  pub matches : Matches version list to place
  pub marked : IsMarked from → IsMarked to
  pub carried : Carried told version list from to below holders old_live live old new

-- whatever stage they stand at as the journal has it in mind: those that are dropped end at `below` or before
abbrev pub Brings : Type 0 → Place → Place → ℕ → Members → Members → Members → State → State → Type 0
Brings told old_place place below holders old_live live old new = (version : Version) (list : Shared) (from : Stage) → Matches version list from old_place → (told → AllAt version list from old_live old)
    → HasCome told version list from place below holders old_live live old new

-- the same where records were logged
abbrev pub BringsLogged : Type 0 → List ℕ → Place → Place → ℕ → Members → Members → Members → State → State → Type 0
BringsLogged told bytes old_place place below holders old_live live old new = (version : Version) (list : Shared) (base : ℕ) (kept logged : List Record) → IsInProgress version list base kept logged bytes old_place → (told → AllAt version list (Going base kept) old_live old)
    → HasCome told version list (Going base kept) place below holders old_live live old new

-- those that are dropped end strictly below the last id, at which the live ones stand
abbrev pub BringsAhead : Type 0 → Place → Place → Members → Members → Members → State → State → Type 0
BringsAhead told old_place place holders old_live live old new = (version : Version) (list : Shared) (from : Stage) → Matches version list from old_place → (told → AllAt version list from old_live old)
    → (below : ℕ) × (below < place.last) × HasCome told version list from place below holders old_live live old new

abbrev pub BringsLoggedAhead : Type 0 → List ℕ → Place → Place → Members → Members → Members → State → State → Type 0
BringsLoggedAhead told bytes old_place place holders old_live live old new = (version : Version) (list : Shared) (base : ℕ) (kept logged : List Record) → IsInProgress version list base kept logged bytes old_place → (told → AllAt version list (Going base kept) old_live old)
    → (below : ℕ) × (below < place.last) × HasCome told version list (Going base kept) place below holders old_live live old new

-- Whatever the directories held: each is live where it was and no call on it failed; one that isn't live isn't touched, nor is one in which a call has failed; and nothing was said.
pub record Went (told : Type 0) (old_live live : Members) (old new : State) : Type 0 where
  pub counted : EachCounted old_live old_live live old new
  pub left : LeavesAlone told old_live old new
  pub quiet : Unspoken told old new
