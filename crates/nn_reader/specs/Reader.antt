-- What a reader of lines has taken, and what it hands out.
use Rattle.std.specs.Prelude.{◌≡◌, ◌≢◌, ◌<◌, ◌≤◌, ◌+◌, ℕ, Bool, true, false, [], ◌∷◌, ◌++◌, length, if◌then◌else◌}
use Rattle.std.specs.List.{slice_range}
use Rattle.std.specs.Str.Lines.{strip_carriage_return}
use Rattle.nn_base.specs.Paths.{Bytes}
use Rattle.nn_reader.specs.declared.reader.LineReader.{LineReader}
use Rattle.nn_reader.specs.declared.reader.Next.{Next}
use Rattle.nn_reader.specs.declared.reader.Next.TheVariants.{Line, Last, End, TooLong}
use Rattle.nn_reader.specs.Reading.{IsUnended, front_of}

-- the bytes that were taken from the source and not yet read
abbrev pub ahead : LineReader → Bytes
ahead reader = slice_range reader.chunk.items reader.at reader.end

-- how many bytes the lines to come may have in all
abbrev pub budget : LineReader → ℕ
budget reader = length (ahead reader) + reader.room

-- ---- what was read of the bytes before, where a source that tells has the bytes after left

-- a line with its newline, less one carriage return right before that
pub record EndedLine (told : Type 0) (before after : Bytes) (budget_before budget_after : ℕ) (line : Bytes) : Type 0 where
  pub body : Bytes
  pub unended : IsUnended body
  pub is : line ≡ strip_carriage_return (front_of body)
  pub bytes : told → before ≡ body ++ 10 ∷ after
  pub budget : length body + 1 + budget_after ≡ budget_before

-- all that was left, as one line without a newline
pub record LastLine (told : Type 0) (before after : Bytes) (budget_before budget_after : ℕ) (line : Bytes) : Type 0 where
  pub body : Bytes
  pub unended : IsUnended body
  pub some : body ≢ []
  pub is : line ≡ front_of body
  pub bytes : told → before ≡ body
  pub none : told → after ≡ []
  pub budget : length body + budget_after ≡ budget_before

-- there was nothing
pub record NoLine (told : Type 0) (before after : Bytes) : Type 0 where
  pub bytes : told → before ≡ []
  pub none : told → after ≡ []

-- no newline is among as many bytes as the lines may have, and there are more
pub record PastBudget (told : Type 0) (before after : Bytes) (budget_before : ℕ) : Type 0 where
  pub body : Bytes
  pub byte : ℕ
  pub unended : IsUnended body
  pub bytes : told → before ≡ body ++ byte ∷ after
  pub whole : length body ≡ budget_before

abbrev pub IsNextLine : Type 0 → Next → Bytes → Bytes → ℕ → ℕ → Bytes → Type 0
IsNextLine told Line before after budget_before budget_after line = EndedLine told before after budget_before budget_after line
IsNextLine told Last before after budget_before budget_after line = LastLine told before after budget_before budget_after line
IsNextLine told End before after budget_before budget_after line = NoLine told before after
IsNextLine told TooLong before after budget_before budget_after line = PastBudget told before after budget_before

-- the source failed, and no newline was among the bytes that were taken and not handed out
pub record Stopped (told : Type 0) (before left : Bytes) (budget_before : ℕ) : Type 0 where
  pub body : Bytes
  pub unended : IsUnended body
  pub bytes : told → before ≡ body ++ left
  pub within : length body ≤ budget_before

-- ---- the parts of a line

-- a part was read, with its newline if it ended with one, and else all that was taken
pub record PartRead (ended : Bool) (ahead_before ahead_after line_before line_after : Bytes) : Type 0 where
  pub part : Bytes
  pub unended : IsUnended part
  pub ahead : ahead_before ≡ part ++ (if ended then 10 ∷ ahead_after else ahead_after)
  pub all : ended ≡ false → ahead_after ≡ []
  pub is : line_after ≡ front_of (line_before ++ part)

-- so far a line has no newline
pub record HasRead (told : Type 0) (before after : Bytes) (budget_before budget_after : ℕ) (line : Bytes) : Type 0 where
  pub body : Bytes
  pub unended : IsUnended body
  pub is : line ≡ front_of body
  pub bytes : told → before ≡ body ++ after
  pub budget : length body + budget_after ≡ budget_before

-- a chunk was taken; none, where there was none
pub record Refilled (told : Type 0) (some : Bool) (left_before left_after ahead : Bytes) (room_before room_after : ℕ) : Type 0 where
  pub bytes : told → left_before ≡ ahead ++ left_after
  pub none : told → some ≡ false → left_before ≡ []
  pub fewer : some ≡ true → room_after < room_before
  pub room : length ahead + room_after ≡ room_before
  pub empty : some ≡ false → ahead ≡ []
