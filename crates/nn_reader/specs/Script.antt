-- How far a script was read, and which of its lines were read whole.
use Rattle.std.specs.Prelude.{◌≡◌, ◌+◌, ◌≤◌, nat_le, ℕ, List, [], ◌++◌, length, take, if◌then◌else◌}
use Rattle.nn_base.specs.Limits.{most_script}
use Rattle.nn_base.specs.Paths.{Bytes}
use Rattle.nn_host.specs.Calls.{next_count}
use Rattle.nn_script.specs.Lines.{lines_of, ended_lines}

-- how far: to its end; to the most bytes that a script may have, behind which it goes on; until its source failed; or on its way, whoever reads it left off for another reason
pub data Reached : Type 0 where
  AtEnd : Reached
  TooLong : Reached
  SourceFailed : Reached
  OnTheWay : Reached

-- the lines that are due an answer: all of a script, or of one that is too long those that end within the bytes that it may have
abbrev pub due_lines : Bytes → List Bytes
due_lines script = if nat_le (length script) most_script then lines_of script else ended_lines (take most_script script)

-- the lines that were read whole of a script of which so much was taken: all, where it was read to its end; those that end within
-- the bytes that it may have, where it is too long; those that end within what was taken, where the source failed; and else some
-- first ones of those that are due
abbrev pub AreRead : Bytes → Bytes → Reached → List Bytes → Type 0
AreRead script taken AtEnd lines = lines ≡ lines_of script
AreRead script taken TooLong lines = lines ≡ ended_lines (take most_script script)
AreRead script taken SourceFailed lines = lines ≡ ended_lines taken
AreRead script taken OnTheWay lines = (later : List Bytes) × (due_lines script ≡ lines ++ later)

-- how many bytes were taken: at most as many as a script may have, or one more where it is too long
abbrev pub FitsTaken : ℕ → Reached → Type 0
FitsTaken size TooLong = size ≡ most_script + 1
FitsTaken size reached = size ≤ most_script

-- what a source that tells has left: nothing, where its script was read to its end
abbrev pub IsLeft : Bytes → Reached → Type 0
IsLeft left AtEnd = left ≡ []
IsLeft left reached = Unit {0}

-- whether the source's count rose
abbrev pub source_counts : ℕ → Reached → ℕ
source_counts before SourceFailed = next_count before
source_counts before reached = before

-- what a source that tells adds: the bytes and the lines are those of its script
pub record OfScript (script left taken : Bytes) (lines : List Bytes) (reached : Reached) : Type 0 where
  pub split : script ≡ taken ++ left
  pub rest : IsLeft left reached
  pub lines_are : AreRead script taken reached lines

-- a script was read so far from a source that had this script, and of which so much is left: these bytes were taken, and these lines of them read whole
pub record ScriptRead (told : Type 0) (script left : Bytes) (before after : ℕ) (reached : Reached) (lines : List Bytes) : Type 0 where
  pub taken : Bytes
  pub fits : FitsTaken (length taken) reached
  pub lines_are : AreRead taken taken reached lines
  pub of_script : told → OfScript script left taken lines reached
  pub counted : after ≡ source_counts before reached
