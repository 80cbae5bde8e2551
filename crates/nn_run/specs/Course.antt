-- The course of a run: how it begins by what its directories hold, its commands, and what each stop leaves.
use Rattle.std.specs.Prelude.{◌≡◌, ◌≢◌, ◌⊎◌, ℕ, ◌+◌, ◌<◌, max, Bool, true, List, [], ◌∷◌, ◌++◌, codes, Some, None, if◌then◌else◌}
use Rattle.std.specs.Fmt.{decimal}
use Rattle.nn_base.specs.Paths.{Bytes}
use Rattle.nn_host.specs.Disk.{Reads, Settle, disk_after}
use Rattle.nn_host.specs.Moments.{Dir, Moment, State, Left, IsLawful, moment, disk_at}
use Rattle.nn_host.specs.Runs.{Throughout, EachDir}
use Rattle.nn_marks.specs.declared.version.Version.{Version}
use Rattle.nn_chain.specs.Folder.{Folder}
use Rattle.nn_chain.specs.Fair.{IsFairStop}
use Rattle.nn_pick.specs.declared.intent.Intent.{Intent}
use Rattle.nn_pick.specs.declared.intent.Intent.TheVariants.{Start, Upgrade, Rollback}
use Rattle.nn_pick.specs.Dirs.{Dirs, HasGreatestCtime, choice}
use Rattle.nn_pick.specs.Refusing.{HasServingPrevious}
use Rattle.nn_pick.specs.Opening.{Book, Opening}
use Rattle.nn_kept.specs.Laws.{KeptInto, SomeCounts, OpenInto}
use Rattle.nn_script.specs.Spelling.{line_of}
use Rattle.nn_run.specs.Running.{Running, Asked}
use Rattle.nn_run.specs.Window.{Answered, commands_of, text_of, whole_in, said_since, window_at, base_at, is_of_run, is_held, has_started}

-- ---- how a run begins

-- what the words of `run` ask for: whether to upgrade, what time it is at first, and after how many commands at most they are synced
pub record RunAsked : Type 0 where
  pub upgrade : Bool
  pub at : ℕ
  pub batch : ℕ

abbrev pub intent_of : RunAsked → Intent
intent_of asked = if asked.upgrade then Upgrade else Start

-- the directories of a run, as they read
abbrev pub dirs_of : State → Dirs
dirs_of s = record { count = s.count; at = s.reads }

-- the Book behind an upgrade, if one is asked for
abbrev pub begun_book : RunAsked → Book → Book
begun_book asked book = if asked.upgrade then record { ns = book.ns; saved = Some book.ns } else book

abbrev pub started_line : ℕ → Bytes
started_line last = line_of (codes "started" ∷ decimal last ∷ [])

abbrev pub upgraded_line : ℕ → Bytes
upgraded_line ctime = line_of (codes "upgraded" ∷ decimal ctime ∷ [])

-- what it says first: that it upgraded, to the cTime after this one, and that it started; this counts as a command that changes nothing
abbrev pub opening_of : RunAsked → ℕ → Opening → List Answered
opening_of asked ctime opened =
    (if asked.upgrade then record { text = upgraded_line (max asked.at (ctime + 1)); book = begun_book asked opened.book; back = None } ∷ [] else [])
    ++ record { text = started_line opened.last; book = begun_book asked opened.book; back = None } ∷ []

-- the Book at entry, what is said first, the commands of the script, and which directories were chosen and had a saved state ahead
pub record Course : Type 0 where
  pub batch : ℕ
  pub entry : Book
  pub opening : List Answered
  pub script : List Answered
  pub chosen : ℕ → Bool
  pub ahead : ℕ → Bool

abbrev pub commands : Course → List Answered
commands course = course.opening ++ course.script

-- what a run has come to as it starts
abbrev pub first_of : RunAsked → Opening → Running
first_of asked opened = record { book = begun_book asked opened.book; now = asked.at }

-- all that is said until these lines are answered
abbrev pub answers_of : RunAsked → ℕ → ℕ → Opening → List Asked → Bytes
answers_of asked count ctime opened lines = text_of (opening_of asked ctime opened ++ commands_of count (first_of asked opened) lines)

abbrev pub course_of : RunAsked → ℕ → ℕ → Opening → List Asked → (ℕ → Bool) → Course
course_of asked count ctime opened seen ahead = record {
  batch = asked.batch;
  entry = opened.book;
  opening = opening_of asked ctime opened;
  script = commands_of count (first_of asked opened) seen;
  chosen = opened.chosen;
  ahead = ahead;
}

-- a directory that has a saved state ahead: in an upgrade one that was chosen; else one that has a serving previous and the greatest cTime
abbrev pub IsAhead : Intent → Dirs → Opening → ℕ → Type 0
IsAhead Start dirs opened i = HasServingPrevious dirs i × (version : Version) × (folder : Folder) × HasGreatestCtime dirs i version folder
IsAhead Upgrade dirs opened i = opened.chosen i ≡ true
IsAhead Rollback dirs opened i = HasServingPrevious dirs i × (opened.chosen i ≡ true)

-- ---- what each stop leaves

-- the disk of each directory is as in this state, or settled
abbrev pub IsAsAtEntry : State → Moment → Type 0
IsAsAtEntry old = EachDir (λ i d. (d.disk ≡ disk_at old i) ⊎ (d.disk ≡ disk_after Settle (old.reads i) (disk_at old i)))

-- by the counts and the bytes of a moment, which directories are of the run, and which of them are holders
abbrev pub run_at : Course → State → Moment → ℕ → Dir → Bool
run_at course old m = is_of_run course.chosen (has_started course.opening old m) (λ i. base_at (commands course) old m i)

abbrev pub held_at : Course → State → Moment → ℕ → Dir → Bool
held_at course old m = is_held course.ahead course.chosen (has_started course.opening old m) old

abbrev pub run_window : Course → State → Moment → List Book
run_window course old m = window_at course.batch course.entry (commands course) old m

-- nothing was answered by this moment, not even that the run started, and the disks are as at entry or settled
pub record IsUnbegun (course : Course) (old : State) (m : Moment) : Type 0 where
  pub answered : whole_in (commands course) (said_since old m) ≡ 0
  pub disks : IsAsAtEntry old m

-- at this moment the run has not begun, or each directory is kept so that every choice with one of the run opens into the window
abbrev pub IsKeptInRun : Course → State → Moment → Type 0
IsKeptInRun course old m = IsUnbegun course old m ⊎ KeptInto (run_window course old) old.count (run_at course old) (held_at course old) m

-- from old to new each moment is so, where old is where the run begins
abbrev pub RunKept : Type 0 → Course → State → State → Type 0
RunKept told course old new = Throughout told old new (IsKeptInRun course old)

-- the same, as a stop finds it: each fair stop leaves what one at entry could leave, or directories of which every choice with one of the run opens into the window
abbrev pub RunStops : Course → State → State → Type 0
RunStops course old new = (m : Moment) (contents : ℕ → Reads) → Left new (moment old) contents m → IsFairStop old.count m contents
    → IsUnbegun course old m ⊎ ((n : ℕ) (numbers : ℕ → ℕ) → ((k : ℕ) → k < n → numbers k < old.count) → SomeCounts (run_at course old m) m n numbers
    → OpenInto (run_window course old m) (SomeCounts (held_at course old m) m n numbers) (choice contents n numbers))

-- ---- a law

-- what holds at each moment of a run is what a stop finds, where the first command has a text
abbrev pub RunKeptStops : Type 0
RunKeptStops = (course : Course) (a : Answered) (rest : List Answered) (old new : State) → commands course ≡ a ∷ rest → a.text ≢ [] → IsLawful old → RunKept (Unit {0}) course old new → RunStops course old new
