-- Which Books directories may open to, by the bytes said; and which directories are of the run, by their counts.
use Rattle.std.specs.Prelude.{◌≡◌, ◌≢◌, All, ℕ, suc, ◌-◌, ◌^◌, ◌≤◌, Bool, ◌&&◌, ◌||◌, nat_le, nat_lt, Option, List, [], ◌∷◌, ◌++◌, length, take, drop, map, if◌then◌else◌}
use Rattle.std.specs.List.{flat_map}
use Rattle.std.specs.Str.{bytes_eq}
use Rattle.nn_base.specs.Paths.{Bytes}
use Rattle.nn_host.specs.Moments.{Dir, Moment, State, faults_at}
use Rattle.nn_pick.specs.Opening.{Book}
use Rattle.nn_kept.specs.Laws.{IsPartOf}
use Rattle.nn_script.specs.Lines.{has_no_answer}
use Rattle.nn_run.specs.Running.{Running, Asked, Back, reply_at, after_asked, back_at, base_by, base_after}

-- ---- the window

-- a command: its answer, the Book after it, and the directory that it took back
pub record Answered : Type 0 where
  pub text : Bytes
  pub book : Book
  pub back : Option Back

-- the commands that these lines are: those lines that have an answer, taken or refused or without a reading
abbrev pub commands_of : ℕ → Running → List Asked → List Answered
commands_of count run [] = []
commands_of count run (asked ∷ later) =
    if has_no_answer asked.line then commands_of count run later
    else record { text = (reply_at count run asked).text; book = (reply_at count run asked).after.book; back = back_at count asked } ∷ commands_of count (reply_at count run asked).after later

-- all that is said to them
abbrev pub text_of : List Answered → Bytes
text_of commands = flat_map (λ a. a.text) commands

-- bytes begin with this text
abbrev pub begins_with : Bytes → Bytes → Bool
begins_with text bytes = bytes_eq (take (length text) bytes) text

-- how many of them have their whole answer among these bytes, one after the other from the first on; a last line is no answer
abbrev pub whole_in : List Answered → Bytes → ℕ
whole_in [] bytes = 0
whole_in (a ∷ later) bytes = if begins_with a.text bytes then suc (whole_in later (drop (length a.text) bytes)) else 0

-- the Books before and after them
abbrev pub books : Book → List Answered → List Book
books book commands = book ∷ map (λ a. a.book) commands

-- the Books after the first k of them, from those k whose answers are whole on, `batch` further
abbrev pub window : ℕ → Book → List Answered → Bytes → List Book
window batch book commands bytes = take (suc batch) (drop (whole_in commands bytes) (books book commands))

-- what was said by this moment, since this state
abbrev pub said_since : State → Moment → Bytes
said_since old m = drop (length old.now.said) m.said

abbrev pub window_at : ℕ → Book → List Answered → State → Moment → List Book
window_at batch book commands old m = window batch book commands (said_since old m)

-- ---- the directories of the run

-- no call on it failed since this count, which was below its last value
abbrev pub is_unfailed_since : ℕ → Dir → Bool
is_unfailed_since count d = nat_lt count (2 ^ 64 - 1) && nat_le d.faults count

-- no call on it failed since this state
abbrev pub is_unfailed : State → ℕ → Dir → Bool
is_unfailed old i d = is_unfailed_since (faults_at old i) d

-- the counts from which on directories are of the run, behind these commands
abbrev pub base_behind : (ℕ → ℕ) → List Answered → ℕ → ℕ
base_behind base [] i = base i
base_behind base (a ∷ later) i = base_behind (λ j. base_by base a.back j) later i

-- the counts from which on they are of a run that began at this state, behind these lines
abbrev pub base_since : State → List Asked → ℕ → ℕ
base_since old lines i = base_after old.count (λ j. faults_at old j) lines i

-- and at a moment: behind those commands whose whole answer was said
abbrev pub base_at : List Answered → State → Moment → ℕ → ℕ
base_at commands old m i = base_behind (λ j. faults_at old j) (take (whole_in commands (said_since old m)) commands) i

-- these, or once the run has started all that are listed, on which no call failed since these counts
abbrev pub is_of_run : (ℕ → Bool) → Bool → (ℕ → ℕ) → ℕ → Dir → Bool
is_of_run chosen started base i d = (started || chosen i) && is_unfailed_since (base i) d

-- the holders: those that had a saved state ahead, and on which no call failed since this state; one that was taken back has no saved part
abbrev pub is_held : (ℕ → Bool) → (ℕ → Bool) → Bool → State → ℕ → Dir → Bool
is_held ahead chosen started old i d = ahead i && ((started || chosen i) && is_unfailed old i d)

-- all of the opening was said by this moment
abbrev pub has_started : List Answered → State → Moment → Bool
has_started opening old m = begins_with (text_of opening) (said_since old m)

-- ---- laws: how windows of steps make that of a run

abbrev pub last_book : Book → List Answered → Book
last_book book [] = book
last_book book (a ∷ later) = last_book a.book later

-- once all of the first are said, the window is that over the others
abbrev pub WindowIsBehind : Type 0
WindowIsBehind = (batch : ℕ) (book : Book) (first later : List Answered) (bytes : Bytes) → window batch book (first ++ later) (text_of first ++ bytes) ≡ window batch (last_book book first) later bytes

-- the window of one command is part of that of a run that goes on with any others that have a text
abbrev pub StepIsInWindow : Type 0
StepIsInWindow = (batch : ℕ) (book : Book) (a : Answered) (later : List Answered) (n : ℕ) → All (λ other. other.text ≢ []) later → 1 ≤ batch
    → IsPartOf (window 1 book (a ∷ []) (take n a.text)) (window batch book (a ∷ later) (take n a.text))

-- the Book after a command is in its window at each moment of its answer
abbrev pub AfterIsInWindow : Type 0
AfterIsInWindow = (book : Book) (a : Answered) (n : ℕ) → IsPartOf (a.book ∷ []) (window 1 book (a ∷ []) (take n a.text))

-- the commands of some lines and then others
abbrev pub CommandsAppend : Type 0
CommandsAppend = (count : ℕ) (run : Running) (first later : List Asked) → commands_of count run (first ++ later) ≡ commands_of count run first ++ commands_of count (after_asked count run first) later

-- the Book that lines come to is the last of their commands
abbrev pub LastIsReached : Type 0
LastIsReached = (count : ℕ) (run : Running) (lines : List Asked) → (after_asked count run lines).book ≡ last_book run.book (commands_of count run lines)

-- each command has an answer
abbrev pub CommandsHaveText : Type 0
CommandsHaveText = (count : ℕ) (run : Running) (lines : List Asked) → All (λ a. a.text ≢ []) (commands_of count run lines)

-- behind the commands of lines the counts are those behind the lines
abbrev pub BaseIsBehind : Type 0
BaseIsBehind = (count : ℕ) (base : ℕ → ℕ) (run : Running) (lines : List Asked) (i : ℕ) → base_behind base (commands_of count run lines) i ≡ base_after count base lines i
