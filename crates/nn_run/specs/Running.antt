-- What the lines of a run's script do to the Book and the time, and what each is answered.
use Rattle.std.specs.Prelude.{◌≡◌, ◌↔◌, ℕ, ◌-◌, ◌^◌, ◌<◌, ◌≤◌, ◌==◌, nat_lt, Bool, true, false, ◌&&◌, List, [], ◌∷◌, ◌++◌, Some, None, Ok, Err, Option, Result, if◌then◌else◌}
use Rattle.nn_base.specs.Paths.{Bytes}
use Rattle.nn_pick.specs.Opening.{Book}
use Rattle.nn_script.specs.declared.answer.Answer.TheVariants.{Done, Later, NotRestored, Unread}
use Rattle.nn_script.specs.declared.answer.Unrestored.TheVariants as unrestored
use Rattle.nn_script.specs.declared.command.ScriptCommand.{ScriptCommand}
use Rattle.nn_script.specs.declared.command.ScriptCommand.TheVariants as command
use Rattle.nn_script.specs.declared.syntax.Syntax.{Syntax}
use Rattle.nn_script.specs.Reading.{reading_of}
use Rattle.nn_script.specs.Spelling.{answer_text, dir_lines}
use Rattle.nn_script.specs.Answers.{State, reply_to}

-- ---- what a run has come to, and what is seen at a line

-- a Book, and what time it is
pub record Running : Type 0 where
  pub book : Book
  pub now : ℕ

-- what comes of a line `restore` of a listed directory: it is taken back, or stays dropped for one of these reasons
pub data Restored : Type 0 where
  TakenBack : Restored
  Missing : Restored
  Inconsistent : Restored
  Failed : Restored

-- what is seen of the directories as a line is answered: which are live, how often each has failed, and what comes of it if it is a `restore`
pub record Sight : Type 0 where
  pub live : ℕ → Bool
  pub faults : ℕ → ℕ
  pub restored : Restored

-- a line, and what is seen at it
pub record Asked : Type 0 where
  pub line : Bytes
  pub sight : Sight

-- what is said, and what the run has come to then
pub record RunReply : Type 0 where
  pub text : Bytes
  pub after : Running

-- ---- commands and lines

-- where a script without directories would have come to
abbrev pub alone : Running → State
alone run = record { namespace = run.book.ns; now = run.now }

-- what a script without directories answers, and does to the namespace and the time
abbrev pub plainly : Running → ScriptCommand → RunReply
plainly run command = record {
  text = (reply_to (alone run) command).text;
  after = record { book = record { ns = (reply_to (alone run) command).after.namespace; saved = run.book.saved }; now = (reply_to (alone run) command).after.now };
}

abbrev pub unchanged : Bytes → Running → RunReply
unchanged text run = record { text = text; after = run }

abbrev pub restored_text : Restored → Bytes
restored_text TakenBack = answer_text Done
restored_text Missing = answer_text (NotRestored unrestored.Missing)
restored_text Inconsistent = answer_text (NotRestored unrestored.Inconsistent)
restored_text Failed = answer_text (NotRestored unrestored.Failed)

-- Over so many directories. What no run can do yet is answered so, and changes nothing.
abbrev pub reply_in : ℕ → Running → Sight → ScriptCommand → RunReply
reply_in count run sight (command.Namespace change) = plainly run (command.Namespace change)
reply_in count run sight (command.Clock time) = plainly run (command.Clock time)
reply_in count run sight (command.List path) = plainly run (command.List path)
reply_in count run sight command.Dirs = unchanged (dir_lines sight.live count ++ answer_text Done) run
reply_in count run sight command.Roll = unchanged (answer_text Done) run
reply_in count run sight command.Checkpoint = unchanged (answer_text Done) run
reply_in count run sight command.Finalize = unchanged (answer_text Later) run
reply_in count run sight (command.Restore dir) = unchanged (if nat_lt dir count then restored_text sight.restored else answer_text (NotRestored unrestored.NoSuchDir)) run

abbrev pub reply_read : ℕ → Running → Sight → Result (Option ScriptCommand) Syntax → RunReply
reply_read count run sight (Ok None) = unchanged [] run
reply_read count run sight (Ok (Some command)) = reply_in count run sight command
reply_read count run sight (Err fault) = unchanged (answer_text (Unread fault)) run

abbrev pub reply_at : ℕ → Running → Asked → RunReply
reply_at count run asked = reply_read count run asked.sight (reading_of asked.line)

abbrev pub after_asked : ℕ → Running → List Asked → Running
after_asked count run [] = run
after_asked count run (asked ∷ later) = after_asked count (reply_at count run asked).after later

-- ---- directories that are taken back

-- the directory that a line is to take back
abbrev pub restored_dir : Result (Option ScriptCommand) Syntax → Option ℕ
restored_dir (Ok (Some (command.Restore dir))) = Some dir
restored_dir reading = None

-- it is this one
abbrev pub is_dir : Option ℕ → ℕ → Bool
is_dir None i = false
is_dir (Some dir) i = i == dir

abbrev pub is_taken_back : Restored → Bool
is_taken_back TakenBack = true
is_taken_back restored = false

-- a directory that was taken back, and how often it had failed when that was answered
pub record Back : Type 0 where
  pub dir : ℕ
  pub faults : ℕ

-- the listed one that a line took back by what was seen at it
abbrev pub back_of : ℕ → Sight → Option ℕ → Option Back
back_of count sight None = None
back_of count sight (Some dir) = if nat_lt dir count && is_taken_back sight.restored then Some (record { dir = dir; faults = sight.faults dir }) else None

abbrev pub back_at : ℕ → Asked → Option Back
back_at count asked = back_of count asked.sight (restored_dir (reading_of asked.line))

-- it is this directory
abbrev pub is_back : Option Back → ℕ → Bool
is_back None i = false
is_back (Some back) i = i == back.dir

-- ---- which directories are live, by counts

-- the counts from which on directories are live: for one that was taken back, that at which it was
abbrev pub base_by : (ℕ → ℕ) → Option Back → ℕ → ℕ
base_by base None i = base i
base_by base (Some back) i = if i == back.dir then back.faults else base i

-- the same behind these lines
abbrev pub base_after : ℕ → (ℕ → ℕ) → List Asked → ℕ → ℕ
base_after count base [] i = base i
base_after count base (asked ∷ later) i = base_after count (λ j. base_by base (back_at count asked) j) later i

-- `live` says so of just those that haven't failed since these counts; of a count at its last value nothing is said
abbrev pub SeesLive : ℕ → (ℕ → ℕ) → Sight → Type 0
SeesLive count base sight = (i : ℕ) → i < count → base i < 2 ^ 64 - 1 → (sight.live i ≡ true) ↔ (sight.faults i ≤ base i)

-- at each of these lines it says so of those that haven't failed since the first of these counts, or since they were last taken back
abbrev pub SeeLive : ℕ → (ℕ → ℕ) → List Asked → Type 0
SeeLive count base seen = (before : List Asked) (asked : Asked) (later : List Asked) → seen ≡ before ++ asked ∷ later → SeesLive count (λ i. base_after count base (before ++ asked ∷ []) i) asked.sight
