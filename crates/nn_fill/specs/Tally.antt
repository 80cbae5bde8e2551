-- A run whose commands are answered together: none by itself, and all of them by one line that counts them.
use Rattle.std.specs.Prelude.{ℕ, ◌+◌, Bool, List, [], ◌∷◌, length, map, codes, None}
use Rattle.std.specs.List.{filter}
use Rattle.std.specs.Fmt.{decimal}
use Rattle.std.specs.Str.{bytes_eq}
use Rattle.nn_base.specs.Paths.{Bytes}
use Rattle.nn_pick.specs.Opening.{Opening}
use Rattle.nn_script.specs.declared.answer.Answer.TheVariants.{Done}
use Rattle.nn_script.specs.Spelling.{answer_text, line_of}
use Rattle.nn_run.specs.Running.{Asked}
use Rattle.nn_run.specs.Window.{Answered, commands_of}
use Rattle.nn_run.specs.Course.{RunAsked, Course, first_of, opening_of}

-- ---- the line that counts them

-- a command that was taken is one that would be answered `ok`
abbrev pub is_taken : Answered → Bool
is_taken command = bytes_eq command.text (answer_text Done)

abbrev pub taken_of : List Answered → ℕ
taken_of commands = length (filter is_taken commands)

-- `commands C ok O`: how many commands there were, and how many of them were taken
abbrev pub count_line : ℕ → ℕ → Bytes
count_line commands taken = line_of (codes "commands" ∷ decimal commands ∷ codes "ok" ∷ decimal taken ∷ [])

abbrev pub tally_of : List Answered → Bytes
tally_of commands = count_line (length commands) (taken_of commands)

-- ---- commands that are answered together

-- the same commands without an answer; a change takes no directory back
abbrev pub silent : List Answered → List Answered
silent commands = map (λ command. record { text = []; book = command.book; back = None }) commands

-- The answer of the first is this text, and the others have none: so none of them counts as answered before all of it was said, and all do from then on.
abbrev pub together : Bytes → List Answered → List Answered
together text [] = []
together text (command ∷ later) = record { text = text; book = command.book; back = None } ∷ silent later

-- ---- the course of such a run

-- the commands that these lines are in a run of these words that opened so
abbrev pub commands_by : RunAsked → ℕ → Opening → List Asked → List Answered
commands_by asked count opened lines = commands_of count (first_of asked opened) lines

-- as the course of any run of these lines, but that its commands are answered together, and that any number of them may be done while none is answered
abbrev pub tallied_course : RunAsked → ℕ → ℕ → Opening → List Asked → (ℕ → Bool) → Course
tallied_course asked count ctime opened lines ahead = record {
  batch = length (opening_of asked ctime opened) + length (commands_by asked count opened lines);
  entry = opened.book;
  opening = opening_of asked ctime opened;
  script = together (tally_of (commands_by asked count opened lines)) (commands_by asked count opened lines);
  chosen = opened.chosen;
  ahead = ahead;
}
