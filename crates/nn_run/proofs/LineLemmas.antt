-- The commands of lines: one list after another, the Book that they come to, and that each has an answer.
use Rattle.std.proofs.Common.{◌≡◌, ◌≢◌, ℕ, ◌<◌, Bool, true, false, if◌then◌else◌, List, [], ◌∷◌, ◌++◌, length, Ok, Err, Some, None, Option, Result, refl, sym, ◌∙◌, ap, arith}
use Rattle.std.specs.Prelude.{All, codes, nat_lt}
use Rattle.std.specs.List.{flat_map, join_with_byte}
use Rattle.std.proofs.lemmas.List.{length-append}
use Rattle.std.proofs.lemmas.List.Elements.{All-cons, All-nil}
use Rattle.nn_base.specs.Paths.{Bytes, Names}
use Rattle.nn_ops.specs.declared.refusal.OpRefusal.{OpRefusal}
use Rattle.nn_ops.specs.Step.{step}
use Rattle.nn_script.specs.declared.answer.Answer.{Answer}
use Rattle.nn_script.specs.declared.answer.Answer.TheVariants.{Done, Count, Refused, Later, NotRestored, Unread}
use Rattle.nn_script.specs.declared.answer.Unrestored.TheVariants as unrestored
use Rattle.nn_script.specs.declared.command.ScriptCommand.{ScriptCommand}
use Rattle.nn_script.specs.declared.command.ScriptCommand.TheVariants as command
use Rattle.nn_script.specs.declared.syntax.Syntax.{Syntax}
use Rattle.nn_script.specs.Arguments.{◌>>=◌}
use Rattle.nn_tree.specs.Namespace.{Nodes}
use Rattle.nn_script.specs.Lines.{has_no_answer}
use Rattle.nn_script.specs.Reading.{reading_of, command_on}
use Rattle.nn_script.specs.Spelling.{answer_text, answer_words, line_of, dir_lines}
use Rattle.nn_script.specs.Answers.{change_text, list_text, list_refusal, lines_at, nodes_below}
use Rattle.nn_run.specs.Running.{Running, Restored, TakenBack, Missing, Inconsistent, Failed, Asked, Sight, restored_text, reply_at, reply_read, reply_in, after_asked, back_at}
use Rattle.nn_run.specs.Window.{Answered, commands_of, last_book, CommandsAppend, LastIsReached, CommandsHaveText}

-- a line without an answer has no command
pub read_none : (line : Bytes) → has_no_answer line ≡ true → reading_of line ≡ Ok None
unfolding reading_of
read_none line e = rw e refl

-- what a line comes to
abbrev command_at : ℕ → Running → Asked → Answered
command_at count run asked = record { text = (reply_at count run asked).text; book = (reply_at count run asked).after.book; back = back_at count asked }

same_run : (count : ℕ) (run : Running) (asked : Asked) → has_no_answer asked.line ≡ true → (reply_at count run asked).after ≡ run
same_run count run asked e = ap (λ r. (reply_read count run asked.sight r).after) (read_none asked.line e)

append_by : (count : ℕ) (run : Running) (asked : Asked) (first later : List Asked) (none : Bool) → has_no_answer asked.line ≡ none
    → ((r : Running) → commands_of count r (first ++ later) ≡ commands_of count r first ++ commands_of count (after_asked count r first) later)
    → (if none then commands_of count run (first ++ later) else command_at count run asked ∷ commands_of count (reply_at count run asked).after (first ++ later))
    ≡ (if none then commands_of count run first else command_at count run asked ∷ commands_of count (reply_at count run asked).after first) ++ commands_of count (after_asked count (reply_at count run asked).after first) later
append_by count run asked first later true e rest = rest run ∙ ap (λ r. commands_of count run first ++ commands_of count (after_asked count r first) later) (sym (same_run count run asked e))
append_by count run asked first later false e rest = ap (λ l. command_at count run asked ∷ l) (rest (reply_at count run asked).after)

pub commands_append : CommandsAppend
commands_append count run [] later = refl
commands_append count run (asked ∷ first) later = append_by count run asked first later (has_no_answer asked.line) refl (λ r. commands_append count r first later)

last_by : (count : ℕ) (run : Running) (asked : Asked) (lines : List Asked) (none : Bool) → has_no_answer asked.line ≡ none
    → ((r : Running) → (after_asked count r lines).book ≡ last_book r.book (commands_of count r lines))
    → (after_asked count (reply_at count run asked).after lines).book ≡ last_book run.book (if none then commands_of count run lines else command_at count run asked ∷ commands_of count (reply_at count run asked).after lines)
last_by count run asked lines true e rest = ap (λ r. (after_asked count r lines).book) (same_run count run asked e) ∙ rest run
last_by count run asked lines false e rest = rest (reply_at count run asked).after

pub last_is_reached : LastIsReached
last_is_reached count run [] = refl
last_is_reached count run (asked ∷ lines) = last_by count run asked lines (has_no_answer asked.line) refl (λ r. last_is_reached count r lines)

-- ---- texts

some_behind : (xs ys : Bytes) → 0 < length ys → xs ++ ys ≢ []
some_behind xs ys some = λ e. absurd (omega (arith, some, length-append xs ys, ap length e))

line_some : (words : List Bytes) → 0 < length (line_of words)
line_some words = omega (arith, length-append (join_with_byte 32 words) (codes "\n"))

some_text : (text : Bytes) → 0 < length text → text ≢ []
some_text text some = λ e. absurd (omega (arith, some, ap length e))

answer_some : (answer : Answer) → answer_text answer ≢ []
answer_some answer = some_text (answer_text answer) (line_some (answer_words answer))

change_some : (refusal : Option OpRefusal) → change_text refusal ≢ []
change_some None = answer_some Done
change_some (Some why) = answer_some (Refused why)

abbrev listed : Nodes → Names → Option OpRefusal → Bytes
listed m path refusal = elim refusal [
  | Some why ↦ answer_text (Refused why)
  | None ↦ flat_map (lines_at m) (nodes_below m path) ++ answer_text (Count (length (nodes_below m path)))
]

listed_some : (m : Nodes) (path : Names) (refusal : Option OpRefusal) → listed m path refusal ≢ []
listed_some m path None = some_behind (flat_map (lines_at m) (nodes_below m path)) (answer_text (Count (length (nodes_below m path)))) (line_some (answer_words (Count (length (nodes_below m path)))))
listed_some m path (Some why) = answer_some (Refused why)

list_some : (m : Nodes) (path : Names) → list_text m path ≢ []
list_some m path = listed_some m path (list_refusal m path)

restored_some : (listed : Bool) (restored : Restored) → (if listed then restored_text restored else answer_text (NotRestored unrestored.NoSuchDir)) ≢ []
restored_some true TakenBack = answer_some Done
restored_some true Missing = answer_some (NotRestored unrestored.Missing)
restored_some true Inconsistent = answer_some (NotRestored unrestored.Inconsistent)
restored_some true Failed = answer_some (NotRestored unrestored.Failed)
restored_some false restored = answer_some (NotRestored unrestored.NoSuchDir)

command_some : (count : ℕ) (run : Running) (sight : Sight) (it : ScriptCommand) → (reply_in count run sight it).text ≢ []
command_some count run sight (command.Namespace change) = change_some (step run.book.ns change run.now).refusal
command_some count run sight (command.Clock time) = answer_some Done
command_some count run sight (command.List path) = list_some run.book.ns.nodes path
command_some count run sight command.Dirs = some_behind (dir_lines sight.live count) (answer_text Done) (line_some (answer_words Done))
command_some count run sight command.Roll = answer_some Done
command_some count run sight command.Checkpoint = answer_some Done
command_some count run sight command.Finalize = answer_some Later
command_some count run sight (command.Restore dir) = restored_some (nat_lt dir count) sight.restored

pub read_some : (count : ℕ) (run : Running) (sight : Sight) (line : Bytes) → has_no_answer line ≡ false → (reply_read count run sight (reading_of line)).text ≢ []
unfolding reading_of
read_some count run sight line e = rw e (by_command (command_on line))
  where
    by_command : (read : Result ScriptCommand Syntax) → (reply_read count run sight (read >>= (λ it. Ok (Some it)))).text ≢ []
    by_command (Ok it) = command_some count run sight it
    by_command (Err fault) = answer_some (Unread fault)

texts_by : (count : ℕ) (run : Running) (asked : Asked) (lines : List Asked) (none : Bool) → has_no_answer asked.line ≡ none → ((r : Running) → All (λ a. a.text ≢ []) (commands_of count r lines))
    → All (λ a. a.text ≢ []) (if none then commands_of count run lines else command_at count run asked ∷ commands_of count (reply_at count run asked).after lines)
texts_by count run asked lines true e rest = rest run
texts_by count run asked lines false e rest = All-cons (λ a. a.text ≢ []) (command_at count run asked) (commands_of count (reply_at count run asked).after lines) (read_some count run asked.sight asked.line e) (rest (reply_at count run asked).after)

pub commands_have_text : CommandsHaveText
commands_have_text count run [] = All-nil (λ a. a.text ≢ [])
commands_have_text count run (asked ∷ lines) = texts_by count run asked lines (has_no_answer asked.line) refl (λ r. commands_have_text count r lines)
