use Rattle.std.proofs.Common.{◌≢◌, ◌≤◌, length, Option, Some, None, Result, Ok, Err, refl, arith}
use Rattle.nn_base.specs.Paths.{Names}
use Rattle.nn_base.specs.declared.path.fault.PathFault.{PathFault}
use Rattle.nn_base.specs.declared.path.fault.PathFault.TheVariants as path
use Rattle.nn_ops.specs.declared.refusal.OpRefusal.{OpRefusal}
use Rattle.nn_ops.specs.declared.refusal.OpRefusal.TheVariants as refusal
use Rattle.nn_ops.specs.Step.{step}
use Rattle.nn_script.specs.declared.answer.Answer.TheVariants.{Refused, Unread}
use Rattle.nn_script.specs.declared.command.ScriptCommand.{ScriptCommand}
use Rattle.nn_script.specs.declared.command.ScriptCommand.TheVariants as command
use Rattle.nn_script.specs.declared.syntax.Syntax.{Syntax}
use Rattle.nn_script.specs.declared.syntax.Syntax.TheVariants as syntax
use Rattle.nn_script.specs.Reading.{reading_of}
use Rattle.nn_script.specs.Spelling.{answer_text, max_answer}
use Rattle.nn_script.specs.Answers.{State, change_text, reply_by}
use Rattle.nn_say.proofs.SayingLemmas.{pieces_one, pieces_none, pieces_within, concat_pieces, cut_front}
use Rattle.nn_server.proofs.DryLemmas.{concat_to}
use Rattle.nn_server.proofs.laws.answers_go_out_in_pieces.Goals as goal

refused : (why : OpRefusal) → length (answer_text (Refused why)) ≤ max_answer
refused refusal.Exists = omega arith
refused refusal.NotFound = omega arith
refused refusal.NotDir = omega arith
refused refusal.IsDir = omega arith
refused refusal.Under = omega arith
refused refusal.Root = omega arith
refused refusal.Closed = omega arith
refused refusal.Quota = omega arith
refused refusal.Limit = omega arith
refused refusal.Memory = omega arith

no_path : (fault : PathFault) → length (answer_text (Unread (syntax.Path fault))) ≤ max_answer
no_path path.Empty = omega arith
no_path path.Relative = omega arith
no_path path.LongPath = omega arith
no_path path.BadName = omega arith
no_path path.LongName = omega arith
no_path path.Deep = omega arith
no_path path.Memory = omega arith

unread : (fault : Syntax) → length (answer_text (Unread fault)) ≤ max_answer
unread syntax.Long = omega arith
unread syntax.Byte = omega arith
unread syntax.Words = omega arith
unread syntax.Unknown = omega arith
unread syntax.Number = omega arith
unread syntax.Mode = omega arith
unread syntax.Escape = omega arith
unread syntax.Name = omega arith
unread (syntax.Path fault) = no_path fault
unread syntax.Memory = omega arith

change : (why : Option OpRefusal) → length (change_text why) ≤ max_answer
change None = omega arith
change (Some why) = refused why

short : (s : State) (read : Result (Option ScriptCommand) Syntax) → ((path : Names) → read ≢ Ok (Some (command.List path))) → length (reply_by s read).text ≤ max_answer
short s (Ok None) other = omega arith
short s (Ok (Some (command.Namespace asked))) other = change (step s.namespace asked s.now).refusal
short s (Ok (Some (command.Clock time))) other = omega arith
short s (Ok (Some (command.List path))) other = absurd (other path refl)
short s (Ok (Some command.Dirs)) other = omega arith
short s (Ok (Some command.Roll)) other = omega arith
short s (Ok (Some command.Checkpoint)) other = omega arith
short s (Ok (Some command.Finalize)) other = omega arith
short s (Ok (Some (command.Restore dir))) other = omega arith
short s (Err fault) other = unread fault

pub returns-clause-short : goal.returns-clause-short
returns-clause-short c = λ s line other. short s (reading_of line) other

pub returns-clause-one : goal.returns-clause-one
returns-clause-one c = λ text some fits. pieces_one text some fits

pub returns-clause-none : goal.returns-clause-none
returns-clause-none c = pieces_none

pub returns-clause-each : goal.returns-clause-each
returns-clause-each c = λ text. pieces_within text

pub returns-clause-joined : goal.returns-clause-joined
returns-clause-joined c = λ text. concat_pieces text

pub returns-clause-answers : goal.returns-clause-answers
returns-clause-answers c = λ s lines. concat_to s lines

pub returns-clause-front : goal.returns-clause-front
returns-clause-front c = λ pieces text asked cut. cut_front cut
