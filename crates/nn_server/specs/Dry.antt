-- What a run of `dry` did: it answered the lines of a script on the empty namespace, or some first ones of them.
use Rattle.std.specs.Prelude.{◌≡◌, ℕ, List, [], ◌∷◌, ◌++◌, take, map}
use Rattle.nn_base.specs.Paths.{Bytes}
use Rattle.nn_host.specs.Moments.{State as Host, Entry, Say}
use Rattle.nn_reader.specs.Script.{Reached, AtEnd, TooLong, SourceFailed, OnTheWay, ScriptRead}
use Rattle.nn_script.specs.Answers.{State, answer_of, answers, first_state}
use Rattle.nn_server.specs.declared.dry_run.DryEnd.{DryEnd}
use Rattle.nn_server.specs.declared.dry_run.DryEnd.TheVariants.{Done, SourceFault, ScriptTooLong, Memory, OutFault}
use Rattle.nn_server.specs.declared.session.Unsaid.{Unsaid}
use Rattle.nn_server.specs.declared.session.Unsaid.TheVariants as unsaid
use Rattle.nn_say.specs.Records.{Records}
use Rattle.nn_server.specs.Came.{TouchesNoDir}
use Rattle.nn_say.specs.Saying.{CutOff, pieces_of}

-- the pieces in which some lines are answered, one after another
abbrev pub pieces_to : State → List Bytes → List Bytes
pieces_to s [] = []
pieces_to s (line ∷ lines) = pieces_of (answer_of s line).text ++ pieces_to (answer_of s line).after lines

-- the answers to these lines are the text, and went out in these pieces
pub record AnswersTo (lines : List Bytes) (text : Bytes) (pieces : List Bytes) : Type 0 where
  pub are : text ≡ answers first_state lines
  pub in_pieces : pieces ≡ pieces_to first_state lines

-- what was said of the lines that were read: the answers to all, or to some first ones where memory ran out; where the output
-- failed, it was over one of their pieces
abbrev pub DrySays : List Bytes → DryEnd → Bytes → List Bytes → Type 0
DrySays lines Memory text pieces = (k : ℕ) × AnswersTo (take k lines) text pieces
DrySays lines OutFault text pieces = CutOff (pieces_to first_state lines) text pieces
DrySays lines end text pieces = AnswersTo lines text pieces

-- by an answer that wasn't said whole
abbrev pub dry_end : Unsaid → DryEnd
dry_end unsaid.Memory = Memory
dry_end unsaid.Output = OutFault

-- how far it read its script
abbrev pub dry_reached : DryEnd → Reached
dry_reached Done = AtEnd
dry_reached SourceFault = SourceFailed
dry_reached ScriptTooLong = TooLong
dry_reached Memory = OnTheWay
dry_reached OutFault = OnTheWay

-- a run of `dry` over a source with this script, of which so much is left: these lines of it were read whole, and the host was asked for sayings and for nothing else
pub record DryRan (told_host told_source : Type 0) (script left : Bytes) (before after : ℕ) (old new : Host) (text : Bytes) (trace : List Entry) (end : DryEnd) : Type 0 where
  pub lines : List Bytes
  pub read : ScriptRead told_source script left before after (dry_reached end) lines
  pub said : told_host → (pieces : List Bytes) × Records (map Say pieces) old.trace trace × DrySays lines end text pieces
  pub dirs : TouchesNoDir told_host old new
