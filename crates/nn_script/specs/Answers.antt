-- What a script is answered that changes a namespace in memory alone.
use Rattle.std.specs.Prelude.{ℕ, List, [], ◌∷◌, ◌++◌, length, Option, Some, None, Result, Ok, Err, is_none}
use Rattle.std.specs.List.{filter, flat_map}
use Rattle.std.specs.FinMap.{get, entries}
use Rattle.nn_base.specs.Paths.{Bytes, Names, is_under, text_of}
use Rattle.nn_tree.specs.declared.node.Node.{Node}
use Rattle.nn_tree.specs.Namespace.{Namespace, Nodes, usage_of, empty_namespace}
use Rattle.nn_ops.specs.declared.refusal.OpRefusal.{OpRefusal}
use Rattle.nn_ops.specs.declared.refusal.OpRefusal.TheVariants.{NotFound}
use Rattle.nn_base.specs.First.{when, first_of}
use Rattle.nn_ops.specs.Refusals.{walk}
use Rattle.nn_ops.specs.Step.{Outcome, step}
use Rattle.nn_script.specs.declared.answer.Answer.TheVariants.{Done, Count, Refused, Dry, Unread}
use Rattle.nn_script.specs.declared.command.ScriptCommand.{ScriptCommand}
use Rattle.nn_script.specs.declared.command.ScriptCommand.TheVariants as command
use Rattle.nn_script.specs.declared.syntax.Syntax.{Syntax}
use Rattle.nn_script.specs.Lines.{lines_of}
use Rattle.nn_script.specs.Reading.{reading_of}
use Rattle.nn_script.specs.Spelling.{answer_text}
use Rattle.nn_script.specs.Listing.{node_lines}

-- the namespace, and what time it is
pub record State : Type 0 where
  pub namespace : Namespace
  pub now : ℕ

-- what is said, and the state afterwards
pub record Reply : Type 0 where
  pub text : Bytes
  pub after : State

-- ---- listings

-- the nodes at and below a path, in the order of paths
abbrev pub nodes_below : Nodes → Names → List (Names × Node)
nodes_below m p = filter (λ e. is_under p e.0) (entries m)

abbrev pub lines_at : Nodes → Names × Node → Bytes
lines_at m e = node_lines (text_of e.0) e.1 (usage_of m e.0)

-- why nothing stands at a path
abbrev pub list_refusal : Nodes → Names → Option OpRefusal
list_refusal m p = first_of (walk m p ∷ when (is_none (get m p)) NotFound ∷ [])

-- the blocks of files aren't counted
abbrev pub list_text : Nodes → Names → Bytes
list_text m p = elim (list_refusal m p) [
  | Some refusal ↦ answer_text (Refused refusal)
  | None ↦ flat_map (lines_at m) (nodes_below m p) ++ answer_text (Count (length (nodes_below m p)))
]

-- ---- commands and lines

abbrev pub change_text : Option OpRefusal → Bytes
change_text None = answer_text Done
change_text (Some refusal) = answer_text (Refused refusal)

abbrev pub change_reply : Outcome → ℕ → Reply
change_reply outcome now = record { text = change_text outcome.refusal; after = record { namespace = outcome.after; now = now } }

-- the namespace alone is kept, so what speaks of directories is refused
abbrev pub reply_to : State → ScriptCommand → Reply
reply_to s (command.Namespace change) = change_reply (step s.namespace change s.now) s.now
reply_to s (command.Clock time) = record { text = answer_text Done; after = record s { now = time } }
reply_to s (command.List path) = record { text = list_text s.namespace.nodes path; after = s }
reply_to s command.Dirs = record { text = answer_text Dry; after = s }
reply_to s command.Roll = record { text = answer_text Dry; after = s }
reply_to s command.Checkpoint = record { text = answer_text Dry; after = s }
reply_to s command.Finalize = record { text = answer_text Dry; after = s }
reply_to s (command.Restore dir) = record { text = answer_text Dry; after = s }

abbrev pub reply_by : State → Result (Option ScriptCommand) Syntax → Reply
reply_by s (Ok None) = record { text = []; after = s }
reply_by s (Ok (Some command)) = reply_to s command
reply_by s (Err fault) = record { text = answer_text (Unread fault); after = s }

abbrev pub answer_of : State → Bytes → Reply
answer_of s line = reply_by s (reading_of line)

-- ---- scripts

-- the answers to some lines, one after another, and the state after them
abbrev pub answers : State → List Bytes → Bytes
answers s [] = []
answers s (line ∷ lines) = (answer_of s line).text ++ answers (answer_of s line).after lines

abbrev pub after_lines : State → List Bytes → State
after_lines s [] = s
after_lines s (line ∷ lines) = after_lines (answer_of s line).after lines

-- a script begins at the time 0 with the empty namespace
abbrev pub first_state : State
first_state = record { namespace = empty_namespace; now = 0 }

abbrev pub dry_text : Bytes → Bytes
dry_text script = answers first_state (lines_of script)
