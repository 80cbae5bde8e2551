-- How the answers to lines begin.
use Rattle.std.proofs.Common.{◌≡◌, ◌⊎◌, inl, inr, ℕ, suc, zero, Bool, true, false, nat_lt, if◌then◌else◌, List, [], ◌∷◌, ◌++◌, length, refl, ap, Ok, Err, Some, None, Option, Result}
use Rattle.std.specs.List.{flat_map}
use Rattle.nn_base.specs.Paths.{Bytes, Names, text_of as path_text}
use Rattle.nn_ops.specs.declared.refusal.OpRefusal.{OpRefusal}
use Rattle.nn_ops.specs.Step.{step}
use Rattle.nn_script.specs.declared.answer.Answer.{Answer}
use Rattle.nn_script.specs.declared.answer.Answer.TheVariants as answer
use Rattle.nn_script.specs.declared.answer.Unrestored.TheVariants as unrestored
use Rattle.nn_script.specs.declared.command.ScriptCommand.{ScriptCommand}
use Rattle.nn_script.specs.declared.command.ScriptCommand.TheVariants as command
use Rattle.nn_script.specs.declared.syntax.Syntax.{Syntax}
use Rattle.nn_script.specs.declared.syntax.Syntax.TheVariants as syntax
use Rattle.nn_script.specs.Arguments.{◌>>=◌}
use Rattle.nn_script.specs.Lines.{has_no_answer}
use Rattle.nn_script.specs.Reading.{reading_of, command_on}
use Rattle.nn_script.specs.Spelling.{answer_text, dir_lines, dir_line, line_of, escaped}
use Rattle.nn_script.specs.Listing.{sign_of, attributes, details}
use Rattle.nn_script.specs.Answers.{change_text, list_refusal, lines_at, nodes_below}
use Rattle.nn_tree.specs.declared.node.Kind.{Kind}
use Rattle.nn_tree.specs.declared.node.Kind.TheVariants.{File, Dir}
use Rattle.nn_tree.specs.declared.node.Node.{Node}
use Rattle.nn_tree.specs.Namespace.{Nodes, usage_of}
use Rattle.nn_run.specs.Running.{Running, Sight, Restored, TakenBack, Missing, Inconsistent, Failed, restored_text, reply_read, reply_in}

-- with `o`, `r`, `d` or `f`, or with `sy`
pub record BeginsWith (first : ℕ) (text : Bytes) : Type 0 where
  pub rest : Bytes
  pub is : text ≡ first ∷ rest

pub record BeginsSy (text : Bytes) : Type 0 where
  pub rest : Bytes
  pub is : text ≡ 115 ∷ 121 ∷ rest

abbrev pub IsAnswer : Bytes → Type 0
IsAnswer text = BeginsWith 111 text ⊎ (BeginsWith 114 text ⊎ (BeginsWith 100 text ⊎ (BeginsWith 102 text ⊎ BeginsSy text)))

answer_so : (it : Answer) → IsAnswer (answer_text it)
answer_so answer.Done = inl (record { rest = _; is = refl })
answer_so (answer.Count count) = inl (record { rest = _; is = refl })
answer_so (answer.Refused why) = inr (inl (record { rest = _; is = refl }))
answer_so answer.Dry = inr (inl (record { rest = _; is = refl }))
answer_so answer.Later = inr (inl (record { rest = _; is = refl }))
answer_so (answer.NotRestored why) = inr (inl (record { rest = _; is = refl }))
answer_so (answer.Unread fault) = inr (inr (inr (inr (unread_so fault))))
  where
    unread_so : (fault : Syntax) → BeginsSy (answer_text (answer.Unread fault))
    unread_so syntax.Long = record { rest = _; is = refl }
    unread_so syntax.Byte = record { rest = _; is = refl }
    unread_so syntax.Words = record { rest = _; is = refl }
    unread_so syntax.Unknown = record { rest = _; is = refl }
    unread_so syntax.Number = record { rest = _; is = refl }
    unread_so syntax.Mode = record { rest = _; is = refl }
    unread_so syntax.Escape = record { rest = _; is = refl }
    unread_so syntax.Name = record { rest = _; is = refl }
    unread_so (syntax.Path fault) = record { rest = _; is = refl }
    unread_so syntax.Memory = record { rest = _; is = refl }

change_so : (refusal : Option OpRefusal) → IsAnswer (change_text refusal)
change_so None = answer_so answer.Done
change_so (Some why) = answer_so (answer.Refused why)

-- a text behind which another follows begins as it does
before_more : (text more : Bytes) → IsAnswer text → IsAnswer (text ++ more)
before_more text more it = elim it [
  | inl o ↦ inl (record { rest = o.rest ++ more; is = ap (λ t. t ++ more) o.is })
  | inr others ↦ elim others [
    | inl r ↦ inr (inl (record { rest = r.rest ++ more; is = ap (λ t. t ++ more) r.is }))
    | inr more_others ↦ elim more_others [
      | inl d ↦ inr (inr (inl (record { rest = d.rest ++ more; is = ap (λ t. t ++ more) d.is })))
      | inr last ↦ elim last [
        | inl f ↦ inr (inr (inr (inl (record { rest = f.rest ++ more; is = ap (λ t. t ++ more) f.is }))))
        | inr sy ↦ inr (inr (inr (inr (record { rest = sy.rest ++ more; is = ap (λ t. t ++ more) sy.is }))))
      ]
    ]
  ]
]

-- the line of a node
node_so : (m : Nodes) (e : Names × Node) → IsAnswer (lines_at m e)
node_so m e = before_more _ _ (by_kind e.1.kind)
  where
    by_kind : (kind : Kind) → IsAnswer (line_of (sign_of kind ∷ (attributes e.1 ++ (details kind (usage_of m e.0) ++ escaped (path_text e.0) ∷ []))))
    by_kind (Dir quota) = inr (inr (inl (record { rest = _; is = refl })))
    by_kind (File replication is_open blocks) = inr (inr (inr (inl (record { rest = _; is = refl }))))

nodes_so : (m : Nodes) (nodes : List (Names × Node)) (count : ℕ) → IsAnswer (flat_map (lines_at m) nodes ++ answer_text (answer.Count count))
nodes_so m [] count = answer_so (answer.Count count)
nodes_so m (e ∷ es) count = before_more _ (answer_text (answer.Count count)) (before_more (lines_at m e) (flat_map (lines_at m) es) (node_so m e))

abbrev listed : Nodes → Names → Option OpRefusal → Bytes
listed m path refusal = elim refusal [
  | Some why ↦ answer_text (answer.Refused why)
  | None ↦ flat_map (lines_at m) (nodes_below m path) ++ answer_text (answer.Count (length (nodes_below m path)))
]

listed_so : (m : Nodes) (path : Names) (refusal : Option OpRefusal) → IsAnswer (listed m path refusal)
listed_so m path None = nodes_so m (nodes_below m path) (length (nodes_below m path))
listed_so m path (Some why) = answer_so (answer.Refused why)

dirs_so : (live : ℕ → Bool) (count : ℕ) → IsAnswer (dir_lines live count ++ answer_text answer.Done)
dirs_so live zero = answer_so answer.Done
dirs_so live (suc n) = before_more _ (answer_text answer.Done) (some_so n)
  where
    some_so : (n : ℕ) → IsAnswer (dir_lines live (suc n))
    some_so zero = inr (inr (inl (record { rest = _; is = refl })))
    some_so (suc n) = before_more (dir_lines live (suc n)) (dir_line (suc n) (live (suc n))) (some_so n)

restored_so : (listed : Bool) (restored : Restored) → IsAnswer (if listed then restored_text restored else answer_text (answer.NotRestored unrestored.NoSuchDir))
restored_so true TakenBack = answer_so answer.Done
restored_so true Missing = answer_so (answer.NotRestored unrestored.Missing)
restored_so true Inconsistent = answer_so (answer.NotRestored unrestored.Inconsistent)
restored_so true Failed = answer_so (answer.NotRestored unrestored.Failed)
restored_so false restored = answer_so (answer.NotRestored unrestored.NoSuchDir)

command_so : (count : ℕ) (run : Running) (sight : Sight) (it : ScriptCommand) → IsAnswer (reply_in count run sight it).text
command_so count run sight (command.Namespace change) = change_so (step run.book.ns change run.now).refusal
command_so count run sight (command.Clock time) = answer_so answer.Done
command_so count run sight (command.List path) = listed_so run.book.ns.nodes path (list_refusal run.book.ns.nodes path)
command_so count run sight command.Dirs = dirs_so sight.live count
command_so count run sight command.Roll = answer_so answer.Done
command_so count run sight command.Checkpoint = answer_so answer.Done
command_so count run sight command.Finalize = answer_so answer.Later
command_so count run sight (command.Restore dir) = restored_so (nat_lt dir count) sight.restored

pub read_so : (count : ℕ) (run : Running) (sight : Sight) (line : Bytes) → has_no_answer line ≡ false → IsAnswer (reply_read count run sight (reading_of line)).text
unfolding reading_of
read_so count run sight line e = rw e (by_command (command_on line))
  where
    by_command : (read : Result ScriptCommand Syntax) → IsAnswer (reply_read count run sight (read >>= (λ it. Ok (Some it)))).text
    by_command (Ok it) = command_so count run sight it
    by_command (Err fault) = answer_so (answer.Unread fault)
