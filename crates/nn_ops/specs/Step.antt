-- What comes of a command, and which bodies fit a namespace.
use Rattle.std.specs.Prelude.{◌≡◌, ℕ, Option, Some, None, IfSome}
use Rattle.nn_tree.specs.Namespace.{Namespace}
use Rattle.nn_record.specs.declared.op.Op.{Op}
use Rattle.nn_ops.specs.declared.command.Command.{Command}
use Rattle.nn_ops.specs.declared.refusal.OpRefusal.{OpRefusal}
use Rattle.nn_base.specs.First.{first_of}
use Rattle.nn_ops.specs.Commands.{tests_of}
use Rattle.nn_ops.specs.Bodies.{op_of, command_of_op, time_of}
use Rattle.nn_ops.specs.Effects.{effect}

-- the first test of a command that applies
abbrev pub refusal_of : Namespace → Command → Option OpRefusal
refusal_of ns command = first_of (tests_of ns command)

-- a refusal, or the body that is written; and the namespace afterwards
pub record Outcome : Type 0 where
  pub refusal : Option OpRefusal
  pub body : Option Op
  pub after : Namespace

abbrev pub refused : OpRefusal → Namespace → Outcome
refused refusal ns = record { refusal = Some refusal; body = None; after = ns }

abbrev pub taken : Op → Namespace → Outcome
taken body ns = record { refusal = None; body = Some body; after = effect body ns }

abbrev pub step : Namespace → Command → ℕ → Outcome
step ns command now = elim (refusal_of ns command) [ Some refusal ↦ refused refusal ns | None ↦ taken (op_of ns command now) ns ]

-- a body fits where its command, at the time in it, is taken and writes just this body; the marks of a segment always fit
abbrev pub Fits : Namespace → Op → Type 0
Fits ns op = IfSome (command_of_op op) (λ command. (refusal_of ns command ≡ None) × (op_of ns command (time_of op) ≡ op))
