-- Where a script has come to.
use Rattle.std.specs.Prelude.{ℕ}
use Rattle.nn_tree.specs.Namespace.{Namespace}
use Rattle.nn_script.specs.Answers.{State}

abbrev pub scene : Namespace → ℕ → State
scene namespace time = record { namespace = namespace; now = time }
