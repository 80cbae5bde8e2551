-- What a test of a command answers, and what the walk of a path does.
use Rattle.std.specs.Prelude.{Option, Some, None}
use Rattle.nn_base.specs.Paths.{Names}
use Rattle.nn_tree.specs.Namespace.{Nodes}
use Rattle.nn_tree.specs.Walks.{Obstacle, Absent, AFile, obstacle}
use Rattle.nn_ops.specs.declared.refusal.OpRefusal.{OpRefusal}
use Rattle.nn_ops.specs.declared.refusal.OpRefusal.TheVariants.{NotFound, NotDir}

-- a test: the refusal, where it applies
abbrev pub Test : Type 0
Test = Option OpRefusal

-- what is in the way from the root to a path
abbrev pub refusal_by : Option Obstacle → Test
refusal_by None = None
refusal_by (Some Absent) = Some NotFound
refusal_by (Some AFile) = Some NotDir

abbrev pub walk : Nodes → Names → Test
walk m p = refusal_by (obstacle m p)
