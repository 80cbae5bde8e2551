use Rattle.nn_tree.specs.Imaged.{IsImaged}
use Rattle.nn_tree.specs.Links.{meaning_of}
use Rattle.nn_tree.specs.Plain.{links_of}
use Rattle.tests_core.proofs.run.Run.answer_all.Given as goal

-- its namespace has an image
abbrev pub invariant-loop-line : goal.invariant-loop-line
invariant-loop-line l = IsImaged (meaning_of (links_of l.self.core.tree.entries.items) l.self.core.tree.counters)
