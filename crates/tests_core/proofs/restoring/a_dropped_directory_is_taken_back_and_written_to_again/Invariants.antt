use Rattle.nn_tree.specs.Imaged.{IsImaged}
use Rattle.nn_tree.specs.Links.{meaning_of}
use Rattle.nn_tree.specs.Plain.{links_of}
use Rattle.tests_core.proofs.restoring.a_dropped_directory_is_taken_back_and_written_to_again.Given as goal

-- its namespace has an image
abbrev pub invariant-loop-line : goal.invariant-loop-line
invariant-loop-line g l = IsImaged (meaning_of (links_of l.run.core.tree.entries.items) l.run.core.tree.counters)
