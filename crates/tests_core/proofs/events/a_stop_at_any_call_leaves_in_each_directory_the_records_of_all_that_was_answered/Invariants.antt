use Rattle.nn_tree.specs.Imaged.{IsImaged}
use Rattle.nn_tree.specs.Links.{meaning_of}
use Rattle.nn_tree.specs.Plain.{links_of}
use Rattle.tests_core.proofs.events.a_stop_at_any_call_leaves_in_each_directory_the_records_of_all_that_was_answered.Given as goal

-- its namespace has an image
abbrev pub invariant-loop-line : goal.invariant-loop-line
invariant-loop-line g l = IsImaged (meaning_of (links_of l.run.core.tree.entries.items) l.run.core.tree.counters)
