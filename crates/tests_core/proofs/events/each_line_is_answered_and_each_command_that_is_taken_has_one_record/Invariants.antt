use Rattle.nn_tree.specs.Imaged.{IsImaged}
use Rattle.nn_tree.specs.Links.{meaning_of}
use Rattle.nn_tree.specs.Plain.{links_of}
use Rattle.tests_core.proofs.events.each_line_is_answered_and_each_command_that_is_taken_has_one_record.Given as goal

-- its namespace has an image
abbrev pub invariant-loop-line : goal.invariant-loop-line
invariant-loop-line g l = IsImaged (meaning_of (links_of l.run.core.tree.entries.items) l.run.core.tree.counters)
