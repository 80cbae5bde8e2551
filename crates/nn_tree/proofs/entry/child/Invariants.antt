use Rattle.std.proofs.Common.{◌≡◌, ℕ, ◌<◌, false}
use Rattle.nn_tree.specs.Plain.{is_child, links_of}
use Rattle.nn_tree.proofs.entry.child.Given as goal

abbrev pub invariant-loop-i : goal.invariant-loop-i
invariant-loop-i l = (k : ℕ) → k < l.i → is_child (links_of l.entries) l.parent l.name k ≡ false
