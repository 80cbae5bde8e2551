use Rattle.std.proofs.Common.{◌-◌, ◌+◌, ◌≤◌, length}
use Rattle.nn_tree.specs.Imaged.{IsImaged}
use Rattle.nn_load.proofs.ReplayLemmas.{Walk}
use Rattle.nn_load.proofs.held.Held.replay.Given as goal

abbrev pub invariant-loop-self : goal.invariant-loop-self
invariant-loop-self g l = record {
  walk : Walk l.records l.fn.self.first l.fn.until (record { last = l.fn.last; ns = g.T.Tree.meaning l.fn.tree }) l.end l.next (record { last = l.reach.last; ns = g.T.Tree.meaning l.tree }) l.reach.fit;
  less : l.next ≤ l.fn.until + 1;
  imaged : IsImaged (g.T.Tree.meaning l.fn.tree) → IsImaged (g.T.Tree.meaning l.tree);
}

abbrev pub decreases-loop-self : goal.decreases-loop-self
decreases-loop-self g l = length l.records - l.end
