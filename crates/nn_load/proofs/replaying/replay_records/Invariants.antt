use Rattle.std.proofs.Common.{◌-◌, length}
use Rattle.nn_tree.specs.Imaged.{IsImaged}
use Rattle.nn_load.proofs.ReplayLemmas.{Walk}
use Rattle.nn_load.proofs.replaying.replay_records.Given as goal

abbrev pub invariant-loop-len : goal.invariant-loop-len
invariant-loop-len g l = record {
  walk : Walk l.records l.fn.first l.fn.until (record { last = l.fn.last; ns = g.T.Tree.meaning l.fn.tree }) l.end l.id (record { last = l.reach.last; ns = g.T.Tree.meaning l.tree }) l.reach.fit;
  imaged : IsImaged (g.T.Tree.meaning l.fn.tree) → IsImaged (g.T.Tree.meaning l.tree);
}

abbrev pub decreases-loop-len : goal.decreases-loop-len
decreases-loop-len g l = length l.records - l.end
