use Rattle.std.proofs.Common.{◌≡◌, ◌+◌, ◌*◌, ◌<◌, ◌^◌, ℕ, [], ◌++◌}
use Rattle.nn_base.specs.DirSets.{count_of}
use Rattle.nn_base.specs.Limits.{most_script}
use Rattle.nn_host.specs.Moments.{State}
use Rattle.nn_reader.specs.Reader.{ahead, budget}
use Rattle.nn_tree.specs.Imaged.{IsImaged}
use Rattle.nn_core.specs.Ready.{IsReady}
use Rattle.nn_serve.specs.Serving.{IsServing, HasRoom}
use Rattle.nn_serve.proofs.LoopLemmas.{Answering}
use Rattle.nn_serve.proofs.serving.serve.Given as goal

abbrev pub invariant-lines : goal.invariant-lines
invariant-lines g l = record {
  ready : IsReady l.core.journal l.core.count (g.H.Host.state l.host);
  count : l.core.count ≡ l.fn.core.count;
  imaged : IsImaged (g.T.Tree.meaning l.core.tree);
  ids : l.core.journal.last + 2 * count_of l.core.journal.live + 8 * budget l.reader + 128 < 2 ^ 63;
  faults : g.S.Source.faults l.source ≡ g.S.Source.faults l.fn.source;
  answering : (at : ℕ) (origin : State) → IsServing g.H.Host.told at l.fn.core.count l.fn.core.version (g.T.Tree.meaning l.fn.core.tree) l.fn.core.time l.fn.core.journal [] origin (g.H.Host.state l.fn.host) → HasRoom g.H.Host.told origin l.fn.core.journal most_script
      → Answering g.H.Host.told g.S.Source.told at l.core.count l.core.version (g.T.Tree.meaning l.core.tree) l.core.time l.core.journal (g.S.Source.left l.fn.source) (ahead l.reader ++ g.S.Source.left l.source) (budget l.reader) origin (g.H.Host.state l.host);
}

abbrev pub decreases-lines : goal.decreases-lines
decreases-lines g l = budget l.reader
