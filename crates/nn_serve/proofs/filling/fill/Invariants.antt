use Rattle.std.proofs.Common.{◌≡◌, ◌+◌, ◌*◌, ◌-◌, ◌≤◌, ℕ, [], vec_capacity}
use Rattle.nn_base.specs.DirSets.{count_of}
use Rattle.nn_base.specs.Limits.{most_script}
use Rattle.nn_host.specs.Moments.{State}
use Rattle.nn_tree.specs.Imaged.{IsImaged}
use Rattle.nn_script.specs.Lines.{lines_of}
use Rattle.nn_generate.specs.Generated.{script_of, max_file}
use Rattle.nn_core.specs.Ready.{IsReady}
use Rattle.nn_serve.specs.Serving.{IsServing, HasRoom}
use Rattle.nn_serve.specs.Filling.{IsFilling, SaysLittle}
use Rattle.nn_serve.proofs.filling.fill.Given as goal

abbrev pub invariant-files : goal.invariant-files
invariant-files g l = record {
  room : max_file ≤ vec_capacity l.lines;
  ready : IsReady l.core.journal l.fn.core.count (g.H.Host.state l.host);
  count : l.core.count ≡ l.fn.core.count;
  version : l.core.version ≡ l.fn.core.version;
  imaged : IsImaged (g.T.Tree.meaning l.core.tree);
  ids : l.core.journal.last + 2 * count_of l.core.journal.live ≤ l.fn.core.journal.last + 2 * count_of l.fn.core.journal.live + 1024 * l.k;
  few : l.tally.commands ≤ 128 * l.k;
  filling : (at : ℕ) (origin : State) → IsServing g.H.Host.told at l.fn.core.count l.fn.core.version (g.T.Tree.meaning l.fn.core.tree) l.fn.core.time l.fn.core.journal [] origin (g.H.Host.state l.fn.host) → HasRoom g.H.Host.told origin l.fn.core.journal most_script → SaysLittle g.H.Host.told origin (g.H.Host.state l.fn.host)
      → IsFilling g.H.Host.told at l.fn.files l.fn.core.count l.fn.core.version (g.T.Tree.meaning l.core.tree) l.core.time l.core.journal (lines_of (script_of l.k)) l.tally origin (g.H.Host.state l.host)
      × HasRoom g.H.Host.told origin l.core.journal (4 * (l.fn.files - l.k));
}
