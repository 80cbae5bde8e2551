use Rattle.std.proofs.Common.{◌≡◌, ◌+◌, ◌*◌, ◌≤◌, length}
use Rattle.nn_base.specs.DirSets.{count_of}
use Rattle.nn_tree.specs.Imaged.{IsImaged}
use Rattle.nn_script.specs.Lines.{lines_of}
use Rattle.nn_core.specs.Ready.{IsReady}
use Rattle.nn_fill.specs.Filled.{AreGood}
use Rattle.nn_serve.proofs.FillLinesLemmas.{FillsSoFar}
use Rattle.nn_serve.proofs.filling.do_lines.Given as goal

abbrev pub invariant-lines : goal.invariant-lines
invariant-lines g l = record {
  good : AreGood l.rest;
  ready : IsReady l.core.journal l.fn.core.count (g.H.Host.state l.host);
  count : l.core.count ≡ l.fn.core.count;
  version : l.core.version ≡ l.fn.core.version;
  imaged : IsImaged (g.T.Tree.meaning l.core.tree);
  last : l.core.journal.last + 2 * count_of l.core.journal.live + 8 * length l.rest ≤ l.fn.core.journal.last + 2 * count_of l.fn.core.journal.live + 8 * length l.fn.text;
  few : l.tally.commands + length l.rest ≤ l.fn.tally.commands + length l.fn.text;
  so_far : FillsSoFar g.H.Host.told (lines_of l.fn.text) l.fn.core.count l.fn.core.version (g.T.Tree.meaning l.fn.core.tree) (g.T.Tree.meaning l.core.tree) l.fn.core.time l.core.time l.fn.core.journal l.core.journal l.fn.tally l.tally l.rest (g.H.Host.state l.fn.host) (g.H.Host.state l.host);
}

abbrev pub decreases-lines : goal.decreases-lines
decreases-lines g l = length l.rest
