use Rattle.std.specs.Prelude.{ℕ}
use Rattle.nn_base.specs.DirSets.{has}
use Rattle.nn_host.specs.Moments.{disk_at}
use Rattle.nn_segment_file.specs.Log.{Beside}
use Rattle.nn_start.specs.Keeping.{IsYounger}
use Rattle.nn_start.proofs.PublishLemmas.{PublishPhase}
use Rattle.nn_start.proofs.publishing.publish_all.Given as goal

abbrev pub invariant-loop-i : goal.invariant-loop-i
invariant-loop-i g l = record {
  walk : PublishPhase g.H.Host.told (has l.aim.chosen) l.aim.version l.aim.last (g.T.Tree.meaning l.aim.tree) l.i (g.H.Host.state l.fn.host) (g.H.Host.state l.host);
  beside : g.H.Host.told → (j : ℕ) → Beside (IsYounger l.aim.last) (disk_at (g.H.Host.state l.fn.host) j) (disk_at (g.H.Host.state l.host) j);
}
