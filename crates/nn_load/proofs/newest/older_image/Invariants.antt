use Rattle.std.proofs.Common.{◌≡◌, ◌≤◌, length, true}
use Rattle.nn_host.specs.Moments.{disk_at}
use Rattle.nn_host.specs.Runs.{OnlyAt, Looked}
use Rattle.nn_chain.specs.Folder.{folder_at}
use Rattle.nn_load.specs.Newest.{NoneIntactFrom}
use Rattle.nn_load.proofs.newest.older_image.Given as goal

abbrev pub invariant-loop-k : goal.invariant-loop-k
invariant-loop-k g l = record {
  inside : l.left ≤ length l.place.names.items;
  none : g.H.Host.told → NoneIntactFrom (folder_at ((g.H.Host.state l.fn.host).reads l.fn.place.dir.0) l.fn.place.sub) l.place.version l.place.names.items l.left;
  kept : Looked g.H.Host.told l.fn.place.dir.0 (g.H.Host.state l.fn.host) (g.H.Host.state l.host) true;
  still : OnlyAt g.H.Host.told l.fn.place.dir.0 (g.H.Host.state l.fn.host) (g.H.Host.state l.host) (λ d. d ≡ disk_at (g.H.Host.state l.fn.host) l.fn.place.dir.0);
}

abbrev pub decreases-loop-k : goal.decreases-loop-k
decreases-loop-k g l = l.left
