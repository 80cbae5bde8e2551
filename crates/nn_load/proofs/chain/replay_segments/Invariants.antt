use Rattle.std.proofs.Common.{◌≡◌, ◌+◌, ◌-◌, ◌^◌, List, length, true, false}
use Rattle.nn_host.specs.Runs.{OnlyAt, Looked}
use Rattle.nn_host.specs.Moments.{disk_at}
use Rattle.nn_tree.specs.Imaged.{IsImaged}
use Rattle.nn_record.specs.declared.transaction.Record.{Record}
use Rattle.nn_chain.specs.Folder.{folder_at}
use Rattle.nn_chain.specs.Chain.{Leads}
use Rattle.nn_load.specs.Turns.{reached, IsWaiting, IsLeft}
use Rattle.nn_load.proofs.chain.replay_segments.Given as goal

abbrev pub invariant-loop-at : goal.invariant-loop-at
invariant-loop-at g l = record {
  going : l.at.left.ended ≡ false;
  waits : IsWaiting l.place.names.items l.at;
  leads : g.H.Host.told → (records : List Record) × Leads (folder_at ((g.H.Host.state l.fn.host).reads l.fn.place.dir.0) l.fn.place.sub) l.fn.place.version.layout (record { last = l.fn.id; ns = g.T.Tree.meaning l.fn.tree }) records (reached l.at.left (g.T.Tree.meaning l.tree));
  left : g.H.Host.told → IsLeft (folder_at ((g.H.Host.state l.fn.host).reads l.fn.place.dir.0) l.fn.place.sub) l.fn.place.version.layout l.place.names.items l.at;
  imaged : IsImaged (g.T.Tree.meaning l.fn.tree) → IsImaged (g.T.Tree.meaning l.tree);
  kept : Looked g.H.Host.told l.fn.place.dir.0 (g.H.Host.state l.fn.host) (g.H.Host.state l.host) true;
  still : OnlyAt g.H.Host.told l.fn.place.dir.0 (g.H.Host.state l.fn.host) (g.H.Host.state l.host) (λ d. d ≡ disk_at (g.H.Host.state l.fn.host) l.fn.place.dir.0);
}

abbrev pub decreases-loop-at : goal.decreases-loop-at
decreases-loop-at g l = length l.place.names.items + length l.place.names.items + 2 ^ 63 - (l.at.left.finalized + l.at.left.in_progress + l.at.left.last)
