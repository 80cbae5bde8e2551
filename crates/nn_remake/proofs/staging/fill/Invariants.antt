use Rattle.std.proofs.Common.{length}
use Rattle.nn_image.specs.Saving.{Saves, left}
use Rattle.nn_remake.proofs.StagingLemmas.{Filling}
use Rattle.nn_remake.proofs.staging.fill.Given as goal

-- the pieces so far are in the file and in the digest
abbrev pub invariant-piece : goal.invariant-piece
invariant-piece g l =
    let ns = g.T.Tree.meaning l.tree in
    let has = g.T.Tree.has l.tree in
    let place = g.T.Tree.place l.tree in
    record {
      saves : Saves l.saver ns has place;
      filling : Filling g.H.Host.told l.id (left l.fn.saver ns has place) l.i.0 (g.H.Host.state l.fn.host) (g.H.Host.state l.host) l.hasher (left l.saver ns has place);
    }

abbrev pub decreases-piece : goal.decreases-piece
decreases-piece g l = length (left l.saver (g.T.Tree.meaning l.tree) (g.T.Tree.has l.tree) (g.T.Tree.place l.tree))
