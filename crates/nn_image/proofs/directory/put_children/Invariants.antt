use Rattle.std.proofs.Common.{◌≡◌, ◌-◌, ◌++◌, take, length}
use Rattle.std.specs.List.{flat_map}
use Rattle.nn_wire.specs.Varint.{varint}
use Rattle.nn_image.specs.Image.{children, child_ids}
use Rattle.nn_image.specs.Saving.{IsAmongChildren, passed}
use Rattle.nn_image.proofs.directory.put_children.Given as goal

-- the ids of the children passed so far, and where the walk goes next
abbrev pub invariant-loop-next : goal.invariant-loop-next
invariant-loop-next g l =
    let m = (g.T.Tree.meaning l.tree).nodes in
    let place = g.T.Tree.place l.tree in
    record {
      put : l.out.items ≡ l.fn.out.items ++ flat_map varint (take (passed m (place l.fn.at) place l.next) (child_ids m (place l.fn.at)));
      among : IsAmongChildren l.next (g.T.Tree.has l.tree) place (place l.fn.at);
    }

abbrev pub decreases-loop-next : goal.decreases-loop-next
decreases-loop-next g l =
    let m = (g.T.Tree.meaning l.tree).nodes in
    let place = g.T.Tree.place l.tree in
    length (children m (place l.fn.at)) - passed m (place l.fn.at) place l.next
