use Rattle.std.proofs.Common.{◌≡◌, ◌-◌, take, length}
use Rattle.std.specs.Prelude.{All}
use Rattle.std.specs.List.{flat_map}
use Rattle.nn_base.specs.Labels.{IsLabel}
use Rattle.nn_strtab.specs.Numbers.{first_uses}
use Rattle.nn_tree.specs.Below.{entries_below, visited, IsBelow}
use Rattle.nn_image.specs.Image.{labels}
use Rattle.nn_image.proofs.saver.collect.Given as goal

-- the names of the nodes visited so far, and where the walk goes next
abbrev pub invariant-loop-next : goal.invariant-loop-next
invariant-loop-next g l =
    let m = (g.T.Tree.meaning l.tree).nodes in
    let place = g.T.Tree.place l.tree in
    record {
      names : l.names ≡ first_uses (flat_map labels (take (visited m (place l.root) place l.next) (entries_below m (place l.root))));
      short : All IsLabel l.names;
      nodes : l.nodes ≡ visited m (place l.root) place l.next;
      below : IsBelow l.next (g.T.Tree.has l.tree) place (place l.root);
    }

abbrev pub decreases-loop-next : goal.decreases-loop-next
decreases-loop-next g l =
    let m = (g.T.Tree.meaning l.tree).nodes in
    let place = g.T.Tree.place l.tree in
    length (entries_below m (place l.root)) - visited m (place l.root) place l.next
