use Rattle.std.proofs.Common.{◌≡◌, ◌-◌, map, take, length}
use Rattle.nn_tree.specs.Below.{entries_below, visited, IsBelow}
use Rattle.tests_namespace.proofs.tree.ids_below.Given as goal

-- the entries visited so far, and where the walk goes next
abbrev pub invariant-loop-next : goal.invariant-loop-next
invariant-loop-next g l =
    let m = (g.T.Tree.meaning l.tree).nodes in
    let place = g.T.Tree.place l.tree in
    record {
      seen : l.ids.items ≡ map (λ e. e.1.id) (take (visited m (place l.top) place l.next) (entries_below m (place l.top)));
      below : IsBelow l.next (g.T.Tree.has l.tree) place (place l.top);
    }

abbrev pub decreases-loop-next : goal.decreases-loop-next
decreases-loop-next g l =
    let m = (g.T.Tree.meaning l.tree).nodes in
    let place = g.T.Tree.place l.tree in
    length (entries_below m (place l.top)) - visited m (place l.top) place l.next
