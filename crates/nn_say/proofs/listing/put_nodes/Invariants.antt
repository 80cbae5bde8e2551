use Rattle.std.proofs.Common.{◌≡◌, ◌-◌, take, length}
use Rattle.std.specs.List.{flat_map}
use Rattle.nn_tree.specs.Below.{entries_below, visited, IsBelow}
use Rattle.nn_script.specs.Answers.{lines_at}
use Rattle.nn_say.specs.Saying.{Streams}
use Rattle.nn_say.proofs.listing.put_nodes.Given as goal

-- the nodes listed so far, and where the walk goes next
abbrev pub invariant-nodes : goal.invariant-nodes
invariant-nodes g l =
    let m = (g.T.Tree.meaning l.tree).nodes in
    let place = g.T.Tree.place l.tree in
    record {
      text : Streams g.H.Host.told (g.H.Host.state l.fn.host) (g.H.Host.state l.host) l.fn.speech.waiting.items (flat_map (lines_at m) (take (visited m (place l.top) place l.next) (entries_below m (place l.top)))) l.speech.waiting.items;
      count : l.count ≡ visited m (place l.top) place l.next;
      below : IsBelow l.next (g.T.Tree.has l.tree) place (place l.top);
    }

abbrev pub decreases-nodes : goal.decreases-nodes
decreases-nodes g l =
    let m = (g.T.Tree.meaning l.tree).nodes in
    let place = g.T.Tree.place l.tree in
    length (entries_below m (place l.top)) - visited m (place l.top) place l.next
