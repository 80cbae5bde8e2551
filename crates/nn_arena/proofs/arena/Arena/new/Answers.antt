use Rattle.nn_arena.proofs.RootLemmas.{rooted}
use Rattle.nn_arena.proofs.arena.Arena.new.Goals as goal

pub invariant_of-result : goal.invariant_of-result
invariant_of-result c =
    let r = rooted c.push.new.self.items c.new-places.result.items c.root.result c.new-places.ensures.items c.in_ok-push.ensures.items c.root.ensures.first c.root.ensures.name c.root.ensures.node in
    record { tree = r.tree; linked = r.linked; free_list = ∣ r.free_list ∣₁; counted = r.counted; limits = r.limits }

pub returns-clause-nodes : goal.returns-clause-nodes
returns-clause-nodes c =
    let r = rooted c.push.new.self.items c.new-places.result.items c.root.result c.new-places.ensures.items c.in_ok-push.ensures.items c.root.ensures.first c.root.ensures.name c.root.ensures.node in
    r.nodes
