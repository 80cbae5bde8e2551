use Rattle.std.proofs.Common.{[], ap, ◌∙◌, ◌++◌}
use Rattle.std.specs.List.{flat_map}
use Rattle.nn_wire.specs.Varint.{varint}
use Rattle.nn_image.proofs.ChildLemmas.{first_passed, stays_among, stands_among, none_passed, all_passed, stays_next, fewer_children, ids_put}
use Rattle.nn_image.proofs.directory.put_children.Goals as goal

pub loop-next-init : goal.loop-next-init
loop-next-init g c =
    let ns = g.T.Tree.meaning c.args.tree.now in
    let place = g.T.Tree.place c.args.tree.now in
    let has = g.T.Tree.has c.args.tree.now in
    let sound = c.counters-counters.ensures.sound in
    record {
      put = none_passed ns.nodes (place c.args.at) place c.first_child-next.result c.args.out.now.items (first_passed ns.nodes (place c.args.at) has place sound.named sound.formed c.first_child-next.result c.first_child-next.ensures);
      among = stays_among ns.nodes (place c.args.at) has place sound.named c.first_child-next.result [] c.first_child-next.ensures;
    }

pub node-requires : goal.node-requires
node-requires g c =
    let place = g.T.Tree.place c.args.tree.now in
    (stands_among (place c.args.at) (g.T.Tree.has c.args.tree.now) place c.loop-next.next c.in-Some.child c.in-Some.is c.loop-next.invariant.among).0

pub next_sibling-next-requires : goal.next_sibling-next-requires
next_sibling-next-requires g c =
    let place = g.T.Tree.place c.args.tree.now in
    (stands_among (place c.args.at) (g.T.Tree.has c.args.tree.now) place c.loop-next.next c.in-Some.child c.in-Some.is c.loop-next.invariant.among).0

pub loop-next-smaller : goal.loop-next-smaller
loop-next-smaller g c =
    let place = g.T.Tree.place c.args.tree.now in
    fewer_children (g.T.Tree.meaning c.args.tree.now).nodes (place c.args.at) (g.T.Tree.has c.args.tree.now) place c.counters-counters.ensures.sound.named
    c.loop-next.next c.next_sibling-next.result c.in-Some.child c.node.result.now c.in-Some.is c.loop-next.invariant.among c.node.ensures c.next_sibling-next.ensures.next

pub loop-next-preserved : goal.loop-next-preserved
loop-next-preserved g c =
    let m = (g.T.Tree.meaning c.args.tree.now).nodes in
    let place = g.T.Tree.place c.args.tree.now in
    let has = g.T.Tree.has c.args.tree.now in
    let sound = c.counters-counters.ensures.sound in
    record {
      put = ids_put m (place c.args.at) has place sound.named c.loop-next.next c.next_sibling-next.result c.in-Some.child c.node.result.now c.in-Some.is c.loop-next.invariant.among c.node.ensures
          c.next_sibling-next.ensures.next c.args.out.now.items c.loop-next.out.items c.varint_put.new.out.items c.loop-next.invariant.put c.in_ok-varint_put.ensures.ok;
      among = stays_next m (place c.args.at) has place sound.named c.loop-next.next c.next_sibling-next.result c.in-Some.child c.node.result.now c.in-Some.is c.loop-next.invariant.among c.node.ensures c.next_sibling-next.ensures.next;
    }

pub returns : goal.returns
returns g c =
    let place = g.T.Tree.place c.args.tree.now in
    record {
      ok = c.loop-next.invariant.put
          ∙ ap (λ ids. c.args.out.now.items ++ flat_map varint ids) (all_passed (g.T.Tree.meaning c.args.tree.now).nodes (place c.args.at) place c.loop-next.next c.in_default.is);
    }
