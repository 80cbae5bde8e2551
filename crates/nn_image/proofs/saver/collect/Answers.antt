use Rattle.std.proofs.Common.{◌+◌, sym, ap, ◌∙◌, subst, arith, length}
use Rattle.std.specs.Prelude.{All}
use Rattle.nn_base.specs.Labels.{IsLabel}
use Rattle.nn_strtab.specs.Numbers.{with_use}
use Rattle.nn_tree.proofs.BelowLemmas.{none_visited, one_more, fewer_left, stays_below}
use Rattle.nn_tree.proofs.PrefixLemmas.{under_itself}
use Rattle.nn_image.proofs.CollectLemmas.{short_more, few_collected, none_collected, all_collected, all_counted, two_more, not_all, one_more_name, few_nodes, all_entries}
use Rattle.nn_image.proofs.saver.collect.Goals as goal

pub loop-next-init : goal.loop-next-init
loop-next-init g c =
    let m = (g.T.Tree.meaning c.args.tree.now).nodes in
    let place = g.T.Tree.place c.args.tree.now in
    record {
      names = c.new-names.ensures ∙ none_collected m (place c.args.root);
      short = subst (All IsLabel) (sym c.new-names.ensures) (λ k d within. absurd (omega arith));
      nodes = sym (none_visited m (place c.args.root));
      below = (c.requires.there, under_itself (place c.args.root));
    }

pub number_of-requires : goal.number_of-requires
number_of-requires g c =
    let m = (g.T.Tree.meaning c.args.tree.now).nodes in
    let place = g.T.Tree.place c.args.tree.now in
    let few = few_collected m (place c.args.root) _ c.loop-next.names c.requires.top c.counters-counters.ensures.sound.limits c.loop-next.invariant.names in
    omega (arith, few)

pub number_of-requires-in-Some : goal.number_of-requires-in-Some
number_of-requires-in-Some g c =
    let m = (g.T.Tree.meaning c.args.tree.now).nodes in
    let place = g.T.Tree.place c.args.tree.now in
    let has = g.T.Tree.has c.args.tree.now in
    let top = place c.args.root in
    let few = few_collected m top _ c.loop-next.names c.requires.top c.counters-counters.ensures.sound.limits c.loop-next.invariant.names in
    let used = ap length c.in_ok-number_of.ensures.used in
    let more = one_more_name c.loop-next.names c.bytes.result.now in
    omega (arith, few, used, more)

pub overflow_add-nodes : goal.overflow_add-nodes
overflow_add-nodes g c =
    let m = (g.T.Tree.meaning c.args.tree.now).nodes in
    let place = g.T.Tree.place c.args.tree.now in
    let has = g.T.Tree.has c.args.tree.now in
    let top = place c.args.root in
    let not = not_all m top has place c.loop-next.next c.in-Some.at c.node-node.result.now c.in-Some.is c.loop-next.invariant.below c.node-node.ensures in
    let few = few_nodes m c.counters-counters.ensures.sound.limits in
    let all = ap length (all_entries m top c.requires.top) in
    omega (arith, not, few, all, c.loop-next.invariant.nodes)

pub loop-next-smaller : goal.loop-next-smaller
loop-next-smaller g c =
    let m = (g.T.Tree.meaning c.args.tree.now).nodes in
    let place = g.T.Tree.place c.args.tree.now in
    let has = g.T.Tree.has c.args.tree.now in
    let top = place c.args.root in
    fewer_left m top has place c.loop-next.next c.next_below-next.result c.in-Some.at c.node-node.result.now c.in-Some.is c.loop-next.invariant.below c.node-node.ensures c.next_below-next.ensures

pub loop-next-preserved : goal.loop-next-preserved
loop-next-preserved g c =
    let m = (g.T.Tree.meaning c.args.tree.now).nodes in
    let place = g.T.Tree.place c.args.tree.now in
    let has = g.T.Tree.has c.args.tree.now in
    let top = place c.args.root in
    let node = c.node-node.result.now in
    let owner = c.in_ok-number_of.ensures.used ∙ ap (with_use c.loop-next.names) c.bytes.ensures.value in
    let group = c.in_ok-number_of-2.ensures.used ∙ ap (with_use c.number_of.new.self) c.bytes-in-Some.ensures.value in
    let first = short_more c.loop-next.names c.bytes.result.now c.loop-next.invariant.short (subst IsLabel (sym c.bytes.ensures.value) (c.bytes.ensures.some, c.bytes.ensures.few)) in
    let second = short_more c.number_of.new.self c.bytes-in-Some.result.now (subst (All IsLabel) (sym c.in_ok-number_of.ensures.used) first) (subst IsLabel (sym c.bytes-in-Some.ensures.value) (c.bytes-in-Some.ensures.some, c.bytes-in-Some.ensures.few)) in
    record {
      names = two_more m top has place c.loop-next.next c.next_below-next.result c.in-Some.at node c.in-Some.is c.loop-next.invariant.below c.node-node.ensures c.next_below-next.ensures
          c.loop-next.names c.number_of.new.self c.number_of-in-Some.new.self c.loop-next.invariant.names owner group;
      short = subst (All IsLabel) (sym c.in_ok-number_of-2.ensures.used) second;
      nodes = ap (λ n. n + 1) c.loop-next.invariant.nodes ∙ sym (one_more m top has place c.loop-next.next c.next_below-next.result c.in-Some.at node c.in-Some.is c.loop-next.invariant.below c.node-node.ensures c.next_below-next.ensures);
      below = stays_below m top has place (place c.in-Some.at) c.next_below-next.result c.next_below-next.ensures;
    }

pub returns-clause-names : goal.returns-clause-names
returns-clause-names g c =
    let m = (g.T.Tree.meaning c.args.tree.now).nodes in
    let place = g.T.Tree.place c.args.tree.now in
    let has = g.T.Tree.has c.args.tree.now in
    let top = place c.args.root in
    all_collected m top place c.loop-next.next c.loop-next.names c.requires.top c.in_default.is c.loop-next.invariant.names

pub returns-clause-few : goal.returns-clause-few
returns-clause-few g c =
    let m = (g.T.Tree.meaning c.args.tree.now).nodes in
    let place = g.T.Tree.place c.args.tree.now in
    let has = g.T.Tree.has c.args.tree.now in
    let top = place c.args.root in
    let few = few_collected m top _ c.loop-next.names c.requires.top c.counters-counters.ensures.sound.limits c.loop-next.invariant.names in
    omega (arith, few)

pub returns-clause-nodes : goal.returns-clause-nodes
returns-clause-nodes g c =
    let m = (g.T.Tree.meaning c.args.tree.now).nodes in
    let place = g.T.Tree.place c.args.tree.now in
    let has = g.T.Tree.has c.args.tree.now in
    let top = place c.args.root in
    c.loop-next.invariant.nodes ∙ all_counted m top place c.loop-next.next c.requires.top c.in_default.is
