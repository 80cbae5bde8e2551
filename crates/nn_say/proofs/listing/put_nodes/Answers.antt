use Rattle.std.proofs.Common.{◌++◌, ◌+◌, refl, sym, ap, ◌∙◌, subst, length, take, drop, arith}
use Rattle.std.specs.List.{flat_map}
use Rattle.std.proofs.lemmas.List.{take_all}
use Rattle.nn_base.specs.Paths.{Bytes}
use Rattle.nn_tree.specs.Below.{entries_below, visited}
use Rattle.nn_tree.proofs.PrefixLemmas.{under_itself}
use Rattle.nn_tree.proofs.BelowLemmas.{none_visited, one_more, take_one_more, fewer_left, stays_below}
use Rattle.nn_script.specs.Answers.{lines_at}
use Rattle.nn_say.specs.Saying.{Streams}
use Rattle.nn_say.proofs.SayingLemmas.{streams_nothing, streams_then, breaks_then, puts_broken, puts_failed}
use Rattle.nn_say.proofs.ListingLemmas.{piece_more, piece_within, few_nodes, few_visited}
use Rattle.nn_say.proofs.listing.put_nodes.Goals as goal

pub nodes-init : goal.nodes-init
nodes-init g c =
    let m = (g.T.Tree.meaning c.args.tree.now).nodes in
    let top = g.T.Tree.place c.args.tree.now c.args.top in record {
      text = streams_nothing c.args.speech.now.waiting.items _ (ap (λ n. flat_map (lines_at m) (take n (entries_below m top))) (none_visited m top));
      count = sym (none_visited m top);
      below = (c.requires, under_itself top);
    }

pub put_node-requires-clause-bounds : goal.put_node-requires-clause-bounds
put_node-requires-clause-bounds g c = c.counters-counters.ensures.sound.limits.each (g.T.Tree.place c.args.tree.now c.in-Some.at) c.node.result.now c.node.ensures

pub overflow_add-count : goal.overflow_add-count
overflow_add-count g c =
    let m = (g.T.Tree.meaning c.args.tree.now).nodes in
    let place = g.T.Tree.place c.args.tree.now in
    let few = few_nodes m (place c.args.top) c.counters-counters.ensures.sound.limits.nodes in
    let within = few_visited m (place c.args.top) place c.nodes.next in
    omega (arith, few, within, c.nodes.invariant.count)

pub returns-in_err-put_node-clause-puts : goal.returns-in_err-put_node-clause-puts
returns-in_err-put_node-clause-puts g c =
    let m = (g.T.Tree.meaning c.args.tree.now).nodes in
    let place = g.T.Tree.place c.args.tree.now in
    let has = g.T.Tree.has c.args.tree.now in
    let top = place c.args.top in
    let all = entries_below m top in
    let now = visited m top place c.nodes.next in
    let then = visited m top place c.next_below-after.result in
    let so_far = flat_map (lines_at m) (take now all) in
    let line = lines_at m (place c.in-Some.at, c.node.result.now) in
    puts_failed c.args.speech.now.waiting.items (flat_map (lines_at m) all) c.put_node.new.speech.waiting.items c.from_residual.result c.from_residual.ensures.0
    (puts_broken c.args.speech.now.waiting.items (so_far ++ line) (flat_map (lines_at m) (drop then all)) (flat_map (lines_at m) all)
    (breaks_then line (so_far ++ line) c.nodes.invariant.text c.in_err-put_node.ensures refl)
    (piece_within (lines_at m) all now then (place c.in-Some.at, c.node.result.now)
    (take_one_more m top has place c.nodes.next c.next_below-after.result c.in-Some.at c.node.result.now c.in-Some.is c.nodes.invariant.below c.node.ensures c.next_below-after.ensures)))

pub nodes-smaller : goal.nodes-smaller
nodes-smaller g c =
    let place = g.T.Tree.place c.args.tree.now in
    fewer_left (g.T.Tree.meaning c.args.tree.now).nodes (place c.args.top) (g.T.Tree.has c.args.tree.now) place c.nodes.next c.next_below-after.result c.in-Some.at c.node.result.now c.in-Some.is c.nodes.invariant.below c.node.ensures c.next_below-after.ensures

pub nodes-preserved : goal.nodes-preserved
nodes-preserved g c =
    let m = (g.T.Tree.meaning c.args.tree.now).nodes in
    let place = g.T.Tree.place c.args.tree.now in
    let has = g.T.Tree.has c.args.tree.now in
    let top = place c.args.top in
    let next = c.next_below-after.result in record {
      text = streams_then c.nodes.invariant.text c.in_ok-put_node.ensures (piece_more (lines_at m) (entries_below m top) (visited m top place c.nodes.next) (visited m top place next) (place c.in-Some.at, c.node.result.now)
          (take_one_more m top has place c.nodes.next next c.in-Some.at c.node.result.now c.in-Some.is c.nodes.invariant.below c.node.ensures c.next_below-after.ensures));
      count = ap (λ n. n + 1) c.nodes.invariant.count ∙ sym (one_more m top has place c.nodes.next next c.in-Some.at c.node.result.now c.in-Some.is c.nodes.invariant.below c.node.ensures c.next_below-after.ensures);
      below = stays_below m top has place (place c.in-Some.at) next c.next_below-after.ensures;
    }

pub returns-clause-puts : goal.returns-clause-puts
returns-clause-puts g c =
    let m = (g.T.Tree.meaning c.args.tree.now).nodes in
    let place = g.T.Tree.place c.args.tree.now in
    let top = place c.args.top in
    let all = entries_below m top in
    subst (λ (text : Bytes). Streams g.H.Host.told (g.H.Host.state c.args.host.now) (g.H.Host.state c.nodes.host) c.args.speech.now.waiting.items text c.nodes.speech.waiting.items)
    (ap (λ o. flat_map (lines_at m) (take (visited m top place o) all)) c.in_default.is ∙ ap (flat_map (lines_at m)) (take_all (length all) all (omega arith))) c.nodes.invariant.text
