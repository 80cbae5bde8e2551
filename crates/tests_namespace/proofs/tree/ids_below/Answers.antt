use Rattle.std.proofs.Common.{◌≡◌, ℕ, List, Option, ◌++◌, ◌∷◌, [], ap, sym, ◌∙◌, map, take}
use Rattle.std.proofs.lemmas.List.{map_push}
use Rattle.nn_base.specs.Paths.{Names}
use Rattle.nn_tree.specs.declared.node.Node.{Node}
use Rattle.nn_tree.specs.declared.spot.Spot.{Spot}
use Rattle.nn_tree.specs.Namespace.{Nodes}
use Rattle.nn_tree.specs.Below.{entries_below, visited}
use Rattle.nn_tree.proofs.PrefixLemmas.{under_itself}
use Rattle.nn_tree.proofs.BelowLemmas.{none_visited, take_one_more, fewer_left, stays_below}
use Rattle.tests_namespace.proofs.tree.ids_below.Goals as goal

-- one id more for one entry more
one_more : (m : Nodes) (top : Names) (place : Spot → Names) (at to : Option Spot) (e : Names × Node) (old new : List ℕ) → new ≡ old ++ e.1.id ∷ []
    → old ≡ map (λ e. e.1.id) (take (visited m top place at) (entries_below m top)) → take (visited m top place to) (entries_below m top) ≡ take (visited m top place at) (entries_below m top) ++ e ∷ []
    → new ≡ map (λ e. e.1.id) (take (visited m top place to) (entries_below m top))
one_more m top place at to e old new pushed seen more =
    pushed ∙ ap (λ ids. ids ++ e.1.id ∷ []) seen ∙ sym (ap (map (λ e. e.1.id)) more ∙ map_push (λ e. e.1.id) (take (visited m top place at) (entries_below m top)) e)

pub loop-next-init : goal.loop-next-init
loop-next-init g c =
    let m = (g.T.Tree.meaning c.args.tree.now).nodes in
    let top = g.T.Tree.place c.args.tree.now c.args.top in
    record {
      seen = c.new-ids.ensures.items ∙ sym (ap (λ n. map (λ e. e.1.id) (take n (entries_below m top))) (none_visited m top));
      below = (c.requires, under_itself top);
    }

pub loop-next-smaller : goal.loop-next-smaller
loop-next-smaller g c =
    let place = g.T.Tree.place c.args.tree.now in
    fewer_left (g.T.Tree.meaning c.args.tree.now).nodes (place c.args.top) (g.T.Tree.has c.args.tree.now) place c.loop-next.next c.next_below-next.result c.in-Some.at c.node.result.now c.in-Some.is c.loop-next.invariant.below c.node.ensures c.next_below-next.ensures

pub loop-next-preserved : goal.loop-next-preserved
loop-next-preserved g c =
    let m = (g.T.Tree.meaning c.args.tree.now).nodes in
    let place = g.T.Tree.place c.args.tree.now in
    let has = g.T.Tree.has c.args.tree.now in
    let next = c.next_below-next.result in
    record {
      seen = one_more m (place c.args.top) place c.loop-next.next next (place c.in-Some.at, c.node.result.now) c.loop-next.ids.items c.push.new.self.items c.in_ok-push.ensures.items c.loop-next.invariant.seen
          (take_one_more m (place c.args.top) has place c.loop-next.next next c.in-Some.at c.node.result.now c.in-Some.is c.loop-next.invariant.below c.node.ensures c.next_below-next.ensures);
      below = stays_below m (place c.args.top) has place (place c.in-Some.at) next c.next_below-next.ensures;
    }
