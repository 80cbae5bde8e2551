use Rattle.std.proofs.Common.{arith, length, ◌≡◌, sym, ap, subst, ◌∙◌}
use Rattle.std.proofs.Math.Logic.{∥∥₁_map}
use Rattle.nn_tree.specs.Limits.{IsWithinLimits}
use Rattle.nn_tree.specs.Namespace.{block_count}
use Rattle.nn_arena.specs.FreeList.{IsFreeList}
use Rattle.nn_arena.proofs.GrowLemmas.{grown, list_grown, no_first}
use Rattle.nn_arena.proofs.arena.Arena.grow.Goals as goal

pub invariant_of-self-2 : goal.invariant_of-self-2
invariant_of-self-2 c =
    let g = grown c.args.self.now.places.items c.push.new.self.items c.in_ok-push.ensures.items c.args.self.now.tree c.args.self.now.linked in
    let none = no_first c.args.self.now.free (sym c.is_some.ensures ∙ c.if-is_some.false) in
    let len : c.len-at.result ≡ length c.args.self.now.places.items = omega (arith, c.len-at.ensures) in
    record {
      tree = g.tree;
      linked = g.linked;
      free_list = ∥∥₁_map c.args.self.now.free_list (λ l. list_grown c.args.self.now.places.items (subst (IsFreeList c.args.self.now.places.items) none l) c.len-at.result c.push.new.self.items len c.in_ok-push.ensures.items);
      counted = c.args.self.now.counted ∙ ap block_count (sym g.nodes);
      limits = subst IsWithinLimits (sym g.nodes) c.args.self.now.limits;
    }

pub returns-clause-same : goal.returns-clause-same
returns-clause-same c =
    let g = grown c.args.self.now.places.items c.push.new.self.items c.in_ok-push.ensures.items c.args.self.now.tree c.args.self.now.linked in
    g.same

pub returns-clause-path : goal.returns-clause-path
returns-clause-path c =
    let g = grown c.args.self.now.places.items c.push.new.self.items c.in_ok-push.ensures.items c.args.self.now.tree c.args.self.now.linked in
    g.path

pub returns-clause-nodes : goal.returns-clause-nodes
returns-clause-nodes c =
    let g = grown c.args.self.now.places.items c.push.new.self.items c.in_ok-push.ensures.items c.args.self.now.tree c.args.self.now.linked in
    g.nodes
