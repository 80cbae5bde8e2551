use Rattle.std.proofs.Common.{arith, ap, sym, subst, ◌∙◌, ◌≡◌, ◌++◌, ◌∷◌, [], ◌≤◌, ◌+◌, None, length}
use Rattle.std.specs.FinMap as map
use Rattle.nn_base.specs.Paths.{Names}
use Rattle.nn_tree.specs.Nodes.{blocks_of}
use Rattle.nn_tree.specs.Namespace.{block_count}
use Rattle.nn_tree.proofs.LimitsLemmas.{limits_insert}
use Rattle.tests_namespace.proofs.tree.make.Goals as goal

pub insert-requires-clause-free : goal.insert-requires-clause-free
insert-requires-clause-free g c =
    let name = c.in_ok-name.name in
    let is = c.in_ok-name.ensures ∙ ap (λ (p : Names). p ++ name ∷ []) (sym c.in_ok-above.ensures) in
    subst (λ (p : Names). map.get (g.T.Tree.meaning c.reserve.new.self).nodes p ≡ None) (is ∙ ap (λ (p : Names). p ++ name ∷ []) (sym c.found-parent.ensures.place)) c.missing.ensures.free

pub insert-requires-clause-limits : goal.insert-requires-clause-limits
insert-requires-clause-limits g c =
    let name = c.in_ok-name.name in
    let is = c.in_ok-name.ensures ∙ ap (λ (p : Names). p ++ name ∷ []) (sym c.in_ok-above.ensures) in
    let free = subst (λ (p : Names). map.get (g.T.Tree.meaning c.reserve.new.self).nodes p ≡ None) (is ∙ ap (λ (p : Names). p ++ name ∷ []) (sym c.found-parent.ensures.place)) c.missing.ensures.free in
    let most = c.missing.ensures.sound.limits.blocks in
    let none : length (blocks_of c.args.node.kind) ≡ 0 = ap length c.requires.empty in
    let blocks : block_count (g.T.Tree.meaning c.reserve.new.self).nodes + length (blocks_of c.args.node.kind) ≤ 8388608 = omega arith in
    limits_insert (g.T.Tree.meaning c.reserve.new.self).nodes _ c.args.node c.missing.ensures.sound.limits free c.requires.node c.not_full.ensures blocks
