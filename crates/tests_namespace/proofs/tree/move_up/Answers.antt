use Rattle.std.proofs.Common.{arith, ap, sym, subst, ◌∙◌, ◌≡◌, ◌++◌, ◌∷◌, [], ◌<◌, None, length}
use Rattle.std.specs.FinMap as map
use Rattle.nn_base.specs.Paths.{Names, is_under}
use Rattle.nn_tree.proofs.PrefixLemmas.{not_under_longer}
use Rattle.tests_namespace.proofs.tree.move_up.Goals as goal

pub relink-requires-clause-outside : goal.relink-requires-clause-outside
relink-requires-clause-outside g c =
    let shorter : length c.in_ok-above.above < length c.args.from.now = omega arith in
    (λ i. is_under (c.found-at.ensures.place i) (c.found-parent.ensures.place i)) ∙ not_under_longer c.args.from.now c.in_ok-above.above shorter

pub relink-requires-clause-free : goal.relink-requires-clause-free
relink-requires-clause-free g c =
    let name = c.in_ok-name.name in
    let is = c.in_ok-name.ensures ∙ ap (λ (p : Names). p ++ name ∷ []) (sym c.in_ok-above.ensures) in
    subst (λ (p : Names). map.get (g.T.Tree.meaning c.args.tree.now).nodes p ≡ None) (is ∙ ap (λ (p : Names). p ++ name ∷ []) (sym c.found-parent.ensures.place)) c.missing.ensures.free
