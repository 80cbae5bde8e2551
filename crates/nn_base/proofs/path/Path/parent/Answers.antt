use Rattle.std.proofs.Common.{◌≡◌, ◌<◌, ◌-◌, false, length, take, drop, get_or, sym, ap, subst, ◌∙◌, arith}
use Rattle.nn_base.specs.Paths.{Names, Bytes, has_slash}
use Rattle.nn_base.specs.PathHeld.{HoldsPath}
use Rattle.nn_base.specs.PathText.{parts_of}
use Rattle.nn_base.proofs.PathHeldLemmas.{cut}
use Rattle.nn_base.proofs.path.Path.parent.Goals as goal

pub slice_bounds-to_vec-count : goal.slice_bounds-to_vec-count
slice_bounds-to_vec-count c =
    let text = c.self.inside.text.items in
    let k = cut text c.self.inside.depth c.last_start-start.result c.self.invariant (subst (λ (ns : Names). 0 < length ns) (sym c.self.view_is) c.requires)
    (subst (λ (t : Bytes). has_slash (drop c.last_start-start.result t) ≡ false) c.deref.ensures.value c.last_start-start.ensures.whole)
    (λ some. subst (λ (t : Bytes). get_or t (c.last_start-start.result - 1) 0 ≡ 47) c.deref.ensures.value (c.last_start-start.ensures.slash some)) in
    omega (arith, k.some)

pub invariant_of-result : goal.invariant_of-result
invariant_of-result c =
    let text = c.self.inside.text.items in
    let k = cut text c.self.inside.depth c.last_start-start.result c.self.invariant (subst (λ (ns : Names). 0 < length ns) (sym c.self.view_is) c.requires)
    (subst (λ (t : Bytes). has_slash (drop c.last_start-start.result t) ≡ false) c.deref.ensures.value c.last_start-start.ensures.whole)
    (λ some. subst (λ (t : Bytes). get_or t (c.last_start-start.result - 1) 0 ≡ 47) c.deref.ensures.value (c.last_start-start.ensures.slash some)) in
    let is : c.in_ok-text.text.items ≡ take (c.last_start-start.result - 1) text = c.in_ok-text.ensures.items_if_clones_equal (λ x y h. h) ∙ ap (take (c.last_start-start.result - 1)) c.deref-2.ensures.value in
    subst (λ (t : Bytes). HoldsPath t (c.self.inside.depth - 1)) (sym is) k.held

pub returns : goal.returns
returns c =
    let text = c.self.inside.text.items in
    let k = cut text c.self.inside.depth c.last_start-start.result c.self.invariant (subst (λ (ns : Names). 0 < length ns) (sym c.self.view_is) c.requires)
    (subst (λ (t : Bytes). has_slash (drop c.last_start-start.result t) ≡ false) c.deref.ensures.value c.last_start-start.ensures.whole)
    (λ some. subst (λ (t : Bytes). get_or t (c.last_start-start.result - 1) 0 ≡ 47) c.deref.ensures.value (c.last_start-start.ensures.slash some)) in
    let is : c.in_ok-text.text.items ≡ take (c.last_start-start.result - 1) text = c.in_ok-text.ensures.items_if_clones_equal (λ x y h. h) ∙ ap (take (c.last_start-start.result - 1)) c.deref-2.ensures.value in
    ap parts_of is ∙ k.above ∙ ap (λ ns. take (length ns - 1) ns) c.self.view_is
