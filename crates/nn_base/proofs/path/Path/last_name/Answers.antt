use Rattle.std.proofs.Common.{◌≡◌, ◌<◌, ◌-◌, false, length, take, drop, get_or, sym, ap, subst, ◌∙◌}
use Rattle.std.proofs.lemmas.List.{take_rest}
use Rattle.nn_base.specs.Paths.{Names, Bytes, has_slash}
use Rattle.nn_base.proofs.PathHeldLemmas.{cut}
use Rattle.nn_base.proofs.path.Path.last_name.Goals as goal

pub held-requires : goal.held-requires
held-requires c =
    let text = c.self.inside.text.items in
    let k = cut text c.self.inside.depth c.last_start-start.result c.self.invariant (subst (λ (ns : Names). 0 < length ns) (sym c.self.view_is) c.requires)
    (subst (λ (t : Bytes). has_slash (drop c.last_start-start.result t) ≡ false) c.deref.ensures.value c.last_start-start.ensures.whole)
    (λ some. subst (λ (t : Bytes). get_or t (c.last_start-start.result - 1) 0 ≡ 47) c.deref.ensures.value (c.last_start-start.ensures.slash some)) in
    rw (c.deref-2.ensures.value, take_rest text c.last_start-start.result) k.name

pub returns : goal.returns
returns c =
    let text = c.self.inside.text.items in
    let k = cut text c.self.inside.depth c.last_start-start.result c.self.invariant (subst (λ (ns : Names). 0 < length ns) (sym c.self.view_is) c.requires)
    (subst (λ (t : Bytes). has_slash (drop c.last_start-start.result t) ≡ false) c.deref.ensures.value c.last_start-start.ensures.whole)
    (λ some. subst (λ (t : Bytes). get_or t (c.last_start-start.result - 1) 0 ≡ 47) c.deref.ensures.value (c.last_start-start.ensures.slash some)) in
    let is : c.in_ok-name.name ≡ drop c.last_start-start.result text = c.in_ok-name.ensures ∙ ap (λ t. take (length t - c.last_start-start.result) (drop c.last_start-start.result t)) c.deref-2.ensures.value ∙ take_rest text c.last_start-start.result in
    rw (is, ← c.self.view_is) k.names
