use Rattle.std.proofs.Common.{◌<◌, length, sym, subst, ◌∙◌}
use Rattle.std.proofs.lemmas.List.{take_rest}
use Rattle.nn_base.specs.Paths.{Names}
use Rattle.nn_base.specs.PathHeld.{HoldsNames}
use Rattle.nn_base.proofs.PathHeldLemmas.{taken}
use Rattle.nn_base.proofs.path.components.Components.take_name.Goals as goal

pub split_at-requires : goal.split_at-requires
split_at-requires c =
    let t = taken c.self.inside.rest.now _ _ c.self.invariant (subst (λ (ns : Names). 0 < length ns) (sym c.self.view_is) c.requires) (take_rest c.self.inside.rest.now 1) c.part_len.ensures in
    t.within

pub invariant_of-self : goal.invariant_of-self
invariant_of-self c =
    let t = taken c.self.inside.rest.now _ _ c.self.invariant (subst (λ (ns : Names). 0 < length ns) (sym c.self.view_is) c.requires) (take_rest c.self.inside.rest.now 1) c.part_len.ensures in
    subst HoldsNames (sym c.split_at.ensures.back) t.held

pub returns-clause-rest : goal.returns-clause-rest
returns-clause-rest c =
    let t = taken c.self.inside.rest.now _ _ c.self.invariant (subst (λ (ns : Names). 0 < length ns) (sym c.self.view_is) c.requires) (take_rest c.self.inside.rest.now 1) c.part_len.ensures in
    rw (c.split_at.ensures.front, c.split_at.ensures.back) (sym c.self.view_is ∙ t.names)

pub returns-clause-name : goal.returns-clause-name
returns-clause-name c =
    let t = taken c.self.inside.rest.now _ _ c.self.invariant (subst (λ (ns : Names). 0 < length ns) (sym c.self.view_is) c.requires) (take_rest c.self.inside.rest.now 1) c.part_len.ensures in
    rw c.split_at.ensures.front t.name
