use Rattle.std.proofs.Common.{subst, sym, ap, ◌∙◌}
use Rattle.nn_base.specs.Paths.{Bytes}
use Rattle.nn_base.specs.PathText.{parts_of}
use Rattle.nn_base.specs.PathHeld.{HoldsPath}
use Rattle.nn_base.proofs.PathHeldLemmas.{root_held, root_is}
use Rattle.nn_base.proofs.path.Path.root.Goals as goal

pub invariant_of-result : goal.invariant_of-result
invariant_of-result c = subst (λ (text : Bytes). HoldsPath text 0) (sym c.new.ensures.items) root_held

pub returns : goal.returns
returns c = ap parts_of c.new.ensures.items ∙ root_is
