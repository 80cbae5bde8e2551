use Rattle.std.proofs.Common.{arith, ◌≤◌, inl, refl, sym, ◌∙◌, subst, length}
use Rattle.nn_base.specs.Paths.{Bytes}
use Rattle.nn_host.specs.Calls.{most_said}
use Rattle.nn_serve.proofs.ServeLemmas.{spoke_as}
use Rattle.nn_serve.proofs.FillEndLemmas.{tally_short}
use Rattle.nn_serve.proofs.filling.say_tally.Goals as goal

pub say-requires : goal.say-requires
say-requires g c = subst (λ (b : Bytes). length b ≤ most_said) (sym (c.as_bytes.ensures.value ∙ c.in-Ok.ensures)) (tally_short c.args.tally.commands c.args.tally.taken (omega (arith, c.requires)) (omega (arith, c.requires, c.args.tally.fits)))

pub returns-in-Ok-say : goal.returns-in-Ok-say
returns-in-Ok-say g c = spoke_as (c.as_bytes.ensures.value ∙ c.in-Ok.ensures) c.in-Ok-say.ensures

pub returns : goal.returns
returns g c = inl (refl, (c.in-Err-say.field-0, spoke_as (c.as_bytes.ensures.value ∙ c.in-Ok.ensures) c.in-Err-say.ensures))
