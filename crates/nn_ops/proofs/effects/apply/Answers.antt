use Rattle.std.proofs.Common.{sym, subst}
use Rattle.nn_tree.specs.Imaged.{IsImaged}
use Rattle.nn_ops.proofs.EffectLemmas.{effect_imaged}
use Rattle.nn_ops.proofs.effects.apply.Goals as goal

pub returns-clause-imaged : goal.returns-clause-imaged
returns-clause-imaged g c =
    λ h. subst IsImaged (sym c.carry_out.ensures) (effect_imaged (g.T.Tree.meaning c.args.tree.now) c.args.plan.op c.requires.fits c.requires.bounds c.requires.path h)
