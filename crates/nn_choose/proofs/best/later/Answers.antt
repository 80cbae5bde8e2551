use Rattle.std.proofs.Common.{sym, subst, arith}
use Rattle.nn_tree.specs.Imaged.{IsImaged}
use Rattle.nn_base.specs.DirSets.{has}
use Rattle.nn_choose.specs.declared.best.Best.TheVariants.{Chain}
use Rattle.nn_choose.proofs.BetterLemmas.{goes_further, stays_back, goes_as_far, with_noted, noted_more}
use Rattle.nn_choose.proofs.LoadingLemmas.{of_first, first_more}
use Rattle.nn_choose.proofs.best.later.Goals as goal

pub returns-then-end-other-clause-best : goal.returns-then-end-other-clause-best
returns-then-end-other-clause-best g c = λ dirs lead best next. goes_further g.T.Tree.meaning dirs c.args.i.0 c.args.before c.args.its best next c.requires.one (omega (arith, c.if-end-other.true, c.end-end.ensures, c.end-other.ensures))

pub returns-then-end-other-clause-first : goal.returns-then-end-other-clause-first
returns-then-end-other-clause-first g c = of_first c.args.i.0 (Chain c.args.its) c.requires.one

pub returns-then-other-end-clause-best : goal.returns-then-other-end-clause-best
returns-then-other-end-clause-best g c = λ dirs lead best next. stays_back g.T.Tree.meaning dirs c.args.i.0 c.args.before c.args.its best next (omega (arith, c.if-other-end.true, c.end-end.ensures, c.end-other.ensures))

pub returns-then-other-end-clause-first : goal.returns-then-other-end-clause-first
returns-then-other-end-clause-first g c = first_more c.args.i.0 (Chain c.args.before) c.requires.first

pub returns-clause-best : goal.returns-clause-best
returns-clause-best g c = λ dirs lead best next. with_noted g.T.Tree.meaning dirs c.args.i.0 c.args.before c.noting.result c.noting.ensures.same
    (goes_as_far g.T.Tree.meaning dirs c.args.i.0 c.args.before c.args.its (has c.noting.result.dirs) best next (omega (arith, c.if-other-end.false, c.end-end.ensures, c.end-other.ensures)) (omega (arith, c.if-end-other.false, c.end-end.ensures, c.end-other.ensures)) c.noting.ensures.noted)

pub returns-clause-first : goal.returns-clause-first
returns-clause-first g c = noted_more c.args.i.0 c.args.before (has c.noting.result.dirs) c.requires.first c.noting.ensures.noted

pub returns-clause-sound : goal.returns-clause-sound
returns-clause-sound g c = λ before its. subst (λ t. IsImaged (g.T.Tree.meaning t)) (sym c.noting.ensures.same.0) before
