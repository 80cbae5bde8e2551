use Rattle.std.proofs.Common.{subst}
use Rattle.nn_choose.specs.declared.best.Best.TheVariants.{Chain}
use Rattle.nn_choose.specs.Picking.{IsBest, IsNextLoaded, IsOfOne}
use Rattle.nn_choose.proofs.BetterLemmas.{has_none, goes_first}
use Rattle.nn_choose.proofs.LoadingLemmas.{of_first, first_more}
use Rattle.nn_choose.proofs.best.better.Goals as goal

pub returns-in-NoImage-clause-best : goal.returns-in-NoImage-clause-best
returns-in-NoImage-clause-best g c = λ dirs lead best next. has_none g.T.Tree.meaning dirs c.args.i.0 lead c.args.best c.in-NoImage.field-0 best (subst (IsNextLoaded g.T.Tree.meaning dirs c.args.i.0) c.in-NoImage.is next)

pub returns-in-NoImage-clause-first : goal.returns-in-NoImage-clause-first
returns-in-NoImage-clause-first g c = first_more c.args.i.0 c.args.best c.requires.first

pub returns-in-NoImage-best-clause-best : goal.returns-in-NoImage-best-clause-best
returns-in-NoImage-best-clause-best g c = λ dirs lead best next.
    goes_first g.T.Tree.meaning dirs c.args.i.0 lead c.in-NoImage-best.field-0 c.in-Chain.its (subst (IsBest g.T.Tree.meaning dirs lead c.args.i.0) c.in-NoImage-best.is best)
    (subst (IsNextLoaded g.T.Tree.meaning dirs c.args.i.0) c.in-Chain.is next) (subst (IsOfOne c.args.i.0) c.in-Chain.is c.requires.one)

pub returns-in-NoImage-best-clause-first : goal.returns-in-NoImage-best-clause-first
returns-in-NoImage-best-clause-first g c = of_first c.args.i.0 (Chain c.in-Chain.its) (subst (IsOfOne c.args.i.0) c.in-Chain.is c.requires.one)

pub returns-in-Chain-best-clause-best : goal.returns-in-Chain-best-clause-best
returns-in-Chain-best-clause-best g c = λ dirs lead best next. c.later.ensures.best dirs lead (subst (IsBest g.T.Tree.meaning dirs lead c.args.i.0) c.in-Chain-best.is best) (subst (IsNextLoaded g.T.Tree.meaning dirs c.args.i.0) c.in-Chain.is next)
