use Rattle.std.proofs.Common.{sym, subst}
use Rattle.nn_tree.specs.Imaged.{IsImaged}
use Rattle.nn_tree.proofs.EmptyLemmas.{imaged_empty}
use Rattle.nn_open.proofs.CallLemmas.{work_cleared, work_made}
use Rattle.nn_open.proofs.make.make_dir.Goals as goal

pub make-requires-clause-imaged : goal.make-requires-clause-imaged
make-requires-clause-imaged g c = subst IsImaged (sym c.requires.empty) imaged_empty

pub returns-in_err-clear_unformatted-clause-any_moment : goal.returns-in_err-clear_unformatted-clause-any_moment
returns-in_err-clear_unformatted-clause-any_moment g c = work_cleared c.in_err-clear_unformatted.ensures.any_moment

pub returns-in_err-make-clause-any_moment : goal.returns-in_err-make-clause-any_moment
returns-in_err-make-clause-any_moment g c = work_made c.requires.empty c.in_ok-clear_unformatted.ensures.any_moment c.in_err-make.ensures.any_moment

pub returns-clause-any_moment : goal.returns-clause-any_moment
returns-clause-any_moment g c = work_made c.requires.empty c.in_ok-clear_unformatted.ensures.any_moment c.in_ok-make.ensures.any_moment
