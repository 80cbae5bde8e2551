use Rattle.nn_host.proofs.RunsLemmas.{looked_once, looked_then}
use Rattle.nn_host.proofs.WorkLemmas.{still_once, still_then}
use Rattle.nn_chain.proofs.ReadLemmas.{looked_on}
use Rattle.nn_chain.proofs.image.image_within.Goals as goal

pub returns-in_err-has_file-clause-kept : goal.returns-in_err-has_file-clause-kept
returns-in_err-has_file-clause-kept g c = looked_on (Unit {0}) _ _ c.from_residual.ensures.1 (looked_once c.in_err-has_file.ensures.call)

pub returns-then-not-branch-clause-kept : goal.returns-then-not-branch-clause-kept
returns-then-not-branch-clause-kept g c = looked_once c.in_ok-has_file.ensures.call

pub returns-in_err-size-clause-kept : goal.returns-in_err-size-clause-kept
returns-in_err-size-clause-kept g c = looked_on (Unit {0}) _ _ c.from_residual-in_err-size.ensures.1 (looked_then (looked_once c.in_ok-has_file.ensures.call) (looked_once c.in_err-size.ensures.call))

pub returns-then-branch-gt-MOST-clause-kept : goal.returns-then-branch-gt-MOST-clause-kept
returns-then-branch-gt-MOST-clause-kept g c = looked_then (looked_once c.in_ok-has_file.ensures.call) (looked_once c.in_ok-size.ensures.call)

pub returns-clause-kept : goal.returns-clause-kept
returns-clause-kept g c = looked_then (looked_once c.in_ok-has_file.ensures.call) (looked_once c.in_ok-size.ensures.call)

pub returns-in_err-has_file-clause-any_moment : goal.returns-in_err-has_file-clause-any_moment
returns-in_err-has_file-clause-any_moment g c = still_once c.in_err-has_file.ensures.call

pub returns-then-not-branch-clause-any_moment : goal.returns-then-not-branch-clause-any_moment
returns-then-not-branch-clause-any_moment g c = still_once c.in_ok-has_file.ensures.call

pub returns-in_err-size-clause-any_moment : goal.returns-in_err-size-clause-any_moment
returns-in_err-size-clause-any_moment g c = still_then (still_once c.in_ok-has_file.ensures.call) (still_once c.in_err-size.ensures.call)

pub returns-then-branch-gt-MOST-clause-any_moment : goal.returns-then-branch-gt-MOST-clause-any_moment
returns-then-branch-gt-MOST-clause-any_moment g c = still_then (still_once c.in_ok-has_file.ensures.call) (still_once c.in_ok-size.ensures.call)

pub returns-clause-any_moment : goal.returns-clause-any_moment
returns-clause-any_moment g c = still_then (still_once c.in_ok-has_file.ensures.call) (still_once c.in_ok-size.ensures.call)
