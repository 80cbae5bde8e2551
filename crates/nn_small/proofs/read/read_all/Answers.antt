use Rattle.nn_host.proofs.RunsLemmas.{looked_once, looked_then}
use Rattle.nn_host.proofs.WorkLemmas.{still_once, still_then}
use Rattle.nn_small.proofs.ReadLemmas.{looked_failed}
use Rattle.nn_small.proofs.read.read_all.Goals as goal

pub returns-in_err-has_file-clause-kept : goal.returns-in_err-has_file-clause-kept
returns-in_err-has_file-clause-kept g c = looked_failed _ c.from_residual.ensures.1 (looked_once c.in_err-has_file.ensures.call)

pub returns-then-not-branch-clause-kept : goal.returns-then-not-branch-clause-kept
returns-then-not-branch-clause-kept g c = looked_once c.in_ok-has_file.ensures.call

pub returns-in_err-size-clause-kept : goal.returns-in_err-size-clause-kept
returns-in_err-size-clause-kept g c = looked_failed _ c.from_residual-in_err-size.ensures.1 (looked_then (looked_once c.in_ok-has_file.ensures.call) (looked_once c.in_err-size.ensures.call))

pub returns-then-size-limit-clause-kept : goal.returns-then-size-limit-clause-kept
returns-then-size-limit-clause-kept g c = looked_then (looked_once c.in_ok-has_file.ensures.call) (looked_once c.in_ok-size.ensures.call)

pub returns-clause-kept : goal.returns-clause-kept
returns-clause-kept g c = looked_then (looked_then (looked_once c.in_ok-has_file.ensures.call) (looked_once c.in_ok-size.ensures.call)) c.read_front.ensures.kept

pub returns-in_err-has_file-clause-any_moment : goal.returns-in_err-has_file-clause-any_moment
returns-in_err-has_file-clause-any_moment g c = still_once c.in_err-has_file.ensures.call

pub returns-then-not-branch-clause-any_moment : goal.returns-then-not-branch-clause-any_moment
returns-then-not-branch-clause-any_moment g c = still_once c.in_ok-has_file.ensures.call

pub returns-in_err-size-clause-any_moment : goal.returns-in_err-size-clause-any_moment
returns-in_err-size-clause-any_moment g c = still_then (still_once c.in_ok-has_file.ensures.call) (still_once c.in_err-size.ensures.call)

pub returns-then-size-limit-clause-any_moment : goal.returns-then-size-limit-clause-any_moment
returns-then-size-limit-clause-any_moment g c = still_then (still_once c.in_ok-has_file.ensures.call) (still_once c.in_ok-size.ensures.call)

pub returns-clause-any_moment : goal.returns-clause-any_moment
returns-clause-any_moment g c = still_then (still_then (still_once c.in_ok-has_file.ensures.call) (still_once c.in_ok-size.ensures.call)) c.read_front.ensures.any_moment
