use Rattle.std.proofs.Common.{arith}
use Rattle.nn_host.proofs.RunsLemmas.{looked_refl, looked_once}
use Rattle.nn_host.proofs.WorkLemmas.{still_refl, still_once}
use Rattle.nn_small.proofs.ReadLemmas.{looked_failed, looked_memory, read_is}
use Rattle.nn_small.proofs.read.read_front.Goals as goal

pub returns-in_err-bytes-clause-kept : goal.returns-in_err-bytes-clause-kept
returns-in_err-bytes-clause-kept g c = looked_memory _ c.from_residual.ensures.1 looked_refl

pub returns-in_err-count-clause-kept : goal.returns-in_err-count-clause-kept
returns-in_err-count-clause-kept g c = looked_failed _ c.from_residual-in_err-count.ensures.1 (looked_once c.in_err-count.ensures.call)

pub returns-clause-kept : goal.returns-clause-kept
returns-clause-kept g c = looked_once c.in_ok-count.ensures.call

pub returns-clause-ok : goal.returns-clause-ok
returns-clause-ok g c = λ tells.
    let file = ((g.H.Host.state c.args.host.now).reads c.args.i.0).file c.args.sub c.args.name in
    let full = c.in_ok-bytes.ensures.len in
    read_is file c.in_ok-bytes.bytes.len _ (c.in_ok-count.ensures.value tells) c.truncate.ensures.items (omega (arith, c.requires.size tells)) (omega arith)

pub returns-in_err-bytes-clause-any_moment : goal.returns-in_err-bytes-clause-any_moment
returns-in_err-bytes-clause-any_moment g c = still_refl

pub returns-in_err-count-clause-any_moment : goal.returns-in_err-count-clause-any_moment
returns-in_err-count-clause-any_moment g c = still_once c.in_err-count.ensures.call

pub returns-clause-any_moment : goal.returns-clause-any_moment
returns-clause-any_moment g c = still_once c.in_ok-count.ensures.call
