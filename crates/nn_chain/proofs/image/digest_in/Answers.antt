use Rattle.std.proofs.Common.{refl}
use Rattle.nn_host.proofs.RunsLemmas.{looked_once}
use Rattle.nn_host.proofs.WorkLemmas.{still_once}
use Rattle.nn_chain.specs.Folder.{folder_at}
use Rattle.nn_chain.proofs.ReadLemmas.{looked_on}
use Rattle.nn_chain.proofs.DigestLemmas.{is_digest}
use Rattle.nn_chain.proofs.image.digest_in.Goals as goal

pub returns-in_err-len-clause-kept : goal.returns-in_err-len-clause-kept
returns-in_err-len-clause-kept g c = looked_on (Unit {0}) _ _ c.from_residual.ensures.1 (looked_once c.in_err-len.ensures.call)

pub returns-clause-kept : goal.returns-clause-kept
returns-clause-kept g c = looked_once c.in_ok-len.ensures.call

pub returns-clause-ok : goal.returns-clause-ok
returns-clause-ok g c = λ tells. is_digest (folder_at ((g.H.Host.state c.args.host.now).reads c.args.i.0) c.args.sub) c.args.id c.digest_of.result (c.in_ok-len.ensures.value tells) refl c.digest_of.ensures.some c.digest_of.ensures.none

pub returns-in_err-len-clause-any_moment : goal.returns-in_err-len-clause-any_moment
returns-in_err-len-clause-any_moment g c = still_once c.in_err-len.ensures.call

pub returns-clause-any_moment : goal.returns-clause-any_moment
returns-clause-any_moment g c = still_once c.in_ok-len.ensures.call
