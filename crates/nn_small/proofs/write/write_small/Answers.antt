use Rattle.std.proofs.Common.{arith}
use Rattle.nn_small.proofs.FailureLemmas.{failed_once, answered_then}
use Rattle.nn_small.proofs.MomentLemmas.{moment_once}
use Rattle.nn_small.proofs.WriteLemmas.{first, second, third, fourth, written}
use Rattle.nn_small.proofs.write.write_small.Goals as goal

pub returns-in_err-make_file-clause-any_moment : goal.returns-in_err-make_file-clause-any_moment
returns-in_err-make_file-clause-any_moment g c = first c.requires.apart c.in_err-make_file.ensures

pub returns-in_err-append-clause-any_moment : goal.returns-in_err-append-clause-any_moment
returns-in_err-append-clause-any_moment g c = second c.requires.apart c.in_ok-make_file.ensures c.in_err-append.ensures

pub returns-in_err-sync-clause-any_moment : goal.returns-in_err-sync-clause-any_moment
returns-in_err-sync-clause-any_moment g c = third c.requires.apart c.in_ok-make_file.ensures c.in_ok-append.ensures c.in_err-sync.ensures

pub returns-clause-any_moment : goal.returns-clause-any_moment
returns-clause-any_moment g c = fourth c.requires.apart (λ tells. g.met.H.Host.lawful tells c.args.host.now) c.in_ok-make_file.ensures c.in_ok-append.ensures c.in_ok-sync.ensures c.rename_file.ensures

pub returns-clause-ok : goal.returns-clause-ok
returns-clause-ok g c = λ tells has. written tells (g.met.H.Host.lawful tells c.args.host.now) has c.in_ok-make_file.ensures c.in_ok-append.ensures c.in_ok-sync.ensures c.rename_file.ensures

pub returns-in_err-make_file-clause-still : goal.returns-in_err-make_file-clause-still
returns-in_err-make_file-clause-still g c = failed_once c.in_err-make_file.ensures

pub returns-in_err-append-clause-still : goal.returns-in_err-append-clause-still
returns-in_err-append-clause-still g c = answered_then c.in_ok-make_file.ensures (failed_once c.in_err-append.ensures)

pub returns-in_err-sync-clause-still : goal.returns-in_err-sync-clause-still
returns-in_err-sync-clause-still g c = answered_then c.in_ok-make_file.ensures (answered_then c.in_ok-append.ensures (failed_once c.in_err-sync.ensures))

pub returns-clause-still : goal.returns-clause-still
returns-clause-still g c = answered_then c.in_ok-make_file.ensures (answered_then c.in_ok-append.ensures (answered_then c.in_ok-sync.ensures (failed_once c.rename_file.ensures)))

pub returns-in_err-make_file-clause-calls : goal.returns-in_err-make_file-clause-calls
returns-in_err-make_file-clause-calls g c = λ tells. omega (arith, moment_once c.in_err-make_file.ensures tells)

pub returns-in_err-append-clause-calls : goal.returns-in_err-append-clause-calls
returns-in_err-append-clause-calls g c = λ tells. omega (arith, moment_once c.in_ok-make_file.ensures tells, moment_once c.in_err-append.ensures tells)

pub returns-in_err-sync-clause-calls : goal.returns-in_err-sync-clause-calls
returns-in_err-sync-clause-calls g c = λ tells. omega (arith, moment_once c.in_ok-make_file.ensures tells, moment_once c.in_ok-append.ensures tells, moment_once c.in_err-sync.ensures tells)

pub returns-clause-calls : goal.returns-clause-calls
returns-clause-calls g c = λ tells. omega (arith, moment_once c.in_ok-make_file.ensures tells, moment_once c.in_ok-append.ensures tells, moment_once c.in_ok-sync.ensures tells, moment_once c.rename_file.ensures tells)
