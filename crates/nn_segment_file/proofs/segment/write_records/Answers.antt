use Rattle.std.proofs.Common.{arith}
use Rattle.nn_small.proofs.FailureLemmas.{failed_once, answered_then}
use Rattle.nn_small.proofs.MomentLemmas.{moment_once}
use Rattle.nn_segment_file.proofs.BesideLemmas.{beside_once, beside_then, append_on, sync_on}
use Rattle.nn_segment_file.proofs.CallLemmas.{write_first, write_both, write_done}
use Rattle.nn_segment_file.proofs.segment.write_records.Goals as goal

pub returns-in_err-append-clause-any_moment : goal.returns-in_err-append-clause-any_moment
returns-in_err-append-clause-any_moment g c = write_first c.in_err-append.ensures

pub returns-in_err-append-clause-beside : goal.returns-in_err-append-clause-beside
returns-in_err-append-clause-beside g c = beside_once (append_on c.args.first c.args.bytes.now) c.in_err-append.ensures

pub returns-in_err-append-clause-still : goal.returns-in_err-append-clause-still
returns-in_err-append-clause-still g c = failed_once c.in_err-append.ensures

pub returns-in_err-append-clause-calls : goal.returns-in_err-append-clause-calls
returns-in_err-append-clause-calls g c = λ tells. omega (arith, moment_once c.in_err-append.ensures tells)

pub returns-clause-ok : goal.returns-clause-ok
returns-clause-ok g c = λ tells. write_done (λ tells. g.met.H.Host.lawful tells c.args.host.now) c.in_ok-append.ensures c.sync.ensures tells

pub returns-clause-any_moment : goal.returns-clause-any_moment
returns-clause-any_moment g c = write_both (λ tells. g.met.H.Host.lawful tells c.args.host.now) c.in_ok-append.ensures c.sync.ensures

pub returns-clause-beside : goal.returns-clause-beside
returns-clause-beside g c = beside_then (beside_once (append_on c.args.first c.args.bytes.now) c.in_ok-append.ensures) (beside_once (sync_on c.args.first) c.sync.ensures)

pub returns-clause-still : goal.returns-clause-still
returns-clause-still g c = answered_then c.in_ok-append.ensures (failed_once c.sync.ensures)

pub returns-clause-calls : goal.returns-clause-calls
returns-clause-calls g c = λ tells. omega (arith, moment_once c.in_ok-append.ensures tells, moment_once c.sync.ensures tells)
