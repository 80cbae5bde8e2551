use Rattle.std.proofs.Common.{◌≡◌, ℕ, true, Some, None, OnOk, subst, arith}
use Rattle.nn_host.specs.Disk.{certain}
use Rattle.nn_base.specs.declared.sub.Sub.TheVariants.{Current}
use Rattle.nn_base.specs.declared.file_name.FileName.TheVariants.{Seen, SeenTmp}
use Rattle.nn_host.specs.Moments.{disk_at}
use Rattle.nn_host.specs.Runs.{OnlyAt}
use Rattle.nn_marks.specs.Seen.{seen_text_of}
use Rattle.nn_small.specs.Small.{OldOrNew}
use Rattle.nn_small.proofs.FailureLemmas.{failed_once, failed_then, answered_then}
use Rattle.nn_small.proofs.MomentLemmas.{moment_once}
use Rattle.nn_segment_file.proofs.BesideLemmas.{beside_once, beside_then, beside_seen, start_run, make_on}
use Rattle.nn_segment_file.proofs.CallLemmas.{start_first, start_second, start_third, start_done, start_turn_first, start_turn}
use Rattle.nn_segment_file.proofs.segment.begin_segment.Goals as goal

pub returns-in_err-make_file-clause-any_moment : goal.returns-in_err-make_file-clause-any_moment
returns-in_err-make_file-clause-any_moment g c = start_first c.in_err-make_file.ensures

pub returns-in_err-make_file-clause-beside : goal.returns-in_err-make_file-clause-beside
returns-in_err-make_file-clause-beside g c = start_run (beside_once (make_on c.args.first) c.in_err-make_file.ensures)

pub returns-in_err-write_records-clause-any_moment : goal.returns-in_err-write_records-clause-any_moment
returns-in_err-write_records-clause-any_moment g c = start_second c.in_ok-make_file.ensures c.in_err-write_records.ensures.any_moment

pub returns-in_err-write_records-clause-beside : goal.returns-in_err-write_records-clause-beside
returns-in_err-write_records-clause-beside g c = start_run (beside_then (beside_once (make_on c.args.first) c.in_ok-make_file.ensures) c.in_err-write_records.ensures.beside)

pub returns-clause-ok : goal.returns-clause-ok
returns-clause-ok g c = λ tells. start_done c.in_ok-make_file.ensures c.in_ok-write_records.ensures.any_moment c.in_ok-write_records.ensures.ok
    (subst (λ (n : ℕ). OnlyAt g.H.Host.told c.args.i.0 (g.H.Host.state c.write_records.new.host) (g.H.Host.state c.write_seen.new.host) (OldOrNew Current SeenTmp Seen (seen_text_of n) (disk_at (g.H.Host.state c.write_records.new.host) c.args.i.0))) c.first.view_is c.write_seen.ensures.any_moment)
    c.write_seen.result tells
    (subst (λ (n : ℕ). (disk_at (g.H.Host.state c.write_records.new.host) c.args.i.0).has Current ≡ true → OnOk c.write_seen.result (((disk_at (g.H.Host.state c.write_seen.new.host) c.args.i.0).file Current Seen ≡ certain (Some (seen_text_of n))) × ((disk_at (g.H.Host.state c.write_seen.new.host) c.args.i.0).file Current SeenTmp ≡ None))) c.first.view_is (c.write_seen.ensures.ok tells))

pub returns-clause-any_moment : goal.returns-clause-any_moment
returns-clause-any_moment g c = start_third c.in_ok-make_file.ensures c.in_ok-write_records.ensures.any_moment c.in_ok-write_records.ensures.ok
    (subst (λ (n : ℕ). OnlyAt g.H.Host.told c.args.i.0 (g.H.Host.state c.write_records.new.host) (g.H.Host.state c.write_seen.new.host) (OldOrNew Current SeenTmp Seen (seen_text_of n) (disk_at (g.H.Host.state c.write_records.new.host) c.args.i.0))) c.first.view_is c.write_seen.ensures.any_moment)

pub returns-clause-beside : goal.returns-clause-beside
returns-clause-beside g c = beside_then (start_run (beside_then (beside_once (make_on c.args.first) c.in_ok-make_file.ensures) c.in_ok-write_records.ensures.beside)) (beside_seen c.write_seen.ensures.any_moment)

pub returns-in_err-make_file-clause-in_turn : goal.returns-in_err-make_file-clause-in_turn
returns-in_err-make_file-clause-in_turn g c = start_turn_first (beside_once (make_on c.args.first) c.in_err-make_file.ensures)

pub returns-in_err-write_records-clause-in_turn : goal.returns-in_err-write_records-clause-in_turn
returns-in_err-write_records-clause-in_turn g c = start_turn_first (beside_then (beside_once (make_on c.args.first) c.in_ok-make_file.ensures) c.in_err-write_records.ensures.beside)

pub returns-clause-in_turn : goal.returns-clause-in_turn
returns-clause-in_turn g c = start_turn c.in_ok-make_file.ensures (beside_then (beside_once (make_on c.args.first) c.in_ok-make_file.ensures) c.in_ok-write_records.ensures.beside) c.in_ok-write_records.ensures.any_moment c.in_ok-write_records.ensures.ok
    (subst (λ (n : ℕ). OnlyAt g.H.Host.told c.args.i.0 (g.H.Host.state c.write_records.new.host) (g.H.Host.state c.write_seen.new.host) (OldOrNew Current SeenTmp Seen (seen_text_of n) (disk_at (g.H.Host.state c.write_records.new.host) c.args.i.0))) c.first.view_is c.write_seen.ensures.any_moment)

pub returns-in_err-make_file-clause-still : goal.returns-in_err-make_file-clause-still
returns-in_err-make_file-clause-still g c = failed_once c.in_err-make_file.ensures

pub returns-in_err-write_records-clause-still : goal.returns-in_err-write_records-clause-still
returns-in_err-write_records-clause-still g c = answered_then c.in_ok-make_file.ensures c.in_err-write_records.ensures.still

pub returns-clause-still : goal.returns-clause-still
returns-clause-still g c = answered_then c.in_ok-make_file.ensures (failed_then c.in_ok-write_records.ensures.cause.ok c.in_ok-write_records.ensures.still c.write_seen.ensures.still)

pub returns-in_err-make_file-clause-calls : goal.returns-in_err-make_file-clause-calls
returns-in_err-make_file-clause-calls g c = λ tells. omega (arith, moment_once c.in_err-make_file.ensures tells)

pub returns-in_err-write_records-clause-calls : goal.returns-in_err-write_records-clause-calls
returns-in_err-write_records-clause-calls g c = λ tells. omega (arith, moment_once c.in_ok-make_file.ensures tells, c.in_err-write_records.ensures.calls tells)

pub returns-clause-calls : goal.returns-clause-calls
returns-clause-calls g c = λ tells. omega (arith, moment_once c.in_ok-make_file.ensures tells, c.in_ok-write_records.ensures.calls tells, c.write_seen.ensures.calls tells)
