use Rattle.std.proofs.Common.{ℕ, subst, arith}
use Rattle.nn_base.specs.declared.sub.Sub.TheVariants.{Current}
use Rattle.nn_base.specs.declared.file_name.FileName.TheVariants.{InProgress, Edits}
use Rattle.nn_host.specs.Disk.{RenameFile}
use Rattle.nn_host.specs.Calls.{Called}
use Rattle.nn_small.proofs.FailureLemmas.{failed_once, failed_then}
use Rattle.nn_small.proofs.MomentLemmas.{moment_once}
use Rattle.nn_segment_file.proofs.BesideLemmas.{beside_once, beside_then, end_run, rename_on}
use Rattle.nn_segment_file.proofs.CallLemmas.{end_first, end_both, end_done, end_turn_first, end_turn}
use Rattle.nn_segment_file.proofs.segment.end_segment.Goals as goal

pub returns-in_err-write_records-clause-any_moment : goal.returns-in_err-write_records-clause-any_moment
returns-in_err-write_records-clause-any_moment g c = end_first c.in_err-write_records.ensures.any_moment

pub returns-in_err-write_records-clause-in_turn : goal.returns-in_err-write_records-clause-in_turn
returns-in_err-write_records-clause-in_turn g c = end_turn_first c.in_err-write_records.ensures.beside

pub returns-in_err-write_records-clause-beside : goal.returns-in_err-write_records-clause-beside
returns-in_err-write_records-clause-beside g c = end_run c.in_err-write_records.ensures.beside

pub returns-in_err-write_records-clause-calls : goal.returns-in_err-write_records-clause-calls
returns-in_err-write_records-clause-calls g c = λ tells. omega (arith, c.in_err-write_records.ensures.calls tells)

pub returns-clause-ok : goal.returns-clause-ok
returns-clause-ok g c = λ tells. end_done c.in_ok-write_records.ensures.any_moment c.in_ok-write_records.ensures.ok
    (subst (λ (n : ℕ). Called g.H.Host.told c.args.i.0 (RenameFile Current (InProgress c.args.first) (Edits (n, c.args.last))) (g.H.Host.state c.write_records.new.host) (g.H.Host.state c.rename_file.new.self) c.rename_file.result) c.first.view_is c.rename_file.ensures)
    tells

pub returns-clause-any_moment : goal.returns-clause-any_moment
returns-clause-any_moment g c = end_both c.in_ok-write_records.ensures.any_moment c.in_ok-write_records.ensures.ok
    (subst (λ (n : ℕ). Called g.H.Host.told c.args.i.0 (RenameFile Current (InProgress c.args.first) (Edits (n, c.args.last))) (g.H.Host.state c.write_records.new.host) (g.H.Host.state c.rename_file.new.self) c.rename_file.result) c.first.view_is c.rename_file.ensures)

pub returns-clause-in_turn : goal.returns-clause-in_turn
returns-clause-in_turn g c = end_turn c.in_ok-write_records.ensures.beside c.in_ok-write_records.ensures.any_moment c.in_ok-write_records.ensures.ok
    (subst (λ (n : ℕ). Called g.H.Host.told c.args.i.0 (RenameFile Current (InProgress c.args.first) (Edits (n, c.args.last))) (g.H.Host.state c.write_records.new.host) (g.H.Host.state c.rename_file.new.self) c.rename_file.result) c.first.view_is c.rename_file.ensures)

pub returns-clause-beside : goal.returns-clause-beside
returns-clause-beside g c = beside_then (end_run c.in_ok-write_records.ensures.beside) (beside_once (rename_on c.args.first c.args.last)
    (subst (λ (n : ℕ). Called g.H.Host.told c.args.i.0 (RenameFile Current (InProgress c.args.first) (Edits (n, c.args.last))) (g.H.Host.state c.write_records.new.host) (g.H.Host.state c.rename_file.new.self) c.rename_file.result) c.first.view_is c.rename_file.ensures))

pub returns-clause-still : goal.returns-clause-still
returns-clause-still g c = failed_then c.in_ok-write_records.ensures.cause.ok c.in_ok-write_records.ensures.still (failed_once c.rename_file.ensures)

pub returns-clause-calls : goal.returns-clause-calls
returns-clause-calls g c = λ tells. omega (arith, c.in_ok-write_records.ensures.calls tells, moment_once c.rename_file.ensures tells)
