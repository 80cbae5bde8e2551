use Rattle.std.proofs.Common.{sym, ap, subst, arith}
use Rattle.nn_host.specs.Moments.{disk_at}
use Rattle.nn_host.specs.Runs.{OnlyAt}
use Rattle.nn_base.specs.declared.file_name.FileName.TheVariants.{Seen, SeenTmp}
use Rattle.nn_segment_file.specs.Log.{Beside}
use Rattle.nn_segment_file.specs.Stages.{StepsAtAnyMoment, StepsInTurn, HasStepped, Touched, calls_of}
use Rattle.nn_segment_file.specs.declared.step.Step.{Step}
use Rattle.nn_segment_file.proofs.StageLemmas.{starts, adds, ends, has_started, has_added, has_ended}
use Rattle.nn_segment_file.proofs.step.step_at.Goals as goal

pub returns-in-Start-clause-ok : goal.returns-in-Start-clause-ok
returns-in-Start-clause-ok g c = λ tells. subst (λ (s : Step). HasStepped c.args.i.0 s c.args.first.now c.args.bytes.now (g.H.Host.state c.args.host.now) (g.H.Host.state c.begin_segment.new.host) c.begin_segment.result) (sym c.in-Start.is)
    (has_started c.args.i.0 c.args.first.now c.args.bytes.now (g.H.Host.state c.args.host.now) (g.H.Host.state c.begin_segment.new.host) c.begin_segment.result (c.begin_segment.ensures.ok tells))

pub returns-in-Start-clause-any_moment : goal.returns-in-Start-clause-any_moment
returns-in-Start-clause-any_moment g c = subst (λ (s : Step). StepsAtAnyMoment g.H.Host.told c.args.i.0 s c.args.first.now c.args.bytes.now (g.H.Host.state c.args.host.now) (g.H.Host.state c.begin_segment.new.host)) (sym c.in-Start.is) (starts c.begin_segment.ensures.any_moment)

pub returns-in-Write-clause-ok : goal.returns-in-Write-clause-ok
returns-in-Write-clause-ok g c = λ tells. subst (λ (s : Step). HasStepped c.args.i.0 s c.args.first.now c.args.bytes.now (g.H.Host.state c.args.host.now) (g.H.Host.state c.write_records.new.host) c.write_records.result) (sym c.in-Write.is)
    (has_added c.args.i.0 c.args.first.now c.args.bytes.now (g.H.Host.state c.args.host.now) (g.H.Host.state c.write_records.new.host) c.write_records.result ((c.write_records.ensures.beside.ends tells).other_files Seen (λ e. cc)) ((c.write_records.ensures.beside.ends tells).other_files SeenTmp (λ e. cc)) (c.write_records.ensures.ok tells))

pub returns-in-Write-clause-any_moment : goal.returns-in-Write-clause-any_moment
returns-in-Write-clause-any_moment g c = subst (λ (s : Step). StepsAtAnyMoment g.H.Host.told c.args.i.0 s c.args.first.now c.args.bytes.now (g.H.Host.state c.args.host.now) (g.H.Host.state c.write_records.new.host)) (sym c.in-Write.is) (adds c.write_records.ensures.any_moment)

pub returns-in-End-clause-ok : goal.returns-in-End-clause-ok
returns-in-End-clause-ok g c = λ tells. subst (λ (s : Step). HasStepped c.args.i.0 s c.args.first.now c.args.bytes.now (g.H.Host.state c.args.host.now) (g.H.Host.state c.end_segment.new.host) c.end_segment.result) (sym c.in-End.is)
    (has_ended c.args.i.0 c.args.first.now c.args.bytes.now (g.H.Host.state c.args.host.now) (g.H.Host.state c.end_segment.new.host) c.end_segment.result _ (c.end_segment.ensures.ok tells))

pub returns-in-End-clause-any_moment : goal.returns-in-End-clause-any_moment
returns-in-End-clause-any_moment g c = subst (λ (s : Step). StepsAtAnyMoment g.H.Host.told c.args.i.0 s c.args.first.now c.args.bytes.now (g.H.Host.state c.args.host.now) (g.H.Host.state c.end_segment.new.host)) (sym c.in-End.is) (ends _ c.end_segment.ensures.any_moment)

pub returns-in-Start-clause-beside : goal.returns-in-Start-clause-beside
returns-in-Start-clause-beside g c = subst (λ (s : Step). OnlyAt g.H.Host.told c.args.i.0 (g.H.Host.state c.args.host.now) (g.H.Host.state c.begin_segment.new.host) (Beside (Touched s c.args.first.now) (disk_at (g.H.Host.state c.args.host.now) c.args.i.0))) (sym c.in-Start.is) c.begin_segment.ensures.beside

pub returns-in-Start-clause-in_turn : goal.returns-in-Start-clause-in_turn
returns-in-Start-clause-in_turn g c = subst (λ (s : Step). StepsInTurn g.H.Host.told c.args.i.0 s c.args.first.now c.args.bytes.now (g.H.Host.state c.args.host.now) (g.H.Host.state c.begin_segment.new.host)) (sym c.in-Start.is) c.begin_segment.ensures.in_turn

pub returns-in-Start-clause-calls : goal.returns-in-Start-clause-calls
returns-in-Start-clause-calls g c = λ tells. omega (arith, c.begin_segment.ensures.calls tells, ap calls_of c.in-Start.is)

pub returns-in-Write-clause-beside : goal.returns-in-Write-clause-beside
returns-in-Write-clause-beside g c = subst (λ (s : Step). OnlyAt g.H.Host.told c.args.i.0 (g.H.Host.state c.args.host.now) (g.H.Host.state c.write_records.new.host) (Beside (Touched s c.args.first.now) (disk_at (g.H.Host.state c.args.host.now) c.args.i.0))) (sym c.in-Write.is) c.write_records.ensures.beside

pub returns-in-Write-clause-in_turn : goal.returns-in-Write-clause-in_turn
returns-in-Write-clause-in_turn g c = subst (λ (s : Step). StepsInTurn g.H.Host.told c.args.i.0 s c.args.first.now c.args.bytes.now (g.H.Host.state c.args.host.now) (g.H.Host.state c.write_records.new.host)) (sym c.in-Write.is) tt

pub returns-in-Write-clause-calls : goal.returns-in-Write-clause-calls
returns-in-Write-clause-calls g c = λ tells. omega (arith, c.write_records.ensures.calls tells, ap calls_of c.in-Write.is)

pub returns-in-End-clause-beside : goal.returns-in-End-clause-beside
returns-in-End-clause-beside g c = subst (λ (s : Step). OnlyAt g.H.Host.told c.args.i.0 (g.H.Host.state c.args.host.now) (g.H.Host.state c.end_segment.new.host) (Beside (Touched s c.args.first.now) (disk_at (g.H.Host.state c.args.host.now) c.args.i.0))) (sym c.in-End.is) c.end_segment.ensures.beside

pub returns-in-End-clause-in_turn : goal.returns-in-End-clause-in_turn
returns-in-End-clause-in_turn g c = subst (λ (s : Step). StepsInTurn g.H.Host.told c.args.i.0 s c.args.first.now c.args.bytes.now (g.H.Host.state c.args.host.now) (g.H.Host.state c.end_segment.new.host)) (sym c.in-End.is) c.end_segment.ensures.in_turn

pub returns-in-End-clause-calls : goal.returns-in-End-clause-calls
returns-in-End-clause-calls g c = λ tells. omega (arith, c.end_segment.ensures.calls tells, ap calls_of c.in-End.is)
