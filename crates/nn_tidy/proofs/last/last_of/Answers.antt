use Rattle.std.proofs.Common.{◌≡◌, List, ℕ, Ok, sym, subst, rules}
use Rattle.nn_base.specs.Limits.{most_segment_read}
use Rattle.nn_base.specs.declared.sub.Sub.TheVariants.{Current}
use Rattle.nn_record.specs.declared.transaction.Record.{Record}
use Rattle.nn_segment.specs.Segment.{IsIntactRun, last_id}
use Rattle.nn_small.specs.Whole.{whole_of}
use Rattle.nn_chain.specs.Folder.{folder_at}
use Rattle.nn_tidy.proofs.RunLemmas.{file_read, some_last_from}
use Rattle.nn_tidy.proofs.last.last_of.Goals as goal

pub returns-in_ok-intact_run-in-Ok-clause-ok : goal.returns-in_ok-intact_run-in-Ok-clause-ok
returns-in_ok-intact_run-in-Ok-clause-ok g c = λ tells.
    let folder = folder_at ((g.H.Host.state c.args.host.now).reads c.args.i.0) Current in
    let run : (rs : List Record) × IsIntactRun c.deref.result.now c.args.version.now.layout c.args.first rs × (c.in_ok-intact_run-in-Ok.field-0.last ≡ last_id rs) = search rules in
    file_read folder c.args.version.now.layout c.args.name c.args.first c.deref.result.now c.in_ok-intact_run-in-Ok.field-0.last run.0
    (subst (λ (t : List ℕ). whole_of most_segment_read (folder c.args.name) ≡ Ok t) (sym c.deref.ensures.value) (c.in-Ok.ensures.ok tells)) run.1 run.2

pub returns-in_ok-intact_run-in-Ok-clause-within : goal.returns-in_ok-intact_run-in-Ok-clause-within
returns-in_ok-intact_run-in-Ok-clause-within g c =
    let run : (rs : List Record) × IsIntactRun c.deref.result.now c.args.version.now.layout c.args.first rs × (c.in_ok-intact_run-in-Ok.field-0.last ≡ last_id rs) = search rules in
    some_last_from c.args.first c.deref.result.now c.args.version.now.layout run.0 c.in_ok-intact_run-in-Ok.field-0.last run.1 run.2
