use Rattle.std.proofs.Common.{refl, ap, ◌∙◌}
use Rattle.nn_server.specs.declared.format_run.FormatEnd.TheVariants.{Memory}
use Rattle.nn_server.specs.Lines.{formatted_line}
use Rattle.nn_server.proofs.FormatLemmas.{unbegun, begun, format_unsaid, format_refused, format_done, format_cut}
use Rattle.nn_host.proofs.RunsLemmas.{unspoken_refl, counts_refl}
use Rattle.nn_server.proofs.format_run.format.Goals as goal

pub returns-in-Err : goal.returns-in-Err
returns-in-Err g c =
    let lawful = λ (tells : g.H.Host.told). g.met.H.Host.lawful tells c.args.host.now in
    format_unsaid Memory refl lawful (unbegun c.args.cluster.now c.args.namespace lawful) unspoken_refl (λ tells. refl) counts_refl

pub returns-in-Ok-say : goal.returns-in-Ok-say
returns-in-Ok-say g c =
    let did = c.format.ensures in
    format_done c.in-Ok.version c.in-Ok.ensures (λ tells. g.met.H.Host.lawful tells c.args.host.now) (begun c.in-Ok.version c.in-Ok.ensures did.any_moment did.unchanged) did.quiet
    c.in-Ok-format.ensures.ok c.in-Ok-format.ensures.cause (c.formatted_line.ensures ∙ ap formatted_line c.count.ensures.count) c.in-Ok-say.ensures

pub returns-in-Err-say : goal.returns-in-Err-say
returns-in-Err-say g c =
    let did = c.format.ensures in
    format_cut c.in-Ok.version c.in-Ok.ensures (λ tells. g.met.H.Host.lawful tells c.args.host.now) (begun c.in-Ok.version c.in-Ok.ensures did.any_moment did.unchanged) did.quiet
    c.in-Ok-format.ensures.ok c.in-Ok-format.ensures.cause (c.formatted_line.ensures ∙ ap formatted_line c.count.ensures.count) c.in-Err-say.ensures

pub returns-in-Err-format : goal.returns-in-Err-format
returns-in-Err-format g c =
    let did = c.in-Err-format.ensures in
    format_refused c.in-Err-format.fault c.unformatted.result c.unformatted.ensures (λ tells. g.met.H.Host.lawful tells c.args.host.now) (begun c.in-Ok.version c.in-Ok.ensures did.any_moment did.unchanged) did.quiet did.refused did.cause
