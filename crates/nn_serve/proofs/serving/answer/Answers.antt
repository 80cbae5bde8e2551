use Rattle.std.proofs.Common.{refl, sym, ◌∙◌, ap}
use Rattle.nn_run.specs.Running.{Failed}
use Rattle.nn_core.specs.Events.{asked_at as seen_at, read_as}
use Rattle.nn_serve.specs.Turns.{read_of}
use Rattle.nn_serve.proofs.OutLemmas.{out_memory}
use Rattle.nn_serve.proofs.TurnLemmas.{event_some, silent, turned_to}
use Rattle.nn_serve.proofs.serving.answer.Goals as goal

pub returns-in-Ok-None-clause-turns : goal.returns-in-Ok-None-clause-turns
returns-in-Ok-None-clause-turns g c = λ at seen old whole more alike serving room.
    let core = c.args.core.now in
    let s = g.H.Host.state c.args.host.now in
    let it = silent at core.count core.version (g.T.Tree.meaning core.tree) core.time core.journal seen old s serving whole (sym alike ∙ c.in-Ok-None.ensures.reads ∙ ap read_of c.in-Ok-None.field-0-is) more room in
    (seen_at whole Failed core.journal.live s, refl, it.0, it.1)

pub returns-in-Ok-Some-clause-turns : goal.returns-in-Ok-Some-clause-turns
returns-in-Ok-Some-clause-turns g c = λ at seen old whole more alike serving room.
    let core = c.args.core.now in
    let new = c.step.new.self in
    turned_to at core.count core.version (g.T.Tree.meaning core.tree) (g.T.Tree.meaning new.tree) core.time new.time core.journal new.journal seen old (g.H.Host.state c.args.host.now) (g.H.Host.state c.step.new.host) serving (λ tells. g.met.H.Host.lawful tells c.args.host.now)
    (read_as c.in-Ok-Some.event) whole (sym alike ∙ c.in-Ok-Some.ensures.reads ∙ ap read_of c.in-Ok-Some.field-0-is) (event_some c.in-Ok-Some.event) c.step.result c.step.ensures.stepped more room

pub returns-in-Err-clause-turns : goal.returns-in-Err-clause-turns
returns-in-Err-clause-turns g c = λ at seen old whole more alike serving room.
    let core = c.args.core.now in
    let s = g.H.Host.state c.args.host.now in
    (seen_at whole Failed core.journal.live s, refl, out_memory at core.count core.version (g.T.Tree.meaning core.tree) core.time core.journal seen old s serving whole)
