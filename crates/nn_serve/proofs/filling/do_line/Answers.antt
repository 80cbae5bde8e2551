use Rattle.std.proofs.Common.{◌+◌, Some, Ok, if◌then◌else◌, ◌∙◌, ap}
use Rattle.nn_base.specs.DirSets.{has}
use Rattle.nn_host.proofs.RunsLemmas.{unspoken_refl}
use Rattle.nn_serve.proofs.FillOutLemmas.{out_starved}
use Rattle.nn_serve.proofs.FillNextLemmas.{none_is, done_line, ended_line}
use Rattle.nn_serve.proofs.filling.do_line.Goals as goal

pub returns-in-Ok-clause-fills : goal.returns-in-Ok-clause-fills
returns-in-Ok-clause-fills g c = λ at files done later old more split filling room.
    let core = c.args.core.now in
    let new = c.perform.new.self in
    let it = c.in-Ok-Some-Namespace in
    done_line at files core.count core.version (g.T.Tree.meaning core.tree) core.time core.journal done c.args.tally.now old (g.H.Host.state c.args.host.now) filling it.change (g.T.Tree.meaning new.tree) new.journal (g.H.Host.state c.perform.new.host)
    c.args.line.now (it.ensures.ok ∙ ap Ok (it.field-0-is ∙ ap Some it.field-0-0-is)) later split more room c.in-Ok.refusal new.time c.in-Ok.ensures.same.2 c.with.result c.with.ensures.commands (c.with.ensures.taken ∙ ap (λ none. if none then c.args.tally.now.taken + 1 else c.args.tally.now.taken) (none_is c.is_none.result _ c.is_none.ensures)) c.in-Ok.ensures.performed

pub returns-in-Err-clause-fills : goal.returns-in-Err-clause-fills
returns-in-Err-clause-fills g c = λ at files done later old more split filling room.
    let core = c.args.core.now in
    let new = c.perform.new.self in
    let it = c.in-Ok-Some-Namespace in
    ended_line at files core.count core.version (g.T.Tree.meaning core.tree) core.time core.journal done c.args.tally.now old (g.H.Host.state c.args.host.now) filling it.change (g.T.Tree.meaning new.tree) new.journal (g.H.Host.state c.perform.new.host)
    c.args.line.now (it.ensures.ok ∙ ap Ok (it.field-0-is ∙ ap Some it.field-0-0-is)) later split more room c.in-Err.end c.in-Err.ensures.performed

pub returns-in-Err-Memory-clause-fills : goal.returns-in-Err-Memory-clause-fills
returns-in-Err-Memory-clause-fills g c = λ at files done later old more split filling room.
    let core = c.args.core.now in
    out_starved at files core.count core.version (g.T.Tree.meaning core.tree) core.time core.journal done c.args.tally.now old (g.H.Host.state c.args.host.now) filling (g.H.Host.state c.args.host.now) unspoken_refl
    (λ t begins ahead. (filling.tallying t begins ahead).kept) (has core.journal.live) filling.sees
