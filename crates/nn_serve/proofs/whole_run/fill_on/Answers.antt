use Rattle.std.proofs.Common.{refl, sym}
use Rattle.nn_run.specs.Course.{started_line}
use Rattle.nn_serve.proofs.StartLemmas.{begun_room}
use Rattle.nn_serve.proofs.OpeningLemmas.{said_so}
use Rattle.nn_serve.proofs.ServeLemmas.{serving_as}
use Rattle.nn_serve.proofs.FillLoopLemmas.{filled_unsaid, little_front}
use Rattle.nn_serve.proofs.whole_run.fill_on.Goals as goal

pub returns-in-Ok : goal.returns-in-Ok
returns-in-Ok g c = λ at origin time begun.
    let it = c.args.begun in
    c.fill.ensures at origin
    (serving_as (sym time) (said_so at it.core.count it.core.version (g.T.Tree.meaning it.core.tree) it.core.journal it.last origin (g.H.Host.state c.args.host.now) begun (started_line it.last) refl (g.H.Host.state c.say_started.new.host) c.in-Ok.field-0 c.in-Ok.ensures))
    (begun_room begun)
    (little_front it.core.count it.core.version (g.T.Tree.meaning it.core.tree) it.core.journal it.last origin (g.H.Host.state c.args.host.now) (g.H.Host.state c.say_started.new.host) begun c.in-Ok.ensures)

pub returns : goal.returns
returns g c = λ at origin time begun.
    let it = c.args.begun in
    filled_unsaid at c.args.files it.core.count it.core.version (g.T.Tree.meaning it.core.tree) it.core.journal it.last origin (g.H.Host.state c.args.host.now) begun (g.H.Host.state c.say_started.new.host) c.in-Err.end c.in-Err.ensures
