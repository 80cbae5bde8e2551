use Rattle.std.proofs.Common.{[], sym, ◌∙◌, ap, subst}
use Rattle.nn_serve.specs.Serving.{EndsSo}
use Rattle.nn_serve.proofs.StartLemmas.{begun, begun_as}
use Rattle.nn_serve.proofs.OpeningLemmas.{out_begun, out_unstarted}
use Rattle.nn_serve.proofs.whole_run.begin.Goals as goal

pub returns-in-Err-clause-err : goal.returns-in-Err-clause-err
returns-in-Err-clause-err g c =
    let old = g.H.Host.state c.args.host.now in
    let s = g.H.Host.state c.start.new.host in
    let is = c.in-Err.ensures in
    subst (EndsSo g.H.Host.told c.args.at old s []) (sym c.unstarted.ensures) (out_unstarted c.args.at old s c.in-Err.fault is.refused is.unchanged is.kept is.quiet is.cause)

pub returns-in-Ok-new-clause-ok : goal.returns-in-Ok-new-clause-ok
returns-in-Ok-new-clause-ok g c =
    let old = g.H.Host.state c.args.host.now in
    let s = g.H.Host.state c.start.new.host in
    let is = c.in-Ok.ensures in
    let it = c.in-Ok.opened in
    let core = c.in-Ok-new.ensures in
    begun_as (sym (core.4 ∙ c.count.ensures.count ∙ is.quiet.each.count)) (sym core.1) (ap g.T.Tree.meaning (sym core.0)) (sym core.3)
    (begun c.args.at old s (g.T.Tree.meaning it.tree) it.last it.version it.bay.at.items it.journal is.ok is.ready is.started is.kept is.quiet is.cause is.room)

pub returns-clause-err : goal.returns-clause-err
returns-clause-err g c =
    let old = g.H.Host.state c.args.host.now in
    let s = g.H.Host.state c.start.new.host in
    let is = c.in-Ok.ensures in
    let it = c.in-Ok.opened in
    out_begun c.args.at old.count it.version (g.T.Tree.meaning it.tree) it.journal it.last old s
    (begun c.args.at old s (g.T.Tree.meaning it.tree) it.last it.version it.bay.at.items it.journal is.ok is.ready is.started is.kept is.quiet is.cause is.room)
