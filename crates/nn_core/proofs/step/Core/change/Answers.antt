use Rattle.std.proofs.Common.{Ok}
use Rattle.nn_core.proofs.LineLemmas.{stepped_as}
use Rattle.nn_core.proofs.WorkLemmas.{done_step, turned_down_step, cut_step}
use Rattle.nn_core.proofs.step.Core.change.Goals as goal

pub returns-in-Ok-None-clause-stepped : goal.returns-in-Ok-None-clause-stepped
returns-in-Ok-None-clause-stepped g c =
    let core = c.args.self.now in
    let new = c.work.new.self in
    stepped_as c.unless_failed.ensures (done_step c.args.command core.count core.version (g.T.Tree.meaning core.tree) (g.T.Tree.meaning new.tree) core.time new.time c.work.ensures.same.2 core.journal new.journal (g.H.Host.state c.args.host.now) (g.H.Host.state c.work.new.host) (g.H.Host.state c.say.new.host) c.say.result
    c.requires.ready c.in-Ok-None.field-0 c.in-Ok-None.field-0-is c.in-Ok-None.ensures.works c.say.ensures)

pub returns-in-Ok-Some-clause-stepped : goal.returns-in-Ok-Some-clause-stepped
returns-in-Ok-Some-clause-stepped g c =
    let core = c.args.self.now in
    let new = c.work.new.self in
    stepped_as c.unless_failed-in-Ok-Some.ensures (turned_down_step c.args.command core.count core.version (g.T.Tree.meaning core.tree) (g.T.Tree.meaning new.tree) core.time new.time c.work.ensures.same.2 core.journal new.journal (g.H.Host.state c.args.host.now) (g.H.Host.state c.work.new.host) (g.H.Host.state c.say-in-Ok-Some.new.host) c.say-in-Ok-Some.result
    c.requires.ready c.in-Ok-Some.field-0 c.in-Ok-Some.refusal c.in-Ok-Some.field-0-is c.in-Ok-Some.ensures.works c.say-in-Ok-Some.ensures)

pub returns-in-Err-clause-stepped : goal.returns-in-Err-clause-stepped
returns-in-Err-clause-stepped g c =
    let core = c.args.self.now in
    let new = c.work.new.self in
    cut_step c.args.command core.count core.version (g.T.Tree.meaning core.tree) (g.T.Tree.meaning new.tree) core.time new.time c.work.ensures.same.2 core.journal new.journal (g.H.Host.state c.args.host.now) (g.H.Host.state c.work.new.host) (g.H.Host.state c.work.new.host) (Ok tt)
    c.requires.ready c.in-Err.end c.in-Err.ensures.works
