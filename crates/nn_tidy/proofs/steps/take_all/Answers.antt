use Rattle.std.proofs.Common.{◌≡◌, length, rules}
use Rattle.std.proofs.lemmas.List.{nil_from_length}
use Rattle.nn_tidy.proofs.StepLemmas.{taking_none, taking_run, taking_more, taken_all}
use Rattle.nn_tidy.proofs.steps.take_all.Goals as goal

pub steps-init : goal.steps-init
steps-init g c = taking_none c.args.steps.items c.args.i.0 (g.H.Host.state c.args.host.now)

pub steps-preserved : goal.steps-preserved
steps-preserved g c = taking_more c.requires.apart c.requires.there (λ tells. g.met.H.Host.lawful tells c.args.host.now) c.pop.new.self.items c.in-Some.step c.steps.invariant c.in-Some.ensures.items c.in_ok-take.ensures

pub returns-in_err-take-clause-any_moment : goal.returns-in_err-take-clause-any_moment
returns-in_err-take-clause-any_moment g c = taking_run c.requires.apart c.requires.there (λ tells. g.met.H.Host.lawful tells c.args.host.now) c.pop.new.self.items c.in-Some.step c.steps.invariant c.in-Some.ensures.items c.in_err-take.ensures

pub returns-clause-any_moment : goal.returns-clause-any_moment
returns-clause-any_moment g c = c.steps.invariant.run

pub returns-clause-ok : goal.returns-clause-ok
returns-clause-ok g c =
    let none : length c.steps.steps.items ≡ 0 = search rules in
    taken_all c.steps.invariant (nil_from_length c.steps.steps.items none)
