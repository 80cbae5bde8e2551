use Rattle.nn_tidy.proofs.CallLemmas.{steps_apart, steps_there, tidy_run, tidy_was, left_tidy}
use Rattle.nn_tidy.proofs.tidying.tidy.Goals as goal

pub take_all-requires-clause-apart : goal.take_all-requires-clause-apart
take_all-requires-clause-apart g c = steps_apart c.args.version.now c.args.id c.in_ok-names.names.items c.deref.result.now c.in_ok-plan.plan c.in_ok-joined.field-0.items (λ tells. g.met.H.Host.lawful tells c.args.host.now) c.in_ok-names.ensures.ok c.in_ok-names.ensures.any_moment c.in_ok-names.ensures.kept
    c.in_ok-plan.ensures.any_moment c.in_ok-plan.ensures.kept c.in_ok-plan.ensures.ok c.deref.ensures.value c.in_ok-joined.ensures

pub take_all-requires-clause-there : goal.take_all-requires-clause-there
take_all-requires-clause-there g c = steps_there c.args.version.now c.args.id c.in_ok-names.names.items c.deref.result.now c.in_ok-plan.plan c.in_ok-joined.field-0.items (λ tells. g.met.H.Host.lawful tells c.args.host.now) c.in_ok-names.ensures.ok c.in_ok-names.ensures.any_moment c.in_ok-names.ensures.kept
    c.in_ok-plan.ensures.any_moment c.in_ok-plan.ensures.kept c.in_ok-plan.ensures.ok c.deref.ensures.value c.in_ok-joined.ensures

pub returns-in_err-take_all-clause-any_moment : goal.returns-in_err-take_all-clause-any_moment
returns-in_err-take_all-clause-any_moment g c = tidy_run c.args.version.now c.args.id c.in_ok-names.names.items c.deref.result.now c.in_ok-plan.plan c.in_ok-joined.field-0.items (λ tells. g.met.H.Host.lawful tells c.args.host.now) c.in_ok-names.ensures.ok c.in_ok-names.ensures.any_moment c.in_ok-names.ensures.kept
    c.in_ok-plan.ensures.any_moment c.in_ok-plan.ensures.kept c.in_ok-plan.ensures.ok c.deref.ensures.value c.in_ok-joined.ensures c.in_err-take_all.ensures.any_moment

pub returns-clause-any_moment : goal.returns-clause-any_moment
returns-clause-any_moment g c = tidy_run c.args.version.now c.args.id c.in_ok-names.names.items c.deref.result.now c.in_ok-plan.plan c.in_ok-joined.field-0.items (λ tells. g.met.H.Host.lawful tells c.args.host.now) c.in_ok-names.ensures.ok c.in_ok-names.ensures.any_moment c.in_ok-names.ensures.kept
    c.in_ok-plan.ensures.any_moment c.in_ok-plan.ensures.kept c.in_ok-plan.ensures.ok c.deref.ensures.value c.in_ok-joined.ensures c.in_ok-take_all.ensures.any_moment

pub returns-clause-ok : goal.returns-clause-ok
returns-clause-ok g c = tidy_was c.args.version.now c.args.id c.in_ok-names.names.items c.deref.result.now c.in_ok-plan.plan c.in_ok-joined.field-0.items (λ tells. g.met.H.Host.lawful tells c.args.host.now) c.in_ok-names.ensures.ok c.in_ok-names.ensures.any_moment c.in_ok-names.ensures.kept
    c.in_ok-plan.ensures.any_moment c.in_ok-plan.ensures.kept c.in_ok-plan.ensures.ok c.deref.ensures.value c.in_ok-joined.ensures c.in_ok-take_all.ensures.ok

pub returns-clause-tidy : goal.returns-clause-tidy
returns-clause-tidy g c = left_tidy c.args.version.now c.args.id c.in_ok-names.names.items c.deref.result.now c.in_ok-plan.plan c.in_ok-joined.field-0.items (λ tells. g.met.H.Host.lawful tells c.args.host.now) c.in_ok-names.ensures.ok c.in_ok-names.ensures.any_moment c.in_ok-names.ensures.kept
    c.in_ok-plan.ensures.any_moment c.in_ok-plan.ensures.kept c.in_ok-plan.ensures.ok c.deref.ensures.value c.in_ok-joined.ensures c.in_ok-take_all.ensures.ok
