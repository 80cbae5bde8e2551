use Rattle.std.proofs.Common.{inr, ◌∙◌, sym}
use Rattle.nn_open.proofs.SurveyLemmas.{unrefused}
use Rattle.nn_open.proofs.FormatLemmas.{surveyed_fresh, fresh_after, then_made, never}
use Rattle.nn_open.proofs.LeftLemmas.{none_made_yet, stops_fresh_or_open, all_formatted}
use Rattle.nn_open.proofs.formatting.format.Goals as goal

-- ---- there was no memory for the tree

pub returns-in_default-clause-stops : goal.returns-in_default-clause-stops
returns-in_default-clause-stops g c = λ tells fresh.
    let lawful = g.met.H.Host.lawful tells c.args.host.now in
    stops_fresh_or_open c.args.version.now c.requires.layout tells lawful fresh (none_made_yet c.args.version.now lawful fresh)

-- ---- the survey failed, or found a refusal

pub returns-in_err-refusal-clause-any_moment : goal.returns-in_err-refusal-clause-any_moment
returns-in_err-refusal-clause-any_moment g c = surveyed_fresh (λ tells. g.met.H.Host.lawful tells c.args.host.now) c.survey.ensures.any_moment c.args.version.now

pub returns-in_err-refusal-clause-stops : goal.returns-in_err-refusal-clause-stops
returns-in_err-refusal-clause-stops g c = λ tells fresh. stops_fresh_or_open c.args.version.now c.requires.layout tells (g.met.H.Host.lawful tells c.args.host.now) fresh
    (surveyed_fresh (λ tells. g.met.H.Host.lawful tells c.args.host.now) c.survey.ensures.any_moment c.args.version.now fresh)

pub returns-in-Some-clause-any_moment : goal.returns-in-Some-clause-any_moment
returns-in-Some-clause-any_moment g c = surveyed_fresh (λ tells. g.met.H.Host.lawful tells c.args.host.now) c.survey.ensures.any_moment c.args.version.now

pub returns-in-Some-clause-stops : goal.returns-in-Some-clause-stops
returns-in-Some-clause-stops g c = λ tells fresh. stops_fresh_or_open c.args.version.now c.requires.layout tells (g.met.H.Host.lawful tells c.args.host.now) fresh
    (surveyed_fresh (λ tells. g.met.H.Host.lawful tells c.args.host.now) c.survey.ensures.any_moment c.args.version.now fresh)

-- ---- all were made, or the making ended early

pub make_all-requires-clause-fresh : goal.make_all-requires-clause-fresh
make_all-requires-clause-fresh g c = λ tells. fresh_after (λ tells. g.met.H.Host.lawful tells c.args.host.now) c.survey.ensures.any_moment tells
    (unrefused (g.H.Host.state c.args.host.now) (sym (c.in_ok-refusal.ensures.value tells) ∙ c.in_default-2.is))

pub returns-clause-any_moment : goal.returns-clause-any_moment
returns-clause-any_moment g c = λ fresh. then_made c.survey.ensures.any_moment.count
    (surveyed_fresh (λ tells. g.met.H.Host.lawful tells c.args.host.now) c.survey.ensures.any_moment c.args.version.now fresh)
    c.make_all.ensures.any_moment

pub returns-clause-stops : goal.returns-clause-stops
returns-clause-stops g c = λ tells fresh. stops_fresh_or_open c.args.version.now c.requires.layout tells (g.met.H.Host.lawful tells c.args.host.now) fresh
    (then_made c.survey.ensures.any_moment.count
    (surveyed_fresh (λ tells. g.met.H.Host.lawful tells c.args.host.now) c.survey.ensures.any_moment c.args.version.now fresh)
    c.make_all.ensures.any_moment)

pub returns-clause-unchanged : goal.returns-clause-unchanged
returns-clause-unchanged g c = λ refused. never
    (c.make_all.ensures.any_moment.count ∙ c.survey.ensures.any_moment.count)
    (λ tells. refused (sym (c.in_ok-refusal.ensures.value tells) ∙ c.in_default-2.is))

pub returns-clause-ok : goal.returns-clause-ok
returns-clause-ok g c = λ tells. all_formatted (g.H.Host.state c.args.host.now) (g.H.Host.state c.survey.new.host) (g.H.Host.state c.make_all.new.host) c.args.version.now c.make_all.result c.requires.layout (g.met.H.Host.lawful tells c.make_all.new.host) c.survey.ensures.any_moment.count
    (sym (c.in_ok-refusal.ensures.value tells) ∙ c.in_default-2.is)
    (c.make_all.ensures.ok tells)

pub returns-clause-memory : goal.returns-clause-memory
returns-clause-memory g c = λ tells short. inr (unrefused (g.H.Host.state c.args.host.now) (sym (c.in_ok-refusal.ensures.value tells) ∙ c.in_default-2.is))
