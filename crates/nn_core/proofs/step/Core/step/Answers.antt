use Rattle.std.proofs.Common.{⊎_elim, Err, refl, ap}
use Rattle.nn_script.specs.declared.answer.Answer.TheVariants.{Unread}
use Rattle.nn_script.specs.Spelling.{answer_text}
use Rattle.nn_core.specs.Events.{read_as}
use Rattle.nn_core.proofs.LineLemmas.{stepped_as, stepped_reading}
use Rattle.nn_core.proofs.PlainLemmas.{plain_step}
use Rattle.nn_core.proofs.step.Core.step.Goals as goal

pub returns-in-Bad-clause-stepped : goal.returns-in-Bad-clause-stepped
returns-in-Bad-clause-stepped g c =
    let core = c.args.self.now in
    stepped_reading (ap read_as c.in-Bad.is) (stepped_as c.unless_failed.ensures (plain_step (Err c.in-Bad.fault) core.version core.journal core.count (g.T.Tree.meaning core.tree) core.time core.time (g.H.Host.state c.args.host.now) (g.H.Host.state c.say.new.host) (answer_text (Unread c.in-Bad.fault)) c.say.result
    (λ e. cc) (λ i below e. cc) (λ sight live. refl) c.requires.ready c.say.ensures (λ change. absurd (cc change.1)) (λ writes. ⊎_elim (λ begins. ⊎_elim (λ roll. absurd (cc roll)) (λ saves. absurd (cc saves)) begins) (λ takes. absurd (cc takes.1)) writes)))
