use Rattle.std.proofs.Common.{inl, Some, Ok, refl, arith}
use Rattle.nn_script.specs.declared.answer.Answer.TheVariants.{Done}
use Rattle.nn_script.specs.declared.command.ScriptCommand.TheVariants.{Roll}
use Rattle.nn_script.specs.Spelling.{answer_text}
use Rattle.nn_core.proofs.LineLemmas.{stepped_as, ready_as}
use Rattle.nn_core.proofs.StepLemmas.{synced_step, none_left_step}
use Rattle.nn_core.proofs.step.Core.roll.Goals as goal

pub returns-in-Ok-clause-stepped : goal.returns-in-Ok-clause-stepped
returns-in-Ok-clause-stepped g c =
    let core = c.args.self.now in
    let ns = g.T.Tree.meaning core.tree in
    stepped_as c.unless_failed.ensures (synced_step (Ok (Some Roll)) core.version core.journal c.roll_segment.new.journal core.count ns ns core.time (g.H.Host.state c.args.host.now) (g.H.Host.state c.roll_segment.new.host) (g.H.Host.state c.say.new.host) (answer_text Done) c.say.result
    (λ e. cc) (λ i below e. cc) (λ sight. refl) c.requires.ready.listed (λ tells ids stands. c.in-Ok.ensures.rolls tells core.version ns ids stands) c.in-Ok.ensures.went (ready_as c.requires.ready.listed c.in-Ok.ensures.ready)
    (record { writes = inl (inl refl); adds = λ takes same small. absurd (cc takes.1); last = omega (arith, c.in-Ok.ensures.last); begins = λ roll. c.in-Ok.ensures.begins })
    (λ tells same small change. absurd (cc change.1)) (λ tells ids stands saves. absurd (cc saves)) c.in-Ok.ensures.some (omega arith, omega arith) c.say.ensures)

pub returns-in-Err-clause-stepped : goal.returns-in-Err-clause-stepped
returns-in-Err-clause-stepped g c =
    let core = c.args.self.now in
    let ns = g.T.Tree.meaning core.tree in
    none_left_step (Ok (Some Roll)) core.version core.journal c.roll_segment.new.journal core.count ns ns core.time (g.H.Host.state c.args.host.now) (g.H.Host.state c.roll_segment.new.host) (answer_text Done)
    (λ e. cc) (λ i below e. cc) (λ sight. refl) c.requires.ready.listed (λ tells ids stands. let it = c.in-Err.ensures.rolls tells core.version ns ids stands in (it.list, it.goes)) c.in-Err.ensures.went
    (record { writes = inl (inl refl); adds = λ takes same small. absurd (cc takes.1); last = omega (arith, c.in-Err.ensures.last); begins = λ roll. c.in-Err.ensures.begins })
    (λ tells same small change. absurd (cc change.1)) c.in-Err.ensures.left
