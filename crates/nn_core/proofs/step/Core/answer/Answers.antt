use Rattle.std.proofs.Common.{⊎_elim, ℕ, Bool, Some, Ok, ◌++◌, refl, sym, ◌∙◌, ap}
use Rattle.nn_base.specs.DirSets.{has}
use Rattle.nn_script.specs.declared.answer.Answer.TheVariants.{Done, Later}
use Rattle.nn_script.specs.declared.command.ScriptCommand.TheVariants as command
use Rattle.nn_script.specs.Answers.{list_text}
use Rattle.nn_script.specs.Spelling.{answer_text, dir_lines}
use Rattle.nn_core.specs.Events.{running}
use Rattle.nn_core.proofs.LineLemmas.{stepped_as, stepped_reading}
use Rattle.nn_core.proofs.PlainLemmas.{plain_step}
use Rattle.nn_core.proofs.step.Core.answer.Goals as goal

pub returns-in-Clock-clause-stepped : goal.returns-in-Clock-clause-stepped
returns-in-Clock-clause-stepped g c =
    let core = c.args.self.now in
    let ns = g.T.Tree.meaning core.tree in
    stepped_reading (ap (λ it. Ok (Some it)) c.in-Clock.is) (stepped_as c.unless_failed.ensures (plain_step (Ok (Some (command.Clock c.in-Clock.time))) core.version core.journal core.count ns core.time c.in-Clock.time (g.H.Host.state c.args.host.now) (g.H.Host.state c.say.new.host) (answer_text Done) c.say.result
    (λ e. cc) (λ i below e. cc) (λ sight live. refl) c.requires.ready c.say.ensures (λ change. absurd (cc change.1)) (λ writes. ⊎_elim (λ begins. ⊎_elim (λ roll. absurd (cc roll)) (λ saves. absurd (cc saves)) begins) (λ takes. absurd (cc takes.1)) writes)))

pub returns-in-List-clause-stepped : goal.returns-in-List-clause-stepped
returns-in-List-clause-stepped g c =
    let core = c.args.self.now in
    let ns = g.T.Tree.meaning core.tree in
    stepped_reading (ap (λ it. Ok (Some it)) c.in-List.is) (stepped_as c.unless_failed-in-List.ensures (plain_step (Ok (Some (command.List c.in-List.path))) core.version core.journal core.count ns core.time core.time (g.H.Host.state c.args.host.now) (g.H.Host.state c.say_list.new.host) (list_text ns.nodes c.in-List.path) c.say_list.result
    (λ e. cc) (λ i below e. cc) (λ sight live. refl) c.requires.ready c.say_list.ensures (λ change. absurd (cc change.1)) (λ writes. ⊎_elim (λ begins. ⊎_elim (λ roll. absurd (cc roll)) (λ saves. absurd (cc saves)) begins) (λ takes. absurd (cc takes.1)) writes)))

pub returns-in-Dirs-clause-stepped : goal.returns-in-Dirs-clause-stepped
returns-in-Dirs-clause-stepped g c =
    let core = c.args.self.now in
    let ns = g.T.Tree.meaning core.tree in
    stepped_reading (ap (λ it. Ok (Some it)) c.in-Dirs.is) (stepped_as c.unless_failed-in-Dirs.ensures (plain_step (Ok (Some command.Dirs)) core.version core.journal core.count ns core.time core.time (g.H.Host.state c.args.host.now) (g.H.Host.state c.say_dirs.new.host) (dir_lines (has c.live_dirs-live.result) core.count ++ answer_text Done) c.say_dirs.result
    (λ e. cc) (λ i below e. cc) (λ sight live. ap (λ (f : ℕ → Bool). record { text = dir_lines f core.count ++ answer_text Done; after = running ns core.time }) (λ k i. (live i ∙ sym (c.live_dirs-live.ensures i)) k)) c.requires.ready c.say_dirs.ensures (λ change. absurd (cc change.1)) (λ writes. ⊎_elim (λ begins. ⊎_elim (λ roll. absurd (cc roll)) (λ saves. absurd (cc saves)) begins) (λ takes. absurd (cc takes.1)) writes)))

pub returns-in-Finalize-clause-stepped : goal.returns-in-Finalize-clause-stepped
returns-in-Finalize-clause-stepped g c =
    let core = c.args.self.now in
    let ns = g.T.Tree.meaning core.tree in
    stepped_reading (ap (λ it. Ok (Some it)) c.in-Finalize.is) (stepped_as c.unless_failed-in-Finalize.ensures (plain_step (Ok (Some command.Finalize)) core.version core.journal core.count ns core.time core.time (g.H.Host.state c.args.host.now) (g.H.Host.state c.say-in-Finalize.new.host) (answer_text Later) c.say-in-Finalize.result
    (λ e. cc) (λ i below e. cc) (λ sight live. refl) c.requires.ready c.say-in-Finalize.ensures (λ change. absurd (cc change.1)) (λ writes. ⊎_elim (λ begins. ⊎_elim (λ roll. absurd (cc roll)) (λ saves. absurd (cc saves)) begins) (λ takes. absurd (cc takes.1)) writes)))
