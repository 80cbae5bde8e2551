use Rattle.std.proofs.Common.{◌≡◌, ⊎_elim, nat_lt, false, Bool, if◌then◌else◌, Some, Ok, ap, arith}
use Rattle.std.proofs.lemmas.Bool.Decides.{nat_tests}
use Rattle.nn_script.specs.declared.answer.Answer.TheVariants.{NotRestored}
use Rattle.nn_script.specs.declared.answer.Unrestored.TheVariants.{NoSuchDir}
use Rattle.nn_script.specs.declared.command.ScriptCommand.TheVariants.{Restore}
use Rattle.nn_script.specs.Spelling.{answer_text}
use Rattle.nn_run.specs.Running.{restored_text}
use Rattle.nn_core.specs.Events.{running}
use Rattle.nn_core.proofs.LineLemmas.{stepped_as}
use Rattle.nn_core.proofs.PlainLemmas.{plain_step}
use Rattle.nn_core.proofs.step.Core.restore.Goals as goal

pub returns-else-dir-from-clause-stepped : goal.returns-else-dir-from-clause-stepped
returns-else-dir-from-clause-stepped g c =
    let core = c.args.self.now in
    let ns = g.T.Tree.meaning core.tree in
    let dir = c.args.dir in
    let none = answer_text (NotRestored NoSuchDir) in
    let out : nat_lt dir core.count ≡ false = grind (c.if-dir-from.false, c.from.ensures, arith, nat_tests) in
    stepped_as c.unless_failed.ensures (plain_step (Ok (Some (Restore dir))) core.version core.journal core.count ns core.time core.time (g.H.Host.state c.args.host.now) (g.H.Host.state c.say.new.host) none c.say.result
    (λ e. cc) (λ i below e. (let same : dir ≡ i = cc in absurd (grind (below, same, out, arith, nat_tests))))
    (λ sight live. ap (λ (b : Bool). record { text = if b then restored_text sight.restored else none; after = running ns core.time }) out) c.requires.ready c.say.ensures (λ change. absurd (cc change.1))
    (λ writes. ⊎_elim (λ begins. ⊎_elim (λ roll. absurd (cc roll)) (λ saves. absurd (cc saves)) begins) (λ takes. absurd (cc takes.1)) writes))
