use Rattle.std.proofs.Common.{◌≡◌, ℕ, ◌<◌, true, inl, inr, Some, Ok, Err, refl, ap, arith}
use Rattle.nn_base.proofs.DirSetLemmas.{at_most_eight}
use Rattle.nn_base.specs.DirSets.{has}
use Rattle.nn_script.specs.declared.answer.Answer.TheVariants.{Done}
use Rattle.nn_script.specs.declared.command.ScriptCommand.TheVariants.{Checkpoint}
use Rattle.nn_script.specs.Spelling.{answer_text}
use Rattle.nn_core.proofs.CheckpointLemmas.{saving_goes, saving_comes, all_saved}
use Rattle.nn_core.proofs.LineLemmas.{stepped_as, ready_as}
use Rattle.nn_core.proofs.StepLemmas.{synced_step, none_left_step, unsaved_step}
use Rattle.nn_core.proofs.step.Core.checkpoint.Goals as goal

pub checkpoint-requires-clause-below : goal.checkpoint-requires-clause-below
checkpoint-requires-clause-below g c = λ j e. (let below = c.requires.ready.below j e in let listed = c.requires.ready.listed in omega (arith, below, listed))

pub returns-in-Ok-clause-stepped : goal.returns-in-Ok-clause-stepped
returns-in-Ok-clause-stepped g c =
    let core = c.args.self.now in
    let ns = g.T.Tree.meaning core.tree in
    let a = g.H.Host.state c.args.host.now in
    let b = g.H.Host.state c.checkpoint.new.host in
    let after = c.checkpoint.new.journal in
    let among : (j : ℕ) → has core.journal.live j ≡ true → j < a.count = λ j e. (let below = c.requires.ready.below j e in let listed = c.requires.ready.listed in omega (arith, below, listed)) in
    stepped_as c.unless_failed.ensures (synced_step (Ok (Some Checkpoint)) core.version core.journal after core.count ns ns core.time a b (g.H.Host.state c.say.new.host) (answer_text Done) c.say.result
    (λ e. cc) (λ i below e. cc) (λ sight. refl) c.requires.ready.listed
    (λ tells ids stands. saving_comes core.version core.journal after ns a b (Ok c.in-Ok.field-0) c.in-Ok.ensures.checkpoints among (λ room. omega (arith, room, c.in-Ok.ensures.last, at_most_eight core.journal.live)) tells ids stands)
    c.in-Ok.ensures.went
    (ready_as c.requires.ready.listed (record { listed = c.in-Ok.ensures.went.quiet.each.count; below = λ j e. (let below = c.in-Ok.ensures.below j e in let same = c.in-Ok.ensures.went.quiet.each.count in omega (arith, below, same)); going = c.in-Ok.ensures.going; empty = c.in-Ok.ensures.kept.2; fit = c.in-Ok.ensures.kept.3 }))
    (record { writes = inl (inr refl); adds = λ takes same small. absurd (cc takes.1); last = omega (arith, c.in-Ok.ensures.last); begins = λ roll. absurd (cc roll) })
    (λ tells same small change. absurd (cc change.1))
    (λ tells ids stands saves. all_saved core.version core.journal after ns a b c.in-Ok.field-0 c.in-Ok.ensures.checkpoints among c.in-Ok.ensures.above.0 tells ids stands)
    c.in-Ok.ensures.some (omega arith, omega arith) c.say.ensures)

pub returns-in-Err-NoneLeft-clause-stepped : goal.returns-in-Err-NoneLeft-clause-stepped
returns-in-Err-NoneLeft-clause-stepped g c =
    let core = c.args.self.now in
    let ns = g.T.Tree.meaning core.tree in
    let a = g.H.Host.state c.args.host.now in
    let b = g.H.Host.state c.checkpoint.new.host in
    let after = c.checkpoint.new.journal in
    let among : (j : ℕ) → has core.journal.live j ≡ true → j < a.count = λ j e. (let below = c.requires.ready.below j e in let listed = c.requires.ready.listed in omega (arith, below, listed)) in
    none_left_step (Ok (Some Checkpoint)) core.version core.journal after core.count ns ns core.time a b (answer_text Done) (λ e. cc) (λ i below e. cc) (λ sight. refl) c.requires.ready.listed
    (λ tells ids stands. saving_goes core.version core.journal after ns a b c.checkpoint.result c.checkpoint.ensures.checkpoints among (λ room. omega (arith, room, c.checkpoint.ensures.last, at_most_eight core.journal.live)) tells ids stands)
    c.checkpoint.ensures.went
    (record { writes = inl (inr refl); adds = λ takes same small. absurd (cc takes.1); last = omega (arith, c.checkpoint.ensures.last); begins = λ roll. absurd (cc roll) })
    (λ tells same small change. absurd (cc change.1))
    (c.in-Err-NoneLeft.ensures.left (ap (λ e. Err e) c.in-Err-NoneLeft.field-0-is))

pub returns-in-Err-Memory-clause-stepped : goal.returns-in-Err-Memory-clause-stepped
returns-in-Err-Memory-clause-stepped g c =
    let core = c.args.self.now in
    let ns = g.T.Tree.meaning core.tree in
    let a = g.H.Host.state c.args.host.now in
    let b = g.H.Host.state c.checkpoint.new.host in
    let after = c.checkpoint.new.journal in
    let among : (j : ℕ) → has core.journal.live j ≡ true → j < a.count = λ j e. (let below = c.requires.ready.below j e in let listed = c.requires.ready.listed in omega (arith, below, listed)) in
    unsaved_step (Ok (Some Checkpoint)) core.version core.journal after core.count ns ns core.time a b (answer_text Done) (λ e. cc) (λ i below e. cc) (λ sight. refl) c.requires.ready.listed
    (λ tells ids stands. saving_goes core.version core.journal after ns a b c.checkpoint.result c.checkpoint.ensures.checkpoints among (λ room. omega (arith, room, c.checkpoint.ensures.last, at_most_eight core.journal.live)) tells ids stands)
    c.checkpoint.ensures.went
    (record { writes = inl (inr refl); adds = λ takes same small. absurd (cc takes.1); last = omega (arith, c.checkpoint.ensures.last); begins = λ roll. absurd (cc roll) })
    (λ tells same small change. absurd (cc change.1))
    refl
