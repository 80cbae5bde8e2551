use Rattle.std.proofs.Common.{◌≡◌, ◌<◌, inl, inr, ⊎_elim, ℕ, true, Err, ap, arith}
use Rattle.nn_base.specs.DirSets.{has}
use Rattle.nn_base.proofs.DirSetLemmas.{at_most_eight}
use Rattle.nn_script.specs.Spelling.{answer_text}
use Rattle.nn_core.proofs.LineLemmas.{stepped_as}
use Rattle.nn_core.proofs.RestoreLemmas.{answers_with, restored_step, none_restored_step, unrestored_step}
use Rattle.nn_core.proofs.step.Core.take_back.Goals as goal

pub restore-requires-clause-below : goal.restore-requires-clause-below
restore-requires-clause-below g c = λ j e. (let below = c.requires.ready.below j e in let listed = c.requires.ready.listed in omega (arith, below, listed))

pub returns-in-Ok-clause-stepped : goal.returns-in-Ok-clause-stepped
returns-in-Ok-clause-stepped g c =
    let core = c.args.self.now in
    let a = g.H.Host.state c.args.host.now in
    let b = g.H.Host.state c.restore.new.host in
    let after = c.restore.new.journal in
    let among : (j : ℕ) → has core.journal.live j ≡ true → j < a.count = λ j e. (let below = c.requires.ready.below j e in let listed = c.requires.ready.listed in omega (arith, below, listed)) in
    stepped_as c.unless_failed.ensures (restored_step core.version core.journal after core.count c.args.i.0 (g.T.Tree.meaning core.tree) core.time a b (g.H.Host.state c.say.new.host) c.in-Ok.came (answer_text c.restored_answer.result) c.say.result
    c.requires.ready.listed c.requires.listed among c.in-Ok.ensures.restores c.in-Ok.ensures.counted c.in-Ok.ensures.idle c.in-Ok.ensures.onward
    (λ room. omega (arith, room, c.in-Ok.ensures.last, at_most_eight core.journal.live))
    (record {
      listed = (let same = c.in-Ok.ensures.counted.quiet.each.count in let listed = c.requires.ready.listed in omega (arith, same, listed));
      below = λ j e. (let below = c.in-Ok.ensures.below j e in let same = c.in-Ok.ensures.counted.quiet.each.count in let listed = c.requires.ready.listed in omega (arith, below, same, listed));
      going = c.in-Ok.ensures.going;
      empty = c.in-Ok.ensures.kept.1;
      fit = c.in-Ok.ensures.kept.2;
    })
    (omega (arith, c.in-Ok.ensures.last)) c.in-Ok.ensures.some (λ either. c.in-Ok.ensures.same (⊎_elim (λ one. inl (ap answers_with one)) (λ two. inr (ap answers_with two)) either)) c.in-Ok.ensures.refused c.restored_answer.ensures.text c.say.ensures)

pub returns-in-Err-NoneLeft-clause-stepped : goal.returns-in-Err-NoneLeft-clause-stepped
returns-in-Err-NoneLeft-clause-stepped g c =
    let core = c.args.self.now in
    let a = g.H.Host.state c.args.host.now in
    none_restored_step core.version core.journal c.restore.new.journal core.count c.args.i.0 (g.T.Tree.meaning core.tree) core.time a (g.H.Host.state c.restore.new.host) c.in-Err-NoneLeft.field-0 c.requires.ready.listed c.requires.listed
    (λ j e. (let below = c.requires.ready.below j e in let listed = c.requires.ready.listed in omega (arith, below, listed))) c.in-Err-NoneLeft.ensures.restores c.in-Err-NoneLeft.ensures.counted c.in-Err-NoneLeft.ensures.onward
    (λ room. omega (arith, room, c.in-Err-NoneLeft.ensures.last, at_most_eight core.journal.live)) (omega (arith, c.in-Err-NoneLeft.ensures.last))
    (c.in-Err-NoneLeft.ensures.left (ap (λ e. Err e) c.in-Err-NoneLeft.field-0-is))

pub returns-in-Err-Memory-clause-stepped : goal.returns-in-Err-Memory-clause-stepped
returns-in-Err-Memory-clause-stepped g c =
    let core = c.args.self.now in
    let a = g.H.Host.state c.args.host.now in
    unrestored_step core.version core.journal c.restore.new.journal core.count c.args.i.0 (g.T.Tree.meaning core.tree) core.time a (g.H.Host.state c.restore.new.host) c.in-Err-Memory.field-0 c.requires.ready.listed c.requires.listed
    (λ j e. (let below = c.requires.ready.below j e in let listed = c.requires.ready.listed in omega (arith, below, listed))) c.in-Err-Memory.ensures.restores c.in-Err-Memory.ensures.counted c.in-Err-Memory.ensures.onward
    (λ room. omega (arith, room, c.in-Err-Memory.ensures.last, at_most_eight core.journal.live)) (omega (arith, c.in-Err-Memory.ensures.last))
