use Rattle.std.proofs.Common.{◌≡◌, ◌++◌, length, length-append, subst, ap, ◌∙◌, arith}
use Rattle.nn_base.specs.DirSets.{has}
use Rattle.nn_base.specs.Paths.{Bytes}
use Rattle.nn_script.specs.declared.answer.Answer.TheVariants.{Done}
use Rattle.nn_script.specs.Spelling.{answer_text, dir_lines}
use Rattle.nn_say.specs.Saying.{Says}
use Rattle.nn_say.proofs.SayingLemmas.{says_text, some_answer}
use Rattle.nn_say.proofs.answering.say_dirs.Goals as goal

pub returns : goal.returns
returns g c =
    let lines = dir_lines (has c.args.live) c.args.count in
    let same : c.deref.result.now ≡ lines ++ answer_text Done = c.deref.ensures.value ∙ c.text.ensures.text ∙ ap (λ x. x ++ answer_text Done) (c.put_dirs.ensures.text ∙ ap (λ x. x ++ lines) c.clear.ensures.items) in
    let long = length-append lines (answer_text Done) in
    subst (λ (x : Bytes). Says g.H.Host.told (g.H.Host.state c.args.host.now) (g.H.Host.state c.say.new.self) x c.say.result) same
    (says_text c.deref.result.now c.say.result (omega (arith, some_answer Done, ap length same, long)) (omega (arith, c.text.ensures.short, ap length same, long, c.put_dirs.ensures.short)) c.say.ensures)
