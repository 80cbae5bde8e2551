use Rattle.std.proofs.Common.{◌≡◌, ◌++◌, length, subst, ap, ◌∙◌, arith}
use Rattle.nn_base.specs.Paths.{Bytes}
use Rattle.nn_script.specs.Spelling.{answer_text}
use Rattle.nn_say.specs.Saying.{Says}
use Rattle.nn_say.proofs.SayingLemmas.{says_text, some_answer}
use Rattle.nn_say.proofs.speech.Speech.say.Goals as goal

pub returns : goal.returns
returns g c =
    let text = answer_text c.args.answer in
    let same : c.deref.result.now ≡ text = c.deref.ensures.value ∙ c.text.ensures.text ∙ ap (λ x. x ++ text) c.clear.ensures.items in
    subst (λ (x : Bytes). Says g.H.Host.told (g.H.Host.state c.args.host.now) (g.H.Host.state c.say.new.self) x c.say.result) same
    (says_text c.deref.result.now c.say.result (omega (arith, some_answer c.args.answer, ap length same)) (omega (arith, c.text.ensures.short, ap length same)) c.say.ensures)
