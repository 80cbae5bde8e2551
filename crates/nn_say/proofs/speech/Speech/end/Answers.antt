use Rattle.std.proofs.Common.{subst, sym, ◌∙◌, arith}
use Rattle.nn_base.specs.Paths.{Bytes}
use Rattle.nn_say.specs.Saying.{Says}
use Rattle.nn_say.proofs.SayingLemmas.{says_text, says_none, none_bytes, some_bytes}
use Rattle.nn_say.proofs.speech.Speech.end.Goals as goal

pub returns-then-is_empty : goal.returns-then-is_empty
returns-then-is_empty g c = says_none c.args.self.now.waiting.items (none_bytes c.args.self.now.waiting.items _ (omega (arith, c.args.self.now.waiting.ok.0)) (sym c.is_empty.ensures ∙ c.if-is_empty.true))

pub returns : goal.returns
returns g c =
    subst (λ (text : Bytes). Says g.H.Host.told (g.H.Host.state c.args.host.now) (g.H.Host.state c.say.new.self) text c.say.result) c.deref.ensures.value
    (says_text c.deref.result.now c.say.result (some_bytes c.deref.result.now _ c.deref.ensures.len (sym c.is_empty.ensures ∙ c.if-is_empty.false)) (omega arith) c.say.ensures)
