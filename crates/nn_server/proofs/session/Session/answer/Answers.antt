use Rattle.std.proofs.Common.{◌≡◌, None, Ok, sym, ap, ◌∙◌}
use Rattle.nn_script.specs.Reading.{reading_of}
use Rattle.nn_script.specs.Answers.{reply_by}
use Rattle.nn_server.specs.Scene.{scene}
use Rattle.nn_say.proofs.SayingLemmas.{says_none}
use Rattle.nn_server.proofs.session.Session.answer.Goals as goal

pub returns-in-Ok-None : goal.returns-in-Ok-None
returns-in-Ok-None g c =
    let s = scene (g.T.Tree.meaning c.args.self.now.tree) c.args.self.now.time in
    let none : reading_of c.args.line.now ≡ Ok None = c.in-Ok-None.ensures.ok ∙ ap Ok c.in-Ok-None.field-0-is in
    (says_none _ (ap (λ r. (reply_by s r).text) none), sym (ap (λ r. (reply_by s r).after) none))
