use Rattle.nn_generate.specs.Generated.{script_of}
use Rattle.nn_say.proofs.SayingLemmas.{says_failed, says_rest}
use Rattle.nn_generate.proofs.said.say_whole.Goals as goal

pub returns-in_err-put_script : goal.returns-in_err-put_script
returns-in_err-put_script g c =
    says_failed c.begin.new.self.waiting.items (script_of c.args.count) c.from_residual.result c.from_residual.ensures.0 c.begin.ensures c.in_err-put_script.ensures

pub returns : goal.returns
returns g c = says_rest (g.H.Host.state c.end.new.host) c.end.result c.begin.ensures c.in_ok-put_script.ensures c.end.ensures
