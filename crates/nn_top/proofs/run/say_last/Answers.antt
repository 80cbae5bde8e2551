use Rattle.nn_top.proofs.ClosesLemmas.{closes_said, closes_cut}
use Rattle.nn_top.proofs.run.say_last.Goals as goal

pub returns-in-Ok : goal.returns-in-Ok
returns-in-Ok g c = λ status is_last unfailed. closes_said status c.args.last is_last unfailed c.requires.call c.requires.line c.in-Ok.ensures

pub returns-in-Err : goal.returns-in-Err
returns-in-Err g c = λ status is_last unfailed. closes_cut status c.args.last is_last unfailed c.requires.call c.requires.line c.in-Err.ensures
