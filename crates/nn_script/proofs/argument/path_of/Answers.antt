use Rattle.nn_script.proofs.ReadingLemmas.{path_read}
use Rattle.nn_script.proofs.argument.path_of.Goals as goal

pub returns-in-Ok : goal.returns-in-Ok
returns-in-Ok c = path_read _ _ c.in-Ok.ensures.ok.0 c.in-Ok.ensures.ok.1 c.in-Ok.ensures.err
