use Rattle.std.proofs.Common.{◌+◌, rules}
use Rattle.nn_base.proofs.PathHeldLemmas.{none_behind}
use Rattle.nn_base.proofs.path.last_start.Goals as goal

pub returns-in-Some-clause-whole : goal.returns-in-Some-clause-whole
returns-in-Some-clause-whole c = none_behind c.args.text.now (c.in-Some.at + 1) (search rules)

pub returns-in-None-clause-whole : goal.returns-in-None-clause-whole
returns-in-None-clause-whole c = none_behind c.args.text.now 0 (search rules)
