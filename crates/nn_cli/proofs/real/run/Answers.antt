use Rattle.std.proofs.Common.{ap, ◌∙◌, Err}
use Rattle.nn_top.specs.Words.{texts}
use Rattle.nn_cli.proofs.ExitLemmas.{exits_starved}
use Rattle.nn_cli.proofs.real.run.Goals as goal

pub run_unread-requires : goal.run_unread-requires
run_unread-requires g c = c.dirs_of.ensures.usage.0 (c.in-Err-Usage.is ∙ ap Err c.in-Err-Usage.field-0-is)

pub returns-in-Err-Memory : goal.returns-in-Err-Memory
returns-in-Err-Memory g c = exits_starved (texts c.args.words.now) c.starved.result c.starved.ensures
