use Rattle.std.proofs.Common.{List, length, ap, ◌∙◌}
use Rattle.std.specs.Prelude.{String}
use Rattle.nn_files.specs.Untold.{unfailed_state}
use Rattle.nn_top.specs.Words.{texts}
use Rattle.nn_top.proofs.ReadingLemmas.{read_or_not}
use Rattle.nn_cli.proofs.ExitLemmas.{exits_starved, exits_unread}
use Rattle.nn_cli.proofs.real.run_unread.Goals as goal

pub exit_code-requires : goal.exit_code-requires
exit_code-requires g c = λ wanted asks. absurd (read_or_not (texts c.args.words.now) wanted asks c.requires)

pub returns : goal.returns
returns g c = exits_starved (texts c.args.words.now) c.starved.result c.starved.ensures

pub returns-in-Ok : goal.returns-in-Ok
returns-in-Ok g c = exits_unread (texts c.args.words.now) c.exit_code.result.code c.requires (c.in-Ok.ensures ∙ ap (λ (items : List (String _)). unfailed_state (length items)) c.new.ensures.items) (c.exit_code.result.status, c.exit_code.ensures.code, (c.exit_code.ensures.usage c.requires).1)
