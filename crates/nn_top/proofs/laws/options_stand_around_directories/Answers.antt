use Rattle.nn_top.proofs.LineLemmas.{plain_read_line, marked_read}
use Rattle.nn_top.proofs.SpelledLemmas.{options_spelled}
use Rattle.nn_top.proofs.laws.options_stand_around_directories.Goals as goal

pub returns-clause-around : goal.returns-clause-around
returns-clause-around c = plain_read_line

pub returns-clause-marked : goal.returns-clause-marked
returns-clause-marked c = marked_read

pub returns-clause-only : goal.returns-clause-only
returns-clause-only c = options_spelled
