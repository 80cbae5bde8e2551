use Rattle.nn_top.proofs.GenerateLemmas.{generate_read, generate_spelled}
use Rattle.nn_top.proofs.laws.generate_takes_a_number_alone.Goals as goal

pub returns-clause-read : goal.returns-clause-read
returns-clause-read c = generate_read

pub returns-clause-only : goal.returns-clause-only
returns-clause-only c = generate_spelled
