use Rattle.nn_generate.proofs.SaidLemmas.{generate_unbegun, generate_done, generate_cut}
use Rattle.nn_generate.proofs.said.say_script.Goals as goal

pub returns-in-Err : goal.returns-in-Err
returns-in-Err g c = generate_unbegun c.args.count

pub returns-in-Err-with_capacity : goal.returns-in-Err-with_capacity
returns-in-Err-with_capacity g c = generate_unbegun c.args.count

pub returns-in-Ok-say_whole : goal.returns-in-Ok-say_whole
returns-in-Ok-say_whole g c = generate_done c.args.count c.in-Ok-say_whole.ensures

pub returns : goal.returns
returns g c = generate_cut c.args.count c.in-Err-say_whole.ensures
