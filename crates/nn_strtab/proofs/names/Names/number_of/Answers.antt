use Rattle.nn_strtab.proofs.NumbersLemmas.{same_number, used_again}
use Rattle.nn_strtab.proofs.names.Names.number_of.Goals as goal

pub returns-in-Some-clause-ok : goal.returns-in-Some-clause-ok
returns-in-Some-clause-ok c = same_number _ c.args.name.now c.in-Some.number c.len-count.ensures.one_number c.in-Some.ensures

pub returns-in-Some-clause-used : goal.returns-in-Some-clause-used
returns-in-Some-clause-used c = used_again _ c.args.name.now c.in-Some.number c.in-Some.ensures
