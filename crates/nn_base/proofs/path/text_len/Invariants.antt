use Rattle.nn_base.proofs.PathsLemmas.{Read}
use Rattle.nn_base.proofs.path.text_len.Given as goal

abbrev pub invariant-loop-name : goal.invariant-loop-name
invariant-loop-name l = Read l.names l.name-index l.len
