use Rattle.nn_base.proofs.PathsLemmas.{read_more, all_read}
use Rattle.nn_base.proofs.path.text_len.Goals as goal

pub loop-name-preserved : goal.loop-name-preserved
loop-name-preserved c =
    rw c.bytes.ensures.value (read_more _ _ _ c.name-item.result c.loop-name-test.true c.name-item.is c.bytes.ensures.name c.loop-name.invariant)

pub returns : goal.returns
returns c =
    let read = all_read _ _ _ c.loop-name-test.false c.loop-name.invariant in
    record { value = read.0; named = read.1 }
