use Rattle.std.proofs.Common.{◌<◌, ◌∙◌, length, arith, length-set}
use Rattle.nn_memhost.proofs.DirsLemmas.{settled_more, settled_rest}
use Rattle.nn_memhost.proofs.dirs.settle_all.Goals as goal

pub dirs-preserved : goal.dirs-preserved
dirs-preserved c =
    let i = c.dirs.invariant in
    let below : c.dirs.k < length c.dirs.dirs.items = omega (arith, c.dirs-test.true, c.len-k-end.ensures, c.args.dirs.now.ok.0, i.len) in
    record {
      len = length-set c.dirs.dirs.items c.dirs.k c.settle.new.self ∙ i.len;
      done = settled_more c.dirs.dirs.items c.args.dirs.now.items c.dirs.k c.index_mut-dir.result.now c.settle.new.self below c.index_mut-dir.ensures.value c.settle.ensures i.done i.rest;
      rest = settled_rest c.dirs.dirs.items c.args.dirs.now.items c.dirs.k c.index_mut-dir.result.now c.settle.new.self below c.index_mut-dir.ensures.value i.rest;
    }
