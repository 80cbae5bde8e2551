use Rattle.std.proofs.Common.{arith}
use Rattle.nn_tree.proofs.BlocksLemmas.{file_is_small}
use Rattle.nn_script.proofs.listing.put_details.Goals as goal

pub length-requires : goal.length-requires
length-requires c =
    let small = file_is_small c.args.kind.now c.in-File.replication c.in-File.is_open c.in-File.blocks c.in-File.is c.requires.bounds in
    omega (arith, small.0)
