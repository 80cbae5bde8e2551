use Rattle.std.proofs.Common.{arith, ◌≤◌, ◌*◌, mul-le-mul}
use Rattle.nn_base.specs.Limits.{most_blocks_of_file, most_block_length, most_replication}
use Rattle.nn_tree.proofs.BlocksLemmas.{file_is_small}
use Rattle.nn_tree.proofs.node.Kind.space.Goals as goal

pub length-requires : goal.length-requires
length-requires c =
    let s = file_is_small c.args.self.now c.in-File.replication c.in-File.is_open c.in-File.blocks c.in-File.is c.requires in
    omega (arith, s.0)

pub overflow_mul-result : goal.overflow_mul-result
overflow_mul-result c =
    let s = file_is_small c.args.self.now c.in-File.replication c.in-File.is_open c.in-File.blocks c.in-File.is c.requires in
    let few : c.from.result ≤ most_replication = omega (arith, s.1) in
    let short : c.length.result ≤ most_blocks_of_file * most_block_length = omega (arith, s.0) in
    omega (arith, mul-le-mul few short)
