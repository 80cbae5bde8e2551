use Rattle.std.proofs.Common.{arith}
use Rattle.nn_wire.specs.Field.{bytes_field}
use Rattle.nn_tree.specs.Limits.{IsBlock}
use Rattle.nn_message.specs.Spelling.{block}
use Rattle.nn_message.specs.MessageReading.{block_field_at}
use Rattle.nn_message.proofs.TakesLemmas.{takes_by_gives}
use Rattle.nn_message.proofs.MessageLemmas.{Spells-block_field, block_field_some}
use Rattle.nn_message.proofs.reading.file.take_block.Goals as goal

pub returns : goal.returns
returns c =
    takes_by_gives block_field_at (λ b. bytes_field 6 (block b)) IsBlock Spells-block_field block_field_some
    c.next_block.result c.args.rest.now.now c.next_block.new.rest.now (omega arith) c.next_block.ensures
