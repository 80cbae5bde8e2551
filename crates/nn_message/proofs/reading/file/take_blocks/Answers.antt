use Rattle.std.proofs.Common.{◌≡◌, length, leb, false, true, refl, sym, ◌∙◌, arith}
use Rattle.std.specs.List.{flat_map}
use Rattle.std.proofs.lemmas.Bool.{le-leb, lt-leb}
use Rattle.nn_base.specs.Limits.{most_blocks_of_file}
use Rattle.nn_wire.specs.Field.{bytes_field}
use Rattle.nn_tree.specs.declared.node.Block.{Block}
use Rattle.nn_tree.specs.Limits.{IsBlock}
use Rattle.nn_message.specs.Spelling.{block, blocks_field}
use Rattle.nn_message.specs.Reading.{has_key}
use Rattle.nn_message.specs.MessageReading.{block_field_at, blocks_at}
use Rattle.nn_message.specs.Views.{IsBlocksView}
use Rattle.nn_message.proofs.ManyLemmas.{Spells-many}
use Rattle.nn_message.proofs.LoopLemmas.{Along-step, Along-fail, Along-end, takes_some, Shows-none, front_is}
use Rattle.nn_message.proofs.MessageLemmas.{Repeats-block}
use Rattle.nn_message.proofs.reading.file.take_blocks.Goals as goal

pub fields-preserved : goal.fields-preserved
fields-preserved c =
    let t = λ (b : Block). bytes_field 6 (block b) in
    let x = c.in_ok-next_block.field-0 in
    let less = takes_some (has_key 50) block_field_at t IsBlock Repeats-block c.fields.left.now (x, c.next_block.new.rest.now) c.in_ok-next_block.ensures in
    record {
      along = Along-step (has_key 50) block_field_at t IsBlock Repeats-block c.args.rest.now.now c.fields.left.now c.next_block.new.rest.now x c.fields.count c.fields.invariant.along (sym c.is_next.ensures ∙ c.fields-test.true) c.in_ok-next_block.ensures;
      few = omega (arith, less, c.fields.invariant.few);
    }

pub fields-smaller : goal.fields-smaller
fields-smaller c =
    let t = λ (b : Block). bytes_field 6 (block b) in
    takes_some (has_key 50) block_field_at t IsBlock Repeats-block c.fields.left.now (c.in_ok-next_block.field-0, c.next_block.new.rest.now) c.in_ok-next_block.ensures

pub returns-in_err-next_block : goal.returns-in_err-next_block
unfolding blocks_at
returns-in_err-next_block c =
    let bytes = c.args.rest.now.now in
    let none = Along-fail (has_key 50) block_field_at bytes c.fields.left.now c.fields.count c.fields.invariant.along (sym c.is_next.ensures ∙ c.fields-test.true) c.in_err-next_block.ensures in
    Shows-none IsBlocksView c.from_residual.result bytes (blocks_at bytes) (cc) (rw none refl)

pub returns-then-count-gt-MOST_BLOCKS_OF_FILE : goal.returns-then-count-gt-MOST_BLOCKS_OF_FILE
unfolding blocks_at
returns-then-count-gt-MOST_BLOCKS_OF_FILE c =
    let end = Along-end (has_key 50) block_field_at c.args.rest.now.now c.fields.left.now c.fields.count c.fields.invariant.along (sym c.is_next.ensures ∙ c.fields-test.false) in
    let many : leb (length end.0) most_blocks_of_file ≡ false = lt-leb (length end.0) most_blocks_of_file (omega (arith, end.1)) in
    rw (end.2, many) refl

pub returns : goal.returns
unfolding blocks_at blocks_field
returns c =
    let bytes = c.args.rest.now.now in
    let t = λ (b : Block). bytes_field 6 (block b) in
    let end = Along-end (has_key 50) block_field_at bytes c.fields.left.now c.fields.count c.fields.invariant.along (sym c.is_next.ensures ∙ c.fields-test.false) in
    let few : leb (length end.0) most_blocks_of_file ≡ true = le-leb (length end.0) most_blocks_of_file (omega (arith, end.1)) in
    let text = (Spells-many (has_key 50) block_field_at t IsBlock Repeats-block).exact bytes (end.0, c.fields.left.now) end.2 in
    (end.0, front_is bytes (flat_map t end.0) c.fields.left.now text.1, rw (end.2, few) refl)
