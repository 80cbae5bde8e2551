use Rattle.std.proofs.Common.{◌≡◌, ◌≢◌, length, ap, arith}
use Rattle.nn_tree.specs.Limits.{IsBlock}
use Rattle.nn_wire.specs.Field.{bytes_field}
use Rattle.nn_message.specs.Spelling.{block, blocks_field}
use Rattle.nn_image.proofs.TakingLemmas.{takes_first, nothing_taken}
use Rattle.nn_image.proofs.count.count_blocks.Goals as goal

pub fields-init : goal.fields-init
fields-init c = record { few = omega arith; left = λ blocks all spelled. (blocks, all, spelled, omega arith) }

pub fields-preserved : goal.fields-preserved
unfolding blocks_field
fields-preserved c = record {
  few = omega (arith, c.fields.invariant.few, c.in-Some.ensures.shorter);
  left = λ blocks all spelled.
      let was = c.fields.invariant.left blocks all spelled in
      let some : length c.fields.rest.now ≢ 0 = λ none. absurd (omega (arith, none, c.in-Some.ensures.shorter)) in
      let next = takes_first (λ v b. v ≡ b) IsBlock (λ b. bytes_field 6 (block b)) was.0 c.take_block.result c.fields.rest.now c.take_block.new.rest.now was.1 was.2 some c.take_block.ensures in
      (next.rest, next.others, next.left, let all = was.3 in let are = ap length next.are in omega (arith, all, are));
}

pub returns : goal.returns
unfolding blocks_field
returns c = λ blocks all spelled.
    let was = c.fields.invariant.left blocks all spelled in
    let none = nothing_taken (λ v b. v ≡ b) IsBlock (λ b. bytes_field 6 (block b)) was.0 c.take_block.result c.fields.rest.now c.take_block.new.rest.now was.1 was.2 c.in_default.is c.take_block.ensures in
    let all = was.3 in
    let are = ap length none in
    omega (arith, all, are)
