use Rattle.std.proofs.Common.{◌≡◌, List, [], ◌∷◌, ◌++◌, length, sym, ap, ◌∙◌, append_assoc, append-nil}
use Rattle.std.specs.Prelude.{All}
use Rattle.std.proofs.lemmas.Option.{none-some, same_Some}
use Rattle.nn_tree.specs.declared.node.Block.{Block}
use Rattle.nn_tree.specs.Limits.{IsBlock}
use Rattle.nn_wire.specs.Field.{bytes_field}
use Rattle.nn_message.specs.Spelling.{block, blocks_field}
use Rattle.nn_image.proofs.TakingLemmas.{takes_first, none_left, field_some, is_none, is_not_none}
use Rattle.nn_image.proofs.node.read_blocks.Goals as goal

pub fields-init : goal.fields-init
fields-init c = λ blocks all spelled. (blocks, all, spelled, ap (λ b. b ++ blocks) (sym c.in_ok-list.ensures))

pub fields-preserved : goal.fields-preserved
unfolding blocks_field
fields-preserved c = λ blocks all spelled.
    let was = c.fields.invariant blocks all spelled in
    let some = is_not_none c.fields.rest.now c.is_empty.result c.is_empty.ensures c.fields-test.true in
    let next = takes_first (λ v b. v ≡ b) IsBlock (λ b. bytes_field 6 (block b)) was.0 c.take_block.result c.fields.rest.now c.take_block.new.rest.now was.1 was.2 some c.take_block.ensures in
    let same = same_Some _ _ (sym c.in-Some.is ∙ next.is) ∙ next.shows in (
      next.rest,
      next.others,
      next.left,
      was.3 ∙ ap (λ a. c.fields.list.items ++ a) (next.are ∙ ap (λ b. b ∷ next.rest) (sym same)) ∙ sym (append_assoc c.fields.list.items (c.in-Some.block ∷ []) next.rest)
          ∙ ap (λ l. l ++ next.rest) (sym c.in_ok-push-in-Some.ensures.items),
    )

pub returns-in-None-clause-tree : goal.returns-in-None-clause-tree
unfolding blocks_field
returns-in-None-clause-tree c = λ blocks all spelled is.
    let was = c.fields.invariant blocks all spelled in
    let some = is_not_none c.fields.rest.now c.is_empty.result c.is_empty.ensures c.fields-test.true in
    let next = takes_first (λ v b. v ≡ b) IsBlock (λ b. bytes_field 6 (block b)) was.0 c.take_block.result c.fields.rest.now c.take_block.new.rest.now was.1 was.2 some c.take_block.ensures in
    none-some _ (sym c.in-None.is ∙ next.is)

-- no block is to come where no bytes are left
all_read : (blocks seen ahead : List Block) → All IsBlock ahead → length (blocks_field ahead) ≡ 0 → blocks ≡ seen ++ ahead → seen ≡ blocks
unfolding blocks_field
all_read blocks seen ahead all none is =
    let end = none_left IsBlock (λ b. bytes_field 6 (block b)) ahead (λ b _. field_some 6 (block b)) all none in
    sym (is ∙ ap (λ a. seen ++ a) end ∙ append-nil seen)

pub returns-clause-ok : goal.returns-clause-ok
returns-clause-ok c = λ blocks all spelled.
    let was = c.fields.invariant blocks all spelled in
    let none = is_none c.fields.rest.now c.is_empty.result c.is_empty.ensures c.fields-test.false in
    all_read blocks c.fields.list.items was.0 was.1 (sym (ap length was.2) ∙ none) was.3
