use Rattle.std.proofs.Common.{sym, ◌∙◌}
use Rattle.nn_message.specs.Spelling.{string, inode}
use Rattle.nn_image.proofs.CountLemmas.{counted_as}
use Rattle.nn_image.proofs.assemble.is_counted.Goals as goal

pub returns-then-count_messages-heads : goal.returns-then-count_messages-heads
returns-then-count_messages-heads c = λ content is heads.
    let texts = counted_as string content.texts c.args.heads.now.texts.now c.count_messages.result c.count_messages.ensures heads.texts in
    (λ true. absurd cc, λ counted. absurd (c.if-count_messages-heads.true (texts ∙ sym counted.0 ∙ sym heads.strings)))

pub returns-then-count_messages-heads-2 : goal.returns-then-count_messages-heads-2
returns-then-count_messages-heads-2 c = λ content is heads.
    let nodes = counted_as inode content.inodes c.args.heads.now.inodes.now c.count_messages-2.result c.count_messages-2.ensures heads.inodes in
    (λ true. absurd cc, λ counted. absurd (c.if-count_messages-heads-2.true (nodes ∙ sym counted.1 ∙ sym heads.nodes)))

pub returns : goal.returns
returns c = λ content is heads.
    let texts = counted_as string content.texts c.args.heads.now.texts.now c.count_messages.result c.count_messages.ensures heads.texts in
    let nodes = counted_as inode content.inodes c.args.heads.now.inodes.now c.count_messages-2.result c.count_messages-2.ensures heads.inodes in
    let blocks = c.have_few_blocks.ensures content.inodes is.inodes heads.inodes in (
      λ true. (sym heads.strings ∙ sym c.if-count_messages-heads.false ∙ texts, sym heads.nodes ∙ sym c.if-count_messages-heads-2.false ∙ nodes, blocks.0 true),
      λ counted. blocks.1 counted.2,
    )
