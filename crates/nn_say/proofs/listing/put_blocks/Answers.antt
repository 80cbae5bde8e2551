use Rattle.std.proofs.Common.{◌+◌, ◌++◌, take, drop, get_or, refl}
use Rattle.std.specs.List.{flat_map}
use Rattle.std.proofs.lemmas.List.{take_more}
use Rattle.nn_tree.specs.declared.node.Block.{Block}
use Rattle.nn_script.specs.Listing.{block_line}
use Rattle.nn_say.proofs.SayingLemmas.{streams_nothing, streams_then, breaks_then, puts_broken, puts_failed}
use Rattle.nn_say.proofs.ListingLemmas.{piece_more, piece_within}
use Rattle.nn_say.proofs.listing.put_blocks.Goals as goal

pub loop-block-init : goal.loop-block-init
loop-block-init g c = streams_nothing c.args.speech.now.waiting.items _ refl

pub loop-block-preserved : goal.loop-block-preserved
loop-block-preserved g c =
    let none : Block = record { id = 0; stamp = 0; length = 0 } in
    let blocks = c.args.blocks.now in
    let i = c.loop-block.block-index in
    streams_then c.loop-block.invariant c.in_ok-put_block.ensures (piece_more block_line blocks i (i + 1) (get_or blocks i none) (take_more blocks i none c.loop-block-test.true))

pub returns-in_err-put_block : goal.returns-in_err-put_block
returns-in_err-put_block g c =
    let none : Block = record { id = 0; stamp = 0; length = 0 } in
    let blocks = c.args.blocks.now in
    let i = c.loop-block.block-index in
    let line = block_line (get_or blocks i none) in
    let so_far = flat_map block_line (take i blocks) in
    puts_failed c.args.speech.now.waiting.items (flat_map block_line blocks) c.put_block.new.self.waiting.items c.from_residual.result c.from_residual.ensures.0
    (puts_broken c.args.speech.now.waiting.items (so_far ++ line) (flat_map block_line (drop (i + 1) blocks)) (flat_map block_line blocks)
    (breaks_then line (so_far ++ line) c.loop-block.invariant c.in_err-put_block.ensures refl)
    (piece_within block_line blocks i (i + 1) (get_or blocks i none) (take_more blocks i none c.loop-block-test.true)))
