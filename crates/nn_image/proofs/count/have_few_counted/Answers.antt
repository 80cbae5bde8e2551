use Rattle.std.proofs.Common.{length, refl, ap, arith}
use Rattle.nn_message.specs.Messages.{IsInode}
use Rattle.nn_message.specs.Spelling.{delimited, inode}
use Rattle.nn_message.specs.Views.{IsInodeView}
use Rattle.nn_image.specs.Building.{blocks_among}
use Rattle.nn_image.proofs.CountLemmas.{next_blocks}
use Rattle.nn_image.proofs.TakingLemmas.{nothing_taken}
use Rattle.nn_image.proofs.count.have_few_counted.Goals as goal

pub nodes-init : goal.nodes-init
nodes-init c = λ all ranges spelled. (all, ranges, spelled, omega arith)

pub nodes-preserved : goal.nodes-preserved
nodes-preserved c = λ all ranges spelled.
    let was = c.nodes.invariant all ranges spelled in
    let next = next_blocks was.0 c.take_inode.result c.in-Some.view c.blocks_of-blocks.result c.nodes.rest.now c.take_inode.new.rest.now was.1 was.2 c.in-Some.ensures.shorter c.in-Some.is c.take_inode.ensures c.blocks_of-blocks.ensures in
    let all = was.3 in
    let sum = next.3 in
    (next.0, next.1, next.2, omega (arith, all, sum))

pub returns-then-blocks-room : goal.returns-then-blocks-room
returns-then-blocks-room c = λ all ranges spelled.
    let was = c.nodes.invariant all ranges spelled in
    let next = next_blocks was.0 c.take_inode.result c.in-Some.view c.blocks_of-blocks.result c.nodes.rest.now c.take_inode.new.rest.now was.1 was.2 c.in-Some.ensures.shorter c.in-Some.is c.take_inode.ensures c.blocks_of-blocks.ensures in
    let all = was.3 in
    let sum = next.3 in
    (λ true. absurd cc, λ few. absurd (omega (arith, all, sum, few)))

pub returns : goal.returns
returns c = λ all ranges spelled.
    let was = c.nodes.invariant all ranges spelled in
    let none = nothing_taken IsInodeView IsInode (λ i. delimited (inode i)) was.0 c.take_inode.result c.nodes.rest.now c.take_inode.new.rest.now was.1 was.2 c.in_default.is c.take_inode.ensures in
    let all = was.3 in
    let are = ap (λ is. length (blocks_among is)) none in
    (λ _. omega (arith, all, are), λ _. refl)
