use Rattle.nn_message.specs.Messages.{IsInode}
use Rattle.nn_message.specs.Spelling.{delimited, inode}
use Rattle.nn_message.specs.Reading.{inside}
use Rattle.nn_message.specs.MessageReading.{inode_at}
use Rattle.nn_message.specs.Views.{IsInodeView}
use Rattle.nn_message.proofs.LoopLemmas.{loop_next, loop_smaller, loop_fail, loop_end}
use Rattle.nn_message.proofs.MessageLemmas.{Repeats-inside}
use Rattle.nn_message.proofs.NodeLemmas.{Spells-inode}
use Rattle.nn_message.proofs.reading.check.are_nodes.Goals as goal

pub nodes-preserved : goal.nodes-preserved
nodes-preserved c =
    loop_next IsInodeView (inside inode_at) (λ x. delimited (inode x)) IsInode (Repeats-inside inode_at inode IsInode Spells-inode) c.args.bytes.now c.nodes.rest.now c.next_inode.new.rest.now c.next_inode.result c.is_none.result c.is_empty.result
    c.is_none.ensures c.if-is_none.false c.is_empty.ensures c.nodes-test.true c.next_inode.ensures c.nodes.invariant

pub nodes-smaller : goal.nodes-smaller
nodes-smaller c =
    loop_smaller IsInodeView (inside inode_at) (λ x. delimited (inode x)) IsInode (Repeats-inside inode_at inode IsInode Spells-inode) c.nodes.rest.now c.next_inode.new.rest.now c.next_inode.result c.is_none.result c.is_none.ensures c.if-is_none.false c.next_inode.ensures

pub returns-then-is_none : goal.returns-then-is_none
returns-then-is_none c =
    loop_fail IsInodeView (inside inode_at) c.args.bytes.now c.nodes.rest.now c.next_inode.new.rest.now c.next_inode.result c.is_none.result c.is_empty.result
    c.is_none.ensures c.if-is_none.true c.is_empty.ensures c.nodes-test.true c.next_inode.ensures c.nodes.invariant

pub returns : goal.returns
returns c = loop_end (inside inode_at) c.args.bytes.now c.nodes.rest.now c.is_empty.result c.is_empty.ensures c.nodes-test.false c.nodes.invariant
