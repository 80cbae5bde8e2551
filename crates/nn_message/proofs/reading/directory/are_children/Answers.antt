use Rattle.std.proofs.Common.{◌≡◌}
use Rattle.nn_base.specs.Limits.{IsLong}
use Rattle.nn_wire.specs.Varint.{varint}
use Rattle.nn_message.specs.MessageReading.{child_at, children_at}
use Rattle.nn_message.proofs.TakesLemmas.{Shows-Gives}
use Rattle.nn_message.proofs.LoopLemmas.{loop_next, loop_smaller, loop_fail, loop_end}
use Rattle.nn_message.proofs.MessageLemmas.{Repeats-child}
use Rattle.nn_message.proofs.reading.directory.are_children.Goals as goal

pub children-preserved : goal.children-preserved
children-preserved c =
    let shows = Shows-Gives c.next_child.result c.next_child.new.rest.now (child_at c.children.rest.now) c.next_child.ensures in
    loop_next (λ v n. v ≡ n) child_at varint IsLong Repeats-child c.args.bytes.now c.children.rest.now c.next_child.new.rest.now c.next_child.result c.is_none.result c.is_empty.result
    c.is_none.ensures c.if-is_none.false c.is_empty.ensures c.children-test.true shows c.children.invariant

pub children-smaller : goal.children-smaller
children-smaller c =
    let shows = Shows-Gives c.next_child.result c.next_child.new.rest.now (child_at c.children.rest.now) c.next_child.ensures in
    loop_smaller (λ v n. v ≡ n) child_at varint IsLong Repeats-child c.children.rest.now c.next_child.new.rest.now c.next_child.result c.is_none.result c.is_none.ensures c.if-is_none.false shows

pub returns-then-is_none : goal.returns-then-is_none
unfolding children_at
returns-then-is_none c =
    let shows = Shows-Gives c.next_child.result c.next_child.new.rest.now (child_at c.children.rest.now) c.next_child.ensures in
    loop_fail (λ v n. v ≡ n) child_at c.args.bytes.now c.children.rest.now c.next_child.new.rest.now c.next_child.result c.is_none.result c.is_empty.result
    c.is_none.ensures c.if-is_none.true c.is_empty.ensures c.children-test.true shows c.children.invariant

pub returns : goal.returns
unfolding children_at
returns c = loop_end child_at c.args.bytes.now c.children.rest.now c.is_empty.result c.is_empty.ensures c.children-test.false c.children.invariant
