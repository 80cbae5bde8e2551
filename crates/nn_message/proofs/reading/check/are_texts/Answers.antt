use Rattle.nn_message.specs.Messages.{IsText}
use Rattle.nn_message.specs.Spelling.{delimited, string}
use Rattle.nn_message.specs.Reading.{inside}
use Rattle.nn_message.specs.MessageReading.{string_at}
use Rattle.nn_message.specs.Views.{IsTextView}
use Rattle.nn_message.proofs.LoopLemmas.{loop_next, loop_smaller, loop_fail, loop_end}
use Rattle.nn_message.proofs.MessageLemmas.{Repeats-inside, Spells-string}
use Rattle.nn_message.proofs.reading.check.are_texts.Goals as goal

pub texts-preserved : goal.texts-preserved
texts-preserved c =
    loop_next IsTextView (inside string_at) (λ x. delimited (string x)) IsText (Repeats-inside string_at string IsText Spells-string) c.args.bytes.now c.texts.rest.now c.next_string.new.rest.now c.next_string.result c.is_none.result c.is_empty.result
    c.is_none.ensures c.if-is_none.false c.is_empty.ensures c.texts-test.true c.next_string.ensures c.texts.invariant

pub texts-smaller : goal.texts-smaller
texts-smaller c =
    loop_smaller IsTextView (inside string_at) (λ x. delimited (string x)) IsText (Repeats-inside string_at string IsText Spells-string) c.texts.rest.now c.next_string.new.rest.now c.next_string.result c.is_none.result c.is_none.ensures c.if-is_none.false c.next_string.ensures

pub returns-then-is_none : goal.returns-then-is_none
returns-then-is_none c =
    loop_fail IsTextView (inside string_at) c.args.bytes.now c.texts.rest.now c.next_string.new.rest.now c.next_string.result c.is_none.result c.is_empty.result
    c.is_none.ensures c.if-is_none.true c.is_empty.ensures c.texts-test.true c.next_string.ensures c.texts.invariant

pub returns : goal.returns
returns c = loop_end (inside string_at) c.args.bytes.now c.texts.rest.now c.is_empty.result c.is_empty.ensures c.texts-test.false c.texts.invariant
