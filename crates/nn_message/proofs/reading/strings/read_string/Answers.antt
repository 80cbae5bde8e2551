use Rattle.std.proofs.Common.{refl, sym, ◌∙◌}
use Rattle.nn_message.specs.Messages.{Text}
use Rattle.nn_message.specs.MessageReading.{string_at}
use Rattle.nn_message.proofs.reading.strings.read_string.Goals as goal

pub returns : goal.returns
unfolding string_at
returns c =
    let text : Text = record { number = c.in_ok-number.number; text = c.in_ok-text.text.now } in
    let end = sym c.is_empty.ensures ∙ c.if-not-is_empty.false in
    (text, (refl, refl), rw (c.in_ok-number.ensures, c.in_ok-text.ensures.some, end) refl)
