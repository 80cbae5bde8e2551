use Rattle.std.proofs.Common.{◌≡◌, not, refl, ap, ◌∙◌}
use Rattle.nn_message.specs.Reading.{inside, is_some_byte, many}
use Rattle.nn_message.specs.MessageReading.{strings_at, string_at, strings_section_at}
use Rattle.nn_message.proofs.TakesLemmas.{Shows-Gives}
use Rattle.nn_message.proofs.LoopLemmas.{none_shown, some_shown, whole_then}
use Rattle.nn_message.proofs.reading.check.are_strings.Goals as goal

pub returns-then-is_none : goal.returns-then-is_none
unfolding strings_section_at
returns-then-is_none c =
    let bytes = c.args.section.now in
    let read = inside strings_at bytes in
    let shows = Shows-Gives c.next_strings.result c.next_strings.new.rest.now read c.next_strings.ensures in
    rw (none_shown (λ v x. v ≡ x) c.next_strings.result c.next_strings.new.rest.now read (c.is_none.ensures ∙ ap not c.if-is_none.true) shows) refl

pub returns : goal.returns
unfolding strings_section_at
returns c =
    let bytes = c.args.section.now in
    let rest = c.next_strings.new.rest.now in
    let read = inside strings_at bytes in
    let shows = Shows-Gives c.next_strings.result rest read c.next_strings.ensures in
    let first = some_shown (λ v x. v ≡ x) c.next_strings.result rest read (c.is_none.ensures ∙ ap not c.if-is_none.false) shows in
    c.are_texts.ensures ∙ whole_then (inside strings_at) (many is_some_byte (inside string_at)) bytes rest first.0 first.1
