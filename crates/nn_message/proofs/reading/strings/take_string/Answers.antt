use Rattle.std.proofs.Common.{arith}
use Rattle.nn_message.specs.Messages.{IsText}
use Rattle.nn_message.specs.Spelling.{delimited, string}
use Rattle.nn_message.specs.Reading.{Anywhere, inside}
use Rattle.nn_message.specs.MessageReading.{string_at}
use Rattle.nn_message.specs.Views.{IsTextView}
use Rattle.nn_message.proofs.FieldLemmas.{Spells-inside}
use Rattle.nn_message.proofs.TakesLemmas.{takes_by_shows, delimited_some}
use Rattle.nn_message.proofs.MessageLemmas.{Spells-string}
use Rattle.nn_message.proofs.reading.strings.take_string.Goals as goal

pub returns : goal.returns
returns c =
    takes_by_shows IsTextView (inside string_at) (λ t. delimited (string t)) IsText (Spells-inside string_at string IsText Anywhere tt Spells-string) (λ t. delimited_some (string t))
    c.next_string.result c.args.rest.now.now c.next_string.new.rest.now (omega arith) c.next_string.ensures
