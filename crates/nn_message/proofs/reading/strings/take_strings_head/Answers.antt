use Rattle.std.proofs.Common.{arith}
use Rattle.nn_message.specs.Messages.{IsVarintNumber}
use Rattle.nn_message.specs.Spelling.{delimited, strings}
use Rattle.nn_message.specs.Reading.{Anywhere, inside}
use Rattle.nn_message.specs.MessageReading.{strings_at}
use Rattle.nn_message.proofs.FieldLemmas.{Spells-inside}
use Rattle.nn_message.proofs.TakesLemmas.{takes_by_gives, delimited_some}
use Rattle.nn_message.proofs.MessageLemmas.{Spells-strings}
use Rattle.nn_message.proofs.reading.strings.take_strings_head.Goals as goal

pub returns : goal.returns
returns c =
    takes_by_gives (inside strings_at) (λ n. delimited (strings n)) IsVarintNumber (Spells-inside strings_at strings IsVarintNumber Anywhere tt Spells-strings) (λ n. delimited_some (strings n))
    c.next_strings.result c.args.rest.now.now c.next_strings.new.rest.now (omega arith) c.next_strings.ensures
