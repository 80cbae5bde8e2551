use Rattle.std.proofs.Common.{arith}
use Rattle.nn_message.specs.Messages.{IsDirEntry}
use Rattle.nn_message.specs.Spelling.{delimited, dir_entry}
use Rattle.nn_message.specs.Reading.{Anywhere, inside}
use Rattle.nn_message.specs.MessageReading.{dir_entry_at}
use Rattle.nn_message.specs.Views.{IsDirView}
use Rattle.nn_message.proofs.FieldLemmas.{Spells-inside}
use Rattle.nn_message.proofs.TakesLemmas.{takes_by_shows, delimited_some}
use Rattle.nn_message.proofs.SpelledContentLemmas.{Spells-dir_entry}
use Rattle.nn_message.proofs.reading.directory.take_dir_entry.Goals as goal

pub returns : goal.returns
returns c =
    takes_by_shows IsDirView (inside dir_entry_at) (λ d. delimited (dir_entry d)) IsDirEntry (Spells-inside dir_entry_at dir_entry IsDirEntry Anywhere tt Spells-dir_entry) (λ d. delimited_some (dir_entry d))
    c.next_dir_entry.result c.args.rest.now.now c.next_dir_entry.new.rest.now (omega arith) c.next_dir_entry.ensures
