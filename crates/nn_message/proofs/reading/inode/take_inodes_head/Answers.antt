use Rattle.std.proofs.Common.{arith}
use Rattle.nn_message.specs.Spelling.{delimited, inodes}
use Rattle.nn_message.specs.Reading.{Anywhere, inside}
use Rattle.nn_message.specs.MessageReading.{inodes_at}
use Rattle.nn_message.specs.Views.{AreInodes}
use Rattle.nn_message.proofs.FieldLemmas.{Spells-inside}
use Rattle.nn_message.proofs.TakesLemmas.{takes_by_gives, delimited_some}
use Rattle.nn_message.proofs.MessageLemmas.{Spells-inodes}
use Rattle.nn_message.proofs.reading.inode.take_inodes_head.Goals as goal

pub returns : goal.returns
returns c =
    takes_by_gives (inside inodes_at) (λ x. delimited (inodes x.0 x.1)) AreInodes (Spells-inside inodes_at (λ x. inodes x.0 x.1) AreInodes Anywhere tt Spells-inodes) (λ x. delimited_some (inodes x.0 x.1))
    c.next_inodes.result c.args.rest.now.now c.next_inodes.new.rest.now (omega arith) c.next_inodes.ensures
