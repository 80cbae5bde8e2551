use Rattle.std.proofs.Common.{arith}
use Rattle.nn_message.specs.Messages.{IsInode}
use Rattle.nn_message.specs.Spelling.{delimited, inode}
use Rattle.nn_message.specs.Reading.{Anywhere, inside}
use Rattle.nn_message.specs.MessageReading.{inode_at}
use Rattle.nn_message.specs.Views.{IsInodeView}
use Rattle.nn_message.proofs.FieldLemmas.{Spells-inside}
use Rattle.nn_message.proofs.TakesLemmas.{takes_by_shows, delimited_some}
use Rattle.nn_message.proofs.NodeLemmas.{Spells-inode}
use Rattle.nn_message.proofs.reading.inode.take_inode.Goals as goal

pub returns : goal.returns
returns c =
    takes_by_shows IsInodeView (inside inode_at) (λ i. delimited (inode i)) IsInode (Spells-inside inode_at inode IsInode Anywhere tt Spells-inode) (λ i. delimited_some (inode i))
    c.next_inode.result c.args.rest.now.now c.next_inode.new.rest.now (omega arith) c.next_inode.ensures
