use Rattle.std.proofs.Common.{refl, sym, ◌∙◌}
use Rattle.nn_message.specs.Messages.{Inode}
use Rattle.nn_message.specs.MessageReading.{inode_at}
use Rattle.nn_message.proofs.reading.inode.read_inode.Goals as goal

pub returns : goal.returns
unfolding inode_at
returns c =
    let kind = c.in_ok-kind.ensures in
    let end = sym c.is_empty.ensures ∙ c.if-not-is_empty.false in
    let inode : Inode = record { id = c.in_ok-id.id; name = c.in_ok-name.name.now; attributes = kind.0.1; kind = kind.0.0 } in
    (inode, record { id = refl; name = refl; attributes = kind.1.1; kind = kind.1.0 }, rw (c.in_ok-number.ensures, c.in_ok-id.ensures, c.in_ok-name.ensures.some, kind.2, end) refl)
