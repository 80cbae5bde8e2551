use Rattle.std.proofs.Common.{refl}
use Rattle.nn_message.specs.MessageReading.{access_at}
use Rattle.nn_message.proofs.reading.file.take_access.Goals as goal

pub returns : goal.returns
unfolding access_at
returns c =
    ((c.in_ok-owner.owner, (c.in_ok-group.group, c.in_ok-mode.mode)), (refl, refl, refl), rw (c.in_ok-owner.ensures, c.in_ok-group.ensures, c.in_ok-mode.ensures) refl)
