use Rattle.std.proofs.Common.{◌≡◌, false, rules}
use Rattle.nn_segment.specs.Segment.{has_header}
use Rattle.nn_load.proofs.HeldLemmas.{headed}
use Rattle.nn_load.proofs.held.Held.records.Goals as goal

pub returns-in-None : goal.returns-in-None
returns-in-None c =
    let held = c.args.self.now in
    let ends = c.requires.ends in
    let seen = headed held.bytes.items held.layout held.first ends.run held.last ends.last_is ends.intact in
    let unseen : has_header held.bytes.items held.layout ≡ false = search rules in
    cc
