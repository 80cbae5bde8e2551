use Rattle.std.proofs.Common.{refl}
use Rattle.nn_serve.proofs.TurnLemmas.{room_ids}
use Rattle.nn_serve.proofs.FillEndLemmas.{closed_lost, closed_told, closed_by}
use Rattle.nn_fill.specs.Tally.{count_line}
use Rattle.nn_serve.proofs.filling.finish.Goals as goal

pub returns-in-Ok-say_tally : goal.returns-in-Ok-say_tally
returns-in-Ok-say_tally g c = λ at files origin filling room.
    let core = c.args.core.now in
    closed_told at files core.count core.version (g.T.Tree.meaning core.tree) core.time core.journal c.args.tally origin (g.H.Host.state c.args.host.now) filling c.end.new.self.journal (g.H.Host.state c.end.new.host) (room_ids room)
    c.in-Ok.field-0 c.in-Ok.ensures.ended (g.H.Host.state c.say_tally.new.host) (count_line c.args.tally.commands c.args.tally.taken) refl c.in-Ok-say_tally.field-0 c.in-Ok-say_tally.ensures (λ tells. g.met.H.Host.lawful tells c.say_tally.new.host)

pub returns-in-Err-say_tally : goal.returns-in-Err-say_tally
returns-in-Err-say_tally g c = λ at files origin filling room.
    let core = c.args.core.now in
    closed_by at files core.count core.version (g.T.Tree.meaning core.tree) core.time core.journal c.args.tally origin (g.H.Host.state c.args.host.now) filling c.end.new.self.journal (g.H.Host.state c.end.new.host) (room_ids room)
    c.in-Ok.field-0 c.in-Ok.ensures.ended (g.H.Host.state c.say_tally.new.host) c.in-Err-say_tally.end c.in-Err-say_tally.ensures

pub returns-in-Err : goal.returns-in-Err
returns-in-Err g c = λ at files origin filling room.
    let core = c.args.core.now in
    closed_lost at files core.count core.version (g.T.Tree.meaning core.tree) core.time core.journal c.args.tally origin (g.H.Host.state c.args.host.now) filling c.end.new.self.journal (g.H.Host.state c.end.new.host) (room_ids room)
    c.in-Err.field-0 c.in-Err.ensures.ended
