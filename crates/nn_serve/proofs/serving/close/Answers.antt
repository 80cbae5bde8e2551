use Rattle.std.proofs.Common.{inl, inr, refl}
use Rattle.nn_serve.proofs.EndLemmas.{out_ended, out_none_left}
use Rattle.nn_serve.proofs.TurnLemmas.{room_ids}
use Rattle.nn_serve.proofs.serving.close.Goals as goal

pub returns-in-Ok : goal.returns-in-Ok
returns-in-Ok g c = (
  inl refl,
  λ at seen old more serving room.
      let core = c.args.core.now in
      out_ended at core.count core.version (g.T.Tree.meaning core.tree) core.time core.journal seen old (g.H.Host.state c.args.host.now) serving c.end.new.self.journal (g.H.Host.state c.end.new.host) (room_ids room) c.in-Ok.field-0 c.in-Ok.ensures.ended (λ tells. g.met.H.Host.lawful tells c.end.new.host),
)

pub returns-in-Err : goal.returns-in-Err
returns-in-Err g c = (
  inr refl,
  λ at seen old more serving room.
      let core = c.args.core.now in
      out_none_left at core.count core.version (g.T.Tree.meaning core.tree) core.time core.journal seen old (g.H.Host.state c.args.host.now) serving c.end.new.self.journal (g.H.Host.state c.end.new.host) (room_ids room) c.in-Err.field-0 c.in-Err.ensures.ended,
)
