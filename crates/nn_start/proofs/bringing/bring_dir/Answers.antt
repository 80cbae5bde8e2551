use Rattle.std.proofs.Common.{sym, ◌∙◌, ap}
use Rattle.nn_base.specs.declared.ids.DirNo.{DirNo}
use Rattle.nn_base.specs.DirSets.{has}
use Rattle.nn_state.specs.Typed.{dir_in}
use Rattle.nn_host.specs.Moments.{disk_at}
use Rattle.nn_start.proofs.BringLemmas.{serves_normal, topped_kept, topped_brought}
use Rattle.nn_start.proofs.bringing.bring_dir.Goals as goal

pub returns-then-has-clause-kept : goal.returns-then-has-clause-kept
returns-then-has-clause-kept g c = topped_kept (has c.args.aim.now.level (dir_in c.args.at).0) c.args.aim.now.saved c.args.aim.now.version c.args.aim.now.last (g.T.Tree.meaning c.args.aim.now.tree) (dir_in c.args.at).0 (g.H.Host.state c.args.host.now) (g.H.Host.state c.top_up.new.host) (ap (λ (d : DirNo). has c.args.aim.now.level d.0) (sym c.dir.ensures) ∙ sym c.has.ensures ∙ c.if-has.true)
    (λ tells. serves_normal c.args.at (disk_at (g.H.Host.state c.args.host.now) (dir_in c.args.at).0) (sym c.serves.ensures ∙ c.if-serves.true) (c.requires.fits tells)) c.top_up.ensures.any_moment

pub returns-then-has-clause-brought : goal.returns-then-has-clause-brought
returns-then-has-clause-brought g c = λ tells. topped_brought (has c.args.aim.now.level (dir_in c.args.at).0) c.args.aim.now.saved c.args.aim.now.version c.args.aim.now.last (g.T.Tree.meaning c.args.aim.now.tree) (dir_in c.args.at).0 (g.H.Host.state c.args.host.now) (g.H.Host.state c.top_up.new.host) (ap (λ (d : DirNo). has c.args.aim.now.level d.0) (sym c.dir.ensures) ∙ sym c.has.ensures ∙ c.if-has.true)
    c.top_up.result (serves_normal c.args.at (disk_at (g.H.Host.state c.args.host.now) (dir_in c.args.at).0) (sym c.serves.ensures ∙ c.if-serves.true) (c.requires.fits tells)) (c.top_up.ensures.topped tells) (c.top_up.ensures.fits tells)
