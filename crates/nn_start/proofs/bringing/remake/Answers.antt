use Rattle.std.proofs.Common.{ap}
use Rattle.nn_base.specs.DirSets.{has}
use Rattle.nn_base.specs.declared.ids.DirNo.{DirNo}
use Rattle.nn_state.specs.Typed.{dir_in}
use Rattle.nn_start.proofs.BringLemmas.{cleared_kept, remade_kept, remade_brought, touched_then}
use Rattle.nn_start.proofs.bringing.remake.Goals as goal

pub returns-in-Err-clause-kept : goal.returns-in-Err-clause-kept
returns-in-Err-clause-kept g c = cleared_kept c.in-Err.ensures.any_moment

pub returns-in-Ok-make-clause-kept : goal.returns-in-Ok-make-clause-kept
returns-in-Ok-make-clause-kept g c = remade_kept c.in-Ok.ensures.any_moment c.in-Ok.fresh (ap (λ (i : DirNo). i.0) c.in-Ok.ensures.dir) c.in-Ok-make.ensures.any_moment

pub returns-in-Err-make-clause-kept : goal.returns-in-Err-make-clause-kept
returns-in-Err-make-clause-kept g c = remade_kept c.in-Ok.ensures.any_moment c.in-Ok.fresh (ap (λ (i : DirNo). i.0) c.in-Ok.ensures.dir) c.in-Err-make.ensures.any_moment

pub returns-in-Ok-make-clause-touched : goal.returns-in-Ok-make-clause-touched
returns-in-Ok-make-clause-touched g c = touched_then c.in-Ok.fresh.dir.0 (ap (λ (i : DirNo). i.0) c.in-Ok.ensures.dir) c.in-Ok.ensures.any_moment c.in-Ok-make.ensures.any_moment

pub returns-in-Ok-make-clause-brought : goal.returns-in-Ok-make-clause-brought
returns-in-Ok-make-clause-brought g c = λ tells. remade_brought (has c.args.aim.now.level (dir_in c.args.at).0) c.args.aim.now.saved (dir_in c.args.at).0 (g.H.Host.state c.args.host.now) (g.H.Host.state c.make.new.host) c.args.at (c.requires.fits tells) c.requires.lower c.in-Ok.fresh (ap (λ (i : DirNo). i.0) c.in-Ok.ensures.dir) (c.in-Ok-make.ensures.ok tells)
