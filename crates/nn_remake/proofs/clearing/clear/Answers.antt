use Rattle.std.proofs.Common.{subst, sym}
use Rattle.nn_base.specs.declared.ids.DirNo.{DirNo}
use Rattle.nn_host.specs.Moments.{disk_at}
use Rattle.nn_state.specs.Typed.{dir_in}
use Rattle.nn_remake.specs.Clearing.{IsIdle}
use Rattle.nn_remake.proofs.ClearingCallLemmas.{settled_rest}
use Rattle.nn_remake.proofs.ClearingLemmas.{rest_idle}
use Rattle.nn_remake.proofs.clearing.clear.Goals as goal

pub clear_dir-requires-clause-idle : goal.clear_dir-requires-clause-idle
clear_dir-requires-clause-idle g c = λ tells. subst (λ (i : DirNo). IsIdle (disk_at (g.H.Host.state c.args.host.now) i.0)) (sym c.dir-dir.ensures) (rest_idle (disk_at (g.H.Host.state c.args.host.now) (dir_in c.args.at).0) (settled_rest c.args.at (disk_at (g.H.Host.state c.args.host.now) (dir_in c.args.at).0) (c.requires.fits tells)))
