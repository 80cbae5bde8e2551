use Rattle.nn_host.specs.Moments.{disk_at}
use Rattle.nn_host.proofs.WorkLemmas.{still_once}
use Rattle.nn_state.specs.Typed.{state_of, dir_of}
use Rattle.nn_restore.proofs.EmptyLemmas.{keeps_at, recovered_at, recovered_idle, recovering, then_looked, looked_recovered, then_cleared}
use Rattle.nn_restore.proofs.emptying.empty.Goals as goal

pub returns-in-Err-clause-any_moment : goal.returns-in-Err-clause-any_moment
returns-in-Err-clause-any_moment g c = recovering (keeps_at c.args.i (dir_of c.args.it) c.requires.dir c.in-Err.ensures.any_moment)

pub returns-in_err-has_previous-clause-any_moment : goal.returns-in_err-has_previous-clause-any_moment
returns-in_err-has_previous-clause-any_moment g c = then_looked (keeps_at c.args.i (dir_of c.args.it) c.requires.dir c.in-Ok.ensures.any_moment) (still_once c.in_err-has_previous.ensures.call)

pub clear_dir-requires-clause-idle : goal.clear_dir-requires-clause-idle
clear_dir-requires-clause-idle g c = λ tells. recovered_idle (disk_at (g.H.Host.state c.args.host.now) c.args.i.0) (disk_at (g.H.Host.state c.has_sub.new.self) c.args.i.0) (state_of c.args.it) (c.requires.fits tells) c.requires.there
    (looked_recovered (keeps_at c.args.i (dir_of c.args.it) c.requires.dir c.in-Ok.ensures.any_moment) (still_once c.in_ok-has_previous.ensures.call) (λ t. recovered_at c.args.i (dir_of c.args.it) c.requires.dir (c.in-Ok.ensures.ok t)) tells)

pub returns-in_err-clear_dir-clause-any_moment : goal.returns-in_err-clear_dir-clause-any_moment
returns-in_err-clear_dir-clause-any_moment g c = then_cleared (keeps_at c.args.i (dir_of c.args.it) c.requires.dir c.in-Ok.ensures.any_moment) (still_once c.in_ok-has_previous.ensures.call) (λ t. recovered_at c.args.i (dir_of c.args.it) c.requires.dir (c.in-Ok.ensures.ok t)) c.in_err-clear_dir.ensures.any_moment

pub returns-clause-any_moment : goal.returns-clause-any_moment
returns-clause-any_moment g c = then_cleared (keeps_at c.args.i (dir_of c.args.it) c.requires.dir c.in-Ok.ensures.any_moment) (still_once c.in_ok-has_previous.ensures.call) (λ t. recovered_at c.args.i (dir_of c.args.it) c.requires.dir (c.in-Ok.ensures.ok t)) c.in_ok-clear_dir.ensures.any_moment
