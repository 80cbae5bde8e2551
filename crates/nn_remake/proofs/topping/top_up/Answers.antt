use Rattle.nn_state.specs.Typed.{dir_in}
use Rattle.nn_remake.proofs.ToppingLemmas.{topping_down, topping_published, topped, topped_up, topped_fits}
use Rattle.nn_remake.proofs.topping.top_up.Goals as goal

pub returns-in_err-cut_down-clause-any_moment : goal.returns-in_err-cut_down-clause-any_moment
returns-in_err-cut_down-clause-any_moment g c = topping_down c.args.saved c.args.version.now c.args.id (g.T.Tree.meaning c.args.tree.now) c.dir-dir.result (dir_in c.args.at) c.dir-dir.ensures
    c.in_ok-settled.ensures.any_moment c.in_ok-settled.ensures.ok c.in_err-cut_down.ensures.any_moment

pub returns-in_err-publish-clause-any_moment : goal.returns-in_err-publish-clause-any_moment
returns-in_err-publish-clause-any_moment g c = topping_published c.args.saved c.args.version.now c.args.id (g.T.Tree.meaning c.args.tree.now) c.dir-dir.result (dir_in c.args.at) c.dir-dir.ensures
    c.in_ok-settled.ensures.any_moment c.in_ok-settled.ensures.ok c.in_ok-cut_down.ensures.any_moment c.in_ok-cut_down.ensures.ok c.in_err-publish.ensures.any_moment

pub returns-clause-any_moment : goal.returns-clause-any_moment
returns-clause-any_moment g c = topping_published c.args.saved c.args.version.now c.args.id (g.T.Tree.meaning c.args.tree.now) c.dir-dir.result (dir_in c.args.at) c.dir-dir.ensures
    c.in_ok-settled.ensures.any_moment c.in_ok-settled.ensures.ok c.in_ok-cut_down.ensures.any_moment c.in_ok-cut_down.ensures.ok c.in_ok-publish.ensures.any_moment

pub returns-clause-ok : goal.returns-clause-ok
returns-clause-ok g c = λ tells only. topped c.args.version.now c.args.id (g.T.Tree.meaning c.args.tree.now) c.dir-dir.result (dir_in c.args.at) c.dir-dir.ensures (g.met.H.Host.lawful tells c.args.host.now) (c.requires.normal tells) (c.in_ok-settled.ensures.ok tells) (c.in_ok-cut_down.ensures.ok tells)
    (c.in_ok-publish.ensures.ok tells) (c.in_ok-publish.ensures.intact tells) only

pub returns-clause-fits : goal.returns-clause-fits
returns-clause-fits g c = λ tells. topped_fits (g.H.Host.state c.publish.new.host) c.args.id c.dir-dir.result (dir_in c.args.at) c.dir-dir.ensures c.in_ok-settled.settled (c.in_ok-settled.ensures.normal tells) (c.in_ok-settled.ensures.fits tells)
    (c.in_ok-cut_down.ensures.ok tells) (c.in_ok-publish.ensures.any_moment.ends tells)

pub returns-clause-topped : goal.returns-clause-topped
returns-clause-topped g c = λ tells. topped_up c.args.saved c.args.version.now c.args.id (g.T.Tree.meaning c.args.tree.now) c.dir-dir.result (dir_in c.args.at) c.dir-dir.ensures (g.met.H.Host.lawful tells c.args.host.now) (c.requires.normal tells) (c.in_ok-settled.ensures.ok tells)
    (c.in_ok-cut_down.ensures.ok tells) (c.in_ok-publish.ensures.ok tells)
