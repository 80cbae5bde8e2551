use Rattle.nn_pick.specs.declared.intent.Intent.TheVariants.{Start}
use Rattle.nn_start.proofs.ReopenLemmas.{then_recovered, seats_kept, all_fit, all_settled_fit}
use Rattle.nn_base.specs.DirSets.{has}
use Rattle.nn_start.proofs.SavedLemmas.{saved_tells}
use Rattle.nn_start.proofs.opening.reopen.Goals as goal

pub recover-requires-clause-fits : goal.recover-requires-clause-fits
recover-requires-clause-fits g c = λ tells. all_fit c.in_ok-picked.ensures.kept tells (g.met.H.Host.lawful tells c.pick.new.host) c.in_ok-picked.picked.found.items (c.in_ok-picked.ensures.ok tells).states

pub returns-in_err-bay-clause-any_moment : goal.returns-in_err-bay-clause-any_moment
returns-in_err-bay-clause-any_moment g c = then_recovered c.in_ok-picked.ensures.kept c.in_err-bay.ensures.any_moment

pub returns-clause-fits : goal.returns-clause-fits
returns-clause-fits g c = λ tells. all_settled_fit c.in_ok-picked.ensures.kept tells (g.met.H.Host.lawful tells c.pick.new.host) (g.H.Host.state c.recover.new.host) Start (c.in_ok-picked.ensures.ok tells).choice.unrefused c.in_ok-bay.bay.at.items c.in_ok-bay.ensures.settled (c.in_ok-bay.ensures.fits tells)

pub returns-clause-any_moment : goal.returns-clause-any_moment
returns-clause-any_moment g c = then_recovered c.in_ok-picked.ensures.kept c.in_ok-bay.ensures.any_moment

pub returns-clause-seats : goal.returns-clause-seats
returns-clause-seats g c = seats_kept c.in_ok-picked.ensures.kept c.in_ok-bay.ensures.any_moment

pub returns-clause-saved : goal.returns-clause-saved
returns-clause-saved g c = λ tells.
    let lawful = g.met.H.Host.lawful tells c.pick.new.host in
    let chose = (c.in_ok-picked.ensures.ok tells).choice in
    saved_tells c.in_ok-picked.ensures.kept tells lawful Start chose.unrefused (has c.in_ok-picked.picked.chosen) chose.greatest c.in_ok-bay.bay.at.items c.in_ok-bay.ensures.settled
    (all_settled_fit c.in_ok-picked.ensures.kept tells lawful (g.H.Host.state c.recover.new.host) Start chose.unrefused c.in_ok-bay.bay.at.items c.in_ok-bay.ensures.settled (c.in_ok-bay.ensures.fits tells))
    (c.in_ok-bay.ensures.ok tells) (λ j below. (c.in_ok-bay.ensures.any_moment.ends tells).at j below)
    c.some_saved-saved.result c.some_saved-saved.ensures.some c.some_saved-saved.ensures.none
