use Rattle.nn_state.proofs.RenamingLemmas.{first_put, second_put, both_put}
use Rattle.nn_state.proofs.renaming.put_under.Goals as goal

pub returns-in_err-remove_sub-clause-any_moment : goal.returns-in_err-remove_sub-clause-any_moment
returns-in_err-remove_sub-clause-any_moment g c = first_put c.args.from c.in_err-remove_sub.ensures

pub returns-clause-any_moment : goal.returns-clause-any_moment
returns-clause-any_moment g c = second_put c.requires.apart c.requires.there c.in_ok-remove_sub.ensures c.rename_sub.ensures

pub returns-clause-ok : goal.returns-clause-ok
returns-clause-ok g c = both_put c.requires.apart c.requires.there c.in_ok-remove_sub.ensures (λ tells. g.met.H.Host.lawful tells c.args.host.now) c.rename_sub.ensures
