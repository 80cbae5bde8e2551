use Rattle.tests_state.proofs.FoundLemmas.{one_found, one_fits}
use Rattle.std.proofs.Common.{◌∙◌, ap, List, ◌∷◌, ◌++◌, []}
use Rattle.nn_state.specs.declared.typed.Found.{Found}
use Rattle.tests_state.proofs.recovering.recover_one.Goals as goal

pub recover_all-requires-clause-found : goal.recover_all-requires-clause-found
recover_all-requires-clause-found g c = one_found (g.H.Host.state c.args.host.now).count c.push.new.self.items c.args.it c.requires.one (c.in-Ok-push.ensures.items ∙ ap (λ (xs : List Found). xs ++ c.args.it ∷ []) c.in-Ok.ensures.items) c.requires.there c.requires.dir

pub recover_all-requires-clause-fits : goal.recover_all-requires-clause-fits
recover_all-requires-clause-fits g c = λ tells. one_fits (g.H.Host.state c.args.host.now) c.push.new.self.items c.args.it (c.in-Ok-push.ensures.items ∙ ap (λ (xs : List Found). xs ++ c.args.it ∷ []) c.in-Ok.ensures.items) (c.requires.fits tells)
