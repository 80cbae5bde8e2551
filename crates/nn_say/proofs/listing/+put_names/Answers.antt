use Rattle.std.proofs.Common.{◌∷◌, refl, ap}
use Rattle.nn_base.specs.Paths.{joined}
use Rattle.nn_tree.specs.Spots.{last_name}
use Rattle.nn_script.specs.Spelling.{escaped}
use Rattle.nn_say.proofs.SayingLemmas.{streams_nothing, puts_then, puts_broken, puts_failed}
use Rattle.nn_say.proofs.ListingLemmas.{names_more, name_fits}
use Rattle.nn_say.proofs.listing.+put_names.Goals as goal

pub returns-in-None : goal.returns-in-None
returns-in-None g n c = streams_nothing c.args.speech.now.waiting.items _ (ap (λ p. escaped (joined p)) c.in-None.ensures)

pub returns-in_err-put_names-in-Some : goal.returns-in_err-put_names-in-Some
returns-in_err-put_names-in-Some g n c =
    let at = g.T.Tree.place c.args.tree.now c.args.at in
    let above = g.T.Tree.place c.args.tree.now c.in-Some.parent in
    let name = c.in-Some.ensures.1 in
    puts_failed c.args.speech.now.waiting.items (escaped (joined at)) c.put_names.new.speech.waiting.items c.from_residual.result c.from_residual.ensures.0
    (puts_broken c.args.speech.now.waiting.items (escaped (joined above)) (47 ∷ escaped (last_name at)) (escaped (joined at)) c.in_err-put_names-in-Some.ensures
    (names_more at above name.0 (last_name at) name.1 refl))

pub put_name-requires : goal.put_name-requires
put_name-requires g n c =
    let above = g.T.Tree.place c.args.tree.now c.in-Some.parent in
    name_fits c.args.at above c.in-Some.ensures.1.0 c.name.result.now c.requires.sound c.requires.there c.in-Some.ensures.1.1 c.name.ensures

pub returns-in_ok-put_names-in-Some : goal.returns-in_ok-put_names-in-Some
returns-in_ok-put_names-in-Some g n c =
    let at = g.T.Tree.place c.args.tree.now c.args.at in
    let above = g.T.Tree.place c.args.tree.now c.in-Some.parent in
    puts_then (g.H.Host.state c.put_name.new.host) (47 ∷ escaped c.name.result.now) c.put_name.new.self.waiting.items c.put_name.result c.in_ok-put_names-in-Some.ensures c.put_name.ensures
    (names_more at above c.in-Some.ensures.1.0 c.name.result.now c.in-Some.ensures.1.1 c.name.ensures)
