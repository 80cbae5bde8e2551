use Rattle.std.proofs.Common.{[], ◌∷◌, sym, ap}
use Rattle.nn_base.specs.Paths.{joined, text_of}
use Rattle.nn_script.specs.Spelling.{escaped}
use Rattle.nn_say.proofs.SayingLemmas.{puts_as}
use Rattle.nn_say.proofs.ListingLemmas.{text_below}
use Rattle.nn_say.proofs.listing.put_path.Goals as goal

pub returns-in-None : goal.returns-in-None
returns-in-None g c =
    puts_as g.H.Host.told (g.H.Host.state c.args.host.now) (g.H.Host.state c.put_bytes.new.host) c.args.speech.now.waiting.items (47 ∷ []) (escaped (text_of (g.T.Tree.place c.args.tree.now c.args.at)))
    c.put_bytes.new.self.waiting.items c.put_bytes.result (sym (ap (λ p. escaped (text_of p)) c.in-None.ensures)) c.put_bytes.ensures

pub returns-in-Some : goal.returns-in-Some
returns-in-Some g c =
    let at = g.T.Tree.place c.args.tree.now c.args.at in
    puts_as g.H.Host.told (g.H.Host.state c.args.host.now) (g.H.Host.state c.put_names.new.host) c.args.speech.now.waiting.items (escaped (joined at)) (escaped (text_of at))
    c.put_names.new.speech.waiting.items c.put_names.result (sym (ap escaped (text_below at _ c.in-Some.ensures.1.0 c.in-Some.ensures.1.1))) c.put_names.ensures
