use Rattle.std.proofs.Common.{◌∙◌, sym, ap, subst}
use Rattle.nn_base.specs.Paths.{Bytes}
use Rattle.nn_say.specs.Listed.{listing_of}
use Rattle.nn_say.specs.Saying.{Says}
use Rattle.nn_say.proofs.ListingLemmas.{listed, missing, through_file}
use Rattle.nn_say.proofs.answering.say_list.Goals as goal

pub returns-in-Found : goal.returns-in-Found
returns-in-Found g c =
    let m = (g.T.Tree.meaning c.args.tree.now).nodes in
    let found = c.in-Found.ensures.walk in
    subst (λ (text : Bytes). Says g.H.Host.told (g.H.Host.state c.args.host.now) (g.H.Host.state c.say_listing.new.host) text c.say_listing.result)
    (ap (listing_of m) found.1 ∙ sym (listed m c.args.path.now found.3 found.2)) c.say_listing.ensures

pub returns-in-Missing : goal.returns-in-Missing
returns-in-Missing g c =
    let m = (g.T.Tree.meaning c.args.tree.now).nodes in
    let walk = c.in-Missing.ensures.walk in
    subst (λ (text : Bytes). Says g.H.Host.told (g.H.Host.state c.args.host.now) (g.H.Host.state c.say.new.host) text c.say.result) (sym (missing m c.args.path.now walk.0 walk.1)) c.say.ensures

pub returns-in-ThroughFile : goal.returns-in-ThroughFile
returns-in-ThroughFile g c =
    let m = (g.T.Tree.meaning c.args.tree.now).nodes in
    subst (λ (text : Bytes). Says g.H.Host.told (g.H.Host.state c.args.host.now) (g.H.Host.state c.say-in-ThroughFile.new.host) text c.say-in-ThroughFile.result) (sym (through_file m c.args.path.now c.in-ThroughFile.ensures.walk)) c.say-in-ThroughFile.ensures
