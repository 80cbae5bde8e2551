use Rattle.std.proofs.Common.{◌<◌, rules}
use Rattle.nn_chain.specs.Folder.{folder_at}
use Rattle.nn_load.specs.Turns.{reached}
use Rattle.nn_load.proofs.HeldLemmas.{held_replayed, held_spent, held_of}
use Rattle.nn_load.proofs.TurnLemmas.{first_in_progress, waiting_turn, spent_turn}
use Rattle.nn_load.proofs.chain.replay_held.Goals as goal

pub returns-then-held-clause-ok : goal.returns-then-held-clause-ok
returns-then-held-clause-ok g c = λ reads listing of gap left.
    let place = c.args.place.now in
    let old = c.args.held in
    let new = c.in_ok-reach.held in
    let reach = c.in_ok-reach.reach in
    let folder = folder_at reads place.sub in
    let start = reached c.args.left (g.T.Tree.meaning c.args.tree.now) in
    let next = first_in_progress place.names.items c.args.left.in_progress old.first c.requires.stands.1 c.requires.stands.0 in
    let was = c.in_ok-reach.ensures.ok in
    let passed : new.last < new.next = search rules in
    record {
      turn = spent_turn reads place.sub place.version.layout place.names.items listing c.args.left left (g.T.Tree.meaning c.args.tree.now) (g.T.Tree.meaning c.replay.new.tree) 0 reach.last c.args.until old.first gap next reach.fit
          (held_replayed folder place.version.layout old new c.args.until start _ reach.fit of c.requires.stands.1 was) (held_spent folder place.version.layout old new c.args.until start _ reach.fit of c.requires.stands.1 was passed);
      held = tt;
    }

pub returns-clause-ok : goal.returns-clause-ok
returns-clause-ok g c = λ reads listing of gap left.
    let place = c.args.place.now in
    let old = c.args.held in
    let new = c.in_ok-reach.held in
    let reach = c.in_ok-reach.reach in
    let folder = folder_at reads place.sub in
    let start = reached c.args.left (g.T.Tree.meaning c.args.tree.now) in
    let next = first_in_progress place.names.items c.args.left.in_progress old.first c.requires.stands.1 c.requires.stands.0 in
    let was = c.in_ok-reach.ensures.ok in
    record {
      turn = waiting_turn reads place.sub place.version.layout place.names.items listing c.args.left left (g.T.Tree.meaning c.args.tree.now) (g.T.Tree.meaning c.replay.new.tree) 0 reach.last c.args.until old.first gap next reach.fit
          (held_replayed folder place.version.layout old new c.args.until start _ reach.fit of c.requires.stands.1 was);
      held = held_of folder place.version.layout old new c.args.until start _ reach.fit of c.requires.stands.1 was;
    }
