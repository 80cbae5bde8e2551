use Rattle.std.proofs.Common.{◌+◌, ◌<◌, sym, subst, rules}
use Rattle.nn_chain.specs.Folder.{folder_at}
use Rattle.nn_load.specs.declared.chain.Left.{Left}
use Rattle.nn_load.specs.declared.chain.Waiting.{Waiting}
use Rattle.nn_load.specs.Queue.{AreLeft}
use Rattle.nn_load.specs.Turns.{IsPlayed}
use Rattle.nn_load.proofs.QueueLemmas.{in_progress_passed}
use Rattle.nn_load.proofs.TurnLemmas.{empty_turn, late_turn}
use Rattle.nn_load.proofs.chain.replay_in_progress.Goals as goal

pub returns-in_default-next_in_progress-clause-ok : goal.returns-in_default-next_in_progress-clause-ok
returns-in_default-next_in_progress-clause-ok g c = λ tells.
    let place = c.args.place.now in
    let reads = (g.H.Host.state c.args.host.now).reads place.dir.0 in
    let ns = g.T.Tree.meaning c.args.tree.now in
    subst (λ (w : Waiting). IsPlayed (folder_at reads place.sub) place.version.layout place.names.items c.args.at.left w ns ns) (sym c.ended.ensures) (record {
      turn = empty_turn reads place.sub place.version.layout place.names.items (c.requires.listed tells) c.args.at.left (c.requires.left tells).queues ns c.args.until c.requires.room (c.requires.gap tells) c.in_default-next_in_progress.ensures.none;
      held = tt;
    })

pub returns-then-next_id-first-clause-ok : goal.returns-then-next_id-first-clause-ok
returns-then-next_id-first-clause-ok g c = λ tells.
    let place = c.args.place.now in
    let reads = (g.H.Host.state c.args.host.now).reads place.dir.0 in
    let ns = g.T.Tree.meaning c.args.tree.now in
    let late : c.args.at.left.last + 1 < c.in-Some-next_in_progress.first = search rules in
    subst (λ (w : Waiting). IsPlayed (folder_at reads place.sub) place.version.layout place.names.items c.args.at.left w ns ns) (sym c.ended-then-next_id-first.ensures) (record {
      turn = late_turn reads place.sub place.version.layout place.names.items (c.requires.listed tells) c.args.at.left (c.requires.left tells).queues ns c.args.until c.requires.room (c.requires.gap tells) c.in-Some-next_in_progress.k c.in-Some-next_in_progress.first c.in-Some-next_in_progress.ensures.some late;
      held = tt;
    })

pub replay_last-requires-clause-left : goal.replay_last-requires-clause-left
replay_last-requires-clause-left g c = λ tells.
    let place = c.args.place.now in
    let folder = folder_at ((g.H.Host.state c.args.host.now).reads place.dir.0) place.sub in
    let old = c.args.at.left in
    subst (λ (l : Left). AreLeft folder place.version.layout place.names.items l.finalized l.in_progress l.last) (sym c.standing_at-left.ensures)
    (in_progress_passed folder place.version.layout place.names.items old.finalized old.in_progress old.last (c.requires.left tells).queues c.in-Some-next_in_progress.k c.in-Some-next_in_progress.ensures.some.before)

pub replay_part-requires-clause-left : goal.replay_part-requires-clause-left
replay_part-requires-clause-left g c = λ tells.
    let place = c.args.place.now in
    let folder = folder_at ((g.H.Host.state c.args.host.now).reads place.dir.0) place.sub in
    let old = c.args.at.left in
    subst (λ (l : Left). AreLeft folder place.version.layout place.names.items l.finalized l.in_progress l.last) (sym c.standing_at-left.ensures)
    (in_progress_passed folder place.version.layout place.names.items old.finalized old.in_progress old.last (c.requires.left tells).queues c.in-Some-next_in_progress.k c.in-Some-next_in_progress.ensures.some.before)
