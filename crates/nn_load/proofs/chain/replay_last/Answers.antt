use Rattle.std.proofs.Common.{◌<◌, ◌^◌, subst, rules}
use Rattle.nn_chain.specs.Folder.{folder_at}
use Rattle.nn_chain.specs.Records.{HoldsRecord}
use Rattle.nn_load.specs.declared.segment.Segment.{Segment}
use Rattle.nn_load.specs.Replaying.{AreReplayed}
use Rattle.nn_load.specs.Turns.{reached}
use Rattle.nn_load.proofs.TurnLemmas.{whole_turn}
use Rattle.nn_load.proofs.chain.replay_last.Goals as goal

pub returns-clause-ok : goal.returns-clause-ok
returns-clause-ok g c = λ tells.
    let reads = (g.H.Host.state c.args.host.now).reads c.args.place.now.dir.0 in
    let before = g.T.Tree.meaning c.args.tree.now in
    let after = g.T.Tree.meaning c.replay_file.new.tree in
    let reach = c.in_ok-reach.reach in
    let short : reach.last < 2 ^ 63 = search rules in
    record {
      turn = whole_turn reads c.args.place.now.sub c.args.place.now.version.layout c.args.place.now.names.items (c.requires.listed tells) c.args.left (c.requires.left tells) before after 0 reach.last (2 ^ 63) c.args.first (c.requires.gap tells) c.requires.next reach.fit
          (subst (λ (s : Segment). AreReplayed (HoldsRecord (folder_at reads c.args.place.now.sub) c.args.place.now.version.layout s.name) s.until (reached c.args.left before) (record { last = reach.last; ns = after }) reach.fit)
          c.in_progress_segment-segment.ensures (c.in_ok-reach.ensures.ok tells)) short;
      held = tt;
    }
