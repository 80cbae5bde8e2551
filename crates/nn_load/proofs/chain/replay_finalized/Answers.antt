use Rattle.std.proofs.Common.{◌+◌, false, refl, subst, arith}
use Rattle.nn_chain.specs.Folder.{folder_at}
use Rattle.nn_chain.specs.Records.{HoldsRecord}
use Rattle.nn_load.specs.declared.segment.Segment.{Segment}
use Rattle.nn_load.specs.Replaying.{AreReplayed}
use Rattle.nn_load.specs.Turns.{reached}
use Rattle.nn_load.proofs.TurnLemmas.{finalized_turn, held_on}
use Rattle.nn_load.proofs.chain.replay_finalized.Goals as goal

pub returns-clause-ok : goal.returns-clause-ok
returns-clause-ok g c = λ tells.
    let reads = (g.H.Host.state c.args.host.now).reads c.args.place.now.dir.0 in
    let before = g.T.Tree.meaning c.args.tree.now in
    let after = g.T.Tree.meaning c.replay_file.new.tree in
    let left = c.args.at.left in
    record {
      turn = finalized_turn reads c.args.place.now.sub c.args.place.now.version.layout c.args.place.now.names.items (c.requires.listed tells) left (c.requires.left tells).queues before after left.finalized c.in_ok-reach.reach.last c.args.span c.in_ok-reach.reach.fit c.requires.next
          (subst (λ (s : Segment). AreReplayed (HoldsRecord (folder_at reads c.args.place.now.sub) c.args.place.now.version.layout s.name) s.until (reached left before) (record { last = c.in_ok-reach.reach.last; ns = after }) c.in_ok-reach.reach.fit)
          c.finalized_segment-segment.ensures (c.in_ok-reach.ensures.ok tells));
      held = (c.requires.left tells).held;
    }

pub returns-clause-further : goal.returns-clause-further
returns-clause-further g c = λ e.
    let left = c.args.at.left in
    record {
      further = record {
        inside = record { finalized = omega (arith, c.requires.next.stands.below); in_progress = c.requires.waits.inside.in_progress };
        on = omega (arith, c.in_ok-reach.ensures.within.0);
      };
      held = held_on c.args.place.now.names.items left (record { finalized = left.finalized + 1; in_progress = left.in_progress; last = c.in_ok-reach.reach.last; ended = false }) c.args.at.held refl c.in_ok-reach.ensures.within.0 c.requires.waits.held;
    }
