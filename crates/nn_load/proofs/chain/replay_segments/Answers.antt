use Rattle.std.proofs.Common.{refl, subst}
use Rattle.nn_host.specs.Disk.{Reads}
use Rattle.nn_host.proofs.RunsLemmas.{looked_then}
use Rattle.nn_host.proofs.WorkLemmas.{still_then}
use Rattle.nn_chain.specs.Folder.{folder_at}
use Rattle.nn_load.specs.declared.chain.Waiting.{Waiting}
use Rattle.nn_load.specs.Turns.{IsPlayed}
use Rattle.nn_load.proofs.FileLemmas.{looked_on}
use Rattle.nn_load.proofs.TurnLemmas.{turn_on}
use Rattle.nn_load.proofs.chain.replay_segments.Goals as goal

pub returns-in_err-at-clause-kept : goal.returns-in_err-at-clause-kept
returns-in_err-at-clause-kept g c = looked_on Waiting _ _ c.from_residual.ensures.1 (looked_then c.loop-at.invariant.kept c.in_err-at.ensures.kept)

pub returns-in_err-at-clause-any_moment : goal.returns-in_err-at-clause-any_moment
returns-in_err-at-clause-any_moment g c = still_then c.loop-at.invariant.still c.in_err-at.ensures.any_moment

pub returns-then-at-clause-ok : goal.returns-then-at-clause-ok
returns-then-at-clause-ok g c = λ tells.
    let played = subst (λ (r : Reads). IsPlayed (folder_at r c.args.place.now.sub) c.args.place.now.version.layout c.args.place.now.names.items c.loop-at.at.left c.in_ok-at.at (g.T.Tree.meaning c.loop-at.tree) (g.T.Tree.meaning c.replay_next.new.tree)) (c.loop-at.invariant.kept.reads tells refl) (c.in_ok-at.ensures.ok tells) in
    let on = turn_on (c.loop-at.invariant.leads tells) played.turn in
    (on.0, on.1, played.turn.ends c.if-at.true)

pub returns-then-at-clause-kept : goal.returns-then-at-clause-kept
returns-then-at-clause-kept g c = looked_then c.loop-at.invariant.kept c.in_ok-at.ensures.kept

pub returns-then-at-clause-any_moment : goal.returns-then-at-clause-any_moment
returns-then-at-clause-any_moment g c = still_then c.loop-at.invariant.still c.in_ok-at.ensures.any_moment

pub loop-at-preserved : goal.loop-at-preserved
loop-at-preserved g c =
    let played = λ (tells : g.H.Host.told). subst (λ (r : Reads). IsPlayed (folder_at r c.args.place.now.sub) c.args.place.now.version.layout c.args.place.now.names.items c.loop-at.at.left c.in_ok-at.at (g.T.Tree.meaning c.loop-at.tree) (g.T.Tree.meaning c.replay_next.new.tree)) (c.loop-at.invariant.kept.reads tells refl) (c.in_ok-at.ensures.ok tells) in
    let on = c.in_ok-at.ensures.further c.if-at.false in
    record {
      going = c.if-at.false;
      waits = record { inside = on.further.inside; held = on.held };
      leads = λ tells. turn_on (c.loop-at.invariant.leads tells) (played tells).turn;
      left = λ tells. record { queues = (played tells).turn.left c.if-at.false; held = (played tells).held };
      imaged = λ h. c.replay_next.ensures.imaged (c.loop-at.invariant.imaged h);
      kept = looked_then c.loop-at.invariant.kept c.in_ok-at.ensures.kept;
      still = still_then c.loop-at.invariant.still c.in_ok-at.ensures.any_moment;
    }
