use Rattle.std.proofs.Common.{List, sym, subst}
use Rattle.std.specs.Prelude.{Contains}
use Rattle.nn_tree.specs.Namespace.{Namespace}
use Rattle.nn_record.specs.declared.transaction.Record.{Record}
use Rattle.nn_segment.specs.Reaching.{IsWhole}
use Rattle.nn_segment.proofs.ReachLemmas.{less_is_left}
use Rattle.nn_load.specs.Replaying.{AreReplayed}
use Rattle.nn_load.proofs.ReplayLemmas.{walk_begins, walk_goes_on, walk_ends}
use Rattle.nn_load.proofs.replaying.replay_records.Goals as goal

pub loop-len-init : goal.loop-len-init
loop-len-init g c = record { walk = walk_begins _ _ _ _ c.requires.begun c.requires.room; imaged = λ h. h }

pub loop-len-smaller : goal.loop-len-smaller
loop-len-smaller g c = let found = rw c.in-Some.is at c.in_ok-len.ensures.some in less_is_left c.args.records.now c.loop-len.end c.loop-len.id c.in-Some.len found.0 found.1

pub loop-len-preserved : goal.loop-len-preserved
loop-len-preserved g c = let found = rw c.in-Some.is at c.in_ok-len.ensures.some in record {
  walk = walk_goes_on _ _ _ _ _ _ _ _ c.loop-len.invariant.walk _ found.0 _ _ found.1 found.2;
  imaged = λ h. c.replay_front.ensures.imaged (c.loop-len.invariant.imaged h);
}

pub returns-clause-run : goal.returns-clause-run
returns-clause-run g c =
    let none = rw c.in_default.is at c.in_ok-len.ensures.none in
    subst (λ (ns : Namespace). (run : List Record) × IsWhole c.args.records.now c.args.first run × AreReplayed (Contains run) c.args.until (record { last = c.args.last; ns = g.T.Tree.meaning c.args.tree.now }) (record { last = c.loop-len.reach.last; ns = ns }) c.loop-len.reach.fit)
    (sym none.1) (walk_ends _ _ _ _ _ _ _ _ c.loop-len.invariant.walk none.0)
