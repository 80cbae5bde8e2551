use Rattle.std.proofs.Common.{◌≡◌, ◌⊎◌, ◌<◌, ◌-◌, w32, to_z, of_z, true, List, ℕ, length, take, drop, refl, sym, subst, arith, rules}
use Rattle.nn_tree.specs.Namespace.{Namespace}
use Rattle.nn_segment.specs.Reaching.{NoneNext}
use Rattle.nn_segment.proofs.ReachLemmas.{less_is_left}
use Rattle.nn_load.proofs.ReplayLemmas.{Walk, walk_goes_on}
use Rattle.nn_load.proofs.HeldLemmas.{walk_resumes, was_replayed}
use Rattle.nn_load.proofs.held.Held.replay.Goals as goal

pub loop-self-init : goal.loop-self-init
loop-self-init g c =
    let held = c.args.self in
    record {
      walk = subst (λ (t : List ℕ). Walk t held.first c.args.until (record { last = c.args.last; ns = g.T.Tree.meaning c.args.tree.now }) held.end held.next (record { last = c.args.last; ns = g.T.Tree.meaning c.args.tree.now }) true) (sym c.records-records.ensures)
          (walk_resumes held.bytes.items held.first c.args.until (record { last = c.args.last; ns = g.T.Tree.meaning c.args.tree.now }) held.end held.next c.requires.gone_over.walked c.requires.near c.requires.room);
      less = omega (arith, c.requires.near, c.requires.room);
      imaged = λ h. h;
    }

pub loop-self-smaller : goal.loop-self-smaller
loop-self-smaller g c = let found = rw c.in-Some.is at c.in_ok-len.ensures.some in less_is_left c.records-records.result.now c.loop-self.end c.loop-self.next c.in-Some.len found.0 found.1

pub loop-self-preserved : goal.loop-self-preserved
loop-self-preserved g c = let found = rw c.in-Some.is at c.in_ok-len.ensures.some in record {
  walk = walk_goes_on _ _ _ _ _ _ _ _ c.loop-self.invariant.walk _ found.0 _ _ found.1 found.3;
  less = omega (arith, found.2);
  imaged = λ h. c.replay_wanted.ensures.imaged (c.loop-self.invariant.imaged h);
}

pub returns-clause-ok : goal.returns-clause-ok
returns-clause-ok g c =
    let held = c.args.self in
    let none = rw c.in_default.is at c.in_ok-len.ensures.none in
    let start = c.args.last in
    let layout : to_z w32 (of_z w32 c.args.self.layout) ≡ c.args.self.layout = search rules in
    let walk = subst (λ (t : List ℕ). Walk t held.first c.args.until (record { last = start; ns = g.T.Tree.meaning c.args.tree.now }) c.loop-self.end c.loop-self.next (record { last = c.loop-self.reach.last; ns = g.T.Tree.meaning c.loop-self.tree }) c.loop-self.reach.fit)
    c.records-records.ensures c.loop-self.invariant.walk in
    let walked = subst (λ (ns : Namespace). Walk (drop 8 held.bytes.items) held.first c.args.until (record { last = start; ns = g.T.Tree.meaning c.args.tree.now }) c.loop-self.end c.loop-self.next (record { last = c.loop-self.reach.last; ns = ns }) c.loop-self.reach.fit) (sym none.1) walk in
    let stop = subst (λ (t : List ℕ). (c.args.until < c.loop-self.next) ⊎ NoneNext (take (length t - c.loop-self.end) (drop c.loop-self.end t)) c.loop-self.next) c.records-records.ensures none.0 in
    was_replayed c.args.self _ c.args.until _ _ c.loop-self.reach.fit walked c.requires.gone_over.ends c.loop-self.invariant.less stop refl refl layout refl
