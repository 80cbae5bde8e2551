use Rattle.std.proofs.Common.{◌≡◌, true, w32, to_z, of_z, rules, ◌+◌, ◌<◌, ℕ, sym, ◌∙◌, ap, arith, subst}
use Rattle.nn_base.specs.DirSets.{Members, has}
use Rattle.nn_segment.specs.Segment.{header}
use Rattle.nn_begin.specs.Begun.{HoldsBy}
use Rattle.nn_begin.proofs.HoldLemmas.{hold_previous}
use Rattle.nn_begin.proofs.BeginLemmas.{none_begun, listed_all, listed_below, begins_kept, only_logged, begun_all, still_live, none_rose, one_rose}
use Rattle.nn_begin.proofs.beginning.begin.Goals as goal

pub returns-in_default-clause-kept : goal.returns-in_default-clause-kept
returns-in_default-clause-kept g c = none_begun

pub start_segment-requires-clause-below : goal.start_segment-requires-clause-below
start_segment-requires-clause-below g c = listed_below (listed_all c.in-Ok.ensures.sets.0 c.first-live.ensures c.count-count.ensures.count)

pub returns-in-Some-clause-kept : goal.returns-in-Some-clause-kept
returns-in-Some-clause-kept g c =
    let layout : to_z w32 (of_z w32 c.args.version.now.layout) ≡ c.args.version.now.layout = search rules in
    begins_kept {version = c.args.version.now} {id = c.args.last} c.start_segment.ensures.brought c.start_segment.ensures.went c.in-Ok.ensures.going (ap header (sym layout) ∙ sym c.in-Ok.ensures.header) (omega (arith, c.in-Ok.ensures.last, c.last.view_is)) c.start_segment.ensures.last
    (listed_all c.in-Ok.ensures.sets.0 c.first-live.ensures c.count-count.ensures.count) (λ tells. hold_previous (g.H.Host.state c.args.host.now) c.in-Ok.ensures.sets.1 c.holders-holders.ensures c.requires.settled (c.requires.fits tells))

pub returns-in-Some-clause-cause : goal.returns-in-Some-clause-cause
returns-in-Some-clause-cause g c =
    let it = c.dropped.ensures.some c.in-Some.dir c.in-Some.is in
    let below : c.in-Some.dir.0 < (g.H.Host.state c.args.host.now).count = omega (arith, it.0, c.count-count.ensures.count) in
    (below, one_rose c.start_segment.ensures.went (listed_all c.in-Ok.ensures.sets.0 c.first-live.ensures c.count-count.ensures.count) c.in-Some.dir.0 below it.1)

pub returns-in-None-clause-ready : goal.returns-in-None-clause-ready
returns-in-None-clause-ready g c =
    let all = listed_all c.in-Ok.ensures.sets.0 c.first-live.ensures c.count-count.ensures.count in
    let listed : (i : ℕ) → i < (g.H.Host.state c.args.host.now).count → has c.start_segment.new.self.live i ≡ true = λ i below. c.dropped.ensures.none c.in-None.is i (omega (arith, below, c.count-count.ensures.count)) in
    let last : c.start_segment.new.self.last ≡ c.args.last + 1 = omega (arith, c.start_segment.ensures.next (still_live c.start_segment.ensures.went all listed), c.in-Ok.ensures.last, c.last.view_is) in
    record {
      listed = listed;
      below = λ i live. omega (arith, c.start_segment.ensures.below i live, c.start_segment.ensures.went.quiet.each.count);
      going = c.start_segment.ensures.kept.2;
      first = c.start_segment.ensures.begins ∙ last;
      last_id = last;
      empty = c.start_segment.ensures.kept.3;
      fit = c.start_segment.ensures.kept.4;
    }

pub returns-in-None-clause-holders : goal.returns-in-None-clause-holders
returns-in-None-clause-holders g c = subst (λ (set : Members). HoldsBy c.args.bay.now.at.items (has set)) (sym (c.start_segment.ensures.kept.0 ∙ c.in-Ok.ensures.sets.1)) c.holders-holders.ensures

pub returns-in-None-clause-begun : goal.returns-in-None-clause-begun
returns-in-None-clause-begun g c = λ tells shared ns rest.
    let all = listed_all c.in-Ok.ensures.sets.0 c.first-live.ensures c.count-count.ensures.count in
    let listed : (i : ℕ) → i < (g.H.Host.state c.args.host.now).count → has c.start_segment.new.self.live i ≡ true = λ i below. c.dropped.ensures.none c.in-None.is i (omega (arith, below, c.count-count.ensures.count)) in
    let last : c.start_segment.new.self.last ≡ c.args.last + 1 = omega (arith, c.start_segment.ensures.next (still_live c.start_segment.ensures.went all listed), c.in-Ok.ensures.last, c.last.view_is) in
    let layout : to_z w32 (of_z w32 c.args.version.now.layout) ≡ c.args.version.now.layout = search rules in
    begun_all {version = c.args.version.now} {id = c.args.last} c.start_segment.new.self c.start_segment.ensures.brought c.start_segment.ensures.went c.in-Ok.ensures.going (ap header (sym layout) ∙ sym c.in-Ok.ensures.header) (omega (arith, c.in-Ok.ensures.last, c.last.view_is)) c.start_segment.ensures.last all shared ns rest tells c.args.bay.now.at.items c.requires.settled (c.requires.fits tells) c.start_segment.ensures.went.quiet.each.count listed c.start_segment.ensures.kept.2 (c.start_segment.ensures.begins ∙ last) c.start_segment.ensures.begins
    (hold_previous (g.H.Host.state c.args.host.now) (c.start_segment.ensures.kept.0 ∙ c.in-Ok.ensures.sets.1) c.holders-holders.ensures c.requires.settled (c.requires.fits tells))

pub returns-in-None-clause-beside : goal.returns-in-None-clause-beside
returns-in-None-clause-beside g c = λ tells shared ns rest.
    let layout : to_z w32 (of_z w32 c.args.version.now.layout) ≡ c.args.version.now.layout = search rules in
    only_logged {version = c.args.version.now} {id = c.args.last} c.start_segment.ensures.brought c.start_segment.ensures.went c.in-Ok.ensures.going (ap header (sym layout) ∙ sym c.in-Ok.ensures.header) (omega (arith, c.in-Ok.ensures.last, c.last.view_is)) c.start_segment.ensures.last (listed_all c.in-Ok.ensures.sets.0 c.first-live.ensures c.count-count.ensures.count) shared ns rest tells

pub returns-in-None-clause-kept : goal.returns-in-None-clause-kept
returns-in-None-clause-kept g c =
    let layout : to_z w32 (of_z w32 c.args.version.now.layout) ≡ c.args.version.now.layout = search rules in
    begins_kept {version = c.args.version.now} {id = c.args.last} c.start_segment.ensures.brought c.start_segment.ensures.went c.in-Ok.ensures.going (ap header (sym layout) ∙ sym c.in-Ok.ensures.header) (omega (arith, c.in-Ok.ensures.last, c.last.view_is)) c.start_segment.ensures.last
    (listed_all c.in-Ok.ensures.sets.0 c.first-live.ensures c.count-count.ensures.count) (λ tells. hold_previous (g.H.Host.state c.args.host.now) c.in-Ok.ensures.sets.1 c.holders-holders.ensures c.requires.settled (c.requires.fits tells))

pub returns-in-None-clause-cause : goal.returns-in-None-clause-cause
returns-in-None-clause-cause g c = none_rose c.start_segment.ensures.went (listed_all c.in-Ok.ensures.sets.0 c.first-live.ensures c.count-count.ensures.count) (λ i below. c.dropped.ensures.none c.in-None.is i (omega (arith, below, c.count-count.ensures.count)))
