use Rattle.std.proofs.Common.{◌≡◌, ◌<◌, ◌-◌, length, sym, subst, arith, rules}
use Rattle.nn_chain.specs.Folder.{folder_at}
use Rattle.nn_load.specs.declared.chain.Left.{Left}
use Rattle.nn_load.specs.Queue.{EndBy, HasGap}
use Rattle.nn_load.specs.Turns.{IsLeft}
use Rattle.nn_load.proofs.TurnLemmas.{gap_before, first_finalized, passed_left}
use Rattle.nn_load.proofs.chain.replay_next.Goals as goal

pub replay_in_progress-requires-clause-left : goal.replay_in_progress-requires-clause-left
replay_in_progress-requires-clause-left g c = λ tells.
    let place = c.args.place.now in
    let folder = folder_at ((g.H.Host.state c.args.host.now).reads place.dir.0) place.sub in
    let whole : c.len.result ≡ length place.names.items = search rules in
    subst (λ (l : Left). IsLeft folder place.version.layout place.names.items (record { left = l; held = c.args.at.held })) (sym c.behind.ensures)
    (passed_left folder place.version.layout place.names.items c.args.at c.len.result (subst (λ n. EndBy place.names.items c.args.at.left.finalized n c.args.at.left.last) (sym whole) c.in_default.ensures.none) (c.requires.left tells))

pub replay_finalized-requires-clause-left : goal.replay_finalized-requires-clause-left
replay_finalized-requires-clause-left g c = λ tells.
    let place = c.args.place.now in
    let folder = folder_at ((g.H.Host.state c.args.host.now).reads place.dir.0) place.sub in
    subst (λ (l : Left). IsLeft folder place.version.layout place.names.items (record { left = l; held = c.args.at.held })) (sym c.behind-2.ensures)
    (passed_left folder place.version.layout place.names.items c.args.at c.in-Some.k c.in-Some.ensures.some.before (c.requires.left tells))

pub replay_in_progress-requires-else-first-next-clause-left : goal.replay_in_progress-requires-else-first-next-clause-left
replay_in_progress-requires-else-first-next-clause-left g c = λ tells.
    let place = c.args.place.now in
    let folder = folder_at ((g.H.Host.state c.args.host.now).reads place.dir.0) place.sub in
    subst (λ (l : Left). IsLeft folder place.version.layout place.names.items (record { left = l; held = c.args.at.held })) (sym c.behind-2.ensures)
    (passed_left folder place.version.layout place.names.items c.args.at c.in-Some.k c.in-Some.ensures.some.before (c.requires.left tells))

pub replay_in_progress-requires-else-first-next-clause-gap : goal.replay_in_progress-requires-else-first-next-clause-gap
replay_in_progress-requires-else-first-next-clause-gap g c = λ tells.
    let place = c.args.place.now in
    let reads = (g.H.Host.state c.args.host.now).reads place.dir.0 in
    let old = c.args.at.left in
    let next = c.in-Some.ensures.some in
    let first : c.first_id-first.result ≡ c.in-Some.span.0 = search rules in
    let some : 0 < c.in-Some.span.0 = omega (arith, next.ranged) in
    subst (λ (l : Left). HasGap place.names.items l.finalized l.last (c.first_id-first.result - 1)) (sym c.behind-2.ensures)
    (gap_before reads place.sub place.version.layout place.names.items (c.requires.listed tells) c.in-Some.k old.last c.in-Some.k _ c.in-Some.span (first_finalized place.names.items old.finalized old.last c.in-Some.k c.in-Some.span next) (omega arith))
