use Rattle.std.proofs.Common.{Ok, Err, inr, refl, sym, ◌∙◌, ap, arith}
use Rattle.nn_base.proofs.DirSetLemmas.{at_most_eight}
use Rattle.nn_journal.specs.Places.{Place}
use Rattle.nn_restore.specs.declared.restoring.Restored.TheVariants.{TakenBack, Failed}
use Rattle.nn_restore.proofs.TakenLemmas.{answered_memory, answered_none, same_count, made_counted, begun_counted, holders_made, holders_then, taken_same, failed_next}
use Rattle.nn_restore.proofs.RestoresLemmas.{ended_restores, made_restores, begun_restores}
use Rattle.nn_restore.proofs.restoring.take_back.Goals as goal

pub returns-in_err-end_segment-clause-restores : goal.returns-in_err-end_segment-clause-restores
returns-in_err-end_segment-clause-restores g c = ended_restores c.args.version.now (g.T.Tree.meaning c.args.tree.now) c.args.fresh.dir.0 c.args.journal.now c.end_segment.new.self c.requires.out c.in_err-end_segment.ensures.brought c.in_err-end_segment.ensures.went c.in_err-end_segment.ensures.rose
    (omega (arith, c.in_err-end_segment.ensures.last, at_most_eight c.args.journal.now.live)) c.in_err-end_segment.ensures.kept.2 c.requires.bare (λ tells. (g.met.H.Host.lawful tells c.end_segment.new.host).disks c.args.fresh.dir.0) c.from_residual.result c.from_residual.ensures.0

pub returns-in_err-make_back-clause-restores : goal.returns-in_err-make_back-clause-restores
returns-in_err-make_back-clause-restores g c = made_restores c.args.version.now (g.T.Tree.meaning c.args.tree.now) c.args.fresh.dir.0 c.args.journal.now c.end_segment.new.self c.requires.out c.in_ok-end_segment.ensures.brought c.in_ok-end_segment.ensures.went c.in_ok-end_segment.ensures.rose
    (omega (arith, c.in_ok-end_segment.ensures.last, at_most_eight c.args.journal.now.live)) c.in_ok-end_segment.ensures.kept.2 c.make_back.new.journal (Err c.in_err-make_back.field-0.0) c.in_err-make_back.ensures.makes c.from_residual-in_err-make_back.result c.from_residual-in_err-make_back.ensures.0

pub returns-in_err-make_back-clause-counted : goal.returns-in_err-make_back-clause-counted
returns-in_err-make_back-clause-counted g c = made_counted c.args.fresh.dir.0 c.args.journal.now c.end_segment.new.self c.make_back.new.journal c.requires.out c.in_ok-end_segment.ensures.went (Err c.in_err-make_back.field-0.0) c.in_err-make_back.ensures.makes c.from_residual-in_err-make_back.result
    (answered_memory g.H.Host.told c.args.journal.now.live c.make_back.new.journal.live (g.H.Host.state c.args.host.now) (g.H.Host.state c.make_back.new.host) c.args.fresh.dir.0 c.requires.out c.in_err-make_back.ensures.makes.memory.0 c.from_residual-in_err-make_back.result c.from_residual-in_err-make_back.ensures.1 (c.in_err-make_back.ensures.makes.memory.1 ∙ same_count c.args.fresh.dir.0 c.requires.out c.in_ok-end_segment.ensures.went))

pub returns-in_err-make_back-clause-holders : goal.returns-in_err-make_back-clause-holders
returns-in_err-make_back-clause-holders g c = holders_then c.args.journal.now c.end_segment.new.self c.make_back.new.journal c.make_back.new.journal c.args.fresh.dir.0 c.in_ok-end_segment.ensures.kept.0 refl (holders_made c.args.fresh.dir.0 c.args.journal.now c.end_segment.new.self c.make_back.new.journal c.requires.out c.in_ok-end_segment.ensures.went (Err c.in_err-make_back.field-0.0) c.in_err-make_back.ensures.makes)

pub start_segment-requires-clause-ids : goal.start_segment-requires-clause-ids
start_segment-requires-clause-ids g c = omega (arith, c.requires.ids, c.in_ok-end_segment.ensures.last, at_most_eight c.args.journal.now.live, ap (λ (p : Place). p.last) c.in_ok-make_back.ensures.makes.place)

pub returns-in_err-start_segment-clause-restores : goal.returns-in_err-start_segment-clause-restores
returns-in_err-start_segment-clause-restores g c = begun_restores c.args.version.now (g.T.Tree.meaning c.args.tree.now) c.args.fresh.dir.0 c.args.journal.now c.end_segment.new.self c.requires.out c.in_ok-end_segment.ensures.brought c.in_ok-end_segment.ensures.went c.in_ok-end_segment.ensures.rose
    (omega (arith, c.in_ok-end_segment.ensures.last, at_most_eight c.args.journal.now.live)) c.in_ok-end_segment.ensures.kept.2 c.make_back.new.journal (Ok tt) c.in_ok-make_back.ensures.makes c.start_segment.new.self c.in_err-start_segment.ensures.brought c.in_err-start_segment.ensures.went c.in_err-start_segment.ensures.rose c.from_residual-in_err-start_segment.result

pub returns-in_err-start_segment-clause-counted : goal.returns-in_err-start_segment-clause-counted
returns-in_err-start_segment-clause-counted g c = begun_counted c.args.fresh.dir.0 c.args.journal.now c.end_segment.new.self c.make_back.new.journal c.requires.out c.in_ok-end_segment.ensures.went (Ok tt) c.in_ok-make_back.ensures.makes c.start_segment.new.self c.in_err-start_segment.ensures.went c.from_residual-in_err-start_segment.result
    (answered_none g.H.Host.told c.args.journal.now.live c.start_segment.new.self.live (g.H.Host.state c.args.host.now) (g.H.Host.state c.start_segment.new.host) c.args.fresh.dir.0 c.requires.out (c.in_err-start_segment.ensures.left c.args.fresh.dir.0) c.from_residual-in_err-start_segment.result c.from_residual-in_err-start_segment.ensures.1
    (inr (failed_next c.args.fresh.dir.0 c.args.journal.now c.end_segment.new.self c.make_back.new.journal c.requires.out c.in_ok-end_segment.ensures.went (Ok tt) c.in_ok-make_back.ensures.makes c.start_segment.new.self c.in_err-start_segment.ensures.went (λ gone. c.in_ok-make_back.ensures.makes.failed gone) (c.in_err-start_segment.ensures.left c.args.fresh.dir.0))))

pub returns-in_err-start_segment-clause-holders : goal.returns-in_err-start_segment-clause-holders
returns-in_err-start_segment-clause-holders g c = holders_then c.args.journal.now c.end_segment.new.self c.make_back.new.journal c.start_segment.new.self c.args.fresh.dir.0 c.in_ok-end_segment.ensures.kept.0 c.in_err-start_segment.ensures.kept.0 (holders_made c.args.fresh.dir.0 c.args.journal.now c.end_segment.new.self c.make_back.new.journal c.requires.out c.in_ok-end_segment.ensures.went (Ok tt) c.in_ok-make_back.ensures.makes)

pub returns-then-live-clause-restores : goal.returns-then-live-clause-restores
returns-then-live-clause-restores g c = begun_restores c.args.version.now (g.T.Tree.meaning c.args.tree.now) c.args.fresh.dir.0 c.args.journal.now c.end_segment.new.self c.requires.out c.in_ok-end_segment.ensures.brought c.in_ok-end_segment.ensures.went c.in_ok-end_segment.ensures.rose
    (omega (arith, c.in_ok-end_segment.ensures.last, at_most_eight c.args.journal.now.live)) c.in_ok-end_segment.ensures.kept.2 c.make_back.new.journal (Ok tt) c.in_ok-make_back.ensures.makes c.start_segment.new.self c.in_ok-start_segment.ensures.brought c.in_ok-start_segment.ensures.went c.in_ok-start_segment.ensures.rose (Ok TakenBack)

pub returns-then-live-clause-counted : goal.returns-then-live-clause-counted
returns-then-live-clause-counted g c = begun_counted c.args.fresh.dir.0 c.args.journal.now c.end_segment.new.self c.make_back.new.journal c.requires.out c.in_ok-end_segment.ensures.went (Ok tt) c.in_ok-make_back.ensures.makes c.start_segment.new.self c.in_ok-start_segment.ensures.went (Ok TakenBack)
    (sym c.live.ensures ∙ c.if-live.true, taken_same c.args.fresh.dir.0 c.args.journal.now c.end_segment.new.self c.make_back.new.journal c.requires.out c.in_ok-end_segment.ensures.went (Ok tt) c.in_ok-make_back.ensures.makes c.start_segment.new.self c.in_ok-start_segment.ensures.went (sym c.live.ensures ∙ c.if-live.true))

pub returns-then-live-clause-holders : goal.returns-then-live-clause-holders
returns-then-live-clause-holders g c = holders_then c.args.journal.now c.end_segment.new.self c.make_back.new.journal c.start_segment.new.self c.args.fresh.dir.0 c.in_ok-end_segment.ensures.kept.0 c.in_ok-start_segment.ensures.kept.0 (holders_made c.args.fresh.dir.0 c.args.journal.now c.end_segment.new.self c.make_back.new.journal c.requires.out c.in_ok-end_segment.ensures.went (Ok tt) c.in_ok-make_back.ensures.makes)

pub returns-else-live-clause-restores : goal.returns-else-live-clause-restores
returns-else-live-clause-restores g c = begun_restores c.args.version.now (g.T.Tree.meaning c.args.tree.now) c.args.fresh.dir.0 c.args.journal.now c.end_segment.new.self c.requires.out c.in_ok-end_segment.ensures.brought c.in_ok-end_segment.ensures.went c.in_ok-end_segment.ensures.rose
    (omega (arith, c.in_ok-end_segment.ensures.last, at_most_eight c.args.journal.now.live)) c.in_ok-end_segment.ensures.kept.2 c.make_back.new.journal (Ok tt) c.in_ok-make_back.ensures.makes c.start_segment.new.self c.in_ok-start_segment.ensures.brought c.in_ok-start_segment.ensures.went c.in_ok-start_segment.ensures.rose (Ok Failed)

pub returns-else-live-clause-counted : goal.returns-else-live-clause-counted
returns-else-live-clause-counted g c = begun_counted c.args.fresh.dir.0 c.args.journal.now c.end_segment.new.self c.make_back.new.journal c.requires.out c.in_ok-end_segment.ensures.went (Ok tt) c.in_ok-make_back.ensures.makes c.start_segment.new.self c.in_ok-start_segment.ensures.went (Ok Failed)
    (c.requires.out, sym c.live.ensures ∙ c.if-live.false, failed_next c.args.fresh.dir.0 c.args.journal.now c.end_segment.new.self c.make_back.new.journal c.requires.out c.in_ok-end_segment.ensures.went (Ok tt) c.in_ok-make_back.ensures.makes c.start_segment.new.self c.in_ok-start_segment.ensures.went (λ gone. c.in_ok-make_back.ensures.makes.failed gone) (sym c.live.ensures ∙ c.if-live.false))

pub returns-else-live-clause-holders : goal.returns-else-live-clause-holders
returns-else-live-clause-holders g c = holders_then c.args.journal.now c.end_segment.new.self c.make_back.new.journal c.start_segment.new.self c.args.fresh.dir.0 c.in_ok-end_segment.ensures.kept.0 c.in_ok-start_segment.ensures.kept.0 (holders_made c.args.fresh.dir.0 c.args.journal.now c.end_segment.new.self c.make_back.new.journal c.requires.out c.in_ok-end_segment.ensures.went (Ok tt) c.in_ok-make_back.ensures.makes)
