use Rattle.std.proofs.Common.{sym, ◌∙◌, ap, arith}
use Rattle.nn_base.specs.DirSets.{Members, has}
use Rattle.nn_base.proofs.DirSetLemmas.{at_most_eight}
use Rattle.nn_core.proofs.StandLemmas.{logs_by}
use Rattle.nn_core.proofs.record.write_record.Goals as goal

pub sync-requires-clause-below : goal.sync-requires-clause-below
sync-requires-clause-below g c = λ j e. c.requires.ready.below j (ap (λ (set : Members). has set j) (sym c.log.ensures.kept.0) ∙ e)

pub returns-clause-logs : goal.returns-clause-logs
returns-clause-logs g c = λ tells version ns fits ids stands. logs_by c.args.journal.now c.log.new.self c.sync.new.self c.args.op.now (g.H.Host.state c.args.host.now) (g.H.Host.state c.sync.new.host)
    (record { text = c.log.ensures.text; formed = c.log.ensures.record; last = c.log.ensures.last; live = c.log.ensures.kept.0; going = c.log.ensures.kept.2; first = c.log.ensures.kept.3; size = c.log.ensures.kept.4; header = c.log.ensures.kept.5 })
    c.requires.ready.empty c.sync.ensures.brought c.requires.ready.below c.sync.ensures.onward (omega (arith, ids, c.sync.ensures.last, c.log.ensures.last, at_most_eight c.log.new.self.live)) tells ns fits c.requires.ready.going version stands

pub returns-clause-ready : goal.returns-clause-ready
returns-clause-ready g c = record {
  listed = c.sync.ensures.went.quiet.each.count;
  below = λ j e. omega (arith, c.sync.ensures.below j e, c.sync.ensures.went.quiet.each.count);
  going = c.sync.ensures.kept.2;
  empty = c.sync.ensures.kept.3;
  fit = c.sync.ensures.kept.4;
}
