use Rattle.std.proofs.Common.{arith}
use Rattle.nn_base.proofs.DirSetLemmas.{at_most_eight}
use Rattle.nn_core.proofs.StandLemmas.{rolls_by}
use Rattle.nn_core.proofs.record.roll_segment.Goals as goal

pub returns-clause-rolls : goal.returns-clause-rolls
returns-clause-rolls g c = λ tells version ns ids stands. rolls_by c.args.journal.now c.roll.new.self (g.H.Host.state c.args.host.now) (g.H.Host.state c.roll.new.host) c.roll.ensures.brought c.requires.ready.below c.roll.ensures.rose
    (omega (arith, ids, c.roll.ensures.last, at_most_eight c.args.journal.now.live)) tells version ns stands

pub returns-clause-ready : goal.returns-clause-ready
returns-clause-ready g c = record {
  listed = c.roll.ensures.went.quiet.each.count;
  below = λ j e. omega (arith, c.roll.ensures.below j e, c.roll.ensures.went.quiet.each.count);
  going = c.roll.ensures.kept.2;
  empty = c.roll.ensures.kept.3;
  fit = c.roll.ensures.kept.4;
}
