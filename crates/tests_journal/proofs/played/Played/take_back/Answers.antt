use Rattle.std.proofs.Common.{◌∙◌, ap, arith}
use Rattle.nn_journal.specs.Places.{Place}
use Rattle.tests_journal.proofs.LiveLemmas.{below_with, fit_same}
use Rattle.tests_journal.proofs.played.Played.take_back.Goals as goal

pub invariant_of-self : goal.invariant_of-self
invariant_of-self c = record {
  below = below_with c.args.self.now.journal.live c.take_back.new.self.live c.args.i.0 _ c.take_back.ensures.live (omega (arith, c.if-i-count.false, c.count.ensures.count)) c.args.self.now.below;
  fit = fit_same c.args.self.now.journal c.take_back.new.self c.take_back.ensures.kept.0 c.take_back.ensures.kept.1 c.args.self.now.fit;
  going = ap (λ (p : Place). p.going) c.take_back.ensures.kept.0 ∙ c.args.self.now.going;
  empty = λ none. ap (λ b. b.items) c.take_back.ensures.kept.1 ∙ c.args.self.now.empty none;
}
