use Rattle.std.proofs.Common.{◌∙◌, ap}
use Rattle.nn_journal.specs.Places.{Place}
use Rattle.tests_journal.proofs.LiveLemmas.{below_kept, fit_same}
use Rattle.tests_journal.proofs.played.Played.unhold.Goals as goal

pub invariant_of-self : goal.invariant_of-self
invariant_of-self c = record {
  below = below_kept c.args.self.now.journal.live c.unhold.new.self.live _ c.unhold.ensures.kept.0 c.args.self.now.below;
  fit = fit_same c.args.self.now.journal c.unhold.new.self c.unhold.ensures.kept.1 c.unhold.ensures.kept.2 c.args.self.now.fit;
  going = ap (λ (p : Place). p.going) c.unhold.ensures.kept.1 ∙ c.args.self.now.going;
  empty = λ none. ap (λ b. b.items) c.unhold.ensures.kept.2 ∙ c.args.self.now.empty none;
}
