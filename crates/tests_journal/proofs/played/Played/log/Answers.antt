use Rattle.std.proofs.Common.{◌∙◌}
use Rattle.tests_journal.proofs.LiveLemmas.{below_kept}
use Rattle.tests_journal.proofs.played.Played.log.Goals as goal

pub invariant_of-self : goal.invariant_of-self
invariant_of-self c = record {
  below = below_kept c.args.self.now.journal.live c.log.new.self.live _ c.log.ensures.kept.0 c.args.self.now.below;
  fit = c.log.ensures.fit;
  going = c.log.ensures.kept.2 ∙ c.args.self.now.going;
  empty = λ none. absurd (let apart = none in cc);
}
