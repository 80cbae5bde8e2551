use Rattle.std.proofs.Common.{◌≡◌, ◌<◌, ℕ, true, sym, subst}
use Rattle.nn_base.specs.DirSets.{has}
use Rattle.nn_journal.specs.declared.journal.JournalSet.{JournalSet}
use Rattle.nn_journal.proofs.BringsLemmas.{step_below}
use Rattle.nn_journal.proofs.journal.JournalSet.end_all.Goals as goal

pub step_all-requires-clause-below : goal.step_all-requires-clause-below
step_all-requires-clause-below g c = subst (λ (s : JournalSet). (j : ℕ) → has s.live j ≡ true → j < (g.H.Host.state c.args.host.now).count) (sym c.self.view_is) c.requires.below

pub returns-clause-below : goal.returns-clause-below
returns-clause-below g c = step_below c.step_all.ensures.stepped (subst (λ (s : JournalSet). (j : ℕ) → has s.live j ≡ true → j < (g.H.Host.state c.args.host.now).count) (sym c.self.view_is) c.requires.below)
