use Rattle.std.proofs.Common.{◌∙◌, refl, sym}
use Rattle.nn_journal.proofs.BringsLemmas.{went_refl}
use Rattle.nn_journal.proofs.journal.JournalSet.settle.Goals as goal

pub returns-then-again-clause-settled : goal.returns-then-again-clause-settled
returns-then-again-clause-settled g c = record {
  rolled = λ is. record {
    rose = c.rounds.ensures.rose;
    begins = c.rounds.ensures.begins;
    ids = c.rounds.ensures.ids;
    ahead = c.rounds.ensures.brought;
    ended = c.rounds.ensures.ended;
    calls = c.rounds.ensures.calls;
  };
  stayed = λ is. absurd (let apart = sym c.if-again.true ∙ is in cc);
}

pub returns-clause-settled : goal.returns-clause-settled
returns-clause-settled g c = record {
  rolled = λ is. absurd (let apart = sym c.if-again.false ∙ is in cc);
  stayed = λ is. (refl, refl, refl);
}

pub returns-clause-went : goal.returns-clause-went
returns-clause-went g c = went_refl
