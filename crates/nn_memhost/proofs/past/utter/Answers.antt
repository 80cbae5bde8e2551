use Rattle.nn_memhost.proofs.past.utter.Goals as goal

pub returns-clause-noted : goal.returns-clause-noted
returns-clause-noted c = λ yes. record { copy = c.in-Ok.copy; same = c.in-Ok.ensures.items; noted = c.keep.ensures.kept c.if-not-keep.false }
