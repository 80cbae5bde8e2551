use Rattle.std.proofs.Common.{◌≡◌, ◌∙◌, true, false, length, sym, subst}
use Rattle.nn_base.specs.DirSets.{has}
use Rattle.nn_choose.specs.Served.{IsLeadBelow}
use Rattle.nn_choose.proofs.AheadLemmas.{ahead_alike, none_ahead}
use Rattle.nn_choose.proofs.leading.ahead.Goals as goal

pub returns-in-Some-clause-ahead : goal.returns-in-Some-clause-ahead
returns-in-Some-clause-ahead c = λ dirs are i.
    let leads = subst (IsLeadBelow c.args.served.now (length c.args.served.now)) c.in-Some.is c.lead_of.ensures in
    ahead_alike dirs c.args.served.now are c.in-Some.lead leads (has c.with_ctime.result) c.with_ctime.ensures i

pub returns-in-Some-clause-within : goal.returns-in-Some-clause-within
returns-in-Some-clause-within c = λ i is. ((c.with_ctime.ensures i).0 is).1

pub returns-in-None-clause-ahead : goal.returns-in-None-clause-ahead
returns-in-None-clause-ahead c = λ dirs are i.
    let none = subst (IsLeadBelow c.args.served.now (length c.args.served.now)) c.in-None.is c.lead_of.ensures in
    (λ is. let other : true ≡ false = sym is ∙ c.none.ensures i in cc, λ ahead. absurd (none_ahead dirs c.args.served.now are none i ahead))

pub returns-in-None-clause-within : goal.returns-in-None-clause-within
returns-in-None-clause-within c = λ i is. let other : true ≡ false = sym is ∙ c.none.ensures i in cc
