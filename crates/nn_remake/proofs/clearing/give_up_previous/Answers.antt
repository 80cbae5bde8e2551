use Rattle.std.proofs.Common.{◌∙◌}
use Rattle.nn_remake.proofs.ClearingCallLemmas.{given_already, given_still, first_given, second_given, both_given}
use Rattle.nn_remake.proofs.clearing.give_up_previous.Goals as goal

pub returns-then-not-has_previous-clause-ok : goal.returns-then-not-has_previous-clause-ok
returns-then-not-has_previous-clause-ok g c = given_already c.args.i.0 (g.H.Host.state c.args.host.now) (λ tells. g.met.H.Host.lawful tells c.args.host.now) c.requires.idle (λ tells. c.requires.previous tells ∙ c.if-not-has_previous.true)

pub returns-then-not-has_previous-clause-any_moment : goal.returns-then-not-has_previous-clause-any_moment
returns-then-not-has_previous-clause-any_moment g c = given_still c.args.i.0 (g.H.Host.state c.args.host.now)

pub returns-in_err-rename_sub-clause-any_moment : goal.returns-in_err-rename_sub-clause-any_moment
returns-in_err-rename_sub-clause-any_moment g c = first_given c.args.i.0 (g.H.Host.state c.args.host.now) c.requires.idle (λ tells. c.requires.previous tells ∙ c.if-not-has_previous.false) c.in_err-rename_sub.ensures

pub returns-clause-any_moment : goal.returns-clause-any_moment
returns-clause-any_moment g c = second_given c.args.i.0 (g.H.Host.state c.args.host.now) c.requires.idle (λ tells. c.requires.previous tells ∙ c.if-not-has_previous.false) c.in_ok-rename_sub.ensures c.remove_sub.ensures

pub returns-clause-ok : goal.returns-clause-ok
returns-clause-ok g c = both_given c.args.i.0 (g.H.Host.state c.args.host.now) c.requires.idle (λ tells. c.requires.previous tells ∙ c.if-not-has_previous.false) c.in_ok-rename_sub.ensures c.remove_sub.result (λ tells. g.met.H.Host.lawful tells c.args.host.now) c.remove_sub.ensures
