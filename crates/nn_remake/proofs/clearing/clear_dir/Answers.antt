use Rattle.nn_remake.proofs.ClearingCallLemmas.{clearing_given, clearing_all, then_idle}
use Rattle.nn_remake.proofs.clearing.clear_dir.Goals as goal

pub returns-in_err-give_up_previous-clause-any_moment : goal.returns-in_err-give_up_previous-clause-any_moment
returns-in_err-give_up_previous-clause-any_moment g c = clearing_given c.in_err-give_up_previous.ensures.any_moment

pub give_up_current-requires-clause-idle : goal.give_up_current-requires-clause-idle
give_up_current-requires-clause-idle g c = then_idle c.requires.idle c.in_ok-give_up_previous.ensures.ok

pub returns-clause-any_moment : goal.returns-clause-any_moment
returns-clause-any_moment g c = clearing_all c.requires.idle c.in_ok-give_up_previous.ensures.ok c.in_ok-give_up_previous.ensures.any_moment c.give_up_current.ensures.any_moment
