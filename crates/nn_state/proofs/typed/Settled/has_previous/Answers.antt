use Rattle.nn_state.proofs.SettlingLemmas.{none_saved}
use Rattle.nn_state.proofs.typed.Settled.has_previous.Goals as goal

pub returns-in_default : goal.returns-in_default
returns-in_default c = none_saved c.args.self.now c.in_default.not-ReadyWithPrevious
