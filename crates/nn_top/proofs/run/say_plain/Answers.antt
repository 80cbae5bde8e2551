use Rattle.std.proofs.Common.{inl, refl}
use Rattle.nn_top.proofs.ClosesLemmas.{is_unfailed}
use Rattle.nn_top.proofs.run.say_plain.Goals as goal

pub returns-in-Some : goal.returns-in-Some
returns-in-Some g c = c.say_last.ensures c.args.status (inl refl) (is_unfailed c.args.status c.in-Some.ensures.call)
