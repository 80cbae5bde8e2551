use Rattle.std.proofs.Common.{ℕ, Global, subst}
use Rattle.std.specs.Prelude.{Vec}
use Rattle.nn_strtab.specs.Numbers.{HaveOneNumber}
use Rattle.nn_strtab.proofs.NumbersLemmas.{one_number}
use Rattle.nn_strtab.proofs.names.Names.len.Goals as goal

pub returns-clause-one_number : goal.returns-clause-one_number
returns-clause-one_number c = subst HaveOneNumber c.self.view_is (one_number (λ (name : Vec ℕ Global). name.items) c.self.inside.distinct.keys c.len.ensures.unique)
