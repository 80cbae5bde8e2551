use Rattle.std.proofs.Common.{◌≡◌, ◌++◌}
use Rattle.nn_memhost.proofs.names.names_in.Given as goal

abbrev pub invariant-names : goal.invariant-names
invariant-names l = l.names.items ++ l.name-iterator ≡ l.initial.name-iterator
