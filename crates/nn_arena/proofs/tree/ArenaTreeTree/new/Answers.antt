use Rattle.std.proofs.Common.{arith, sym, subst}
use Rattle.nn_tree.proofs.EmptyLemmas.{imaged_empty}
use Rattle.nn_tree.specs.Namespace.{Namespace, first_counters}
use Rattle.nn_tree.specs.Imaged.{IsImaged}
use Rattle.nn_arena.proofs.FirstLemmas.{first_totals}
use Rattle.nn_arena.proofs.tree.ArenaTreeTree.new.Goals as goal

pub invariant_of-result : goal.invariant_of-result
invariant_of-result c =
    let a = c.in_ok-arena.arena in
    record { totals = first_totals a.places.items a.tree c.in_ok-arena.ensures.nodes c.in_ok-arena.ensures.usages; in_range = record { inode = omega arith; block = omega arith; stamp = omega arith }; empty = c.new-2.ensures.len }

pub returns-clause-imaged : goal.returns-clause-imaged
returns-clause-imaged c = subst (λ (ns : Namespace). IsImaged ns) (λ i. record { nodes = sym c.in_ok-arena.ensures.nodes i; counters = first_counters }) imaged_empty
