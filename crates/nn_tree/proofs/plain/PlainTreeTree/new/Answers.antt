use Rattle.std.proofs.Common.{arith, sym, subst}
use Rattle.nn_tree.proofs.PlainClauses.{new_entries}
use Rattle.nn_tree.proofs.EmptyLemmas.{imaged_empty}
use Rattle.nn_tree.specs.Namespace.{Namespace, first_counters}
use Rattle.nn_tree.specs.Imaged.{IsImaged}
use Rattle.nn_tree.proofs.plain.PlainTreeTree.new.Goals as goal

pub invariant_of-result : goal.invariant_of-result
invariant_of-result c =
    let n = new_entries c.push.new.self.items c.new-entries.result.items c.root.result c.new-entries.ensures.items c.in_ok-push.ensures.items c.root.ensures.live c.root.ensures.name c.root.ensures.node in
    record { tree = n.tree; limits = n.limits; in_range = record { inode = omega arith; block = omega arith; stamp = omega arith }; empty = c.new.ensures.len }

pub returns-clause-empty : goal.returns-clause-empty
returns-clause-empty c =
    let n = new_entries c.push.new.self.items c.new-entries.result.items c.root.result c.new-entries.ensures.items c.in_ok-push.ensures.items c.root.ensures.live c.root.ensures.name c.root.ensures.node in
    λ i. record { nodes = n.nodes i; counters = first_counters }

pub returns-clause-imaged : goal.returns-clause-imaged
returns-clause-imaged c =
    let n = new_entries c.push.new.self.items c.new-entries.result.items c.root.result c.new-entries.ensures.items c.in_ok-push.ensures.items c.root.ensures.live c.root.ensures.name c.root.ensures.node in
    subst (λ (ns : Namespace). IsImaged ns) (λ i. record { nodes = sym n.nodes i; counters = first_counters }) imaged_empty
