-- Works of several steps: where the directories stand between them, and what comes of all steps.
use Rattle.std.proofs.Common.{◌≡◌, ℕ, ◌+◌, Bool, true, false, not, [], ◌∷◌, ◌++◌, ◌&&◌, length, sym, ap, ◌∙◌, arith, length-append}
use Rattle.nn_base.specs.Paths.{Names, Bytes, is_under}
use Rattle.nn_tree.specs.declared.spot.Spot.{Spot}
use Rattle.nn_tree.specs.Namespace.{Namespace, Nodes}
use Rattle.nn_tree.specs.Changes.{with_nodes, move, moved}
use Rattle.nn_tree.specs.Spots.{Keeps, Removes}
use Rattle.nn_tree.proofs.PrefixLemmas.{not_under_longer, moved_out}
use Rattle.nn_ops.specs.Above.{parent_of}
use Rattle.nn_ops.specs.Effects.{touch}
use Rattle.nn_ops.proofs.WalkLemmas.{parent_of_push}

-- the directory of a node isn't below the node
pub not_under_parent : (p q : Names) (name : Bytes) → p ≡ q ++ name ∷ [] → is_under p q ≡ false
not_under_parent p q name is =
    let longer : length p ≡ length q + 1 = ap length is ∙ length-append q (name ∷ []) in
    not_under_longer p q (omega arith)

pub parent_is : (p q : Names) (name : Bytes) → p ≡ q ++ name ∷ [] → q ≡ parent_of p
parent_is p q name is = sym (ap parent_of is ∙ parent_of_push q name)

-- ---- a removal

pub stays_removed : (p : Names) (had has : Spot → Bool) (was is : Spot → Names) (s : Spot) → Removes p had has was is → had s ≡ true → is_under p (was s) ≡ false → has s ≡ true
stays_removed p had has was is s r there out = r.left s ∙ (λ i. there i && not (out i))

-- ---- a first step, and a time

pub touched_then : (ns ns2 ns3 : Namespace) (m : Nodes) (p q : Names) (time : ℕ) → ns2 ≡ with_nodes ns m → ns3 ≡ with_nodes ns2 (touch p time ns2.nodes) → p ≡ q → ns3 ≡ with_nodes ns (touch q time m)
touched_then ns ns2 ns3 m p q time first then at = then ∙ (λ i. with_nodes (first i) (touch (at i) time (first i).nodes))

-- ---- a move, and the times of both directories

pub stays_moved : (p d : Names) (had has : Spot → Bool) (was is : Spot → Names) (s : Spot) → Keeps had has was is (moved p d) → had s ≡ true → is_under p (was s) ≡ false → is s ≡ was s
stays_moved p d had has was is s k there out = k.same s there ∙ moved_out p d (was s) out

pub moved_then : (ns ns2 ns3 ns4 : Namespace) (p d above to q r : Names) (time : ℕ) → ns2 ≡ with_nodes ns (move p d ns.nodes) → ns3 ≡ with_nodes ns2 (touch above time ns2.nodes) → ns4 ≡ with_nodes ns3 (touch to time ns3.nodes)
    → above ≡ q → to ≡ r → ns4 ≡ with_nodes ns (touch r time (touch q time (move p d ns.nodes)))
moved_then ns ns2 ns3 ns4 p d above to q r time first second third at there =
    third ∙ (λ i. with_nodes (second i) (touch (there i) time (second i).nodes)) ∙ (λ i. with_nodes (first i) (touch r time (touch (at i) time (first i).nodes)))
