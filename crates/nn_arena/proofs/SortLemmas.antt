-- A change of a node leaves its sort and its id, and how many blocks it has.
use Rattle.std.proofs.Common.{◌≡◌, ℕ, ◌+◌, true, false, ◌∷◌, [], length, Some, None, refl, sym, ap, ◌∙◌, arith, length-append}
use Rattle.std.specs.Option.{option_map_or}
use Rattle.std.specs.FinMap.{get, insert}
use Rattle.nn_base.specs.Paths.{Names, path_cmp}
use Rattle.nn_tree.specs.declared.node.Block.{Block}
use Rattle.nn_tree.specs.declared.node.Node.{Node}
use Rattle.nn_tree.specs.declared.node.Kind.{Kind}
use Rattle.nn_tree.specs.declared.node.Kind.TheVariants.{File, Dir}
use Rattle.nn_tree.specs.declared.node.Change.{Change}
use Rattle.nn_tree.specs.declared.node.Change.TheVariants.{Time, Mode, Owner, Quota as NewQuota, Replication, Closed}
use Rattle.nn_tree.specs.Nodes.{is_dir, is_file, blocks_of}
use Rattle.nn_tree.specs.Namespace.{Nodes, block_count, is_file_at}
use Rattle.nn_tree.proofs.LinksLemmas.{paths_total, paths_exact}
use Rattle.nn_tree.proofs.TotalsLemmas.{total-insert_old}
use Rattle.nn_tree.specs.Changes.{changed, with_quota, with_replication, closed, add_block, with_block, change_at}

pub dir_changed : (change : Change) (n : Node) → is_dir (changed change n).kind ≡ is_dir n.kind
dir_changed (Time time) n = refl
dir_changed (Mode mode) n = refl
dir_changed (Owner owner group) n = refl
dir_changed (NewQuota quota) n = by n.kind
  where
    by : (k : Kind) → is_dir (with_quota quota k) ≡ is_dir k
    by (File r o bs) = refl
    by (Dir q) = refl
dir_changed (Replication r) n = by n.kind
  where
    by : (k : Kind) → is_dir (with_replication r k) ≡ is_dir k
    by (File old o bs) = refl
    by (Dir q) = refl
dir_changed Closed n = by n.kind
  where
    by : (k : Kind) → is_dir (closed k) ≡ is_dir k
    by (File r o bs) = refl
    by (Dir q) = refl

pub id_changed : (change : Change) (n : Node) → (changed change n).id ≡ n.id
id_changed (Time time) n = refl
id_changed (Mode mode) n = refl
id_changed (Owner owner group) n = refl
id_changed (NewQuota quota) n = refl
id_changed (Replication r) n = refl
id_changed Closed n = refl

pub dir_added : (block : Block) (n : Node) → is_dir (with_block block n).kind ≡ is_dir n.kind
dir_added block n = by n.kind
  where
    by : (k : Kind) → is_dir (add_block block k) ≡ is_dir k
    by (File r o bs) = refl
    by (Dir q) = refl

-- ---- the count of blocks

pub count_changed : (m : Nodes) (p : Names) (f : Node → Node) (node : Node) (n : ℕ) → get m p ≡ Some node → length (blocks_of (f node).kind) ≡ length (blocks_of node.kind) + n → block_count (change_at p f m) ≡ block_count m + n
count_changed m p f node n there more =
    let is : change_at p f m ≡ insert m p (f node) = ap (λ o. elim o as (λ _. Nodes) [ None ↦ m | Some x ↦ insert m p (f x) ]) there in
    let t = total-insert_old path_cmp paths_total paths_exact (λ p (x : Node). length (blocks_of x.kind)) m p (f node) node there in
    let s = ap block_count is in
    omega arith

pub blocks_added : (block : Block) (n : Node) → is_file n.kind ≡ true → length (blocks_of (with_block block n).kind) ≡ length (blocks_of n.kind) + 1
blocks_added block n file = by n.kind file
  where
    by : (k : Kind) → is_file k ≡ true → length (blocks_of (add_block block k)) ≡ length (blocks_of k) + 1
    by (File r o bs) h = length-append bs (block ∷ [])
    by (Dir q) h = cc

-- what stands at a path that is a file's
pub file_there : (m : Nodes) (p : Names) (node : Node) → get m p ≡ Some node → is_file_at m p ≡ true → is_file node.kind ≡ true
file_there m p node there h = sym (ap (λ o. option_map_or (λ (x : Node). is_file x.kind) o false) there) ∙ h
