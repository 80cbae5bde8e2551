-- The limits of a namespace, where a command changes one node.
use Rattle.std.proofs.Common.{◌≡◌, ℕ, ◌+◌, ◌<◌, ◌≤◌, true, [], ◌∷◌, ◌++◌, length, Option, Some, None, refl, sym, ap, subst, arith, is_some, length-append}
use Rattle.std.specs.FinMap.{get, insert}
use Rattle.nn_base.specs.Paths.{Names, Bytes}
use Rattle.std.specs.Option.{ForSome, option_map_or}
use Rattle.std.specs.Prelude.{IfSome}
use Rattle.nn_quota.specs.declared.quota.Quota.{Quota}
use Rattle.nn_tree.specs.declared.node.Block.{Block}
use Rattle.nn_tree.specs.declared.node.Kind.{Kind}
use Rattle.nn_tree.specs.declared.node.Kind.TheVariants.{File, Dir}
use Rattle.nn_tree.specs.declared.node.Change.{Change}
use Rattle.nn_tree.specs.declared.node.Change.TheVariants.{Time, Mode, Owner, Quota as NewQuota, Replication, Closed}
use Rattle.nn_tree.specs.declared.node.Node.{Node}
use Rattle.nn_tree.specs.Nodes.{blocks_of}
use Rattle.nn_tree.specs.Namespace.{Nodes, node_count, block_count, is_dir_at}
use Rattle.nn_tree.specs.Walks.{Obstacle, Absent, AFile, obstacle}
use Rattle.nn_tree.specs.Limits.{IsNode, IsKind, IsBlock, IsWithinLimits}
use Rattle.nn_tree.specs.Changes.{change_at, changed, with_quota, with_replication, closed, with_block}
use Rattle.nn_tree.proofs.LimitsLemmas.{limits_insert, limits_time, limits_change_at, limits_block}
use Rattle.nn_tree.proofs.PlainClauses.{blocks_changed}
use Rattle.nn_ops.specs.declared.refusal.OpRefusal.TheVariants.{Exists}
use Rattle.nn_base.specs.First.{first_of, when}
use Rattle.nn_base.specs.Limits.{most_nodes, most_blocks, most_blocks_of_file, most_replication, IsLong}
use Rattle.nn_ops.specs.Refusals.{walk, refusal_by}
use Rattle.nn_ops.specs.Commands.{free_tests}
use Rattle.nn_ops.specs.Bounds.{blocks_at}
use Rattle.nn_quota.specs.Quotas.{IsQuota}
use Rattle.nn_ops.specs.Changes.{IsChange}
use Rattle.nn_ops.specs.Effects.{touch, change}
use Rattle.nn_ops.proofs.RefusalLemmas.{first_passed, rest_passed}
use Rattle.nn_ops.proofs.WalkLemmas.{parent_of_push, dir_above}

-- where there is no node, nothing changes
pub limits_touch : (m : Nodes) (p : Names) (time : ℕ) → IsWithinLimits m → IsLong time → IsWithinLimits (touch p time m)
limits_touch m p time h ok = by (get m p) refl
  where
    by : (o : Option Node) → get m p ≡ o → IsWithinLimits (touch p time m)
    by (Some node) is = limits_time m p time node h is ok
    by None is = subst IsWithinLimits (sym (ap (λ (o : Option Node). elim o as (λ _. Nodes) [ None ↦ m | Some node ↦ insert m p (record node { time = time }) ]) is)) h

-- a node more, without blocks
pub limits_new : (m : Nodes) (p : Names) (node : Node) → IsWithinLimits m → get m p ≡ None → IsNode node → blocks_of node.kind ≡ [] → node_count m < most_nodes → IsWithinLimits (insert m p node)
limits_new m p node h free ok empty few =
    let most = h.blocks in
    let none : length (blocks_of node.kind) ≡ 0 = ap length empty in
    let blocks : block_count m + length (blocks_of node.kind) ≤ most_blocks = omega arith in
    limits_insert m p node h free ok few blocks

-- ---- a new node

pub free_name : (m : Nodes) (p : Names) → first_of (free_tests m p) ≡ None → get m p ≡ None
free_name m p h = by (get m p) (rest_passed (walk m p) _ h)
  where
    by : (o : Option Node) → first_of (when (is_some o) Exists ∷ []) ≡ None → o ≡ None
    by None h = refl
    by (Some node) h = cc

pub in_directory : (m : Nodes) (q : Names) (name : Bytes) → first_of (free_tests m (q ++ name ∷ [])) ≡ None → is_dir_at m q ≡ true
in_directory m q name h =
    let deep : 0 < length (q ++ name ∷ []) = omega (arith, length-append q (name ∷ [])) in
    subst (λ (p : Names). is_dir_at m p ≡ true) (parent_of_push q name)
    (dir_above m (q ++ name ∷ []) deep (by (obstacle m (q ++ name ∷ [])) (first_passed (walk m (q ++ name ∷ [])) _ h)))
  where
    by : (o : Option Obstacle) → refusal_by o ≡ None → o ≡ None
    by None h = refl
    by (Some Absent) h = cc
    by (Some AFile) h = cc

-- ---- a change of a node

pub for_some : {A : Type 0} (P : A → Type 0) (o : Option A) → IfSome o P → ForSome o P
for_some P None h = λ x is. cc
for_some P (Some a) h = λ x is. let e : a ≡ x = cc in subst P e h

quota_kind : (quota : Quota) (kind : Kind) → IsKind kind → IsQuota quota → IsKind (with_quota quota kind)
quota_kind quota (File replication is_open blocks) h ok = h
quota_kind quota (Dir old) h ok = record {
  replicated = λ r is. cc;
  few = h.few;
  blocks = h.blocks;
  names = for_some IsLong quota.names ok.0;
  space = for_some IsLong quota.space ok.1;
}

replication_kind : (replication : ℕ) (kind : Kind) → IsKind kind → 0 < replication → replication ≤ most_replication → IsKind (with_replication replication kind)
replication_kind replication (File old is_open blocks) h some few = record {
  replicated = for_some (λ r. (0 < r) × (r ≤ most_replication)) (Some replication) (some, few);
  few = h.few;
  blocks = h.blocks;
  names = h.names;
  space = h.space;
}
replication_kind replication (Dir old) h some few = h

closed_kind : (kind : Kind) → IsKind kind → IsKind (closed kind)
closed_kind (File replication is_open blocks) h = record { replicated = h.replicated; few = h.few; blocks = h.blocks; names = h.names; space = h.space }
closed_kind (Dir quota) h = h

changed_node : (new : Change) (node : Node) → IsNode node → IsChange new → IsNode (changed new node)
changed_node (Time time) node h ok = record { id = h.id; mode = h.mode; time = ok; kind = h.kind }
changed_node (Mode mode) node h ok = record { id = h.id; mode = ok; time = h.time; kind = h.kind }
changed_node (Owner owner group) node h ok = record { id = h.id; mode = h.mode; time = h.time; kind = h.kind }
changed_node (NewQuota quota) node h ok = record { id = h.id; mode = h.mode; time = h.time; kind = quota_kind quota node.kind h.kind ok }
changed_node (Replication replication) node h ok = record { id = h.id; mode = h.mode; time = h.time; kind = replication_kind replication node.kind h.kind ok.0 ok.1 }
changed_node Closed node h ok = record { id = h.id; mode = h.mode; time = h.time; kind = closed_kind node.kind h.kind }

pub limits_changed : (m : Nodes) (p : Names) (new : Change) → IsWithinLimits m → IsChange new → IsWithinLimits (change p new m)
limits_changed m p new h ok = by (get m p) refl
  where
    by : (o : Option Node) → get m p ≡ o → IsWithinLimits (change p new m)
    by (Some node) is =
        let same = blocks_changed new node in
        let most = h.blocks in
        let blocks : block_count m + length (blocks_of (changed new node).kind) ≤ most_blocks + length (blocks_of node.kind) = omega arith in
        limits_change_at m p (changed new) node h is (changed_node new node (h.each p node is) ok) blocks
    by None is = subst IsWithinLimits (sym (ap (λ (o : Option Node). elim o as (λ _. Nodes) [ None ↦ m | Some node ↦ insert m p (changed new node) ]) is)) h

-- ---- a block more

pub limits_added : (m : Nodes) (p : Names) (block : Block) (node : Node) → IsWithinLimits m → get m p ≡ Some node → IsBlock block → blocks_at m p < most_blocks_of_file → block_count m < most_blocks → IsWithinLimits (change_at p (with_block block) m)
limits_added m p block node h is ok few room =
    let same : blocks_at m p ≡ length (blocks_of node.kind) = ap (λ (o : Option Node). option_map_or (λ node. length (blocks_of node.kind)) o 0) is in
    let few : length (blocks_of node.kind) < most_blocks_of_file = omega arith in
    limits_block m p block node h is ok few room
