-- What a plan that is ready says of the single works.
use Rattle.std.proofs.Common.{◌≡◌, ◌≢◌, ◌<◌, ◌≤◌, ◌+◌, ℕ, Bool, true, false, not, ◌&&◌, ◌||◌, List, [], ◌∷◌, ◌++◌, length, drop, Some, None, refl, sym, ap, subst, ◌∙◌, arith, length-append}
use Rattle.nn_base.specs.Paths.{Names, Bytes, is_under}
use Rattle.nn_tree.specs.declared.spot.Spot.{Spot}
use Rattle.nn_tree.specs.declared.node.Kind.TheVariants.{File, Dir}
use Rattle.nn_tree.specs.declared.node.Node.{Node}
use Rattle.nn_tree.specs.Nodes.{no_quota, blocks_of}
use Rattle.nn_tree.specs.Namespace.{Namespace, usage_of}
use Rattle.nn_tree.specs.Limits.{IsNode, IsKind}
use Rattle.nn_tree.specs.Spots.{Spare}
use Rattle.nn_record.specs.declared.op.Op.{Op}
use Rattle.nn_record.specs.declared.op.Op.TheVariants.{Add, RenameOld, Delete, Mkdir, SetReplication, SetPermissions, SetOwner, Close, SetQuota, EndLogSegment, StartLogSegment, AddBlock}
use Rattle.nn_ops.specs.declared.plan.Target.TheVariants.{New, Move}
use Rattle.nn_base.specs.First.{when, first_of}
use Rattle.nn_base.specs.Limits.{most_replication}
use Rattle.nn_ops.specs.Refusals.{Test}
use Rattle.nn_ops.specs.Commands.{free_tests, room_tests, node_tests, is_root}
use Rattle.nn_ops.specs.Above.{is_above, has_room, has_room_but, one_name}
use Rattle.nn_ops.specs.Bounds.{is_full, is_bad_replication, moves_short}
use Rattle.nn_ops.specs.declared.refusal.OpRefusal.TheVariants.{Under, Root, Quota, Limit}
use Rattle.nn_ops.specs.Effects.{new_node}
use Rattle.nn_ops.specs.Plans.{IsReady, CanPut, CanMove}
use Rattle.nn_base.proofs.FirstLemmas.{untrue}
use Rattle.nn_ops.proofs.RefusalLemmas.{first_passed, rest_passed, front_passed, back_passed, left_false}
use Rattle.nn_tree.proofs.PrefixLemmas.{under_split, under_push, not_under_longer}
use Rattle.nn_ops.proofs.BoundLemmas.{not_full, good_replication}
use Rattle.nn_ops.proofs.NodeLemmas.{for_some}

-- ---- new nodes

pub dir_kind : IsKind (Dir no_quota)
dir_kind = record { replicated = λ r is. cc; few = omega arith; blocks = λ k d lt. absurd (omega arith); names = λ n is. cc; space = λ n is. cc }

pub file_kind : (r : ℕ) → 0 < r → r ≤ most_replication → IsKind (File r true [])
file_kind r some few = record {
  replicated = for_some (λ r. (0 < r) × (r ≤ most_replication)) (Some r) (some, few);
  few = omega arith;
  blocks = λ k d lt. absurd (omega arith);
  names = λ n is. cc;
  space = λ n is. cc;
}

module _ (parent : Spot) (name : Bytes) (node : Node) (has : Spot → Bool) (place : Spot → Names) (spare : Spare) (ns : Namespace) where
  -- by the tests of the path, and the bounds of the node
  can_put_at : (path : Names) (new : Node) → has parent ≡ true → path ≡ place parent ++ name ∷ [] → node ≡ new → spare.node ≡ true
      → first_of (free_tests ns.nodes path) ≡ None → is_full ns ≡ false → IsNode new → blocks_of new.kind ≡ [] → CanPut parent name node has place spare ns
  can_put_at path new there is same room free few ok empty = record {
    there = there;
    free = subst (λ (p : Names). first_of (free_tests ns.nodes p) ≡ None) is free;
    few = not_full ns few;
    bounds = subst IsNode (sym same) ok;
    empty = ap (λ (n : Node). blocks_of n.kind) same ∙ empty;
    room = room;
  }

  pub can_put : (op : Op) → IsReady (record { op = op; target = New parent name node }) has place spare ns → CanPut parent name node has place spare ns
  can_put (Mkdir inode path time owner group mode) h =
      can_put_at path (new_node inode time owner group mode (Dir no_quota)) h.target.0.0 h.target.0.1 h.target.1 h.target.2
      (front_passed (free_tests ns.nodes path) (room_tests ns path) h.fits.0)
      (untrue (is_full ns) Limit (first_passed _ (when (not (has_room ns.nodes one_name path)) Quota ∷ []) (back_passed (free_tests ns.nodes path) (room_tests ns path) h.fits.0)))
      (record { id = h.bounds.0; mode = h.bounds.2; time = h.bounds.1; kind = dir_kind }) refl
  can_put (Add inode path replication time owner group mode) h =
      let rest = back_passed (free_tests ns.nodes path) (when (is_bad_replication replication) Limit ∷ room_tests ns path) h.fits.0 in
      let good = good_replication replication (untrue (is_bad_replication replication) Limit (first_passed _ (room_tests ns path) rest)) in
      can_put_at path (new_node inode time owner group mode (File replication true [])) h.target.0.0 h.target.0.1 h.target.1 h.target.2
      (front_passed (free_tests ns.nodes path) (when (is_bad_replication replication) Limit ∷ room_tests ns path) h.fits.0)
      (untrue (is_full ns) Limit (first_passed _ (when (not (has_room ns.nodes one_name path)) Quota ∷ []) (rest_passed (when (is_bad_replication replication) Limit) (room_tests ns path) rest)))
      (record { id = h.bounds.0; mode = h.bounds.2; time = h.bounds.1; kind = file_kind replication good.0 good.1 }) refl
  can_put (AddBlock path id stamp len) h = absurd h.target.0
  can_put (RenameOld from to time) h = absurd h.target
  can_put (Delete path time) h = absurd h.target
  can_put (SetReplication path replication) h = absurd h.target
  can_put (SetPermissions path mode) h = absurd h.target
  can_put (SetOwner path owner group) h = absurd h.target
  can_put (Close path time) h = absurd h.target
  can_put (SetQuota path quota) h = absurd h.target
  can_put EndLogSegment h = absurd h.target
  can_put StartLogSegment h = absurd h.target

-- ---- moves

pub outside : (p q : Names) (name : Bytes) → is_above p (q ++ name ∷ []) ≡ false → is_under p q ≡ false
outside p q name h = elim (is_under p q) as (λ b. is_under p q ≡ b → b ≡ false) [
  | false ↦ λ e. refl
  | true ↦ λ e.
      let long : length q ≡ length p + length (drop (length p) q) = ap length (under_split p q e) ∙ length-append p (drop (length p) q) in
      let longer : length (q ++ name ∷ []) ≡ length q + 1 = length-append q (name ∷ []) in
      let other : p ≢ q ++ name ∷ [] = λ same. (let l : length p ≡ length (q ++ name ∷ []) = ap length same in omega arith) in
      let under = under_push p q name other ∙ e in
      let over = not_under_longer (q ++ name ∷ []) p (omega arith) in
      let so : is_above p (q ++ name ∷ []) ≡ true = λ i. under i && not (over i) in
      cc (h, so)
] refl

module _ (at parent : Spot) (name : Bytes) (has : Spot → Bool) (place : Spot → Names) (spare : Spare) (ns : Namespace) where
  pub can_move : (from to : Names) (time : ℕ) → IsReady (record { op = RenameOld from to time; target = Move at parent name }) has place spare ns → CanMove at parent name has place ns
  can_move from to time h =
      let last : List Test = when (not (moves_short ns.nodes from to)) Limit ∷ when (not (has_room_but ns.nodes (λ q. is_above q from) (usage_of ns.nodes from) to)) Quota ∷ [] in
      let under : List Test = when (is_above from to) Under ∷ (free_tests ns.nodes to ++ last) in
      let root = left_false (is_root from) (is_root to) (untrue (is_root from || is_root to) Root (first_passed _ (node_tests ns.nodes from ++ under) h.fits.0)) in
      let behind = back_passed (node_tests ns.nodes from) under (rest_passed (when (is_root from || is_root to) Root) (node_tests ns.nodes from ++ under) h.fits.0) in
      record {
        there = h.target.0;
        below_root = λ e. (let is : is_root from ≡ true = ap is_root (sym h.target.1 ∙ e) in cc (root, is));
        to = h.target.2.0;
        free = subst (λ (p : Names). first_of (free_tests ns.nodes p) ≡ None) h.target.2.1 (front_passed (free_tests ns.nodes to) last (rest_passed (when (is_above from to) Under) (free_tests ns.nodes to ++ last) behind));
        outside = (λ i. is_under (h.target.1 i) (place parent)) ∙ outside from (place parent) name (subst (λ (d : Names). is_above from d ≡ false) h.target.2.1 (untrue (is_above from to) Under (first_passed _ (free_tests ns.nodes to ++ last) behind)));
      }
