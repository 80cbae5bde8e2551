-- For callers: a body that fits, done on a namespace that can be saved, gives one that can.
use Rattle.std.proofs.Common.{◌≡◌, ◌≢◌, ℕ, ◌+◌, ◌*◌, Bool, true, false, not, ◌||◌, List, [], ◌∷◌, ◌++◌, length, Option, Some, None, refl, sym, ap, subst, ◌∙◌, arith}
use Rattle.std.specs.Option.{is_none}
use Rattle.std.specs.FinMap.{get, insert}
use Rattle.std.proofs.lemmas.Bool.{leb-true, eqb-false, and_parts}
use Rattle.std.proofs.lemmas.List.Elements.{All-contains, Contains-push}
use Rattle.nn_base.specs.Paths.{Names, IsPath, is_name, is_under, joined}
use Rattle.nn_quota.specs.declared.quota.Quota.{Quota}
use Rattle.nn_tree.specs.declared.node.Block.{Block}
use Rattle.nn_tree.specs.declared.node.Kind.{Kind}
use Rattle.nn_tree.specs.declared.node.Kind.TheVariants.{File, Dir}
use Rattle.nn_tree.specs.declared.node.Node.{Node}
use Rattle.nn_tree.specs.declared.node.Change.{Change}
use Rattle.nn_tree.specs.declared.node.Change.TheVariants.{Time, Mode, Owner, Quota as NewQuota, Replication, Closed}
use Rattle.nn_tree.specs.Nodes.{is_dir, blocks_of, no_quota}
use Rattle.nn_tree.specs.Namespace.{Namespace, Nodes, is_dir_at, usage_of}
use Rattle.nn_tree.specs.Limits.{IsNode, IsBlock, IsWithinLimits}
use Rattle.nn_tree.specs.Changes.{with_nodes, changed, with_quota, with_replication, closed, move, cut, moved}
use Rattle.nn_tree.specs.Imaged.{IsImaged}
use Rattle.nn_tree.proofs.LinksLemmas.{paths_total, paths_exact}
use Rattle.nn_tree.proofs.FormedLemmas.{CanGo}
use Rattle.nn_tree.proofs.ImagedLemmas.{HasQuota, IsShort, imaged_insert, imaged_change, imaged_block, imaged_cut, imaged_move}
use Rattle.nn_record.specs.declared.op.Op.{Op}
use Rattle.nn_record.specs.declared.op.Op.TheVariants.{Add, RenameOld, Delete, Mkdir, SetReplication, SetPermissions, SetOwner, Close, SetQuota, EndLogSegment, StartLogSegment, AddBlock}
use Rattle.nn_record.specs.Ops.{IsOp}
use Rattle.nn_ops.specs.declared.refusal.OpRefusal.TheVariants.{NotFound, NotDir, Under, Root, Quota as OverQuota, Limit}
use Rattle.nn_ops.specs.Above.{parent_of, is_above, has_room, has_room_but, one_name, bytes_more}
use Rattle.nn_ops.specs.Bounds.{is_full, is_full_at, is_bad_replication, is_bad_length, is_zero, is_short, moves_short}
use Rattle.nn_ops.specs.Changes.{IsChange}
use Rattle.nn_base.specs.First.{when, first_of}
use Rattle.nn_base.specs.Limits.{most_levels, most_path, IsLong}
use Rattle.nn_ops.specs.Refusals.{Test, walk}
use Rattle.nn_ops.specs.Commands.{free_tests, room_tests, node_tests, file_tests, open_tests, replication_at, growth_at, is_root}
use Rattle.nn_ops.specs.Effects.{change, touch, put_node, new_node, effect}
use Rattle.nn_ops.specs.Plans.{path_of}
use Rattle.nn_ops.specs.Step.{Fits}
use Rattle.nn_base.proofs.FirstLemmas.{untrue, true_instead}
use Rattle.nn_ops.proofs.RefusalLemmas.{first_passed, rest_passed, front_passed, back_passed, left_false}
use Rattle.nn_ops.proofs.WalkLemmas.{last_of, below_root}
use Rattle.nn_ops.proofs.BoundLemmas.{not_full, file_not_full, good_replication, good_length}
use Rattle.nn_ops.proofs.NodeLemmas.{free_name, in_directory, limits_new, limits_changed, limits_added}
use Rattle.nn_ops.proofs.ReadyLemmas.{dir_kind, file_kind, outside}
use Rattle.nn_ops.proofs.EntriesLemmas.{not_all_by_get}

-- ---- a change of one node

-- the kind stays, and its blocks
record KeepsKind (old new : Kind) : Type 0 where
  dir : is_dir new ≡ is_dir old
  blocks : blocks_of new ≡ blocks_of old

kept_as_is : (kind : Kind) → KeepsKind kind kind
kept_as_is kind = record { dir = refl; blocks = refl }

quota_kept : (quota : Quota) (kind : Kind) → KeepsKind kind (with_quota quota kind)
quota_kept quota (File replication is_open blocks) = record { dir = refl; blocks = refl }
quota_kept quota (Dir old) = record { dir = refl; blocks = refl }

replication_kept : (replication : ℕ) (kind : Kind) → KeepsKind kind (with_replication replication kind)
replication_kept replication (File old is_open blocks) = record { dir = refl; blocks = refl }
replication_kept replication (Dir quota) = record { dir = refl; blocks = refl }

closed_kept : (kind : Kind) → KeepsKind kind (closed kind)
closed_kept (File replication is_open blocks) = record { dir = refl; blocks = refl }
closed_kept (Dir quota) = record { dir = refl; blocks = refl }

kind_kept : (new : Change) (x : Node) → KeepsKind x.kind (changed new x).kind
kind_kept (Time time) x = kept_as_is x.kind
kind_kept (Mode mode) x = kept_as_is x.kind
kind_kept (Owner owner group) x = kept_as_is x.kind
kind_kept (NewQuota quota) x = quota_kept quota x.kind
kind_kept (Replication replication) x = replication_kept replication x.kind
kind_kept Closed x = closed_kept x.kind

id_kept : (new : Change) (x : Node) → (changed new x).id ≡ x.id
id_kept (Time time) x = refl
id_kept (Mode mode) x = refl
id_kept (Owner owner group) x = refl
id_kept (NewQuota quota) x = refl
id_kept (Replication replication) x = refl
id_kept Closed x = refl

-- a quota of names that is set isn't 0
abbrev SetsQuota : Change → Type 0
SetsQuota (Time time) = Unit {0}
SetsQuota (Mode mode) = Unit {0}
SetsQuota (Owner owner group) = Unit {0}
SetsQuota (NewQuota quota) = quota.names ≢ Some 0
SetsQuota (Replication replication) = Unit {0}
SetsQuota Closed = Unit {0}

quota_set : (quota : Quota) (kind : Kind) → quota.names ≢ Some 0 → HasQuota kind → HasQuota (with_quota quota kind)
quota_set quota (File replication is_open blocks) sets h = h
quota_set quota (Dir old) sets h = sets

quota_same : (replication : ℕ) (kind : Kind) → HasQuota kind → HasQuota (with_replication replication kind)
quota_same replication (File old is_open blocks) h = h
quota_same replication (Dir quota) h = h

quota_closed : (kind : Kind) → HasQuota kind → HasQuota (closed kind)
quota_closed (File replication is_open blocks) h = h
quota_closed (Dir quota) h = h

sets_quota : (new : Change) → SetsQuota new → (x : Node) → HasQuota x.kind → HasQuota (changed new x).kind
sets_quota (Time time) sets x h = h
sets_quota (Mode mode) sets x h = h
sets_quota (Owner owner group) sets x h = h
sets_quota (NewQuota quota) sets x h = quota_set quota x.kind sets h
sets_quota (Replication replication) sets x h = quota_same replication x.kind h
sets_quota Closed sets x h = quota_closed x.kind h

change_imaged : (ns : Namespace) (p : Names) (new : Change) → IsChange new → SetsQuota new → IsImaged ns → IsImaged (with_nodes ns (change p new ns.nodes))
change_imaged ns p new ok sets h =
    imaged_change ns p (changed new) h (record { id = id_kept new; dir = λ x. (kind_kept new x).dir; blocks = λ x. (kind_kept new x).blocks }) (sets_quota new sets) (limits_changed ns.nodes p new h.limits ok)

touch_imaged : (ns : Namespace) (p : Names) (time : ℕ) → IsLong time → IsImaged ns → IsImaged (with_nodes ns (touch p time ns.nodes))
touch_imaged ns p time ok h = change_imaged ns p (Time time) ok tt h

-- ---- a node more

put_imaged : (ns : Namespace) (path : Names) (node : Node) → first_of (free_tests ns.nodes path) ≡ None → is_full ns ≡ false → IsPath path → IsNode node → node.id ≡ ns.counters.inode + 1 → blocks_of node.kind ≡ [] → HasQuota node.kind
    → IsImaged ns → IsImaged (put_node path node ns)
put_imaged ns path node free few ok bounds next empty quota h =
    let none = free_name ns.nodes path free in
    let above = parent_of path in
    let last = last_of path (below_root ns.nodes h.formed path none) in
    let limits = limits_new ns.nodes path node h.limits none bounds empty (not_full ns few) in
    let made = imaged_insert ns above last.0 node h (ap (get ns.nodes) (sym last.1) ∙ none)
    (in_directory ns.nodes above last.0 (subst (λ (p : Names). first_of (free_tests ns.nodes p) ≡ None) last.1 free))
    (subst IsPath last.1 ok) (subst (λ (p : Names). IsWithinLimits (insert ns.nodes p node)) last.1 limits) next bounds.id empty quota in
    touch_imaged (record { nodes = insert ns.nodes path node; counters = record ns.counters { inode = node.id } }) above node.time bounds.time
    (subst (λ (p : Names). IsImaged (record { nodes = insert ns.nodes p node; counters = record ns.counters { inode = node.id } })) (sym last.1) made)

room_left : (ns : Namespace) (path : Names) → first_of (room_tests ns path) ≡ None → is_full ns ≡ false
room_left ns path h = untrue (is_full ns) Limit (first_passed _ (when (not (has_room ns.nodes one_name path)) OverQuota ∷ []) h)

-- ---- a block more

some_there : (o : Option Node) → is_none o ≡ false → (x : Node) × (o ≡ Some x)
some_there None h = cc
some_there (Some x) h = (x, refl)

block_imaged : (ns : Namespace) (path : Names) (id stamp len : ℕ) → IsLong id → IsLong stamp → id ≡ ns.counters.block + 1 → stamp ≡ ns.counters.stamp + 1
    → first_of (open_tests ns.nodes path ++ (when (is_bad_length len) Limit ∷ when (is_full_at ns path) Limit ∷ when (not (has_room ns.nodes (bytes_more (replication_at ns.nodes path * len)) path)) OverQuota ∷ [])) ≡ None
    → IsImaged ns → IsImaged (effect (AddBlock path id stamp len) ns)
block_imaged ns path id stamp len i s next next_stamp passed h =
    let block : Block = record { id = id; stamp = stamp; length = len } in
    let room : List Test = when (not (has_room ns.nodes (bytes_more (replication_at ns.nodes path * len)) path)) OverQuota ∷ [] in
    let last : List Test = when (is_bad_length len) Limit ∷ when (is_full_at ns path) Limit ∷ room in
    let front = front_passed (open_tests ns.nodes path) last passed in
    let rest = back_passed (open_tests ns.nodes path) last passed in
    let x = some_there (get ns.nodes path) (untrue (is_none (get ns.nodes path)) NotFound (first_passed _ _ (rest_passed (walk ns.nodes path) _ front))) in
    let good = good_length len (untrue (is_bad_length len) Limit (first_passed _ (when (is_full_at ns path) Limit ∷ room) rest)) in
    let few = file_not_full ns path (untrue (is_full_at ns path) Limit (first_passed _ room (rest_passed (when (is_bad_length len) Limit) (when (is_full_at ns path) Limit ∷ room) rest))) in
    let bounds : IsBlock block = record { id = i; stamp = s; some = good.0; few = omega (arith, good.1) } in
    imaged_block ns path block x.0 h x.1 (limits_added ns.nodes path block x.0 h.limits x.1 bounds few.0 few.1) next next_stamp i s

-- ---- a node moves

short_is : (p : Names) → is_short p ≡ true → IsShort p
short_is p h = let both = and_parts _ _ h in record { levels = leb-true (length p) most_levels both.0; size = leb-true (length (joined p)) most_path both.1 }

short_moved : (m : Nodes) (s d : Names) → moves_short m s d ≡ true → (r : Names) (x : Node) → get m r ≡ Some x → is_under s r ≡ true → IsShort (moved s d r)
short_moved m s d h r x is under = by (is_short (moved s d r)) refl
  where
    by : (b : Bool) → is_short (moved s d r) ≡ b → IsShort (moved s d r)
    by true e = short_is (moved s d r) e
    by false e =
        let long = not_all_by_get paths_total paths_exact (λ e. not (is_under s e.0) || is_short (moved s d e.0)) m r x is (λ i. not (under i) || e i) in
        let z : false ≡ true = sym long ∙ h in
        cc

move_imaged : (ns : Namespace) (from to : Names) (time : ℕ) → Fits ns (RenameOld from to time) → IsLong time → IsPath to → IsImaged ns → IsImaged (effect (RenameOld from to time) ns)
move_imaged ns from to time fits ok path h =
    let m = ns.nodes in
    let room : List Test = when (not (has_room_but m (λ q. is_above q from) (usage_of m from) to)) OverQuota ∷ [] in
    let last : List Test = when (not (moves_short m from to)) Limit ∷ room in
    let under : List Test = when (is_above from to) Under ∷ (free_tests m to ++ last) in
    let root = left_false (is_root from) (is_root to) (untrue (is_root from || is_root to) Root (first_passed _ (node_tests m from ++ under) fits.0)) in
    let behind = back_passed (node_tests m from) under (rest_passed (when (is_root from || is_root to) Root) (node_tests m from ++ under) fits.0) in
    let apart = untrue (is_above from to) Under (first_passed _ (free_tests m to ++ last) behind) in
    let ends = rest_passed (when (is_above from to) Under) (free_tests m to ++ last) behind in
    let free = front_passed (free_tests m to) last ends in
    let short = true_instead (moves_short m from to) Limit (first_passed _ room (back_passed (free_tests m to) last ends)) in
    let none = free_name m to free in
    let name = last_of to (below_root m h.formed to none) in
    let above = parent_of to in
    let not_root : from ≢ [] = λ e. (let is : is_root from ≡ true = ap is_root e in cc (root, is)) in
    let can : CanGo m from (above ++ name.0 ∷ []) = record { formed = h.formed; below_root = not_root; free = ap (get m) (sym name.1) ∙ none } in
    let named : is_name name.0 ≡ true = All-contains (λ n. is_name n ≡ true) (above ++ name.0 ∷ []) name.0 (subst IsPath name.1 path).named (Contains-push above name.0) in
    let went = imaged_move ns from above name.0 can h (in_directory m above name.0 (subst (λ (p : Names). first_of (free_tests m p) ≡ None) name.1 free))
    (outside from above name.0 (subst (λ (p : Names). is_above from p ≡ false) name.1 apart)) named
    (subst (λ (d : Names). (r : Names) (x : Node) → get m r ≡ Some x → is_under from r ≡ true → IsShort (moved from d r)) name.1 (short_moved m from to short)) in
    let first = subst (λ (d : Names). IsImaged (with_nodes ns (move from d m))) (sym name.1) went in
    let second = touch_imaged (with_nodes ns (move from to m)) (parent_of from) time ok first in
    touch_imaged (with_nodes ns (touch (parent_of from) time (move from to m))) above time ok second

-- ---- each body

not_zero : (o : Option ℕ) → is_zero o ≡ false → o ≢ Some 0
not_zero None h = λ e. cc
not_zero (Some n) h = λ e. (let z : n ≡ 0 = cc in eqb-false n 0 h z)

pub effect_imaged : (ns : Namespace) (op : Op) → Fits ns op → IsOp op → IsPath (path_of op) → IsImaged ns → IsImaged (effect op ns)
effect_imaged ns (Mkdir inode path time owner group mode) fits bounds ok h =
    let next : inode ≡ ns.counters.inode + 1 = (let e = fits.1 in cc) in
    let free = front_passed (free_tests ns.nodes path) (room_tests ns path) fits.0 in
    let room = room_left ns path (back_passed (free_tests ns.nodes path) (room_tests ns path) fits.0) in
    put_imaged ns path (new_node inode time owner group mode (Dir no_quota)) free room ok (record { id = bounds.0; mode = bounds.2; time = bounds.1; kind = dir_kind }) next refl (λ e. cc) h
effect_imaged ns (Add inode path replication time owner group mode) fits bounds ok h =
    let next : inode ≡ ns.counters.inode + 1 = (let e = fits.1 in cc) in
    let last : List Test = when (is_bad_replication replication) Limit ∷ room_tests ns path in
    let free = front_passed (free_tests ns.nodes path) last fits.0 in
    let rest = back_passed (free_tests ns.nodes path) last fits.0 in
    let good = good_replication replication (untrue (is_bad_replication replication) Limit (first_passed _ (room_tests ns path) rest)) in
    let room = room_left ns path (rest_passed (when (is_bad_replication replication) Limit) (room_tests ns path) rest) in
    put_imaged ns path (new_node inode time owner group mode (File replication true [])) free room ok (record { id = bounds.0; mode = bounds.2; time = bounds.1; kind = file_kind replication good.0 good.1 }) next refl (λ e. cc) h
effect_imaged ns (AddBlock path id stamp len) fits bounds ok h =
    let next : id ≡ ns.counters.block + 1 = (let e = fits.1 in cc) in
    let next_stamp : stamp ≡ ns.counters.stamp + 1 = (let e = fits.1 in cc) in
    block_imaged ns path id stamp len bounds.0 bounds.1 next next_stamp fits.0 h
effect_imaged ns (RenameOld from to time) fits bounds ok h = move_imaged ns from to time fits bounds ok h
effect_imaged ns (Delete path time) fits bounds ok h =
    let root = untrue (is_root path) Root (first_passed _ (node_tests ns.nodes path) fits.0) in
    let not_root : path ≢ [] = λ e. (let is : is_root path ≡ true = ap is_root e in cc (root, is)) in
    touch_imaged (with_nodes ns (cut path ns.nodes)) (parent_of path) time bounds (imaged_cut ns path not_root h)
effect_imaged ns (SetReplication path replication) fits bounds ok h =
    let room : List Test = when (not (has_room ns.nodes (bytes_more (growth_at ns.nodes path replication)) path)) OverQuota ∷ [] in
    let last : List Test = when (is_bad_replication replication) Limit ∷ room in
    let good = good_replication replication (untrue (is_bad_replication replication) Limit (first_passed _ room (back_passed (file_tests ns.nodes path) last fits.0))) in
    change_imaged ns path (Replication replication) good tt h
effect_imaged ns (SetPermissions path mode) fits bounds ok h = change_imaged ns path (Mode mode) bounds tt h
effect_imaged ns (SetOwner path owner group) fits bounds ok h = change_imaged ns path (Owner owner group) tt tt h
effect_imaged ns (Close path time) fits bounds ok h =
    touch_imaged (with_nodes ns (change path Closed ns.nodes)) path time bounds (change_imaged ns path Closed tt tt h)
effect_imaged ns (SetQuota path quota) fits bounds ok h =
    let last : List Test = when (not (is_dir_at ns.nodes path)) NotDir ∷ when (is_zero quota.names) Limit ∷ [] in
    let rest = rest_passed (when (not (is_dir_at ns.nodes path)) NotDir) (when (is_zero quota.names) Limit ∷ []) (back_passed (node_tests ns.nodes path) last fits.0) in
    change_imaged ns path (NewQuota quota) bounds (not_zero quota.names (untrue (is_zero quota.names) Limit (first_passed _ [] rest))) h
effect_imaged ns EndLogSegment fits bounds ok h = h
effect_imaged ns StartLogSegment fits bounds ok h = h
