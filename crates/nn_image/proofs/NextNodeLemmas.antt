-- The next node has its place, or the assembly ends there.
use Rattle.std.proofs.Common.{◌≡◌, ◌≢◌, ℕ, ◌+◌, ◌<◌, ◌≤◌, ◌⊎◌, inl, inr, Bool, true, false, cond, List, [], ◌∷◌, ◌++◌, length, refl, sym, ap, ◌∙◌, arith, length-append}
use Rattle.std.specs.Prelude.{MatchOption, Option, Some, None, option_and_then}
use Rattle.nn_base.specs.Limits.{most_levels, most_path, most_nodes, most_blocks}
use Rattle.nn_base.specs.Paths.{Bytes, Names, is_name, joined}
use Rattle.nn_base.proofs.PathsLemmas.{joined_push}
use Rattle.nn_tree.specs.declared.spot.Spot.{Spot}
use Rattle.nn_tree.specs.declared.node.Kind.{Kind}
use Rattle.nn_tree.specs.Nodes.{blocks_of}
use Rattle.nn_tree.specs.Namespace.{Nodes, node_count, block_count}
use Rattle.nn_image.specs.declared.open_dir.OpenDir.{OpenDir}
use Rattle.nn_message.specs.Messages.{Inode}
use Rattle.nn_image.specs.Assembly.{Owned, use_names, Level, Place, Partial, waiting, placed, has_room, with_node, put_node, add_inode}
use Rattle.nn_image.specs.Building.{IsOpen, AreOpen}
use Rattle.nn_image.proofs.PlacedLemmas.{placed_so, HasRoom, room_so}

-- ---- no place

pub placed_none : (levels : List Level) (inode : Inode) → levels ≡ [] → placed levels inode ≡ None
unfolding placed
placed_none levels inode none = ap (λ l. placed l inode) none

-- a node whose name is none stands nowhere
pub placed_unnamed : (levels : List Level) (inode : Inode) → is_name inode.name ≢ true → placed levels inode ≡ None
placed_unnamed levels inode unnamed = by (placed levels inode) refl
  where
    by : (o : Option Place) → placed levels inode ≡ o → placed levels inode ≡ None
    by None is = is
    by (Some place) is = absurd (unnamed (placed_so levels inode place is).named)

-- ---- the place, as the calls find it

abbrev pub Stands : Option OpenDir → List OpenDir → (Spot → Bool) → (Spot → Names) → List Level → Inode → Type 0
Stands result dirs has place levels inode = MatchOption result (placed levels inode ≡ None) (λ dir. (level : Level) × (outer : List Level) ×
    (placed levels inode ≡ Some (record { path = level.path ++ inode.name ∷ []; levels = level ∷ outer })) × IsOpen has place dir level × AreOpen has place dirs outer)

pub stands_so : (result : Option OpenDir) (dirs : List OpenDir) (has : Spot → Bool) (place : Spot → Names) (levels : List Level) (inode : Inode) (level : Level) (outer : List Level) (name : Bytes)
    → levels ≡ level ∷ outer → inode.name ≡ name → AreOpen has place dirs outer
    → MatchOption result (placed (level ∷ outer) inode ≡ None) (λ next. (after : Level) × (after.path ≡ level.path) ×
    (placed (level ∷ outer) inode ≡ Some (record { path = level.path ++ name ∷ []; levels = after ∷ outer })) × IsOpen has place next after)
    → Stands result dirs has place levels inode
stands_so None dirs has place levels inode level outer name are is others found = ap (λ l. placed l inode) are ∙ found
stands_so (Some dir) dirs has place levels inode level outer name are is others found =
    (found.0, outer, ap (λ l. placed l inode) are ∙ found.2 ∙ (λ i. Some (record { path = sym found.1 i ++ sym is i ∷ []; levels = found.0 ∷ outer })), found.3, others)

-- ---- why no node is added

pub unowned : (table : List Bytes) (h : Partial) (inode : Inode) → use_names table h.used inode.attributes ≡ None → add_inode table h inode ≡ None
unfolding add_inode
unowned table h inode none = ap (option_and_then (λ owned. option_and_then (λ place. put_node h owned place inode) (placed (waiting h.levels) inode))) none

pub unplaced : (table : List Bytes) (h : Partial) (inode : Inode) → placed (waiting h.levels) inode ≡ None → add_inode table h inode ≡ None
unfolding add_inode
unplaced table h inode none = by (use_names table h.used inode.attributes)
  where
    by : (o : Option Owned) → option_and_then (λ owned. option_and_then (λ place. put_node h owned place inode) (placed (waiting h.levels) inode)) o ≡ None
    by None = refl
    by (Some owned) = ap (option_and_then (λ place. put_node h owned place inode)) none

pub no_room : (table : List Bytes) (h : Partial) (inode : Inode) (place : Place) → placed (waiting h.levels) inode ≡ Some place → (HasRoom h.nodes place.path inode.kind → ⊥) → add_inode table h inode ≡ None
unfolding add_inode put_node
no_room table h inode place at full = by (use_names table h.used inode.attributes)
  where
    closed : (b : Bool) → has_room h.nodes place.path inode.kind ≡ b → (owned : Owned) → cond b (Some (with_node h owned place inode)) None ≡ None
    closed true is owned = absurd (full (room_so h.nodes place.path inode.kind is))
    closed false is owned = refl

    by : (o : Option Owned) → option_and_then (λ owned. option_and_then (λ place. put_node h owned place inode) (placed (waiting h.levels) inode)) o ≡ None
    by None = refl
    by (Some owned) =
        ap (option_and_then (λ place. put_node h owned place inode)) at ∙ closed (has_room h.nodes place.path inode.kind) refl owned

-- the path of a child
pub child_levels : (p : Names) (name : Bytes) → length (p ++ name ∷ []) ≡ length p + 1
child_levels p name = omega (arith, length-append p (name ∷ []))

pub path_too_long : (m : Nodes) (level : Level) (name : Bytes) (kind : Kind) (names text : ℕ) → names ≡ length level.path → text ≡ length (joined level.path)
    → (most_levels < names + 1) ⊎ (most_path < text + (1 + length name)) → HasRoom m (level.path ++ name ∷ []) kind → ⊥
path_too_long m level name kind names text is_names is_text (inl many) room = let most = room.levels in omega (arith, child_levels level.path name, most, many)
path_too_long m level name kind names text is_names is_text (inr long) room = let most = room.size in omega (arith, joined_push level.path name, most, long)

pub too_many : (m : Nodes) (path : Names) (kind : Kind) (inodes blocks : ℕ) → inodes ≡ node_count m → blocks ≡ block_count m
    → (most_nodes ≤ inodes) ⊎ (most_blocks < blocks + length (blocks_of kind)) → HasRoom m path kind → ⊥
too_many m path kind inodes blocks is_inodes is_blocks (inl many) room = let most = room.nodes in omega (arith, most, many)
too_many m path kind inodes blocks is_inodes is_blocks (inr many) room = let most = room.blocks in omega (arith, most, many)
