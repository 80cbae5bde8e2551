-- A prepared node is put into a tree that is partly built.
use Rattle.std.proofs.Common.{◌≡◌, Bool, true, List, [], ◌∷◌, ◌++◌, length, sym, ap, subst, ◌∙◌, arith, length-append}
use Rattle.std.specs.Prelude.{All, Some, None, Result, Ok, Err, OnOk}
use Rattle.std.specs.FinMap.{get, insert}
use Rattle.std.proofs.lemmas.Grind.{flat_map-append}
use Rattle.std.proofs.lemmas.List.{length-map}
use Rattle.std.proofs.lemmas.List.Elements.{All-push}
use Rattle.nn_base.specs.Paths.{Bytes, Names, path_cmp}
use Rattle.nn_tree.specs.declared.spot.Spot.{Spot}
use Rattle.nn_tree.specs.declared.node.Block.{Block}
use Rattle.nn_tree.specs.declared.node.Node.{Node}
use Rattle.nn_tree.specs.Nodes.{blocks_of}
use Rattle.nn_tree.specs.Namespace.{Namespace, is_dir_at, node_count, block_count}
use Rattle.nn_tree.specs.Limits.{IsWithinLimits}
use Rattle.nn_tree.specs.Spots.{Keeps}
use Rattle.nn_tree.proofs.LinksLemmas.{paths_total}
use Rattle.nn_tree.proofs.TotalsLemmas.{total-insert}
use Rattle.nn_image.specs.declared.open_dir.OpenDir.{OpenDir}
use Rattle.nn_image.specs.declared.prepared.Prepared.{Prepared}
use Rattle.nn_image.specs.declared.half.Half.{Half}
use Rattle.nn_message.specs.Messages.{Inode, DirEntry, IsInode, IsDirEntry}
use Rattle.nn_image.specs.Assembly.{node_of, Level, Place, Partial, waiting, listing, opened, with_node, add_inode}
use Rattle.nn_image.specs.Building.{IsOpen, AreOpen, entries_text, blocks_among, IsNoted, IsPrepared, IsMade, IsHalf}
use Rattle.nn_image.proofs.NewNodeLemmas.{one_split}
use Rattle.nn_image.proofs.PlacedLemmas.{IsPlaced, placed_so, room_so, adds_back}
use Rattle.nn_image.proofs.PartialLemmas.{IsReady, ready}
use Rattle.nn_image.proofs.HalfLemmas.{made_on, made_partial}

-- ---- the directories held open stay so as the tree grows

pub kept_dir : (had has : Spot → Bool) (was is : Spot → Names) (dir : OpenDir) (level : Level) → Keeps had has was is (λ p. p) → IsOpen had was dir level → IsOpen has is dir level
kept_dir had has was is dir level keeps held = record {
  there = keeps.stays dir.spot held.there;
  path = keeps.same dir.spot held.there ∙ held.path;
  newest = held.newest;
  ids = held.ids;
  children = held.children;
  names = held.names;
  text = held.text;
}

pub kept_dirs : (had has : Spot → Bool) (was is : Spot → Names) (dirs : List OpenDir) (levels : List Level) → Keeps had has was is (λ p. p) → AreOpen had was dirs levels → AreOpen has is dirs levels
kept_dirs had has was is dirs [] keeps are = are
kept_dirs had has was is dirs (level ∷ outer) keeps are = (are.0, are.1, are.2, kept_dir had has was is are.0 level keeps are.3, kept_dirs had has was is are.1 outer keeps are.4)

pub on_ok : {A E : Type 0} (r : Result A E) (P Q : Type 0) → OnOk r P → (P → Q) → OnOk r Q
on_ok (Ok x) P Q h f = f h
on_ok (Err e) P Q h f = h

-- ---- one node more

module _ (half : Half) (ns : Namespace) (has : Spot → Bool) (place : Spot → Names) (table : List Bytes) (entries : List DirEntry) (done : List Inode) (h : Partial) (inode : Inode) (p : Prepared)
    (dirs : List OpenDir) (in_range : IsInode inode) (made : IsMade half ns table entries done h) (next : IsPrepared p dirs has place table h inode) where
  abbrev path : Names
  path = next.level.path ++ inode.name ∷ []

  abbrev stands_at : Place
  stands_at = record { path = path; levels = next.level ∷ next.outer }

  at : IsPlaced (waiting h.levels) inode stands_at
  at = placed_so (waiting h.levels) inode stands_at next.stands

  is_ready : IsReady h inode stands_at at.level.path
  is_ready = ready h inode stands_at (made_partial table entries done h made.ranges made.made) in_range at (room_so h.nodes path inode.kind next.room)

  parent_is : place p.parent.spot ≡ at.level.path
  parent_is = next.parent.path ∙ (one_split next.level.path at.level.path inode.name inode.name (ap (λ (p : Place). p.path) at.is)).0

  pub path_is : place p.parent.spot ++ p.name ∷ [] ≡ path
  path_is = λ i. next.parent.path i ++ next.name i ∷ []

  pub in_a_dir : is_dir_at ns.nodes (place p.parent.spot) ≡ true
  in_a_dir = (λ i. is_dir_at (made.nodes i) (parent_is i)) ∙ is_ready.dir

  pub is_free : get ns.nodes (place p.parent.spot ++ p.name ∷ []) ≡ None
  is_free = (λ i. get (made.nodes i) (path_is i)) ∙ is_ready.free

  inserted : insert ns.nodes (place p.parent.spot ++ p.name ∷ []) p.node ≡ insert h.nodes path (node_of next.owned inode)
  inserted = λ i. insert (made.nodes i) (path_is i) (next.node i)

  pub is_within : IsWithinLimits (insert ns.nodes (place p.parent.spot ++ p.name ∷ []) p.node)
  is_within = subst IsWithinLimits (sym inserted) (is_ready.limits next.owned)

  more_nodes : node_count (insert h.nodes path (node_of next.owned inode)) ≡ length (done ++ inode ∷ [])
  more_nodes =
      let more = total-insert path_cmp paths_total (λ (_ : Names) (_ : Node). 1) h.nodes path (node_of next.owned inode) is_ready.free in
      let was = made.inodes in
      omega (arith, more, was, length-append done (inode ∷ []))

  more_blocks : block_count (insert h.nodes path (node_of next.owned inode)) ≡ length (blocks_among (done ++ inode ∷ []))
  unfolding node_of
  more_blocks =
      let more = total-insert path_cmp paths_total (λ (_ : Names) (node : Node). length (blocks_of node.kind)) h.nodes path (node_of next.owned inode) is_ready.free in
      let was = made.blocks in
      let all = ap length (flat_map-append (λ (i : Inode). blocks_of i.kind) done (inode ∷ [])) in
      let one = length-append (blocks_of inode.kind) [] in
      omega (arith, more, was, all, one, length-append (blocks_among done) (blocks_of inode.kind ++ []))

  pub put_so : (after : Half) (ns' : Namespace) (has' : Spot → Bool) (place' : Spot → Names) → ns'.nodes ≡ insert ns.nodes (place p.parent.spot ++ p.name ∷ []) p.node → after.used ≡ p.used
      → IsNoted after.noted (done ++ inode ∷ []) → AreOpen has' place' after.dirs.items (opened inode.kind path (listing inode h.dir_entries).children (next.level ∷ next.outer))
      → after.directories.now ≡ entries_text (listing inode h.dir_entries).rest → All IsDirEntry (listing inode h.dir_entries).rest
      → (g : Partial) × (add_inode table h inode ≡ Some g) × IsHalf after ns' has' place' table entries (done ++ inode ∷ []) g
  unfolding with_node
  put_so after ns' has' place' nodes used noted are directories listed =
      let adds = adds_back table h inode next.owned stands_at next.uses next.stands (room_so h.nodes path inode.kind next.room) in (
        with_node h next.owned stands_at inode,
        adds,
        record {
          so_far = record {
            ranges = All-push IsInode done inode made.ranges in_range;
            made = made_on table entries done h (with_node h next.owned stands_at inode) inode made.made adds;
            nodes = nodes ∙ inserted;
            used = used ∙ next.used;
            listed = listed;
            directories = directories;
            noted = noted;
            inodes = more_nodes;
            blocks = more_blocks;
          };
          dirs = are;
        },
      )

-- ---- the directories held open are a matter of their own

pub made_still : (half after : Half) (ns : Namespace) (table : List Bytes) (entries : List DirEntry) (done : List Inode) (h : Partial) → after.used ≡ half.used → after.directories.now ≡ half.directories.now → after.noted ≡ half.noted
    → IsMade half ns table entries done h → IsMade after ns table entries done h
made_still half after ns table entries done h used directories noted made = record {
  ranges = made.ranges;
  made = made.made;
  nodes = made.nodes;
  used = used ∙ made.used;
  listed = made.listed;
  directories = directories ∙ made.directories;
  noted = subst (λ n. IsNoted n done) (sym noted) made.noted;
  inodes = made.inodes;
  blocks = made.blocks;
}

module _ (half : Half) (ns : Namespace) (table : List Bytes) (entries : List DirEntry) (done : List Inode) (h : Partial) (made : IsMade half ns table entries done h) where
  pub counted_nodes : length half.noted.inodes.items ≡ node_count h.nodes
  counted_nodes = ap length made.noted.inodes ∙ length-map done (λ (i : Inode). i.id) ∙ sym made.inodes

  pub counted_blocks : length half.noted.blocks.items ≡ block_count h.nodes
  counted_blocks = ap length made.noted.blocks ∙ length-map (blocks_among done) (λ (b : Block). b.id) ∙ sym made.blocks
