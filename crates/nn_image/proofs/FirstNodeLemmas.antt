-- The first node of an image, which is the root.
use Rattle.std.proofs.Common.{◌≡◌, ◌≢◌, ℕ, Bool, true, List, [], ◌∷◌, ◌++◌, length, map, refl, sym, ap, subst, ◌∙◌, arith}
use Rattle.std.specs.Prelude.{All, Option, Some, None, nat_le}
use Rattle.std.proofs.lemmas.List.Elements.{All-push}
use Rattle.std.specs.Borrow.{Bor}
use Rattle.std.specs.List.{list_all}
use Rattle.std.specs.FinMap.{insert, empty, get-empty}
use Rattle.std.proofs.lemmas.Bool.{false≢true}
use Rattle.nn_base.specs.Paths.{Bytes, Names, path_cmp}
use Rattle.nn_quota.specs.declared.quota.Quota.{Quota}
use Rattle.nn_tree.specs.declared.spot.Spot.{Spot}
use Rattle.nn_tree.specs.declared.node.Block.{Block}
use Rattle.nn_tree.specs.declared.node.Kind.{Kind}
use Rattle.nn_tree.specs.declared.node.Kind.TheVariants.{File, Dir}
use Rattle.nn_tree.specs.declared.node.Node.{Node}
use Rattle.nn_tree.specs.Nodes.{is_dir, blocks_of}
use Rattle.nn_tree.specs.Namespace.{Namespace, node_count, block_count}
use Rattle.nn_tree.proofs.LinksLemmas.{paths_total}
use Rattle.nn_tree.proofs.TotalsLemmas.{total-insert}
use Rattle.nn_tree.proofs.SlotsLemmas.{total-empty}
use Rattle.nn_image.specs.declared.noted.Noted.{Noted}
use Rattle.nn_image.specs.declared.half.Half.{Half}
use Rattle.nn_message.specs.declared.view.InodeView.{InodeView}
use Rattle.nn_message.specs.declared.view.KindView.{KindView}
use Rattle.nn_message.specs.declared.view.KindView.TheVariants as seen
use Rattle.nn_message.specs.Messages.{Inode, DirEntry, IsInode, IsDirEntry}
use Rattle.nn_message.specs.Views.{IsInodeView, IsKindView}
use Rattle.nn_image.specs.Assembly.{Owned, use_names, node_of, Partial, nothing_put, listing, opened, with_node, add_root}
use Rattle.nn_image.specs.Building.{AreOpen, entries_text, blocks_among, IsNoted, IsHalf}
use Rattle.nn_image.proofs.PlacedLemmas.{HasRoom, top_place, starts_back}
use Rattle.nn_image.proofs.AddingLemmas.{none_left, root_added}

pub no_blocks : (kind : Kind) → is_dir kind ≡ true → blocks_of kind ≡ []
no_blocks (File replication is_open blocks) dir = absurd (false≢true dir)
no_blocks (Dir quota) dir = refl

pub no_dir : (kind : Kind) (replication : ℕ) (is_open : Bool) (bytes : Bor (List ℕ)) → IsKindView (seen.File replication is_open bytes) kind → is_dir kind ≢ true
no_dir (File r o blocks) replication is_open bytes shows dir = false≢true dir
no_dir (Dir quota) replication is_open bytes shows dir = absurd shows

pub not_a_dir : (kind : Kind) (view : KindView) (replication : ℕ) (is_open : Bool) (bytes : Bor (List ℕ)) → view ≡ seen.File replication is_open bytes → IsKindView view kind → is_dir kind ≢ true
not_a_dir kind view replication is_open bytes is shows = no_dir kind replication is_open bytes (subst (λ k. IsKindView k kind) is shows)

pub a_dir : (kind : Kind) (quota : Quota) → Dir quota ≡ kind → is_dir kind ≡ true
a_dir kind quota is = ap is_dir (sym is)

pub the_dir : (kind : Kind) (quota : Quota) → IsKindView (seen.Dir quota) kind → Dir quota ≡ kind
the_dir (File r o blocks) quota shows = absurd shows
the_dir (Dir other) quota shows = ap Dir shows

pub refused : (o : Option Partial) → ((g : Partial) → o ≡ Some g → ⊥) → o ≡ None
refused None not = refl
refused (Some g) not = absurd (not g refl)

pub noted_root : (noted after : Noted) (inode : Inode) → IsNoted noted [] → after.inodes.items ≡ noted.inodes.items ++ 16385 ∷ [] → after.blocks.items ≡ noted.blocks.items → after.stamp ≡ noted.stamp
    → inode.id ≡ 16385 → is_dir inode.kind ≡ true → IsNoted after (inode ∷ [])
noted_root noted after inode was inodes blocks stamp id dir =
    let none : blocks_among (inode ∷ []) ≡ [] = ap (λ b. b ++ []) (no_blocks inode.kind dir) in
    record {
      inodes = inodes ∙ (λ i. was.inodes i ++ sym id i ∷ []);
      blocks = blocks ∙ was.blocks ∙ ap (λ bs. map (λ (b : Block). b.id) bs) (sym none);
      stamp = λ last. ap (λ s. nat_le s last) stamp ∙ was.stamp last ∙ ap (λ bs. list_all (λ (b : Block). nat_le b.stamp last) bs) (sym none);
    }

root_room : (entries : List DirEntry) (kind : Kind) → is_dir kind ≡ true → HasRoom (nothing_put entries).nodes [] kind
root_room entries kind dir =
    let nodes = total-empty {X = Node} path_cmp (λ _ _. 1) in
    let blocks = total-empty {X = Node} path_cmp (λ _ node. length (blocks_of node.kind)) in
    let none = ap length (no_blocks kind dir) in
    record { levels = omega arith; size = omega arith; nodes = omega (arith, nodes); blocks = omega (arith, blocks, none) }

module _ (table : List Bytes) (entries : List DirEntry) (inode : Inode) (owned : Owned) (in_range : IsInode inode) (unnamed : inode.name ≡ []) (id : inode.id ≡ 16385) (dir : is_dir inode.kind ≡ true) (uses : use_names table 0 inode.attributes ≡ Some owned) where
  one_node : node_count (insert empty [] (node_of owned inode)) ≡ 1
  one_node =
      let more = total-insert path_cmp paths_total (λ (_ : Names) (_ : Node). 1) empty [] (node_of owned inode) (get-empty path_cmp []) in
      let none = total-empty {X = Node} path_cmp (λ _ _. 1) in
      omega (arith, more, none)

  its_blocks : block_count (insert empty [] (node_of owned inode)) ≡ length (blocks_among (inode ∷ []))
  unfolding node_of
  its_blocks =
      let more = total-insert path_cmp paths_total (λ (_ : Names) (node : Node). length (blocks_of node.kind)) empty [] (node_of owned inode) (get-empty path_cmp []) in
      let none = total-empty {X = Node} path_cmp (λ _ node. length (blocks_of node.kind)) in
      let all : length (blocks_among (inode ∷ [])) ≡ 0 = ap (λ b. length (b ++ [])) (no_blocks inode.kind dir) in
      let its = ap length (no_blocks inode.kind dir) in
      omega (arith, more, none, all, its)

  pub begun : (half : Half) (ns : Namespace) (has : Spot → Bool) (place : Spot → Names) → ns.nodes ≡ insert empty [] (node_of owned inode) → half.used ≡ owned.used → IsNoted half.noted (inode ∷ [])
      → AreOpen has place half.dirs.items (opened inode.kind [] (listing inode entries).children []) → half.directories.now ≡ entries_text (listing inode entries).rest → All IsDirEntry (listing inode entries).rest
      → (g : Partial) × (add_root table entries inode ≡ Some g) × IsHalf half ns has place table entries (inode ∷ []) g
  unfolding with_node
  begun half ns has place nodes used noted are directories listed =
      let started = starts_back table entries inode owned unnamed id dir uses (root_room entries inode.kind dir) in
      let g = with_node (nothing_put entries) owned top_place inode in (
        g,
        started,
        record {
          so_far = record {
            ranges = All-push IsInode [] inode (λ k d within. absurd (omega arith)) in_range;
            made = root_added table entries inode [] g started ∙ none_left table g;
            nodes = nodes;
            used = used;
            listed = listed;
            directories = directories;
            noted = noted;
            inodes = one_node;
            blocks = its_blocks;
          };
          dirs = are;
        },
      )

-- the node that the view shows
pub root_is : (view : InodeView) (owned : Owned) (inode : Inode) (quota : Quota) → IsInodeView view inode → inode.id ≡ 16385 → view.kind ≡ seen.Dir quota
    → (let n : Node = record { id = 16385; owner = owned.owner; group = owned.group; mode = view.attributes.mode; time = view.attributes.time; kind = Dir quota } in n) ≡ node_of owned inode
unfolding node_of
root_is view owned inode quota shows id is =
    let kind = the_dir inode.kind quota (subst (λ k. IsKindView k inode.kind) is shows.kind) in
    λ i. record { id = sym id i; owner = owned.owner; group = owned.group; mode = (shows.attributes i).mode; time = (shows.attributes i).time; kind = kind i }
