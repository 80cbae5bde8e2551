-- How the messages of an image are put together to a namespace, one node after the other.
use Rattle.std.specs.Prelude.{ℕ, suc, ◌+◌, max, Bool, true, ◌&&◌, ◌==◌, nat_eq, nat_lt, nat_le, if◌then◌else◌, List, [], ◌∷◌, ◌++◌, map, length, Option, Some, None, option_map, option_and_then, bytes_eq}
use Rattle.std.specs.Ordering.{is_lt}
use Rattle.std.specs.List.{flat_map, list_all}
use Rattle.std.specs.Set.{distinct_count}
use Rattle.std.specs.FinMap.{empty, insert}
use Rattle.nn_base.specs.Limits.{most_levels, most_path, most_nodes, most_blocks}
use Rattle.nn_base.specs.Paths.{Bytes, Names, is_name, name_cmp, joined}
use Rattle.nn_strtab.specs.Numbers.{name_at}
use Rattle.nn_tree.specs.declared.node.Block.{Block}
use Rattle.nn_tree.specs.declared.node.Kind.{Kind}
use Rattle.nn_tree.specs.declared.node.Node.{Node}
use Rattle.nn_tree.specs.Nodes.{is_dir, blocks_of}
use Rattle.nn_tree.specs.Namespace.{Namespace, Nodes, node_count, block_count}
use Rattle.nn_message.specs.declared.message.Attributes.{Attributes}
use Rattle.nn_message.specs.Messages.{Text, Inode, DirEntry, Content}

abbrev pub are_distinct : {A : Type 0} → (A → A → Bool) → List A → Bool
are_distinct eq xs = distinct_count eq xs == length xs

-- ---- the string table

-- the texts are numbered one after the other, from a number on
abbrev pub are_numbered : ℕ → List Text → Bool
are_numbered number [] = true
are_numbered number (text ∷ rest) = (text.number == number) && are_numbered (suc number) rest

abbrev pub table_of : Content → List Bytes
table_of content = map (λ t. t.text) content.texts

unfoldable pub is_table : Content → Bool
is_table content = (content.text_count == length content.texts) && are_numbered 1 content.texts && are_distinct bytes_eq (table_of content)

-- A name by its number, and how many names of the table are used with it: one that is new is the next of the table.
unfoldable pub use_name : List Bytes → ℕ → ℕ → Option (Bytes × ℕ)
use_name table used number = if nat_le number (used + 1) then option_map (λ name. (name, max used number)) (name_at table number) else None

-- owner and group of a node, and how many names are used with both
pub record Owned : Type 0 where
  pub owner : Bytes
  pub group : Bytes
  pub used : ℕ

unfoldable pub use_group : List Bytes → Attributes → Bytes × ℕ → Option Owned
use_group table a owner = option_map (λ group. record { owner = owner.0; group = group.0; used = group.1 }) (use_name table owner.1 a.group)

-- the owner before the group
unfoldable pub use_names : List Bytes → ℕ → Attributes → Option Owned
use_names table used a = option_and_then (use_group table a) (use_name table used a.owner)

unfoldable pub node_of : Owned → Inode → Node
node_of owned inode = record { id = inode.id; owner = owned.owner; group = owned.group; mode = inode.attributes.mode; time = inode.attributes.time; kind = inode.kind }

-- ---- a namespace that is partly put together

-- A directory whose children are put into it: the name of the newest one, empty before the first, and the ids of those to come.
pub record Level : Type 0 where
  pub path : Names
  pub newest : Bytes
  pub children : List ℕ

-- the nodes put so far, how many names of the string table they use, the directories above the next node, innermost first, and the entries of INODE_DIR to come
pub record Partial : Type 0 where
  pub nodes : Nodes
  pub used : ℕ
  pub levels : List Level
  pub dir_entries : List DirEntry

abbrev pub nothing_put : List DirEntry → Partial
nothing_put dir_entries = record { nodes = empty; used = 0; levels = []; dir_entries = dir_entries }

-- ---- where the next node stands

-- the levels from the innermost one on that has a child to come
unfoldable pub waiting : List Level → List Level
waiting [] = []
waiting (level ∷ outer) = elim level.children [
  | [] ↦ waiting outer
  | child ∷ rest ↦ level ∷ outer
]

-- the path of a node, and the levels once it is put there
pub record Place : Type 0 where
  pub path : Names
  pub levels : List Level

-- It is the child whose id is next, and its name comes behind the newest one's.
unfoldable pub is_next : Level → ℕ → Inode → Bool
is_next level child inode = (child == inode.id) && is_name inode.name && is_lt (name_cmp level.newest inode.name)

-- the next child of the innermost level
unfoldable pub placed : List Level → Inode → Option Place
placed [] inode = None
placed (level ∷ outer) inode = elim level.children [
  | [] ↦ None
  | child ∷ rest ↦ if is_next level child inode then Some (record {
    path = level.path ++ inode.name ∷ [];
    levels = record { path = level.path; newest = inode.name; children = rest } ∷ outer;
  }) else None
]

-- whether the limits leave room for a node
unfoldable pub has_room : Nodes → Names → Kind → Bool
has_room m path kind = nat_le (length path) most_levels && nat_le (length (joined path)) most_path && nat_lt (node_count m) most_nodes && nat_le (block_count m + length (blocks_of kind)) most_blocks

-- ---- what is in a directory

-- the ids of a node's children, and the entries behind its own
pub record Listing : Type 0 where
  pub children : List ℕ
  pub rest : List DirEntry

-- An entry without children is nobody's.
unfoldable pub is_entry_of : Inode → DirEntry → Bool
is_entry_of inode entry = is_dir inode.kind && (entry.parent == inode.id) && nat_lt 0 (length entry.children)

-- The next entry is the node's own, or it has no children.
unfoldable pub listing : Inode → List DirEntry → Listing
listing inode [] = record { children = []; rest = [] }
listing inode (entry ∷ rest) = if is_entry_of inode entry then record { children = entry.children; rest = rest } else record { children = []; rest = entry ∷ rest }

-- a directory is a level for what follows it
unfoldable pub opened : Kind → Names → List ℕ → List Level → List Level
opened kind path children levels = if is_dir kind then record { path = path; newest = []; children = children } ∷ levels else levels

-- ---- nodes are put one after the other

unfoldable pub with_node : Partial → Owned → Place → Inode → Partial
with_node h owned place inode = record {
  nodes = insert h.nodes place.path (node_of owned inode);
  used = owned.used;
  levels = opened inode.kind place.path (listing inode h.dir_entries).children place.levels;
  dir_entries = (listing inode h.dir_entries).rest;
}

unfoldable pub put_node : Partial → Owned → Place → Inode → Option Partial
put_node h owned place inode = if has_room h.nodes place.path inode.kind then Some (with_node h owned place inode) else None

unfoldable pub add_inode : List Bytes → Partial → Inode → Option Partial
add_inode table h inode = option_and_then (λ owned. option_and_then (λ place. put_node h owned place inode) (placed (waiting h.levels) inode)) (use_names table h.used inode.attributes)

unfoldable pub is_root : Inode → Bool
is_root inode = (length inode.name == 0) && (inode.id == 16385) && is_dir inode.kind

unfoldable pub add_root : List Bytes → List DirEntry → Inode → Option Partial
add_root table dir_entries inode = if is_root inode then option_and_then (λ owned. put_node (nothing_put dir_entries) owned (record { path = []; levels = [] }) inode) (use_names table 0 inode.attributes) else None

unfoldable pub add_inodes : List Bytes → Partial → List Inode → Option Partial
add_inodes table h [] = Some h
add_inodes table h (inode ∷ rest) = option_and_then (λ g. add_inodes table g rest) (add_inode table h inode)

-- the first is the root
unfoldable pub add_all : List Bytes → List DirEntry → List Inode → Option Partial
add_all table dir_entries [] = None
add_all table dir_entries (root ∷ rest) = option_and_then (λ h. add_inodes table h rest) (add_root table dir_entries root)

-- ---- the whole

abbrev pub are_given : List ℕ → ℕ → Bool
are_given ids last = are_distinct nat_eq ids && list_all (λ id. nat_le id last) ids

abbrev pub all_blocks : Content → List Block
all_blocks content = flat_map (λ i. blocks_of i.kind) content.inodes

-- each id was given once, and neither an id nor a stamp is above the last one given
unfoldable pub are_all_given : Content → Bool
are_all_given content = are_given (map (λ i. i.id) content.inodes) content.last_inode && are_given (map (λ b. b.id) (all_blocks content)) content.info.block && list_all (λ b. nat_le b.stamp content.info.stamp) (all_blocks content)

-- no child and no entry is still to come, each name of the table is used, and there are as many nodes as was said
unfoldable pub is_whole : Content → Partial → Bool
is_whole content h = (length (waiting h.levels) == 0) && (length h.dir_entries == 0) && (h.used == length content.texts) && (content.inode_count == length content.inodes)

unfoldable pub namespace_of : Content → Nodes → Namespace
namespace_of content m = record { nodes = m; counters = record { inode = content.last_inode; block = content.info.block; stamp = content.info.stamp } }

unfoldable pub finished : Content → Partial → Option Namespace
finished content h = if is_whole content h && are_all_given content then Some (namespace_of content h.nodes) else None

-- the namespace whose image has this content, if there is one
unfoldable pub assemble : Content → Option Namespace
assemble content = if is_table content then option_and_then (finished content) (add_all (table_of content) content.dir_entries content.inodes) else None
