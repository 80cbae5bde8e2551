-- The image of a namespace: what its messages hold, and its one spelling.
use Rattle.std.specs.Prelude.{ℕ, suc, ◌+◌, Bool, ◌&&◌, ◌==◌, List, [], ◌∷◌, map, length, filter}
use Rattle.std.specs.List.{flat_map}
use Rattle.std.specs.FinMap.{entries}
use Rattle.nn_base.specs.Paths.{Bytes, Names, is_under}
use Rattle.nn_strtab.specs.Numbers.{number_in, first_uses}
use Rattle.nn_tree.specs.declared.node.Node.{Node}
use Rattle.nn_tree.specs.Namespace.{Namespace, Nodes}
use Rattle.nn_tree.specs.Spots.{last_name}
use Rattle.nn_message.specs.declared.message.Attributes.{Attributes}
use Rattle.nn_message.specs.Messages.{Text, Inode, DirEntry, Content}
use Rattle.nn_message.specs.Frame.{sections_of, body, summary_of, summary_message, framed}

-- ---- names of owners and groups, in the order of their first use over the paths, the owner before the group

abbrev pub labels : Names × Node → List Bytes
labels (path, node) = node.owner ∷ node.group ∷ []

unfoldable pub string_table : Nodes → List Bytes
string_table m = first_uses (flat_map labels (entries m))

unfoldable pub numbered_from : ℕ → List Bytes → List Text
numbered_from number [] = []
numbered_from number (text ∷ rest) = record { number = number; text = text } ∷ numbered_from (suc number) rest

-- ---- nodes, in the order of paths

unfoldable pub attributes_of : List Bytes → Node → Attributes
attributes_of table node = record { time = node.time; owner = number_in table node.owner; group = number_in table node.group; mode = node.mode }

unfoldable pub inode_of : List Bytes → Names × Node → Inode
inode_of table (path, node) = record { id = node.id; name = last_name path; attributes = attributes_of table node; kind = node.kind }

-- ---- directories that aren't empty, in the order of paths, their children in byte order of names

abbrev pub is_child : Names → Names → Bool
is_child p q = is_under p q && (length q == length p + 1)

abbrev pub children : Nodes → Names → List (Names × Node)
children m p = filter (λ e. is_child p e.0) (entries m)

unfoldable pub child_ids : Nodes → Names → List ℕ
child_ids m p = map (λ e. e.1.id) (children m p)

unfoldable pub entry_of : ℕ → List ℕ → List DirEntry
entry_of parent [] = []
entry_of parent (child ∷ rest) = record { parent = parent; children = child ∷ rest } ∷ []

unfoldable pub dir_entries_of : Nodes → List DirEntry
dir_entries_of m = flat_map (λ e. entry_of e.1.id (child_ids m e.0)) (entries m)

-- ---- the whole

unfoldable pub content_with : List Bytes → Namespace → ℕ → ℕ → Content
content_with table ns id namespace = record {
  info = record { namespace = namespace; stamp = ns.counters.stamp; block = ns.counters.block; txid = id };
  text_count = length table;
  texts = numbered_from 1 table;
  last_inode = ns.counters.inode;
  inode_count = length (entries ns.nodes);
  inodes = map (inode_of table) (entries ns.nodes);
  dir_entries = dir_entries_of ns.nodes;
}

-- what the image of a namespace holds, at a transaction id and under a namespaceID
unfoldable pub content_of : Namespace → ℕ → ℕ → Content
content_of ns id namespace = content_with (string_table ns.nodes) ns id namespace

-- The one spelling. The layout is written without its sign.
unfoldable pub image_of : Namespace → ℕ → ℕ → ℕ → Bytes
image_of ns id namespace layout = framed (body (sections_of (content_of ns id namespace))) (summary_message (summary_of layout (sections_of (content_of ns id namespace))))
