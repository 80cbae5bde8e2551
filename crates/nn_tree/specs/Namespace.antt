-- A namespace: a finite map from paths to nodes, and three counters.
use Rattle.std.specs.Prelude.{◌≡◌, ℕ, Bool, true, false, cond, [], ◌∷◌, ◌++◌, length, Some, is_some}
use Rattle.std.specs.Option.{option_map_or}
use Rattle.std.specs.FinMap.{FinMap, get, insert, empty}
use Rattle.nn_base.specs.Paths.{Names, Bytes, path_cmp, is_under, is_name}
use Rattle.nn_quota.specs.declared.quota.Usage.{Usage}
use Rattle.nn_tree.specs.declared.node.Kind.TheVariants.{Dir}
use Rattle.nn_tree.specs.declared.node.Node.{Node}
use Rattle.nn_tree.specs.declared.node.Counters.{Counters}
use Rattle.nn_tree.specs.Nodes.{is_dir, is_file, blocks_of, space_of, no_quota}
use Rattle.nn_tree.specs.Totals.{total}

abbrev pub Nodes : Type 0
Nodes = FinMap path_cmp Node

pub record Namespace : Type 0 where
  pub nodes : Nodes
  pub counters : Counters

abbrev pub is_dir_at : Nodes → Names → Bool
is_dir_at m p = option_map_or (λ node. is_dir node.kind) (get m p) false

abbrev pub is_file_at : Nodes → Names → Bool
is_file_at m p = option_map_or (λ node. is_file node.kind) (get m p) false

-- ---- a namespace is well formed

abbrev pub IsRoot : Node → Type 0
IsRoot node = (node.id ≡ 16385) × (is_dir node.kind ≡ true)

-- the root is there, a directory with its own id; the parent of each other path is a directory, and its last part a name
pub record IsNamespace (m : Nodes) : Type 0 where
  pub top : Node
  pub there : get m [] ≡ Some top
  pub root : IsRoot top
  pub parents : (p : Names) (name : Bytes) → is_some (get m (p ++ name ∷ [])) ≡ true → is_dir_at m p ≡ true
  pub names : (p : Names) (name : Bytes) → is_some (get m (p ++ name ∷ [])) ≡ true → is_name name ≡ true

-- ---- usage: how many paths have p as a prefix, and the space of the files among them

abbrev pub name_share : Names → Names → Node → ℕ
name_share p q node = cond (is_under p q) 1 0

abbrev pub space_share : Names → Names → Node → ℕ
space_share p q node = cond (is_under p q) (space_of node.kind) 0

abbrev pub usage_of : Nodes → Names → Usage
usage_of m p = record { names = total (name_share p) m; space = total (space_share p) m }

-- ---- counts of the whole map

abbrev pub node_count : Nodes → ℕ
node_count m = total (λ p node. 1) m

abbrev pub block_count : Nodes → ℕ
block_count m = total (λ p node. length (blocks_of node.kind)) m

-- ---- the empty namespace: the root alone, of `hdfs` and `supergroup`, with mode 755

abbrev pub hdfs : Bytes
hdfs = 104 ∷ 100 ∷ 102 ∷ 115 ∷ []

abbrev pub supergroup : Bytes
supergroup = 115 ∷ 117 ∷ 112 ∷ 101 ∷ 114 ∷ 103 ∷ 114 ∷ 111 ∷ 117 ∷ 112 ∷ []

abbrev pub root_node : Node
root_node = record { id = 16385; owner = hdfs; group = supergroup; mode = 493; time = 0; kind = Dir no_quota }

abbrev pub first_counters : Counters
first_counters = record { inode = 16385; block = 1073741824; stamp = 1000 }

abbrev pub empty_namespace : Namespace
empty_namespace = record { nodes = insert empty [] root_node; counters = first_counters }
