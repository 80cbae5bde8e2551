-- What the messages of a namespace that is saved hold is in range.
use Rattle.std.proofs.Common.{◌≡◌, ℕ, suc, ◌+◌, ◌≤◌, ◌<◌, ◌^◌, not, List, [], ◌∷◌, length, Some, refl, ap, arith, is_some, inl, inr}
use Rattle.std.specs.Prelude.{All, fold, ◌⊎◌, true}
use Rattle.std.specs.List.{flat_map}
use Rattle.std.specs.Str.{bytes_eq}
use Rattle.std.specs.FinMap.{get, entries}
use Rattle.std.proofs.lemmas.List.Elements.{All-nil, All-cons, All-append, All-head, All-tail, All-map, All-filter}
use Rattle.std.proofs.lemmas.List.Sums.{prefix_len-le-length}
use Rattle.nn_base.specs.Labels.{IsLabel}
use Rattle.nn_base.specs.Limits.{IsLong}
use Rattle.nn_base.specs.Paths.{Bytes, Names, is_name}
use Rattle.nn_strtab.specs.Numbers.{number_in, with_use}
use Rattle.nn_tree.specs.declared.node.Node.{Node}
use Rattle.nn_tree.specs.Namespace.{Namespace, Nodes}
use Rattle.nn_tree.specs.Spots.{last_name}
use Rattle.nn_message.specs.Messages.{IsNamespaceId, IsText, IsInode, IsDirEntry, IsContent}
use Rattle.nn_image.specs.Image.{labels, string_table, numbered_from, attributes_of, inode_of, is_child, children, child_ids, entry_of, dir_entries_of, content_with, content_of}
use Rattle.nn_tree.specs.Imaged.{IsImaged}
use Rattle.nn_image.specs.Imaged.{AreLabelled}
use Rattle.nn_image.proofs.ListsLemmas.{all_flat_map}
use Rattle.nn_image.proofs.CollectLemmas.{short_more, few_uses, few_nodes, entry_there}

-- ---- the string table

all_used : (names uses : List Bytes) → All IsLabel names → All IsLabel uses → All IsLabel (fold with_use names uses)
all_used names [] all are = all
all_used names (x ∷ uses) all are = all_used (with_use names x) uses (short_more names x all (All-head IsLabel x uses are)) (All-tail IsLabel x uses are)

abbrev IsLabelled : Names × Node → Type 0
IsLabelled e = IsLabel e.1.owner × IsLabel e.1.group

all_labels : (es : List (Names × Node)) → All IsLabelled es → All IsLabel (flat_map labels es)
all_labels [] all = All-nil IsLabel
all_labels (e ∷ es) all =
    let here = All-head IsLabelled e es all in
    let two = All-cons IsLabel e.1.owner (e.1.group ∷ []) here.0 (All-cons IsLabel e.1.group [] here.1 (All-nil IsLabel)) in
    All-append IsLabel (labels e) (flat_map labels es) two (all_labels es (All-tail IsLabelled e es all))

pub table_labelled : (m : Nodes) → AreLabelled m → All IsLabel (string_table m)
unfolding string_table
table_labelled m are =
    all_used [] (flat_map labels (entries m)) (All-nil IsLabel) (all_labels (entries m) (λ k d lt. are _ _ (entry_there m k d lt)))

pub table_few : (ns : Namespace) → IsImaged ns → length (string_table ns.nodes) ≤ 2097152
unfolding string_table
table_few ns is = omega (arith, few_uses (entries ns.nodes), few_nodes ns.nodes is.limits)

all_texts : (n : ℕ) (table : List Bytes) → n + length table < 2 ^ 64 → All IsLabel table → All IsText (numbered_from n table)
unfolding numbered_from
all_texts n [] few all = All-nil IsText
all_texts n (x ∷ table) few all =
    All-cons IsText (record { number = n; text = x }) (numbered_from (suc n) table) (record { number = omega arith; text = All-head IsLabel x table all })
    (all_texts (suc n) table (omega arith) (All-tail IsLabel x table all))

-- ---- nodes

number_few : (table : List Bytes) (name : Bytes) → number_in table name ≤ length table + 1
number_few table name = omega (arith, prefix_len-le-length (λ x. not (bytes_eq name x)) table)

pub last_is_name : (p : Names) → All (λ name. is_name name ≡ true) p → (last_name p ≡ []) ⊎ (is_name (last_name p) ≡ true)
last_is_name [] all = inl refl
last_is_name (name ∷ []) all = inr (All-head (λ x. is_name x ≡ true) name [] all)
last_is_name (name ∷ next ∷ rest) all = last_is_name (next ∷ rest) (All-tail (λ x. is_name x ≡ true) name (next ∷ rest) all)

pub inode_in_range : (ns : Namespace) (table : List Bytes) → IsImaged ns → length table ≤ 2097152 → (e : Names × Node) → get ns.nodes e.0 ≡ Some e.1 → IsInode (inode_of table e)
unfolding inode_of attributes_of
inode_in_range ns table is few e there =
    let node = is.limits.each e.0 e.1 there in
    record {
      id = node.id;
      name = last_is_name e.0 (is.paths e.0 (ap is_some there)).named;
      attributes = record {
        time = node.time;
        owner = omega (arith, number_few table e.1.owner);
        group = omega (arith, number_few table e.1.group);
        mode = node.mode;
      };
      kind = node.kind;
      some = is.quotas e.0 e.1 there;
    }

-- ---- directories

all_long : (ns : Namespace) → IsImaged ns → All (λ (e : Names × Node). IsLong e.1.id) (entries ns.nodes)
all_long ns is k d lt = (is.limits.each _ _ (entry_there ns.nodes k d lt)).id

child_long : (ns : Namespace) (p : Names) → IsImaged ns → All IsLong (child_ids ns.nodes p)
unfolding child_ids
child_long ns p is =
    All-map IsLong (λ (e : Names × Node). e.1.id) (children ns.nodes p) (All-filter (λ (e : Names × Node). is_child p e.0) (λ e. IsLong e.1.id) (entries ns.nodes) (all_long ns is))

entry_in_range : (parent : ℕ) (ids : List ℕ) → IsLong parent → All IsLong ids → All IsDirEntry (entry_of parent ids)
unfolding entry_of
entry_in_range parent [] long all = All-nil IsDirEntry
entry_in_range parent (child ∷ rest) long all = All-cons IsDirEntry (record { parent = parent; children = child ∷ rest }) [] (record { parent = long; children = all }) (All-nil IsDirEntry)

-- ---- all of it

pub content_in_range : (ns : Namespace) (id namespace : ℕ) → IsImaged ns → AreLabelled ns.nodes → IsLong id → IsNamespaceId namespace → IsContent (content_of ns id namespace)
unfolding content_of content_with dir_entries_of
content_in_range ns id namespace is labelled long named =
    let m = ns.nodes in
    let table = string_table m in
    let few = table_few ns is in
    record {
      info = record { namespace = named; stamp = is.counters.stamp; block = is.counters.block; txid = long };
      text_count = omega (arith, few);
      texts = all_texts 1 table (omega (arith, few)) (table_labelled m labelled);
      last_inode = is.counters.inode;
      inode_count = few_nodes m is.limits;
      inodes = All-map IsInode (inode_of table) (entries m) (λ k d lt. inode_in_range ns table is few _ (entry_there m k d lt));
      dir_entries = all_flat_map IsDirEntry (λ (e : Names × Node). entry_of e.1.id (child_ids m e.0)) (entries m) (λ k d lt. entry_in_range _ _ (all_long ns is k d lt) (child_long ns _ is));
    }
