-- How long the messages of an image are, and its sections.
use Rattle.std.proofs.Common.{◌≡◌, ℕ, zero, suc, ◌+◌, ◌*◌, ◌≤◌, ◌<◌, ◌^◌, Bool, true, false, List, [], ◌∷◌, ◌++◌, map, length, Option, Some, None, ap, inl, inr, arith, length-append, is_some, get_or}
use Rattle.std.specs.Prelude.{All}
use Rattle.std.specs.List.{flat_map}
use Rattle.std.specs.FinMap.{entries}
use Rattle.std.proofs.lemmas.List.Concat.{length-flat_map}
use Rattle.std.proofs.lemmas.List.Sums.{sum_by-le}
use Rattle.nn_base.specs.Labels.{IsLabel}
use Rattle.nn_base.specs.Paths.{Bytes, Names, is_name}
use Rattle.nn_base.specs.Limits.{most_name}
use Rattle.nn_base.proofs.PathsLemmas.{name_is_short}
use Rattle.nn_wire.specs.Varint.{varint}
use Rattle.nn_wire.specs.Field.{varint_field, bytes_field}
use Rattle.nn_tree.specs.declared.node.Block.{Block}
use Rattle.nn_tree.specs.declared.node.Kind.{Kind}
use Rattle.nn_tree.specs.declared.node.Kind.TheVariants.{File, Dir}
use Rattle.nn_tree.specs.declared.node.Node.{Node}
use Rattle.nn_tree.specs.Nodes.{blocks_of}
use Rattle.nn_tree.specs.Namespace.{Namespace, Nodes, block_count}
use Rattle.nn_tree.specs.Spots.{last_name}
use Rattle.nn_message.specs.declared.message.Attributes.{Attributes}
use Rattle.nn_message.specs.Messages.{Text, Inode}
use Rattle.nn_message.specs.Spelling.{optional, ns_info, strings, string, inodes, block, access, blocks_field, open_field, file, directory, kind_number, kind_field, inode, dir_entry, delimited}
use Rattle.nn_message.specs.Frame.{Sections, sections_of}
use Rattle.nn_image.specs.Image.{numbered_from, inode_of, child_ids, entry_of, dir_entries_of, content_with}
use Rattle.nn_tree.specs.Imaged.{IsImaged}
use Rattle.nn_image.specs.Saving.{Target, whole, entry_text, AreModest}
use Rattle.nn_image.proofs.ListsLemmas.{flat_map-map, flat_map-flat_map}
use Rattle.nn_image.proofs.StageLemmas.{length-numbered}
use Rattle.nn_message.proofs.SummaryLemmas.{varint_few, varint_field_few, bytes_field_few, delimited_few}
use Rattle.nn_image.proofs.CollectLemmas.{few_nodes, entry_there}
use Rattle.nn_image.proofs.ContentLemmas.{last_is_name}
use Rattle.nn_image.proofs.SumsLemmas.{joined_weighed, few_children}

-- so many texts of so many bytes
joined_few : {A : Type 0} (f : A → Bytes) (most : ℕ) (xs : List A) → All (λ x. length (f x) ≤ most) xs → length (flat_map f xs) ≤ length xs * most
joined_few f most xs each = let a = sum_by-le (λ x. length (f x)) most xs each in let b = length-flat_map f xs in omega (arith, a, b)

-- ---- strings

text_few : (entry : Text) → IsLabel entry.text → length (delimited (string entry)) ≤ 64
unfolding string
text_few entry is =
    let a = varint_field_few 1 entry.number in
    let b = bytes_field_few 2 entry.text in
    let c = delimited_few (varint_field 1 entry.number ++ bytes_field 2 entry.text) in
    let d = length-append (varint_field 1 entry.number) (bytes_field 2 entry.text) in
    let e = is.1 in omega (arith, a, b, c, d, e)

texts_few : (n : ℕ) (table : List Bytes) → All IsLabel table → All (λ entry. length (delimited (string entry)) ≤ 64) (numbered_from n table)
unfolding numbered_from
texts_few n [] all k d lt = absurd (omega arith)
texts_few n (x ∷ table) all zero d lt = text_few (record { number = n; text = x }) (all 0 x (omega arith))
texts_few n (x ∷ table) all (suc k) d lt = texts_few (suc n) table (λ k d lt. all (suc k) d (omega arith)) k d (omega arith)

-- ---- nodes

block_few : (b : Block) → length (bytes_field 6 (block b)) ≤ 44
unfolding block
block_few b =
    let x = varint_field 1 b.id in
    let y = varint_field 2 b.stamp in
    let z = varint_field 3 b.length in
    let c = bytes_field_few 6 (x ++ y ++ z) in
    omega (arith, varint_field_few 1 b.id, varint_field_few 2 b.stamp, varint_field_few 3 b.length, c, length-append (x ++ y) z, length-append x y)

blocks_few : (blocks : List Block) → length (blocks_field blocks) ≤ length blocks * 44
unfolding blocks_field
blocks_few blocks = joined_few (λ b. bytes_field 6 (block b)) 44 blocks (λ k d lt. block_few (get_or blocks k d))

access_few : (first : ℕ) (a : Attributes) → first < 14 → length (access first a) ≤ 33
unfolding access
access_few first a known =
    let x = varint_field first a.owner in
    let y = varint_field (first + 1) a.group in
    let z = varint_field (first + 2) a.mode in
    omega (arith, varint_field_few first a.owner, varint_field_few (first + 1) a.group, varint_field_few (first + 2) a.mode, length-append (x ++ y) z, length-append x y)

open_few : (is_open : Bool) → length (open_field is_open) ≤ 11
unfolding open_field
open_few true = varint_field_few 7 1 (omega arith)
open_few false = omega arith

optional_few : (number : ℕ) (value : Option ℕ) → number < 16 → length (optional number value) ≤ 11
unfolding optional
optional_few number None known = omega arith
optional_few number (Some n) known = varint_field_few number n known

kind_few : (kind : Kind) (a : Attributes) → length (kind_field kind a) ≤ 77 + 44 * length (blocks_of kind)
unfolding kind_field file directory
kind_few (File replication is_open blocks) a =
    let v = varint_field 1 replication in
    let w = varint_field 2 a.time in
    let x = access 3 a in
    let y = blocks_field blocks in
    let z = open_field is_open in
    let all = bytes_field_few 4 (v ++ w ++ x ++ y ++ z) in
    omega (
      arith,
      varint_field_few 1 replication,
      varint_field_few 2 a.time,
      access_few 3 a,
      blocks_few blocks,
      open_few is_open,
      all,
      length-append (v ++ w ++ x ++ y) z,
      length-append (v ++ w ++ x) y,
      length-append (v ++ w) x,
      length-append v w,
    )
kind_few (Dir quota) a =
    let v = varint_field 1 a.time in
    let w = optional 2 quota.names in
    let x = optional 3 quota.space in
    let y = access 4 a in
    let all = bytes_field_few 5 (v ++ w ++ x ++ y) in
    omega (
      arith,
      varint_field_few 1 a.time,
      optional_few 2 quota.names,
      optional_few 3 quota.space,
      access_few 4 a,
      all,
      length-append (v ++ w ++ x) y,
      length-append (v ++ w) x,
      length-append v w,
    )

inode_few : (i : Inode) → length i.name ≤ most_name → length (delimited (inode i)) ≤ 375 + 44 * length (blocks_of i.kind)
unfolding inode
inode_few i short =
    let v = varint_field 1 (kind_number i.kind) in
    let w = varint_field 2 i.id in
    let x = bytes_field 3 i.name in
    let y = kind_field i.kind i.attributes in
    let all = delimited_few (v ++ w ++ x ++ y) in
    omega (
      arith,
      varint_field_few 1 (kind_number i.kind),
      varint_field_few 2 i.id,
      bytes_field_few 3 i.name,
      kind_few i.kind i.attributes,
      all,
      short,
      length-append (v ++ w ++ x) y,
      length-append (v ++ w) x,
      length-append v w,
    )

last_short : (p : Names) → All (λ name. is_name name ≡ true) p → length (last_name p) ≤ most_name
last_short p all = elim (last_is_name p all) [
  | inl none ↦ omega (arith, ap length none)
  | inr is ↦ name_is_short (last_name p) is
]

blocks_at : Names × Node → ℕ
blocks_at e = length (blocks_of e.1.kind)

node_few : (ns : Namespace) (table : List Bytes) → IsImaged ns → All (λ (e : Names × Node). length (delimited (inode (inode_of table e))) ≤ 375 + 44 * blocks_at e) (entries ns.nodes)
unfolding inode_of blocks_at
node_few ns table is k d lt =
    let e = get_or (entries ns.nodes) k d in
    inode_few (inode_of table e) (last_short e.0 (is.paths e.0 (ap is_some (entry_there ns.nodes k d lt))).named)

-- ---- directories

entry_few : (m : Nodes) (e : Names × Node) → length (entry_text m e) ≤ 32 + 10 * length (child_ids m e.0)
unfolding entry_text entry_of dir_entry
entry_few m e = by (child_ids m e.0)
  where
    by : (ids : List ℕ) → length (flat_map (λ d. delimited (dir_entry d)) (entry_of e.1.id ids)) ≤ 32 + 10 * length ids
    by [] = omega arith
    by (id ∷ rest) =
        let ids = id ∷ rest in
        let v = varint_field 1 e.1.id in
        let w = bytes_field 2 (flat_map varint ids) in
        let some = delimited_few (v ++ w) in
        let each = joined_few varint 10 ids (λ k d lt. varint_few (get_or ids k d)) in
        omega (arith, some, each, varint_field_few 1 e.1.id, bytes_field_few 2 (flat_map varint ids), length-append v w, length-append (delimited (v ++ w)) [])

-- ---- all four

info_few : (a b c d : ℕ) → length (delimited (varint_field 1 a ++ varint_field 3 b ++ varint_field 5 c ++ varint_field 6 d)) ≤ 54
info_few a b c d =
    let v = varint_field 1 a in
    let w = varint_field 3 b in
    let x = varint_field 5 c in
    let y = varint_field 6 d in
    omega (arith, delimited_few (v ++ w ++ x ++ y), varint_field_few 1 a, varint_field_few 3 b, varint_field_few 5 c, varint_field_few 6 d, length-append (v ++ w ++ x) y, length-append (v ++ w) x, length-append v w)

head_few : (a b : ℕ) → length (delimited (varint_field 1 a ++ varint_field 2 b)) ≤ 32
head_few a b = omega (arith, delimited_few (varint_field 1 a ++ varint_field 2 b), varint_field_few 1 a, varint_field_few 2 b, length-append (varint_field 1 a) (varint_field 2 b))

-- sections for so many names of owners and groups, nodes and blocks
pub record AreFew (s : Sections) (names nodes blocks : ℕ) : Type 0 where
  pub info : length s.info ≤ 54
  pub strings : length s.strings ≤ 21 + names * 64
  pub inodes : length s.inodes ≤ 32 + nodes * 375 + 44 * blocks
  pub directories : length s.directories ≤ nodes * 42

pub sections_few : (ns : Namespace) (table : List Bytes) (id namespace : ℕ) → IsImaged ns → All IsLabel table
    → AreFew (sections_of (content_with table ns id namespace)) (length table) (length (entries ns.nodes)) (block_count ns.nodes)
unfolding sections_of content_with dir_entries_of ns_info strings inodes entry_text blocks_at
sections_few ns table id namespace is labels =
    let m = ns.nodes in
    let text : Text → Bytes = λ entry. delimited (string entry) in
    let message : Inode → Bytes = λ i. delimited (inode i) in
    let table_len = length-numbered 1 table in
    let texts = joined_few text 64 (numbered_from 1 table) (texts_few 1 table labels) in
    let head = delimited (varint_field 1 (length table)) in
    let head_len = delimited_few (varint_field 1 (length table)) in
    let inode_texts = joined_weighed (λ (e : Names × Node). message (inode_of table e)) 375 44 blocks_at (entries m) (node_few ns table is) in
    let inode_same = ap length (flat_map-map message (inode_of table) (entries m)) in
    let count = delimited (varint_field 1 ns.counters.inode ++ varint_field 2 (length (entries m))) in
    let entry_texts = joined_weighed (entry_text m) 32 10 (λ (e : Names × Node). length (child_ids m e.0)) (entries m) (λ k d lt. entry_few m (get_or (entries m) k d)) in
    let entry_same = ap length (flat_map-flat_map (λ d. delimited (dir_entry d)) (λ (e : Names × Node). entry_of e.1.id (child_ids m e.0)) (entries m)) in
    record {
      info = info_few namespace ns.counters.stamp ns.counters.block id;
      strings = omega (arith, texts, table_len, head_len, varint_field_few 1 (length table), length-append head (flat_map text (numbered_from 1 table)));
      inodes = omega (arith, inode_texts, inode_same, head_few ns.counters.inode (length (entries m)), length-append count (flat_map message (map (inode_of table) (entries m))));
      directories = omega (arith, entry_texts, entry_same, few_children m);
    }

-- a u64 counts each section, by far
pub modest : (t : Target) → IsImaged t.ns → All IsLabel t.table → length t.table < 2 ^ 31 → AreModest (whole t)
unfolding whole
modest t is labels few =
    let s = sections_few t.ns t.table t.task.id t.task.namespace is labels in
    let nodes = few_nodes t.ns.nodes is.limits in
    let blocks = is.limits.blocks in
    record {
      info = omega (arith, s.info);
      strings = omega (arith, s.strings, few);
      inodes = omega (arith, s.inodes, nodes, blocks);
      directories = omega (arith, s.directories, nodes);
    }
