-- The end of the assembly: what the tests say of the content.
use Rattle.std.proofs.Common.{◌≡◌, ◌≢◌, ℕ, Bool, true, false, ◌&&◌, ◌==◌, [], length, map, refl, sym, ap, subst, ◌∙◌, arith}
use Rattle.std.specs.Prelude.{Option, Some, None, nat_le}
use Rattle.std.specs.List.{list_all}
use Rattle.std.proofs.lemmas.Bool.{eqb-true, eq-eqb, and_parts, and_from}
use Rattle.std.specs.FinMap.{entries}
use Rattle.std.proofs.lemmas.List.{nil_from_length, length-map}
use Rattle.std.proofs.lemmas.List.Concat.{length-flat_map}
use Rattle.nn_base.specs.Paths.{Names}
use Rattle.nn_tree.specs.declared.node.Block.{Block}
use Rattle.nn_tree.specs.declared.node.Counters.{Counters}
use Rattle.nn_tree.specs.declared.node.Node.{Node}
use Rattle.nn_tree.specs.Nodes.{blocks_of}
use Rattle.nn_tree.specs.Namespace.{Namespace}
use Rattle.nn_tree.specs.Limits.{IsWithinLimits}
use Rattle.nn_message.specs.Messages.{Content, IsContent, Inode}
use Rattle.nn_image.specs.Image.{string_table, inode_of, content_with, content_of}
use Rattle.nn_image.specs.Assembly.{Partial, waiting, is_table, are_given, is_whole, are_all_given, assemble}
use Rattle.nn_image.specs.Building.{blocks_among, are_table}
use Rattle.nn_image.specs.Faults.{IsCounted}
use Rattle.nn_image.proofs.StageLemmas.{length-numbered}
use Rattle.nn_image.proofs.SoundAssembly.{same_blocks, assemble_sound}
use Rattle.nn_image.proofs.StringTableLemmas.{same_table}

pub is_the_table : (content : Content) (b : Bool) → IsCounted content → are_table content.texts ≡ b → is_table content ≡ b
is_the_table content b counted test = same_table content counted.0 ∙ test

pub is_so_whole : (content : Content) (h : Partial) → IsCounted content → waiting h.levels ≡ [] → h.dir_entries ≡ [] → h.used ≡ length content.texts → is_whole content h ≡ true
unfolding is_whole
is_so_whole content h counted levels entries used =
    and_from _ _ (and_from _ _ (and_from _ _ (eq-eqb _ 0 (ap length levels)) (eq-eqb _ 0 (ap length entries))) (eq-eqb _ _ used)) (eq-eqb _ _ counted.1)

is_not : (b : Bool) → (b ≡ true → ⊥) → b ≡ false
is_not true not = absurd (not refl)
is_not false not = refl

pub is_not_whole : (content : Content) (h : Partial) → (waiting h.levels ≡ [] → h.dir_entries ≡ [] → h.used ≢ length content.texts) → is_whole content h ≡ false
unfolding is_whole
is_not_whole content h not = is_not _ (λ whole.
    let a = and_parts _ _ (and_parts _ _ whole).0 in
    let b = and_parts (length (waiting h.levels) == 0) (length h.dir_entries == 0) a.0 in
    not (nil_from_length (waiting h.levels) (eqb-true _ 0 b.0)) (nil_from_length h.dir_entries (eqb-true _ 0 b.1)) (eqb-true _ _ a.1))

-- ---- the counts

-- What is saved has as many strings and nodes as it says, and no more blocks than a namespace has.
saved_counted : (ns : Namespace) (id namespace : ℕ) → IsWithinLimits ns.nodes → IsCounted (content_of ns id namespace)
unfolding content_of content_with
saved_counted ns id namespace limits =
    let table = string_table ns.nodes in
    let same = ap length (same_blocks table (entries ns.nodes)) in
    let sum = length-flat_map (λ (e : Names × Node). blocks_of e.1.kind) (entries ns.nodes) in
    let most = limits.blocks in
    (sym (length-numbered 1 table), sym (length-map (entries ns.nodes) (inode_of table)), omega (arith, same, sum, most))

-- Where there are more or fewer, no namespace has this content.
pub uncounted : (content : Content) → IsContent content → ¬ IsCounted content → assemble content ≡ None
uncounted content is not = by (assemble content) refl
  where
    by : (o : Option Namespace) → assemble content ≡ o → assemble content ≡ None
    by None none = none
    by (Some ns) assembled =
        let sound = assemble_sound content ns is assembled in
        absurd (not (subst IsCounted (sym sound.2) (saved_counted ns content.info.txid content.info.namespace sound.0.limits)))

-- ---- the ids and stamps

pub all_given : (content : Content) (last : Counters) → last.inode ≡ content.last_inode → last.block ≡ content.info.block → last.stamp ≡ content.info.stamp
    → (are_given (map (λ (i : Inode). i.id) content.inodes) last.inode && are_given (map (λ (b : Block). b.id) (blocks_among content.inodes)) last.block && list_all (λ (b : Block). nat_le b.stamp last.stamp) (blocks_among content.inodes)) ≡ are_all_given content
unfolding are_all_given
all_given content last inode block stamp = λ i. are_given (map (λ (i : Inode). i.id) content.inodes) (inode i) && are_given (map (λ (b : Block). b.id) (blocks_among content.inodes)) (block i) && list_all (λ (b : Block). nat_le b.stamp (stamp i)) (blocks_among content.inodes)
