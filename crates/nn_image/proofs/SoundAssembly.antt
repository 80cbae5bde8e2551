-- What is assembled is a namespace that is saved with just that content.
use Rattle.std.proofs.Common.{◌≡◌, ◌≤◌, Bool, true, false, cond, ◌&&◌, List, [], ◌∷◌, ◌++◌, length, map, Some, None, refl, sym, ap, subst, ◌∙◌, arith, append-nil}
use Rattle.std.specs.Prelude.{All, option_and_then}
use Rattle.std.specs.List.{flat_map}
use Rattle.std.specs.FinMap.{entries}
use Rattle.std.proofs.lemmas.Bool.{and_parts, eqb-true}
use Rattle.std.proofs.lemmas.Option.{none-some, cond_some, option_and_then_some}
use Rattle.std.proofs.lemmas.List.{take_all, length-map}
use Rattle.std.proofs.lemmas.List.Elements.{All-map}
use Rattle.nn_base.specs.Labels.{IsLabel}
use Rattle.nn_base.specs.Paths.{Bytes, Names}
use Rattle.nn_tree.specs.declared.node.Block.{Block}
use Rattle.nn_tree.specs.declared.node.Node.{Node}
use Rattle.nn_tree.specs.Nodes.{blocks_of}
use Rattle.nn_tree.specs.Namespace.{Namespace}
use Rattle.nn_message.specs.Messages.{Content, IsContent, Inode}
use Rattle.nn_image.specs.Image.{string_table, inode_of, child_ids, entry_of, dir_entries_of, numbered_from, content_with, content_of}
use Rattle.nn_tree.specs.Imaged.{IsImaged, AreGiven, blocks_of_files}
use Rattle.nn_image.specs.Imaged.{AreLabelled}
use Rattle.nn_image.specs.Assembly.{Partial, table_of, waiting, is_table, are_given, all_blocks, are_all_given, is_whole, namespace_of, finished, add_all, assemble}
use Rattle.nn_image.proofs.ListedLemmas.{listed, all_listed}
use Rattle.nn_image.proofs.OwnedLemmas.{labelled}
use Rattle.nn_image.proofs.DoneLemmas.{IsDone, done_all}
use Rattle.nn_image.proofs.GivenLemmas.{IsTable, table_so, given_so, within_so}

-- ---- the tests at the end

pub record IsWhole (content : Content) (h : Partial) : Type 0 where
  pub none_waits : waiting h.levels ≡ []
  pub none_left : h.dir_entries ≡ []
  pub all_used : h.used ≡ length content.texts
  pub counted : content.inode_count ≡ length content.inodes

none_of : {A : Type 0} (xs : List A) → length xs ≡ 0 → xs ≡ []
none_of [] h = refl
none_of (x ∷ xs) h = absurd (omega arith)

pub whole_so : (content : Content) (h : Partial) → is_whole content h ≡ true → IsWhole content h
unfolding is_whole
whole_so content h is =
    let a = and_parts _ _ is in
    let b = and_parts _ _ a.0 in
    let c = and_parts _ _ b.0 in
    record {
      none_waits = none_of (waiting h.levels) (eqb-true _ _ c.0);
      none_left = none_of h.dir_entries (eqb-true _ _ c.1);
      all_used = eqb-true _ _ b.1;
      counted = eqb-true _ _ a.1;
    }

pub record AllGiven (content : Content) : Type 0 where
  pub inodes : AreGiven (map (λ i. i.id) content.inodes) content.last_inode
  pub blocks : AreGiven (map (λ b. b.id) (all_blocks content)) content.info.block
  pub stamps : All (λ b. b.stamp ≤ content.info.stamp) (all_blocks content)

all_given : (content : Content) → are_all_given content ≡ true → AllGiven content
unfolding are_all_given
all_given content is =
    let a = and_parts _ _ is in
    let b = and_parts (are_given (map (λ i. i.id) content.inodes) content.last_inode) (are_given (map (λ b. b.id) (all_blocks content)) content.info.block) a.0 in
    record {
      inodes = given_so _ _ b.0;
      blocks = given_so _ _ b.1;
      stamps = within_so (λ (b : Block). b.stamp) content.info.stamp (all_blocks content) a.1;
    }

-- ---- the messages of nodes hold what the nodes do

pub same_ids : (table : List Bytes) (es : List (Names × Node)) → map (λ (i : Inode). i.id) (map (inode_of table) es) ≡ map (λ (e : Names × Node). e.1.id) es
unfolding inode_of
same_ids table [] = refl
same_ids table (e ∷ es) = ap (λ ids. e.1.id ∷ ids) (same_ids table es)

pub same_blocks : (table : List Bytes) (es : List (Names × Node)) → flat_map (λ (i : Inode). blocks_of i.kind) (map (inode_of table) es) ≡ flat_map (λ (e : Names × Node). blocks_of e.1.kind) es
unfolding inode_of
same_blocks table [] = refl
same_blocks table (e ∷ es) = ap (λ bs. blocks_of e.1.kind ++ bs) (same_blocks table es)

-- ---- all together

pub record IsAssembled (content : Content) (ns : Namespace) : Type 0 where
  pub imaged : IsImaged ns
  pub labelled : AreLabelled ns.nodes
  pub same : content ≡ content_of ns content.info.txid content.info.namespace

module _ (content : Content) (in_range : IsContent content) (table : IsTable content) (h : Partial) (done : IsDone (table_of content) content.dir_entries h content.inodes) (whole : IsWhole content h) (given : AllGiven content) where
  long : length content.texts ≡ length (table_of content)
  long = sym (length-map content.texts (λ t. t.text))

  used_all : table_of content ≡ string_table h.nodes
  unfolding string_table
  used_all = sym (take_all h.used (table_of content) (let e = whole.all_used in omega (arith, long, e))) ∙ done.read.names

  as_many : content.inode_count ≡ length (entries h.nodes)
  as_many = whole.counted ∙ ap length (sym done.read.messages) ∙ length-map (entries h.nodes) (inode_of (table_of content))

  same_entries : content.dir_entries ≡ dir_entries_of h.nodes
  unfolding dir_entries_of
  same_entries =
      sym done.listed.whole
      ∙ ap (λ es. flat_map (λ e. entry_of e.1.id (listed h.nodes h.levels e.0)) (entries h.nodes) ++ es) whole.none_left
      ∙ append-nil _
      ∙ each_same (entries h.nodes)
    where
      each_same : (es : List (Names × Node)) → flat_map (λ e. entry_of e.1.id (listed h.nodes h.levels e.0)) es ≡ flat_map (λ e. entry_of e.1.id (child_ids h.nodes e.0)) es
      each_same [] = refl
      each_same (e ∷ es) = λ i. entry_of e.1.id (all_listed h.nodes h.levels e.0 whole.none_waits i) ++ each_same es i

  same_content : content ≡ content_of (namespace_of content h.nodes) content.info.txid content.info.namespace
  unfolding content_of content_with namespace_of
  same_content = λ i. record {
    info = content.info;
    text_count = (table.count ∙ long ∙ ap length used_all) i;
    texts = (table.texts ∙ ap (numbered_from 1) used_all) i;
    last_inode = content.last_inode;
    inode_count = as_many i;
    inodes = (sym done.read.messages ∙ ap (λ names. map (inode_of names) (entries h.nodes)) used_all) i;
    dir_entries = same_entries i;
  }

  ids_are : map (λ (i : Inode). i.id) content.inodes ≡ map (λ (e : Names × Node). e.1.id) (entries h.nodes)
  ids_are = ap (map (λ (i : Inode). i.id)) (sym done.read.messages) ∙ same_ids (table_of content) (entries h.nodes)

  blocks_are : all_blocks content ≡ blocks_of_files h.nodes
  blocks_are = ap (flat_map (λ (i : Inode). blocks_of i.kind)) (sym done.read.messages) ∙ same_blocks (table_of content) (entries h.nodes)

  is_assembled : IsAssembled content (namespace_of content h.nodes)
  unfolding namespace_of
  is_assembled = record {
    imaged = record {
      formed = done.partial.formed;
      limits = done.partial.limits;
      counters = record { inode = in_range.last_inode; block = in_range.info.block; stamp = in_range.info.stamp };
      paths = done.partial.paths;
      quotas = done.partial.quotas;
      inodes = subst (λ ids. AreGiven ids content.last_inode) ids_are given.inodes;
      blocks = subst (λ bs. AreGiven (map (λ b. b.id) bs) content.info.block) blocks_are given.blocks;
      stamps = subst (All (λ b. b.stamp ≤ content.info.stamp)) blocks_are given.stamps;
    };
    labelled = labelled (table_of content) h.nodes (All-map IsLabel (λ t. t.text) content.texts (λ k d lt. (in_range.texts k d lt).text)) done.read.listed;
    same = same_content;
  }

assembled : (content : Content) (ns : Namespace) → IsContent content → assemble content ≡ Some ns → IsAssembled content ns
unfolding assemble finished
assembled content ns in_range is = by (is_table content) refl is
  where
    by : (b : Bool) → is_table content ≡ b → cond b (option_and_then (finished content) (add_all (table_of content) content.dir_entries content.inodes)) None ≡ Some ns → IsAssembled content ns
    by false tabled is = absurd (none-some ns is)
    by true tabled is =
        let table = table_so content tabled in
        option_and_then_some (finished content) (add_all (table_of content) content.dir_entries content.inodes) ns is (λ h added is.
        let done = done_all (table_of content) table.once content.dir_entries content.inodes h in_range.inodes added in
        let end = cond_some (is_whole content h && are_all_given content) (namespace_of content h.nodes) ns is in
        let tests = and_parts (is_whole content h) (are_all_given content) end.0 in
        subst (IsAssembled content) end.1 (is_assembled content in_range table h done (whole_so content h tests.0) (all_given content tests.1)))

pub assemble_sound : (content : Content) (ns : Namespace) → IsContent content → assemble content ≡ Some ns → IsImaged ns × AreLabelled ns.nodes × (content ≡ content_of ns content.info.txid content.info.namespace)
assemble_sound content ns in_range is = let a = assembled content ns in_range is in (a.imaged, a.labelled, a.same)
