-- A namespace that is saved is assembled from the content of its image.
use Rattle.std.proofs.Common.{◌≡◌, inl, inr, ℕ, ◌≤◌, true, cond, List, [], ◌∷◌, ◌++◌, take, length, map, Some, None, refl, sym, ap, subst, ◌∙◌, arith, append-nil}
use Rattle.std.specs.Prelude.{All, option_and_then, slice_get}
use Rattle.std.specs.List.{flat_map}
use Rattle.std.specs.FinMap.{entries, same_entries_map}
use Rattle.std.proofs.lemmas.Bool.{and_from, eq-eqb}
use Rattle.std.proofs.lemmas.Option.{none-some, same_Some}
use Rattle.std.proofs.lemmas.List.{length-take, length-map, append_cancel_left}
use Rattle.nn_base.specs.Paths.{Names}
use Rattle.nn_tree.specs.declared.node.Block.{Block}
use Rattle.nn_tree.specs.declared.node.Node.{Node}
use Rattle.nn_tree.specs.Namespace.{Namespace, Nodes, IsNamespace}
use Rattle.nn_tree.proofs.BelowLemmas.{first_is_top}
use Rattle.nn_message.specs.Messages.{Content, DirEntry}
use Rattle.nn_image.specs.Image.{string_table, inode_of, child_ids, dir_entries_of, content_with, content_of}
use Rattle.nn_tree.specs.Imaged.{IsImaged, AreGiven}
use Rattle.nn_image.specs.Assembly.{Partial, table_of, waiting, is_table, all_blocks, are_all_given, is_whole, namespace_of, finished, add_inodes, add_all, assemble}
use Rattle.nn_image.proofs.CollectLemmas.{all_entries}
use Rattle.nn_image.proofs.StageLemmas.{length-numbered}
use Rattle.nn_image.proofs.LevelsLemmas.{Waits, waits_or_not, ArePlaces, waiting_places, first_place}
use Rattle.nn_image.proofs.PartialLemmas.{some_dir}
use Rattle.nn_image.proofs.ListedLemmas.{to_come, waiting_to_come, listed}
use Rattle.nn_image.proofs.NextLevelLemmas.{own_to_come}
use Rattle.nn_image.proofs.GivenLemmas.{numbered_names, table_back, given_back, within_back}
use Rattle.nn_image.proofs.TableLemmas.{table_once}
use Rattle.nn_image.proofs.OwnEntryLemmas.{entry_at}
use Rattle.nn_image.proofs.SoundAssembly.{same_ids, same_blocks}
use Rattle.nn_image.proofs.CompleteSteps.{IsFront, table_is, root_put, rest_put}

-- the root is the first entry
root_first : (m : Nodes) → IsNamespace m → (top : Node) × (rest : List (Names × Node)) × (entries m ≡ ([], top) ∷ rest)
root_first m formed = by (entries m) refl (ap (λ es. slice_get es 0) (sym (all_entries m [] refl)) ∙ first_is_top m [] formed.top formed.there)
  where
    by : (es : List (Names × Node)) → entries m ≡ es → slice_get (entries m) 0 ≡ Some ([], formed.top) → (top : Node) × (rest : List (Names × Node)) × (entries m ≡ ([], top) ∷ rest)
    by [] is at = absurd (none-some _ (ap (λ es. slice_get es 0) (sym is) ∙ at))
    by (e ∷ rest) is at =
        let same : e ≡ ([], formed.top) = same_Some e ([], formed.top) (ap (λ es. slice_get es 0) (sym is) ∙ at) in
        (formed.top, rest, is ∙ ap (λ e. e ∷ rest) same)

-- ---- once all nodes are put

module _ (m : Nodes) (dir_entries : List DirEntry) (h : Partial) (front : IsFront m (string_table m) dir_entries h []) where
  pub same_nodes : h.nodes ≡ m
  same_nodes = same_entries_map h.nodes m (sym (front.whole ∙ append-nil (entries h.nodes)))

  none_comes : Waits h.levels → ⊥
  unfolding listed
  none_comes w =
      let place = first_place h.nodes w.level w.outer (subst (ArePlaces h.nodes) w.is (waiting_places h.nodes h.levels front.done.partial.places)) in
      let p = w.level.path in
      let none : to_come h.levels p ≡ [] =
      append_cancel_left (child_ids h.nodes p) _ _ (front.all p (some_dir h.nodes p place.0) ∙ ap (λ m. child_ids m p) (sym same_nodes) ∙ sym (append-nil (child_ids h.nodes p))) in
      let z : ◌≡◌ {A = List ℕ} [] (w.child ∷ (w.rest ++ to_come w.outer p)) =
      sym none ∙ sym (waiting_to_come h.levels p) ∙ ap (λ levels. to_come levels p) w.is ∙ own_to_come w.level w.outer ∙ ap (λ ids. ids ++ to_come w.outer p) w.children in
      cc

  pub none_waits : waiting h.levels ≡ []
  none_waits = elim (waits_or_not h.levels) as (λ _. waiting h.levels ≡ []) [ inl none ↦ none | inr w ↦ absurd (none_comes w) ]

  pub all_used : h.used ≡ length (string_table m)
  all_used =
      let names : take h.used (string_table m) ≡ string_table m = front.done.read.names ∙ sym (table_is h.nodes) ∙ ap string_table same_nodes in
      let a = ap length names in
      let b = length-take h.used (string_table m) in
      let few = front.done.read.few in
      omega (arith, a, b, few)

module _ (ns : Namespace) (id namespace : ℕ) (imaged : IsImaged ns) where
  content : Content
  content = content_of ns id namespace

  tabled : is_table content ≡ true
  unfolding content content_of content_with
  tabled = table_back content (string_table ns.nodes) refl refl (table_once ns.nodes)

  names_are : table_of content ≡ string_table ns.nodes
  unfolding content content_of content_with
  names_are = numbered_names 1 (string_table ns.nodes)

  entries_are : content.dir_entries ≡ flat_map (entry_at ns.nodes) (entries ns.nodes)
  unfolding content content_of content_with dir_entries_of
  entries_are = refl

  messages_are : content.inodes ≡ map (inode_of (string_table ns.nodes)) (entries ns.nodes)
  unfolding content content_of content_with
  messages_are = refl

  added : (g : Partial) × (add_all (string_table ns.nodes) content.dir_entries (map (inode_of (string_table ns.nodes)) (entries ns.nodes)) ≡ Some g) × IsFront ns.nodes (string_table ns.nodes) content.dir_entries g []
  unfolding add_all
  added =
      let first = root_first ns.nodes imaged.formed in
      let table = string_table ns.nodes in
      let begun = root_put ns imaged content.dir_entries first.0 first.1 first.2 (entries_are ∙ ap (flat_map (entry_at ns.nodes)) first.2) in
      let whole = rest_put ns imaged content.dir_entries first.1 begun.0 begun.2 in (
        whole.0,
        ap (λ es. add_all table content.dir_entries (map (inode_of table) es)) first.2
            ∙ ap (option_and_then (λ h. add_inodes table h (map (inode_of table) first.1))) begun.1
            ∙ whole.1,
        whole.2,
      )

  whole : (h : Partial) → IsFront ns.nodes (string_table ns.nodes) content.dir_entries h [] → is_whole content h ≡ true
  unfolding is_whole content content_of content_with
  whole h front =
      let texts = length-numbered 1 (string_table ns.nodes) in
      let used = all_used ns.nodes content.dir_entries h front in
      let nodes = length-map (entries ns.nodes) (inode_of (string_table ns.nodes)) in
      and_from _ _ (and_from _ _ (and_from _ _ (eq-eqb _ _ (ap length (none_waits ns.nodes content.dir_entries h front))) (eq-eqb _ _ (ap length front.left))) (eq-eqb _ _ (used ∙ sym texts))) (eq-eqb _ _ (sym nodes))

  given : are_all_given content ≡ true
  unfolding are_all_given content content_of content_with
  given =
      let ids = same_ids (string_table ns.nodes) (entries ns.nodes) in
      let blocks = same_blocks (string_table ns.nodes) (entries ns.nodes) in
      and_from _ _
      (and_from _ _
      (given_back (map (λ i. i.id) content.inodes) content.last_inode (subst (λ ids. AreGiven ids ns.counters.inode) (sym ids) imaged.inodes))
      (given_back (map (λ b. b.id) (all_blocks content)) content.info.block (subst (λ bs. AreGiven (map (λ (b : Block). b.id) bs) ns.counters.block) (sym blocks) imaged.blocks)))
      (within_back (λ (b : Block). b.stamp) ns.counters.stamp (all_blocks content) (subst (All (λ (b : Block). b.stamp ≤ ns.counters.stamp)) (sym blocks) imaged.stamps))

  ends : (h : Partial) → IsFront ns.nodes (string_table ns.nodes) content.dir_entries h [] → finished content h ≡ Some ns
  unfolding finished namespace_of content content_of content_with
  ends h front =
      ap (λ b. cond b (Some (namespace_of content h.nodes)) None) (and_from _ _ (whole h front) given)
      ∙ ap (λ m. Some (namespace_of content m)) (same_nodes ns.nodes content.dir_entries h front)

  pub assemble_complete : assemble (content_of ns id namespace) ≡ Some ns
  unfolding assemble content
  assemble_complete =
      ap (λ b. cond b (option_and_then (finished content) (add_all (table_of content) content.dir_entries content.inodes)) None) tabled
      ∙ (λ i. option_and_then (finished content) (add_all (names_are i) content.dir_entries (messages_are i)))
      ∙ ap (option_and_then (finished content)) added.1
      ∙ ends added.0 added.2

-- two namespaces that are saved with the same content are one
pub one_namespace : (ns other : Namespace) (id jd namespace namesake : ℕ) → IsImaged ns → IsImaged other → content_of ns id namespace ≡ content_of other jd namesake → (ns ≡ other) × (id ≡ jd) × (namespace ≡ namesake)
unfolding content_of content_with
one_namespace ns other id jd namespace namesake imaged also same = (
  same_Some ns other (sym (assemble_complete ns id namespace imaged) ∙ ap assemble same ∙ assemble_complete other jd namesake also),
  ap (λ (c : Content). c.info.txid) same,
  ap (λ (c : Content). c.info.namespace) same,
)

-- where nothing is assembled, no namespace is saved with that content
pub none_saved : (content : Content) → assemble content ≡ None → (ns : Namespace) (id namespace : ℕ) → IsImaged ns → content_of ns id namespace ≡ content → ⊥
none_saved wanted none ns id namespace imaged same = none-some ns (sym none ∙ ap assemble (sym same) ∙ assemble_complete ns id namespace imaged)
