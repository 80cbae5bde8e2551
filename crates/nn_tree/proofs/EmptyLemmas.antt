-- For callers: the empty namespace can be saved.
use Rattle.std.proofs.Common.{◌≡◌, ℕ, zero, suc, ◌≤◌, true, List, [], ◌∷◌, ◌++◌, map, Some, None, is_some, refl, sym, ap, subst, ◌∙◌, arith, length, length-append}
use Rattle.std.specs.Prelude.{All}
use Rattle.std.specs.List.{flat_map, IsDistinct}
use Rattle.std.specs.FinMap.{get, entries, empty, put, get-insert, get-empty, entries-insert, len-entries, len-empty}
use Rattle.std.proofs.lemmas.Option.{none-some, same_Some}
use Rattle.nn_base.specs.Paths.{Bytes, Names, path_cmp, IsPath}
use Rattle.nn_base.proofs.PlainLemmas.{some_of}
use Rattle.nn_tree.specs.declared.node.Node.{Node}
use Rattle.nn_tree.specs.Nodes.{blocks_of, quota_of}
use Rattle.nn_tree.specs.Namespace.{empty_namespace, root_node}
use Rattle.nn_tree.proofs.LinksLemmas.{paths_total}
use Rattle.nn_tree.proofs.LimitsLemmas.{limits_empty}
use Rattle.nn_tree.specs.Imaged.{IsImaged, AreGiven, blocks_of_files}

none_of_length : {A : Type 0} (es : List A) → length es ≡ 0 → es ≡ []
none_of_length [] e = refl
none_of_length (x ∷ es) e = absurd (omega arith)

pub no_entries : entries (empty {K = Names} {X = Node} {R = path_cmp}) ≡ []
no_entries = none_of_length _ (sym (len-entries (empty {K = Names} {X = Node} {R = path_cmp})) ∙ len-empty path_cmp Node)

pub root_alone : entries empty_namespace.nodes ≡ ([], root_node) ∷ []
root_alone = entries-insert paths_total empty [] root_node ∙ ap (put path_cmp [] root_node) no_entries

root_there : get empty_namespace.nodes [] ≡ Some root_node
root_there = get-insert paths_total empty [] root_node []

none_below : (x : Bytes) (p : Names) → get empty_namespace.nodes (x ∷ p) ≡ None
none_below x p = get-insert paths_total empty [] root_node (x ∷ p) ∙ get-empty path_cmp (x ∷ p)

only_root : (p : Names) (node : Node) → get empty_namespace.nodes p ≡ Some node → (p ≡ []) × (node ≡ root_node)
only_root [] node there = (refl, same_Some _ _ (sym there ∙ root_there))
only_root (x ∷ p) node there = absurd (none-some node (sym (none_below x p) ∙ there))

no_child : (p : Names) (name : Bytes) → is_some (get empty_namespace.nodes (p ++ name ∷ [])) ≡ true → ⊥
no_child p name there =
    let node = some_of (get empty_namespace.nodes (p ++ name ∷ [])) there in
    let none = ap length (only_root (p ++ name ∷ []) node.0 node.1).0 in
    let some = length-append p (name ∷ []) in
    omega (arith, none, some)

root_path : IsPath []
root_path = record { named = λ k d lt. absurd (omega arith); levels = omega arith; size = omega arith }

one_given : AreGiven (16385 ∷ []) 16385
unfolding IsDistinct
one_given = record { once = (tt, tt); within = one }
  where
    one : All (λ id. id ≤ 16385) (16385 ∷ [])
    one zero d lt = omega arith
    one (suc k) d lt = absurd (omega arith)

none_given : (last : ℕ) → AreGiven [] last
unfolding IsDistinct
none_given last = record { once = tt; within = λ k d lt. absurd (omega arith) }

no_blocks : blocks_of_files empty_namespace.nodes ≡ []
no_blocks = ap (flat_map (λ e. blocks_of e.1.kind)) root_alone

pub imaged_empty : IsImaged empty_namespace
imaged_empty = record {
  formed = record {
    top = root_node;
    there = root_there;
    root = (refl, refl);
    parents = λ p name there. absurd (no_child p name there);
    names = λ p name there. absurd (no_child p name there);
  };
  limits = limits_empty;
  counters = record { inode = omega arith; block = omega arith; stamp = omega arith };
  paths = λ p there. (let node = some_of (get empty_namespace.nodes p) there in subst IsPath (sym (only_root p node.0 node.1).0) root_path);
  quotas = λ p node there is. none-some 0 (sym (ap (λ (node : Node). (quota_of node.kind).names) (only_root p node there).1) ∙ is);
  inodes = subst (λ ids. AreGiven ids 16385) (sym (ap (map (λ (e : Names × Node). e.1.id)) root_alone)) one_given;
  blocks = subst (λ bs. AreGiven (map (λ b. b.id) bs) 1073741824) (sym no_blocks) (none_given 1073741824);
  stamps = subst (All (λ b. b.stamp ≤ 1000)) (sym no_blocks) (λ k d lt. absurd (omega arith));
}
