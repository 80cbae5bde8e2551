-- A node is put to a new path of a map.
use Rattle.std.proofs.Common.{◌≡◌, ◌≢◌, ◌≤◌, ◌⊎◌, true, cond, [], ◌∷◌, ◌++◌, inl, inr, length, Some, None, refl, sym, ap, subst, ◌∙◌, arith, length-append, is_some}
use Rattle.std.specs.Ordering.{is_eq}
use Rattle.std.specs.Cmp.{tied_itself}
use Rattle.std.specs.declared.cmp.Ordering.{Ordering}
use Rattle.std.specs.declared.cmp.Ordering.TheVariants.{Less, Equal, Greater}
use Rattle.std.specs.FinMap.{get, insert, empty, get-insert, get-empty}
use Rattle.std.proofs.lemmas.Option.{none-some, same_Some}
use Rattle.std.proofs.lemmas.List.Elements.{All-push, All-nil}
use Rattle.nn_base.specs.Limits.{most_levels, most_path}
use Rattle.nn_base.specs.Paths.{Bytes, Names, path_cmp, is_name, joined, IsPath}
use Rattle.nn_base.proofs.PlainLemmas.{some_of}
use Rattle.nn_tree.specs.declared.node.Node.{Node}
use Rattle.nn_tree.specs.Namespace.{Nodes, IsNamespace, IsRoot, is_dir_at}
use Rattle.nn_tree.proofs.LinksLemmas.{paths_total, paths_exact}
use Rattle.nn_image.proofs.LevelsLemmas.{dir_stays}

-- a path has one directory and one name
pub one_split : (a b : Names) (x y : Bytes) → a ++ x ∷ [] ≡ b ++ y ∷ [] → (a ≡ b) × (x ≡ y)
one_split [] [] x y e = (refl, cc)
one_split [] (b ∷ bs) x y e = let l = ap length e in let k = length-append bs (y ∷ []) in absurd (omega (arith, l, k))
one_split (a ∷ as') [] x y e = let l = ap length e in let k = length-append as' (x ∷ []) in absurd (omega (arith, l, k))
one_split (a ∷ as') (b ∷ bs) x y e =
    let head : a ≡ b = cc in
    let rest : as' ++ x ∷ [] ≡ bs ++ y ∷ [] = cc in
    let r = one_split as' bs x y rest in
    ((λ i. head i ∷ r.0 i), r.1)

pub no_root : (p : Names) (name : Bytes) → [] ≢ p ++ name ∷ []
no_root p name e = let l = ap length e in let k = length-append p (name ∷ []) in absurd (omega (arith, l, k))

-- what is at a path once a node was put to q
pub at_path : (m : Nodes) (q : Names) (node : Node) (p : Names) (x : Node) → get (insert m q node) p ≡ Some x → ((p ≡ q) × (node ≡ x)) ⊎ (get m p ≡ Some x)
at_path m q node p x at = by (path_cmp p q) refl (sym (get-insert paths_total m q node p) ∙ at)
  where
    by : (r : Ordering) → path_cmp p q ≡ r → cond (is_eq r) (Some node) (get m p) ≡ Some x → ((p ≡ q) × (node ≡ x)) ⊎ (get m p ≡ Some x)
    by Equal is at = inl (paths_exact p q is, same_Some node x at)
    by Less is at = inr at
    by Greater is at = inr at

pub at_itself : (m : Nodes) (q : Names) (node : Node) → get (insert m q node) q ≡ Some node
at_itself m q node = get-insert paths_total m q node q ∙ ap (λ r. cond (is_eq r) (Some node) (get m q)) (tied_itself paths_total q)

pub at_other : (m : Nodes) (q : Names) (node : Node) (p : Names) → p ≢ q → get (insert m q node) p ≡ get m p
at_other m q node p other = by (path_cmp p q) refl ∙ refl
  where
    by : (r : Ordering) → path_cmp p q ≡ r → get (insert m q node) p ≡ get m p
    by Equal is = absurd (other (paths_exact p q is))
    by Less is = get-insert paths_total m q node p ∙ ap (λ r. cond (is_eq r) (Some node) (get m p)) is
    by Greater is = get-insert paths_total m q node p ∙ ap (λ r. cond (is_eq r) (Some node) (get m p)) is

pub each_path : (P : Names → Type 0) (m : Nodes) (q : Names) (node : Node) → ((p : Names) → is_some (get m p) ≡ true → P p) → P q → (p : Names) → is_some (get (insert m q node) p) ≡ true → P p
each_path P m q node each here p there =
    let x = some_of (get (insert m q node) p) there in
    elim (at_path m q node p x.0 x.1) as (λ _. P p) [
      | inl new ↦ subst P (sym new.0) here
      | inr old ↦ each p (ap is_some old)
    ]

pub each_node : (P : Node → Type 0) (m : Nodes) (q : Names) (node : Node) → ((p : Names) (x : Node) → get m p ≡ Some x → P x) → P node → (p : Names) (x : Node) → get (insert m q node) p ≡ Some x → P x
each_node P m q node each here p x at = elim (at_path m q node p x at) as (λ _. P x) [
  | inl new ↦ subst P new.1 here
  | inr old ↦ each p x old
]

-- ---- a child of a directory

module _ (m : Nodes) (p : Names) (name : Bytes) (node : Node) (free : get m (p ++ name ∷ []) ≡ None) (dir : is_dir_at m p ≡ true) (named : is_name name ≡ true) where
  pub child_formed : IsNamespace m → IsNamespace (insert m (p ++ name ∷ []) node)
  child_formed h = record {
    top = h.top;
    there = at_other m (p ++ name ∷ []) node [] (no_root p name) ∙ h.there;
    root = h.root;
    parents = λ d x at. (let y = some_of _ at in elim (at_path m (p ++ name ∷ []) node (d ++ x ∷ []) y.0 y.1) as (λ _. is_dir_at (insert m (p ++ name ∷ []) node) d ≡ true) [
      | inl new ↦ dir_stays m (p ++ name ∷ []) node d free (ap (is_dir_at m) (one_split d p x name new.0).0 ∙ dir)
      | inr old ↦ dir_stays m (p ++ name ∷ []) node d free (h.parents d x (ap is_some old))
    ]);
    names = λ d x at. (let y = some_of _ at in elim (at_path m (p ++ name ∷ []) node (d ++ x ∷ []) y.0 y.1) as (λ _. is_name x ≡ true) [
      | inl new ↦ ap is_name (one_split d p x name new.0).1 ∙ named
      | inr old ↦ h.names d x (ap is_some old)
    ]);
  }

pub child_path : (p : Names) (name : Bytes) → IsPath p → is_name name ≡ true → length (p ++ name ∷ []) ≤ most_levels → length (joined (p ++ name ∷ [])) ≤ most_path → IsPath (p ++ name ∷ [])
child_path p name h named levels size = record { named = All-push (λ name. is_name name ≡ true) p name h.named named; levels = levels; size = size }

-- ---- the root

pub root_formed : (node : Node) → IsRoot node → IsNamespace (insert empty [] node)
root_formed node root = record {
  top = node;
  there = at_itself empty [] node;
  root = root;
  parents = λ p x at. absurd (none p x at);
  names = λ p x at. absurd (none p x at);
}
  where
    none : (p : Names) (x : Bytes) → is_some (get (insert (empty {K = Names} {X = Node} {R = path_cmp}) [] node) (p ++ x ∷ [])) ≡ true → ⊥
    none p x at =
        let y = some_of _ at in
        elim (at_path empty [] node (p ++ x ∷ []) y.0 y.1) as (λ _. ⊥) [
          | inl new ↦ no_root p x (sym new.0)
          | inr old ↦ none-some y.0 (sym (get-empty path_cmp (p ++ x ∷ [])) ∙ old)
        ]

pub root_path : IsPath []
root_path = record { named = All-nil (λ name. is_name name ≡ true); levels = omega arith; size = omega arith }
