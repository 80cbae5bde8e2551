-- The order of paths, and how the paths below one stand in it.
use Rattle.std.proofs.Common.{◌≡◌, ◌≢◌, true, false, [], ◌∷◌, ◌++◌, ◌&&◌, length, drop, Option, Some, None, refl, sym, ap, subst, ◌∙◌, append_assoc, append-nil, is_some}
use Rattle.std.specs.Option.{option_map_or}
use Rattle.std.specs.FinMap.{get}
use Rattle.std.specs.Ordering.{ordering_then, ordering_reverse}
use Rattle.std.specs.declared.cmp.Ordering.TheVariants.{Less, Equal, Greater}
use Rattle.std.specs.Cmp.{IsTotalOrder, tied_itself, tied_back}
use Rattle.std.specs.Cmp.Lexicographic.{bytes_decides}
use Rattle.nn_base.specs.Paths.{Names, Bytes, path_cmp, name_cmp, is_under, is_name}
use Rattle.nn_tree.specs.declared.node.Node.{Node}
use Rattle.nn_tree.specs.Nodes.{is_dir}
use Rattle.nn_tree.specs.Namespace.{Nodes, IsNamespace}
use Rattle.nn_tree.proofs.LinksLemmas.{names_total, names_exact}
use Rattle.nn_tree.proofs.PrefixLemmas.{under_split}

-- ---- prefixes

pub under_front : (p rest : Names) → is_under p (p ++ rest) ≡ true
under_front [] rest = refl
under_front (x ∷ p) rest = ap (λ b. b && is_under p (p ++ rest)) ((bytes_decides x x).1 refl) ∙ under_front p rest

pub under_trans : (a b c : Names) → is_under a b ≡ true → is_under b c ≡ true → is_under a c ≡ true
under_trans a b c h g =
    let whole : c ≡ a ++ (drop (length a) b ++ drop (length b) c) = under_split b c g ∙ ap (λ (t : Names). t ++ drop (length b) c) (under_split a b h) ∙ append_assoc a _ _ in
    subst (λ (q : Names). is_under a q ≡ true) (sym whole) (under_front a _)

-- ---- the order

pub cancel : (p a b : Names) → path_cmp (p ++ a) (p ++ b) ≡ path_cmp a b
cancel [] a b = refl
cancel (x ∷ p) a b = ap (λ o. ordering_then o (path_cmp (p ++ a) (p ++ b))) (tied_itself names_total x) ∙ cancel p a b

pub none_less : (p : Names) → path_cmp p [] ≢ Less
none_less [] h = cc
none_less (x ∷ p) h = cc

-- what stands between two paths below p is below p
pub between : (p a b q : Names) → path_cmp (p ++ a) q ≡ Less → path_cmp q (p ++ b) ≡ Less → is_under p q ≡ true
between [] a b q l h = refl
between (x ∷ p) a b [] l h = cc
between (x ∷ p) a b (y ∷ q) l h =
    elim (name_cmp x y) as (λ o. name_cmp x y ≡ o → ordering_then o (path_cmp (p ++ a) q) ≡ Less → is_under (x ∷ p) (y ∷ q) ≡ true) [
      | Less ↦ λ e l.
          let o : IsTotalOrder name_cmp = names_total in
          let back : name_cmp y x ≡ Greater = o.antisymm y x ∙ ap ordering_reverse e in
          let z : Greater ≡ Less = sym (ap (λ o. ordering_then o (path_cmp q (p ++ b))) back) ∙ h in
          cc
      | Equal ↦ λ e l.
          let back : name_cmp y x ≡ Equal = tied_back names_total x y e in
          ap (λ b. b && is_under p q) ((bytes_decides x y).1 (names_exact x y e))
          ∙ between p a b q l (sym (ap (λ o. ordering_then o (path_cmp q (p ++ b))) back) ∙ h)
      | Greater ↦ λ e l. cc
    ] refl l

-- names are above the empty one
pub name_above : (name : Bytes) → is_name name ≡ true → name_cmp [] name ≡ Less
name_above [] h = cc
name_above (b ∷ name) h = refl

-- ---- the paths of a namespace

some_dir : (o : Option Node) → option_map_or (λ node. is_dir node.kind) o false ≡ true → is_some o ≡ true
some_dir None h = cc
some_dir (Some node) h = refl

-- the directories above a path of the namespace are there
pub front_there : (m : Nodes) → IsNamespace m → (rest p : Names) → is_some (get m (p ++ rest)) ≡ true → is_some (get m p) ≡ true
front_there m formed [] p h = ap (λ q. is_some (get m q)) (sym (append-nil p)) ∙ h
front_there m formed (x ∷ rest) p h =
    some_dir (get m p) (formed.parents p x (front_there m formed rest (p ++ x ∷ []) (ap (λ q. is_some (get m q)) (append_assoc p (x ∷ []) rest) ∙ h)))

pub child_there : (m : Nodes) → IsNamespace m → (p : Names) (name : Bytes) (rest : Names) → is_some (get m (p ++ name ∷ rest)) ≡ true → is_some (get m (p ++ name ∷ [])) ≡ true
child_there m formed p name rest h = front_there m formed rest (p ++ name ∷ []) (ap (λ q. is_some (get m q)) (append_assoc p (name ∷ []) rest) ∙ h)
