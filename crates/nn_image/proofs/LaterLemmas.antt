-- Entries are put into a map in the order of their paths: each goes behind all others.
use Rattle.std.proofs.Common.{◌≡◌, ◌≢◌, Bool, true, false, cond, List, [], ◌∷◌, ◌++◌, Some, None, refl, sym, ap, ◌∙◌}
use Rattle.std.specs.List.{filter, flat_map}
use Rattle.std.specs.Ordering.{is_eq, ordering_reverse}
use Rattle.std.specs.declared.cmp.Ordering.{Ordering}
use Rattle.std.specs.declared.cmp.Ordering.TheVariants.{Less, Equal, Greater}
use Rattle.std.specs.Cmp.{IsTotalOrder, tied_itself}
use Rattle.std.specs.FinMap.{get, insert, entries, get-entries, entries-insert}
use Rattle.std.specs.FinMap.Entries.{find, put, by_order}
use Rattle.std.proofs.lemmas.Option.{none-some}
use Rattle.nn_base.specs.Paths.{Bytes, Names, path_cmp}
use Rattle.nn_tree.specs.declared.node.Node.{Node}
use Rattle.nn_tree.specs.Namespace.{Nodes}
use Rattle.nn_tree.proofs.LinksLemmas.{paths_total, paths_exact}
use Rattle.nn_tree.proofs.OrderLemmas.{cancel}
use Rattle.nn_image.specs.Image.{is_child}
use Rattle.nn_image.proofs.ChildLemmas.{child_name}

pub less_trans : (p q r : Names) → path_cmp p q ≡ Less → path_cmp q r ≡ Less → path_cmp p r ≡ Less
less_trans p q r l h = let o : IsTotalOrder path_cmp = paths_total in o.trans p q r l h

pub not_itself : (p : Names) → path_cmp p p ≢ Less
not_itself p l = let t = tied_itself paths_total p in cc

pub turned : (p q : Names) → path_cmp p q ≡ Less → path_cmp q p ≡ Greater
turned p q l = let o : IsTotalOrder path_cmp = paths_total in o.antisymm q p ∙ ap ordering_reverse l

-- a path is above the one that it goes on from
pub above_front : (p : Names) (x : Bytes) (rest : Names) → path_cmp p (p ++ x ∷ rest) ≡ Less
above_front [] x rest = refl
above_front (y ∷ p) x rest = cancel (y ∷ []) p (p ++ x ∷ rest) ∙ above_front p x rest

-- ---- the paths of all entries come before q

unfoldable pub AreBefore : Names → List (Names × Node) → Type 0
AreBefore q [] = Unit {0}
AreBefore q (e ∷ es) = (path_cmp e.0 q ≡ Less) × AreBefore q es

pub none_before : (q : Names) → AreBefore q []
unfolding AreBefore
none_before q = tt

pub before_cons : (q : Names) (e : Names × Node) (es : List (Names × Node)) → path_cmp e.0 q ≡ Less → AreBefore q es → AreBefore q (e ∷ es)
unfolding AreBefore
before_cons q e es l h = (l, h)

pub before_more : (q p : Names) (node : Node) (es : List (Names × Node)) → AreBefore q es → path_cmp p q ≡ Less → AreBefore q (es ++ (p, node) ∷ [])
unfolding AreBefore
before_more q p node [] h l = (l, tt)
before_more q p node (e ∷ es) h l = (h.0, before_more q p node es h.1 l)

pub before_later : (q r : Names) (es : List (Names × Node)) → AreBefore q es → path_cmp q r ≡ Less → AreBefore r es
unfolding AreBefore
before_later q r [] h l = tt
before_later q r (e ∷ es) h l = (less_trans e.0 q r h.0 l, before_later q r es h.1 l)

put_last : (q : Names) (node : Node) (es : List (Names × Node)) → AreBefore q es → put path_cmp q node es ≡ es ++ (q, node) ∷ []
unfolding AreBefore
put_last q node [] h = refl
put_last q node (e ∷ es) h = ap (λ r. by_order r ((q, node) ∷ e ∷ es) ((e.0, node) ∷ es) (e ∷ put path_cmp q node es)) (turned e.0 q h.0) ∙ ap (λ t. e ∷ t) (put_last q node es h.1)

none_found : (q : Names) (es : List (Names × Node)) → AreBefore q es → find path_cmp q es ≡ None
unfolding AreBefore
none_found q [] h = refl
none_found q (e ∷ es) h = ap (λ r. cond (is_eq r) (Some e.1) (find path_cmp q es)) (turned e.0 q h.0) ∙ none_found q es h.1

-- what is there comes before q
pub is_before : (q p : Names) (node : Node) (es : List (Names × Node)) → AreBefore q es → find path_cmp p es ≡ Some node → path_cmp p q ≡ Less
unfolding AreBefore
is_before q p node [] h found = absurd (none-some node found)
is_before q p node (e ∷ es) h found = by (path_cmp p e.0) refl (is_before q p node es h.1) found
  where
    by : (r : Ordering) → path_cmp p e.0 ≡ r → (find path_cmp p es ≡ Some node → path_cmp p q ≡ Less) → cond (is_eq r) (Some e.1) (find path_cmp p es) ≡ Some node → path_cmp p q ≡ Less
    by Equal is later found = ap (λ t. path_cmp t q) (paths_exact p e.0 is) ∙ h.0
    by Less is later found = later found
    by Greater is later found = later found

-- so no child of q is there
pub no_child_before : (q : Names) (es : List (Names × Node)) → AreBefore q es → filter (λ e. is_child q e.0) es ≡ []
unfolding AreBefore
no_child_before q [] h = refl
no_child_before q (e ∷ es) h = by (is_child q e.0) refl (no_child_before q es h.1)
  where
    by : (b : Bool) → is_child q e.0 ≡ b → filter (λ e. is_child q e.0) es ≡ [] → cond b (e ∷ filter (λ e. is_child q e.0) es) (filter (λ e. is_child q e.0) es) ≡ []
    by true is rest =
        let name = child_name q e.0 is in
        absurd (not_itself e.0 (less_trans e.0 q e.0 h.0 (ap (path_cmp q) name.1 ∙ above_front q name.0 [])))
    by false is rest = rest

-- lists made of the entries are the same where they are the same of each
pub same_before : {A : Type 0} (q : Names) (f g : Names × Node → List A) → ((e : Names × Node) → path_cmp e.0 q ≡ Less → f e ≡ g e) → (es : List (Names × Node)) → AreBefore q es → flat_map f es ≡ flat_map g es
unfolding AreBefore
same_before q f g same [] h = refl
same_before q f g same (e ∷ es) h = λ i. same e h.0 i ++ same_before q f g same es h.1 i

-- ---- maps

module _ (m : Nodes) (q : Names) (h : AreBefore q (entries m)) where
  pub free_behind : get m q ≡ None
  free_behind = get-entries m q ∙ none_found q (entries m) h

  pub entries_behind : (node : Node) → entries (insert m q node) ≡ entries m ++ (q, node) ∷ []
  entries_behind node = entries-insert paths_total m q node ∙ put_last q node (entries m) h

  pub comes_before : (p : Names) (node : Node) → get m p ≡ Some node → path_cmp p q ≡ Less
  comes_before p node there = is_before q p node (entries m) h (sym (get-entries m p) ∙ there)
