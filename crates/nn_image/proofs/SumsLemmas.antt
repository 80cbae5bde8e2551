-- Sums over the entries of a namespace: how long their texts are together, and that no entry has two parents.
use Rattle.std.proofs.Common.{◌≡◌, ℕ, ◌+◌, ◌*◌, ◌≤◌, Bool, true, false, cond, List, [], ◌∷◌, length, drop, take, refl, sym, ap, subst, ◌∙◌, arith, length-append}
use Rattle.std.specs.Prelude.{All, sum_by, count_by}
use Rattle.std.specs.List.{flat_map}
use Rattle.std.specs.Ordering.{is_lt}
use Rattle.std.specs.Cmp.{tied_itself}
use Rattle.std.specs.declared.cmp.Ordering.TheVariants.{Less}
use Rattle.std.specs.FinMap.{entries, entries_sorted}
use Rattle.std.specs.FinMap.Entries.{is_sorted, below_all}
use Rattle.std.proofs.Math.Nat.{mul-add}
use Rattle.std.proofs.lemmas.Bool.{and_parts, eqb-true}
use Rattle.std.proofs.lemmas.List.{take_at, length-map}
use Rattle.std.proofs.lemmas.List.Elements.{All-head, All-tail}
use Rattle.std.proofs.lemmas.List.Sums.{sum_by-cons, sum_by-le, length-filter}
use Rattle.nn_base.specs.Paths.{Bytes, Names, path_cmp, is_under}
use Rattle.nn_base.proofs.PlainLemmas.{is_less, is_true}
use Rattle.nn_tree.specs.declared.node.Node.{Node}
use Rattle.nn_tree.specs.Namespace.{Nodes}
use Rattle.nn_tree.proofs.FindLemmas.{first_so, second_so}
use Rattle.nn_tree.proofs.LinksLemmas.{paths_total}
use Rattle.nn_tree.proofs.PrefixLemmas.{under_split}
use Rattle.nn_image.specs.Image.{is_child, children, child_ids}

-- ---- lengths

-- texts of at most so many bytes, and so many more for each unit of a weight
pub joined_weighed : {A : Type 0} (f : A → Bytes) (most each : ℕ) (weight : A → ℕ) (xs : List A) → All (λ x. length (f x) ≤ most + each * weight x) xs → length (flat_map f xs) ≤ length xs * most + each * sum_by weight xs
joined_weighed f most each weight [] all = omega arith
joined_weighed f most each weight (x ∷ xs) all =
    let here = All-head (λ y. length (f y) ≤ most + each * weight y) x xs all in
    let later = joined_weighed f most each weight xs (All-tail (λ y. length (f y) ≤ most + each * weight y) x xs all) in
    let both = length-append (f x) (flat_map f xs) in
    let weights = ap (λ n. each * n) (sum_by-cons weight x xs) ∙ mul-add each (weight x) (sum_by weight xs) in
    omega (arith, here, later, both, weights)

-- ---- pairs are counted alike from either side

sum_of_sums : {B : Type 0} (f g : B → ℕ) (ys : List B) → sum_by (λ y. f y + g y) ys ≡ sum_by f ys + sum_by g ys
sum_of_sums f g [] = refl
sum_of_sums f g (y ∷ ys) = omega (arith, sum_by-cons (λ y. f y + g y) y ys, sum_by-cons f y ys, sum_by-cons g y ys, sum_of_sums f g ys)

sum_of_none : {B : Type 0} (ys : List B) → sum_by (λ (y : B). 0) ys ≡ 0
sum_of_none [] = refl
sum_of_none (y ∷ ys) = sum_by-cons (λ y. 0) y ys ∙ ap (λ n. 0 + n) (sum_of_none ys)

counted_alike : {A B : Type 0} (p : A → B → Bool) (xs : List A) (ys : List B) → sum_by (λ x. count_by (p x) ys) xs ≡ sum_by (λ y. count_by (λ x. p x y) xs) ys
counted_alike p [] ys = sym (sum_of_none ys)
counted_alike p (x ∷ xs) ys =
    sum_by-cons (λ x. count_by (p x) ys) x xs
    ∙ ap (λ n. count_by (p x) ys + n) (counted_alike p xs ys)
    ∙ sym (sum_of_sums (λ y. cond (p x y) 1 0) (λ y. count_by (λ x. p x y) xs) ys)
    ∙ (λ i. sum_by (λ y. sym (sum_by-cons (λ x. cond (p x y) 1 0) x xs) i) ys)

-- ---- a path has one parent

same_parent : (p r q : Names) → is_child p q ≡ true → is_child r q ≡ true → p ≡ r
same_parent p r q p_is r_is =
    let of_p = and_parts (is_under p q) _ p_is in
    let of_r = and_parts (is_under r q) _ r_is in
    let p_len = eqb-true (length q) (length p + 1) of_p.1 in
    let r_len = eqb-true (length q) (length r + 1) of_r.1 in
    let same : length p ≡ length r = omega (arith, p_len, r_len) in
    let p_front : take (length p) q ≡ p = ap (take (length p)) (under_split p q of_p.0) ∙ take_at p (drop (length p) q) (length p) refl in
    let r_front : take (length r) q ≡ r = ap (take (length r)) (under_split r q of_r.0) ∙ take_at r (drop (length r) q) (length r) refl in
    sym p_front ∙ ap (λ n. take n q) same ∙ r_front

not_below : (p r : Names) → p ≡ r → path_cmp p r ≡ Less → ⊥
not_below p r same less = let tied = tied_itself paths_total p in let is : path_cmp p p ≡ Less = ap (path_cmp p) same ∙ less in cc

no_later_parent : (q x : Names) (es : List (Names × Node)) → below_all path_cmp x es ≡ true → is_child x q ≡ true → count_by (λ e. is_child e.0 q) es ≡ 0
no_later_parent q x [] h is = refl
no_later_parent q x (f ∷ es) h is =
    sum_by-cons (λ e. cond (is_child e.0 q) 1 0) f es ∙ by (is_child f.0 q) refl (no_later_parent q x es (second_so (is_lt (path_cmp x f.0)) _ h) is)
  where
    by : (b : Bool) → is_child f.0 q ≡ b → count_by (λ e. is_child e.0 q) es ≡ 0 → cond b 1 0 + count_by (λ e. is_child e.0 q) es ≡ 0
    by true also none = absurd (not_below x f.0 (same_parent x f.0 q is also) (is_less _ (first_so _ _ h)))
    by false not none = ap (λ n. 0 + n) none

one_parent : (q : Names) (es : List (Names × Node)) → is_sorted path_cmp es ≡ true → count_by (λ e. is_child e.0 q) es ≤ 1
one_parent q [] h = omega arith
one_parent q (f ∷ es) h =
    subst (λ n. n ≤ 1) (sym (sum_by-cons (λ e. cond (is_child e.0 q) 1 0) f es)) (by (is_child f.0 q) refl (one_parent q es (second_so (below_all path_cmp f.0 es) _ h)))
  where
    by : (b : Bool) → is_child f.0 q ≡ b → count_by (λ e. is_child e.0 q) es ≤ 1 → cond b 1 0 + count_by (λ e. is_child e.0 q) es ≤ 1
    by true is rest = let none = no_later_parent q f.0 es (first_so _ _ h) is in omega (arith, none)
    by false not rest = omega (arith, rest)

-- ---- children of all directories together

count_of_children : (m : Nodes) (p : Names) → length (child_ids m p) ≡ count_by (λ e. is_child p e.0) (entries m)
unfolding child_ids
count_of_children m p = length-map (children m p) (λ (e : Names × Node). e.1.id) ∙ length-filter (λ e. is_child p e.0) (entries m)

pub few_children : (m : Nodes) → sum_by (λ e. length (child_ids m e.0)) (entries m) ≤ length (entries m)
few_children m =
    let es = entries m in
    let counted : sum_by (λ e. length (child_ids m e.0)) es ≡ sum_by (λ e. count_by (λ f. is_child e.0 f.0) es) es = λ i. sum_by (λ e. count_of_children m e.0 i) es in
    let parents = counted_alike (λ (e f : Names × Node). is_child e.0 f.0) es es in
    let sorted = is_true _ (entries_sorted m) in
    let most = sum_by-le (λ (f : Names × Node). count_by (λ (e : Names × Node). is_child e.0 f.0) es) 1 es (λ k d lt. one_parent _ es sorted) in
    omega (arith, counted, parents, most)
