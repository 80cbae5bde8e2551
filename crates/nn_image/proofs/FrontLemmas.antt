-- The entries of a map in two parts: those in front of a path, and those behind it.
use Rattle.std.proofs.Common.{◌≡◌, ◌≢◌, ◌⊎◌, inl, inr, ℕ, Bool, true, false, cond, List, [], ◌∷◌, ◌++◌, map, Some, None, refl, sym, ap, subst, ◌∙◌, nat_eq}
use Rattle.std.specs.List.{filter, IsDistinct, AllByRecursion}
use Rattle.std.specs.Ordering.{is_lt, is_eq}
use Rattle.std.specs.declared.cmp.Ordering.{Ordering}
use Rattle.std.specs.declared.cmp.Ordering.TheVariants.{Less, Equal, Greater}
use Rattle.std.specs.FinMap.{get, insert, entries, entries_sorted, get-entries, get-insert, same_entries_map}
use Rattle.std.specs.FinMap.Entries.{find, is_sorted, below_all}
use Rattle.std.proofs.lemmas.Bool.{and_parts}
use Rattle.nn_base.specs.Paths.{Bytes, Names, path_cmp, is_under}
use Rattle.nn_base.proofs.PlainLemmas.{is_less, is_true}
use Rattle.nn_tree.specs.declared.node.Node.{Node}
use Rattle.nn_tree.specs.Namespace.{Nodes}
use Rattle.nn_tree.specs.Spots.{last_name}
use Rattle.nn_tree.proofs.OrderLemmas.{between}
use Rattle.nn_image.specs.Image.{is_child}
use Rattle.nn_image.proofs.ChildLemmas.{child_name}
use Rattle.std.specs.Cmp.{tied_itself}
use Rattle.nn_tree.proofs.LinksLemmas.{paths_total, paths_exact}
use Rattle.nn_image.proofs.LaterLemmas.{less_trans, turned, AreBefore, none_before, before_cons, entries_behind}
use Rattle.nn_image.proofs.ListedLemmas.{ids_in}

-- ---- the paths of all entries come after q

unfoldable pub AreAfter : Names → List (Names × Node) → Type 0
AreAfter q [] = Unit {0}
AreAfter q (e ∷ es) = (path_cmp q e.0 ≡ Less) × AreAfter q es

after_so : (q : Names) (es : List (Names × Node)) → below_all path_cmp q es ≡ true → AreAfter q es
unfolding AreAfter
after_so q [] h = tt
after_so q (e ∷ es) h = let parts = and_parts (is_lt (path_cmp q e.0)) (below_all path_cmp q es) h in (is_less _ parts.0, after_so q es parts.1)

none_earlier : (p q : Names) (es : List (Names × Node)) → path_cmp p q ≡ Less → AreAfter q es → find path_cmp p es ≡ None
unfolding AreAfter
none_earlier p q [] l h = refl
none_earlier p q (e ∷ es) l h = ap (λ r. cond (is_eq r) (Some e.1) (find path_cmp p es)) (less_trans p q e.0 l h.0) ∙ none_earlier p q es l h.1

-- the entry e stands between those in front of it and those behind it
pub record Splits (done : List (Names × Node)) (e : Names × Node) (rest : List (Names × Node)) : Type 0 where
  pub before : AreBefore e.0 done
  pub after : AreAfter e.0 rest

below_at : (q : Names) (done : List (Names × Node)) (e : Names × Node) (rest : List (Names × Node)) → below_all path_cmp q (done ++ e ∷ rest) ≡ true → path_cmp q e.0 ≡ Less
below_at q [] e rest h = is_less _ (and_parts (is_lt (path_cmp q e.0)) (below_all path_cmp q rest) h).0
below_at q (d ∷ done) e rest h = below_at q done e rest (and_parts (is_lt (path_cmp q d.0)) (below_all path_cmp q (done ++ e ∷ rest)) h).1

splits : (done : List (Names × Node)) (e : Names × Node) (rest : List (Names × Node)) → is_sorted path_cmp (done ++ e ∷ rest) ≡ true → Splits done e rest
splits [] e rest h = record { before = none_before e.0; after = after_so e.0 rest (and_parts (below_all path_cmp e.0 rest) (is_sorted path_cmp rest) h).0 }
splits (d ∷ done) e rest h =
    let parts = and_parts (below_all path_cmp d.0 (done ++ e ∷ rest)) (is_sorted path_cmp (done ++ e ∷ rest)) h in
    let later = splits done e rest parts.1 in
    record { before = before_cons e.0 d done (below_at d.0 done e rest parts.0) later.before; after = later.after }

pub map_splits : (m : Nodes) (done : List (Names × Node)) (e : Names × Node) (rest : List (Names × Node)) → entries m ≡ done ++ e ∷ rest → Splits done e rest
map_splits m done e rest is = splits done e rest (ap (is_sorted path_cmp) (sym is) ∙ is_true _ (entries_sorted m))

-- what comes before e is found in front of it
pub found_in_front : (done : List (Names × Node)) (e : Names × Node) (rest : List (Names × Node)) → AreAfter e.0 rest → (p : Names) → path_cmp p e.0 ≡ Less → find path_cmp p (done ++ e ∷ rest) ≡ find path_cmp p done
found_in_front [] e rest after p l = ap (λ r. cond (is_eq r) (Some e.1) (find path_cmp p rest)) l ∙ none_earlier p e.0 rest l after
found_in_front (d ∷ done) e rest after p l = ap (λ o. cond (is_eq (path_cmp p d.0)) (Some d.1) o) (found_in_front done e rest after p l)

pub found_here : (done : List (Names × Node)) (q : Names) (node : Node) (rest : List (Names × Node)) → AreBefore q done → find path_cmp q (done ++ (q, node) ∷ rest) ≡ Some node
unfolding AreBefore
found_here [] q node rest h = ap (λ r. cond (is_eq r) (Some node) (find path_cmp q rest)) (tied_itself paths_total q)
found_here (d ∷ done) q node rest h = ap (λ r. cond (is_eq r) (Some d.1) (find path_cmp q (done ++ (q, node) ∷ rest))) (turned d.0 q h.0) ∙ found_here done q node rest h.1

-- a map that has just the entries in front of e has the same at each path before e
module _ (m n : Nodes) (done : List (Names × Node)) (q : Names) (node : Node) (rest : List (Names × Node)) (whole : entries m ≡ done ++ (q, node) ∷ rest) (part : entries n ≡ done) where
  split : Splits done (q, node) rest
  split = map_splits m done (q, node) rest whole

  pub same_in_front : (p : Names) → path_cmp p q ≡ Less → get m p ≡ get n p
  same_in_front p l = get-entries m p ∙ ap (find path_cmp p) whole ∙ found_in_front done (q, node) rest split.after p l ∙ ap (find path_cmp p) (sym part) ∙ sym (get-entries n p)

  pub next_there : get m q ≡ Some node
  next_there = get-entries m q ∙ ap (find path_cmp q) whole ∙ found_here done q node rest split.before

  pub part_before : AreBefore q (entries n)
  part_before = subst (AreBefore q) (sym part) split.before

-- with one entry more at the end, what is there is that entry or was there
pub one_of : (m n : Nodes) (q : Names) (node : Node) → entries m ≡ entries n ++ (q, node) ∷ [] → AreBefore q (entries n) → (p : Names) (x : Node) → get m p ≡ Some x → (p ≡ q) ⊎ (get n p ≡ Some x)
one_of m n q node whole before p x at = by (path_cmp p q) refl (get-insert paths_total n q node p)
  where
    same : m ≡ insert n q node
    same = same_entries_map m (insert n q node) (whole ∙ sym (entries_behind n q before node))

    by : (r : Ordering) → path_cmp p q ≡ r → get (insert n q node) p ≡ cond (is_eq (path_cmp p q)) (Some node) (get n p) → (p ≡ q) ⊎ (get n p ≡ Some x)
    by Equal is got = inl (paths_exact p q is)
    by Less is got = inr (sym (got ∙ ap (λ r. cond (is_eq r) (Some node) (get n p)) is) ∙ ap (λ m. get m p) (sym same) ∙ at)
    by Greater is got = inr (sym (got ∙ ap (λ r. cond (is_eq r) (Some node) (get n p)) is) ∙ ap (λ m. get m p) (sym same) ∙ at)

-- ---- what is below a directory

-- what comes after q is not before an entry that is a child of p, so q is below p
under_later : (p r q : Names) → path_cmp (p ++ r) q ≡ Less → (es : List (Names × Node)) (child : ℕ) (ids : List ℕ) → AreAfter q es → ids_in p es ≡ child ∷ ids → is_under p q ≡ true
unfolding AreAfter
under_later p r q l [] child ids after is = let z : ◌≡◌ {A = List ℕ} [] (child ∷ ids) = is in cc
under_later p r q l (e ∷ es) child ids after is = at (is_child p e.0) refl is (under_later p r q l es child ids after.1)
  where
    at : (b : Bool) → is_child p e.0 ≡ b → map (λ (e : Names × Node). e.1.id) (cond b (e ∷ filter (λ e. is_child p e.0) es) (filter (λ e. is_child p e.0) es)) ≡ child ∷ ids → (ids_in p es ≡ child ∷ ids → is_under p q ≡ true) → is_under p q ≡ true
    at false not_child is next = next is
    at true child is next = let name = child_name p e.0 child in between p r (name.0 ∷ []) q l (ap (path_cmp q) (sym name.1) ∙ after.0)

pub under_first : (p r q : Names) (node : Node) (rest : List (Names × Node)) (child : ℕ) (ids : List ℕ) → path_cmp (p ++ r) q ≡ Less → AreAfter q rest → ids_in p ((q, node) ∷ rest) ≡ child ∷ ids → is_under p q ≡ true
under_first p r q node rest child ids l after is = by (is_child p q) refl is
  where
    by : (b : Bool) → is_child p q ≡ b → map (λ (e : Names × Node). e.1.id) (cond b ((q, node) ∷ filter (λ e. is_child p e.0) rest) (filter (λ e. is_child p e.0) rest)) ≡ child ∷ ids → is_under p q ≡ true
    by true child is = (and_parts (is_under p q) _ child).0
    by false not_child is = under_later p r q l rest child ids after is

-- ---- ids

pub distinct_behind : {A : Type 0} (id : A → ℕ) (done : List A) (x : A) (rest : List A) → IsDistinct nat_eq (map id (done ++ x ∷ rest)) → AllByRecursion (λ y. nat_eq (id x) y ≡ false) (map id rest)
unfolding IsDistinct
distinct_behind id [] x rest once = once.0
distinct_behind id (d ∷ done) x rest once = distinct_behind id done x rest once.1

-- ---- the last name of a path

pub record LastName (q : Names) : Type 0 where
  pub front : Names
  pub whole : q ≡ front ++ last_name q ∷ []

split_last : (x : Bytes) (p : Names) → LastName (x ∷ p)
split_last x [] = record { front = []; whole = refl }
split_last x (y ∷ p) = let s = split_last y p in record { front = x ∷ s.front; whole = ap (λ (t : Names). x ∷ t) s.whole }

pub has_last : (q : Names) → q ≢ [] → LastName q
has_last [] other = absurd (other refl)
has_last (x ∷ p) other = split_last x p
