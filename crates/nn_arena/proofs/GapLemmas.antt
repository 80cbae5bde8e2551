-- The walk over the children of a directory.
use Rattle.std.proofs.Common.{◌≡◌, ◌≢◌, ℕ, zero, suc, ◌+◌, ◌<◌, ◌≤◌, Bool, true, false, cond, [], List, inl, inr, length, Option, Some, None, refl, sym, ap, subst, ◌∙◌, arith, nat_eq}
use Rattle.std.specs.Prelude.{IfSome, not, ◌&&◌}
use Rattle.std.specs.Option.{option_map_or}
use Rattle.std.specs.declared.cmp.Ordering.TheVariants.{Less}
use Rattle.std.specs.Cmp.Lexicographic.{pointwise, bytes_decides}
use Rattle.std.proofs.Common.{eq-eqb}
use Rattle.std.proofs.lemmas.Bool.{cases_eq, eqb-true}
use Rattle.std.proofs.Math.Dec.{eqb-suc-zero}
use Rattle.nn_base.specs.Paths.{Bytes, name_cmp}
use Rattle.nn_base.proofs.PlainLemmas.{some_is}
use Rattle.nn_tree.specs.Links.{Link, Links}
use Rattle.nn_tree.specs.Plain.{is_later, is_child, is_child_link, name_at, IsLeast}
use Rattle.nn_tree.proofs.FindLemmas.{first_so, second_so}
use Rattle.nn_arena.specs.declared.place.Entry.{Entry}
use Rattle.nn_arena.specs.declared.place.Place.{Place}
use Rattle.nn_arena.specs.Places.{name_of, entry_at, links_of}
use Rattle.nn_arena.specs.declared.gap.Gap.{Gap}
use Rattle.nn_arena.specs.Children.{AreLinked, IsGap, IsWalked, bound_of}
use Rattle.nn_arena.proofs.PlaceLemmas.{live_entry, entry_named, entry_within}
use Rattle.nn_arena.proofs.SiblingLemmas.{later_is, later_so, later_too, later_than, not_itself, not_below, above_both, yes_no, isnt}

-- ---- how many children are later than a bound

abbrev pub later_count : Links → ℕ → Bytes → ℕ → ℕ
later_count g a y zero = 0
later_count g a y (suc n) = cond (is_later g a y n) 1 0 + later_count g a y n

fewer : (b c : Bool) → (c ≡ true → b ≡ true) → cond c 1 0 ≤ cond b 1 0
fewer true true h = omega arith
fewer true false h = omega arith
fewer false true h = let z : false ≡ true = h refl in cc
fewer false false h = omega arith

count_le : (g : Links) (a : ℕ) (y x : Bytes) → name_cmp y x ≡ Less → (n : ℕ) → later_count g a x n ≤ later_count g a y n
count_le g a y x less zero = omega arith
count_le g a y x less (suc n) = omega (arith, fewer (is_later g a y n) (is_later g a x n) (later_too g a y x n less), count_le g a y x less n)

-- past a child that is later there are fewer
pub count_less : (g : Links) (a : ℕ) (y x : Bytes) → name_cmp y x ≡ Less → (n k : ℕ) → k < n → is_later g a y k ≡ true → is_later g a x k ≡ false → later_count g a x n < later_count g a y n
count_less g a y x less zero k lt later past = absurd (omega arith)
count_less g a y x less (suc n) k lt later past = elim (cases_eq k n) as (λ _. later_count g a x (suc n) < later_count g a y (suc n)) [
  | inl same ↦
      let p : ◌≡◌ {A = ℕ} (cond (is_later g a y n) 1 0) 1 = ap (λ b. cond b 1 0) (ap (is_later g a y) (sym same) ∙ later) in
      let q : ◌≡◌ {A = ℕ} (cond (is_later g a x n) 1 0) 0 = ap (λ b. cond b 1 0) (ap (is_later g a x) (sym same) ∙ past) in
      omega (arith, p, q, count_le g a y x less n)
  | inr other ↦
      let lt : k < n = omega arith in
      omega (arith, fewer (is_later g a y n) (is_later g a x n) (later_too g a y x n less), count_less g a y x less n k lt later past)
]

-- ---- one step of the walk

pub walk_start : (ps : List Place) (a : ℕ) (name : Bytes) (e : Entry) → AreLinked ps → entry_at ps a ≡ Some e → IsWalked ps a name None e.first
walk_start ps a name e linked is = record { passed = tt; least = linked.first a e is }

-- behind a child that is below the name
pub walk_from : (ps : List Place) (a : ℕ) (name : Bytes) (i : ℕ) (k : Entry) → AreLinked ps → (is_later (links_of ps) a [] i ≡ true) × (name_cmp (name_at (links_of ps) i) name ≡ Less) → entry_at ps i ≡ Some k → IsWalked ps a name (Some i) k.next
walk_from ps a name i k linked passed is =
    let c = later_is (links_of ps) a [] i passed.0 in
    let parent : k.parent ≡ a = ap (λ (l : Link). l.parent) (some_is _ _ (sym (live_entry ps i k is) ∙ c.live)) ∙ c.parent in
    record { passed = passed; least = by i refl c.below_root parent }
  where
    by : (j : ℕ) → j ≡ i → i ≢ 0 → k.parent ≡ a → IsLeast (links_of ps) a (name_at (links_of ps) i) (length ps) k.next
    by zero same root parent = absurd (root (sym same))
    by (suc j) same root parent =
        subst (λ x. IsLeast (links_of ps) a x (length ps) k.next) (sym (entry_named ps i k is))
        (subst (λ a. IsLeast (links_of ps) a (name_of k) (length ps) k.next) parent (linked.next j k (ap (entry_at ps) same ∙ is)))

module _ (ps : List Place) (a : ℕ) (name : Bytes) (before : Option ℕ) (i : ℕ) (k : Entry) (linked : AreLinked ps) (w : IsWalked ps a name before (Some i)) (is : entry_at ps i ≡ Some k) where
  abbrev g : Links
  g = links_of ps

  named : name_at g i ≡ name_of k
  named = ap (λ o. option_map_or (λ (l : Link). l.name) o []) (live_entry ps i k is)

  pub bound_below : name_cmp (bound_of g before) (name_at g i) ≡ Less
  bound_below = let c = later_is g a (bound_of g before) i w.least.0 in c.above

  later_none : is_later g a [] i ≡ true
  later_none = by before w.passed w.least.0 bound_below
    where
      by : (b : Option ℕ) → IfSome b (λ i. (is_later g a [] i ≡ true) × (name_cmp (name_at g i) name ≡ Less)) → is_later g a (bound_of g b) i ≡ true → name_cmp (bound_of g b) (name_at g i) ≡ Less → is_later g a [] i ≡ true
      by None passed later less = later
      by (Some b) passed later less =
          let p = passed in
          let c = later_is g a [] b p.0 in
          later_than g a [] (name_at g b) i later (above_both [] (name_at g b) (name_at g i) c.above less)

  pub walk_on : name_cmp (name_of k) name ≡ Less → IsWalked ps a name (Some i) k.next
  walk_on less = walk_from ps a name i k linked (later_none, ap (λ x. name_cmp x name) named ∙ less) is

  pub walk_less : later_count g a (name_at g i) (length ps) < later_count g a (bound_of g before) (length ps)
  walk_less = count_less g a (bound_of g before) (name_at g i) bound_below (length ps) i (entry_within ps i k is) w.least.0
      (isnt _ (λ later. not_itself (name_at g i) (let c = later_is g a (name_at g i) i later in c.above)))

-- a gap is below its name
pub gap_below : (ps : List Place) (a : ℕ) (name : Bytes) (gap : Gap) → IsGap ps a name gap → name_cmp [] name ≡ Less → name_cmp (bound_of (links_of ps) gap.before) name ≡ Less
gap_below ps a name gap g above = by gap.before g.before
  where
    by : (b : Option ℕ) → IfSome b (λ i. (is_later (links_of ps) a [] i ≡ true) × (name_cmp (name_at (links_of ps) i) name ≡ Less)) → name_cmp (bound_of (links_of ps) b) name ≡ Less
    by None passed = above
    by (Some b) passed = passed.1

pub some_so : (P : ℕ → Type 0) (o : Option ℕ) → IfSome o P → (j : ℕ) → o ≡ Some j → P j
some_so P None h j is = cc
some_so P (Some i) h j is = subst P (some_is i j is) h

-- ---- the child with the name

child_so : (g : Links) (a : ℕ) (name : Bytes) (i : ℕ) (l : Link) → i ≢ 0 → g.at i ≡ Some l → l.parent ≡ a → l.name ≡ name → is_child g a name i ≡ true
child_so g a name zero l root live above is = absurd (root refl)
child_so g a name (suc j) l root live above is =
    ap (λ o. is_child_link (suc j) o a name) live
    ∙ ap (λ b. not b && (nat_eq l.parent a && pointwise nat_eq l.name name)) (eqb-suc-zero j)
    ∙ ap (λ b. b && pointwise nat_eq l.name name) (eq-eqb l.parent a above)
    ∙ (bytes_decides l.name name).1 is

pub found_child : (g : Links) (a : ℕ) (y name : Bytes) (i : ℕ) → is_later g a y i ≡ true → name_at g i ≡ name → is_child g a name i ≡ true
found_child g a y name i later is = let c = later_is g a y i later in child_so g a name i c.link c.below_root c.live c.parent (sym c.named ∙ is)

child_later : (g : Links) (a : ℕ) (y name : Bytes) (k : ℕ) → is_child g a name k ≡ true → name_cmp y name ≡ Less → (is_later g a y k ≡ true) × (name_at g k ≡ name)
child_later g a y name k h less = elim (g.at k) as (λ o. g.at k ≡ o → is_child_link k o a name ≡ true → (is_later g a y k ≡ true) × (name_at g k ≡ name)) [
  | None ↦ λ _ h. cc
  | Some l ↦ λ is h. by k l is (first_so _ _ h) (second_so _ _ h)
] refl h
  where
    by : (k : ℕ) (l : Link) → g.at k ≡ Some l → not (nat_eq k 0) ≡ true → (nat_eq l.parent a && pointwise nat_eq l.name name) ≡ true → (is_later g a y k ≡ true) × (name_at g k ≡ name)
    by zero l is h e = cc
    by (suc j) l is h e =
        let named : l.name ≡ name = (bytes_decides l.name name).0 (second_so (nat_eq l.parent a) _ e) in (
          later_so g a y (suc j) l (λ z. absurd (omega arith)) is (eqb-true l.parent a (first_so _ _ e)) (ap (name_cmp y) named ∙ less),
          ap (λ o. option_map_or (λ l. l.name) o []) is ∙ named,
        )

-- the gap has passed no such child: it is the one behind the gap, or there is none
pub missed_child : (g : Links) (a n : ℕ) (y name : Bytes) (o : Option ℕ) → IsLeast g a y n o → name_cmp y name ≡ Less → ((j : ℕ) → o ≡ Some j → name_cmp (name_at g j) name ≢ Less) → ((j : ℕ) → o ≡ Some j → name_at g j ≢ name)
    → (k : ℕ) → k < n → is_child g a name k ≡ false
missed_child g a n y name o least above reached other k lt = isnt _ (λ child. let c = child_later g a y name k child above in by o least reached other c.0 c.1)
  where
    by : (o : Option ℕ) → IsLeast g a y n o → ((j : ℕ) → o ≡ Some j → name_cmp (name_at g j) name ≢ Less) → ((j : ℕ) → o ≡ Some j → name_at g j ≢ name) → is_later g a y k ≡ true → name_at g k ≡ name → ⊥
    by None least reached other later is = yes_no _ later (least k lt)
    by (Some j) least reached other later is = elim (not_below (name_at g j) name (reached j refl)) as (λ _. ⊥) [
      | inl same ↦ other j refl same
      | inr less ↦ least.1 k lt later (ap (λ x. name_cmp x (name_at g j)) is ∙ less)
    ]
