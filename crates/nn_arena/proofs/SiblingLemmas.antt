-- The children of a directory when one more place is in use, or one less: h is g with l at the place i.
use Rattle.std.proofs.Common.{◌≡◌, ◌≢◌, ℕ, zero, suc, ◌<◌, Bool, true, false, [], not, ◌&&◌, ◌⊎◌, inl, inr, Option, Some, None, refl, sym, ap, subst, ◌∙◌, arith, nat_eq, eq-eqb}
use Rattle.std.specs.Option.{option_map_or}
use Rattle.std.specs.Ordering.{is_lt, ordering_reverse}
use Rattle.std.specs.declared.cmp.Ordering.TheVariants.{Less, Equal, Greater}
use Rattle.std.specs.Cmp.{IsTotalOrder, tied_itself}
use Rattle.std.proofs.Math.Dec.{eqb-suc-zero}
use Rattle.std.proofs.lemmas.Bool.{cases_eq, eqb-true}
use Rattle.nn_base.specs.Paths.{Bytes, name_cmp}
use Rattle.nn_base.proofs.PlainLemmas.{some_is, is_less}
use Rattle.nn_tree.specs.Links.{Link, Links}
use Rattle.nn_tree.specs.Plain.{is_later, is_later_link, name_at, IsLeast}
use Rattle.nn_arena.specs.Children.{AreApart}
use Rattle.nn_tree.proofs.LinksLemmas.{names_total, names_exact}
use Rattle.nn_tree.proofs.SetLemmas.{Sets}
use Rattle.nn_tree.proofs.FindLemmas.{first_so, second_so}

-- ---- the order of names

pub not_itself : (x : Bytes) → name_cmp x x ≢ Less
not_itself x h = let t = tied_itself names_total x in cc

pub above_both : (x y z : Bytes) → name_cmp x y ≡ Less → name_cmp y z ≡ Less → name_cmp x z ≡ Less
above_both x y z a b = let o : IsTotalOrder name_cmp = names_total in o.trans x y z a b

pub not_below : (x y : Bytes) → name_cmp x y ≢ Less → (x ≡ y) ⊎ (name_cmp y x ≡ Less)
not_below x y h = elim (name_cmp x y) as (λ r. name_cmp x y ≡ r → (x ≡ y) ⊎ (name_cmp y x ≡ Less)) [
  | Less ↦ λ e. absurd (h e)
  | Equal ↦ λ e. inl (names_exact x y e)
  | Greater ↦ λ e. inr (let o : IsTotalOrder name_cmp = names_total in o.antisymm y x ∙ ap ordering_reverse e)
] refl

-- what is below x is below all that isn't
pub below_rest : (x y z : Bytes) → name_cmp x y ≡ Less → name_cmp z y ≢ Less → name_cmp x z ≡ Less
below_rest x y z a b = elim (not_below z y b) as (λ _. name_cmp x z ≡ Less) [
  | inl same ↦ ap (name_cmp x) same ∙ a
  | inr above ↦ above_both x y z a above
]

-- what isn't below z isn't below what is below z
pub rest_below : (x y z : Bytes) → name_cmp y x ≢ Less → name_cmp y z ≡ Less → name_cmp x z ≡ Less
rest_below x y z a b = elim (not_below y x a) as (λ _. name_cmp x z ≡ Less) [
  | inl same ↦ ap (λ x. name_cmp x z) (sym same) ∙ b
  | inr above ↦ above_both x y z above b
]

pub not_back : (x y : Bytes) → name_cmp x y ≡ Less → name_cmp y x ≢ Less
not_back x y a b = not_itself x (above_both x y x a b)

-- ---- later children

pub record LaterAt (g : Links) (a : ℕ) (bound : Bytes) (k : ℕ) : Type 0 where
  pub link : Link
  pub below_root : k ≢ 0
  pub live : g.at k ≡ Some link
  pub parent : link.parent ≡ a
  pub named : name_at g k ≡ link.name
  pub above : name_cmp bound (name_at g k) ≡ Less

pub later_is : (g : Links) (a : ℕ) (bound : Bytes) (k : ℕ) → is_later g a bound k ≡ true → LaterAt g a bound k
later_is g a bound k h = elim (g.at k) as (λ o. g.at k ≡ o → is_later_link k o a bound ≡ true → LaterAt g a bound k) [
  | None ↦ λ _ h. cc
  | Some l ↦ λ is h. by k l is (first_so _ _ h) (second_so _ _ h)
] refl h
  where
    by : (k : ℕ) (l : Link) → g.at k ≡ Some l → not (nat_eq k 0) ≡ true → (nat_eq l.parent a && is_lt (name_cmp bound l.name)) ≡ true → LaterAt g a bound k
    by zero l is h e = cc
    by (suc j) l is h e =
        let named : name_at g (suc j) ≡ l.name = ap (λ o. option_map_or (λ l. l.name) o []) is in
        record {
          link = l;
          below_root = λ z. absurd (omega arith);
          live = is;
          parent = eqb-true l.parent a (first_so _ _ e);
          named = named;
          above = ap (name_cmp bound) named ∙ is_less _ (second_so (nat_eq l.parent a) _ e);
        }

pub later_so : (g : Links) (a : ℕ) (bound : Bytes) (k : ℕ) (l : Link) → k ≢ 0 → g.at k ≡ Some l → l.parent ≡ a → name_cmp bound l.name ≡ Less → is_later g a bound k ≡ true
later_so g a bound zero l below_root live parent above = absurd (below_root refl)
later_so g a bound (suc j) l below_root live parent above =
    ap (λ o. is_later_link (suc j) o a bound) live
    ∙ ap (λ b. not b && (nat_eq l.parent a && is_lt (name_cmp bound l.name))) (eqb-suc-zero j)
    ∙ ap (λ b. b && is_lt (name_cmp bound l.name)) (eq-eqb l.parent a parent)
    ∙ ap is_lt above

-- a child that is later than a name is later than each one below it
pub later_too : (g : Links) (a : ℕ) (y x : Bytes) (k : ℕ) → name_cmp y x ≡ Less → is_later g a x k ≡ true → is_later g a y k ≡ true
later_too g a y x k less h =
    let c = later_is g a x k h in
    later_so g a y k c.link c.below_root c.live c.parent (ap (name_cmp y) (sym c.named) ∙ above_both y x (name_at g k) less c.above)

-- and one with a name above a bound is later than it
pub later_than : (g : Links) (a : ℕ) (y x : Bytes) (k : ℕ) → is_later g a x k ≡ true → name_cmp y (name_at g k) ≡ Less → is_later g a y k ≡ true
later_than g a y x k h above =
    let c = later_is g a x k h in
    later_so g a y k c.link c.below_root c.live c.parent (ap (name_cmp y) (sym c.named) ∙ above)

pub yes_no : (b : Bool) → b ≡ true → b ≡ false → ⊥
yes_no b p q = let z : true ≡ false = sym p ∙ q in cc

-- a test that doesn't hold
pub isnt : (b : Bool) → (b ≡ true → ⊥) → b ≡ false
isnt true h = absurd (h refl)
isnt false h = refl

module _ (g h : Links) (i : ℕ) (l : Link) (s : Sets g h i l) (free : g.at i ≡ None) (not_root : i ≢ 0) where
  pub later_other : (b : ℕ) (y : Bytes) (k : ℕ) → k ≢ i → is_later h b y k ≡ is_later g b y k
  later_other b y k other = ap (λ o. is_later_link k o b y) (s.others k other)

  pub name_other : (k : ℕ) → k ≢ i → name_at h k ≡ name_at g k
  name_other k other = ap (λ o. option_map_or (λ l. l.name) o []) (s.others k other)

  pub name_here : name_at h i ≡ l.name
  name_here = ap (λ o. option_map_or (λ l. l.name) o []) s.here

  pub later_free : (b : ℕ) (y : Bytes) → is_later g b y i ≡ false
  later_free b y = ap (λ o. is_later_link i o b y) free

  -- a child of g isn't the place i
  pub old_one : (b : ℕ) (y : Bytes) (k : ℕ) → is_later g b y k ≡ true → k ≢ i
  old_one b y k h is = yes_no _ h (ap (is_later g b y) is ∙ later_free b y)

  pub later_kept : (b : ℕ) (y : Bytes) (k : ℕ) → is_later g b y k ≡ true → is_later h b y k ≡ true
  later_kept b y k later = later_other b y k (old_one b y k later) ∙ later

  pub later_here : (y : Bytes) → name_cmp y l.name ≡ Less → is_later h l.parent y i ≡ true
  later_here y less = later_so h l.parent y i l not_root s.here refl less

  pub here_later : (b : ℕ) (y : Bytes) → is_later h b y i ≡ true → (l.parent ≡ b) × (name_cmp y l.name ≡ Less)
  here_later b y later =
      let c = later_is h b y i later in
      let same : c.link ≡ l = some_is _ _ (sym c.live ∙ s.here) in
      (ap (λ (l : Link). l.parent) (sym same) ∙ c.parent, ap (name_cmp y) (sym name_here) ∙ c.above)

  -- ---- the place is put in

  -- where it isn't later, nothing changes
  pub least_kept : (b n : ℕ) (y : Bytes) (o : Option ℕ) → IsLeast g b y n o → is_later h b y i ≡ false → IsLeast h b y n o
  least_kept b n y None least out = λ k lt. elim (cases_eq k i) as (λ _. is_later h b y k ≡ false) [
    | inl is ↦ ap (is_later h b y) is ∙ out
    | inr other ↦ later_other b y k other ∙ least k lt
  ]
  least_kept b n y (Some j) least out = (
    later_kept b y j least.0,
    λ k lt later. elim (cases_eq k i) as (λ _. name_cmp (name_at h k) (name_at h j) ≢ Less) [
      | inl is ↦ absurd (yes_no _ later (ap (is_later h b y) is ∙ out))
      | inr other ↦ λ less. least.1 k lt (sym (later_other b y k other) ∙ later) ((λ z. name_cmp (sym (name_other k other) z) (sym (name_other j (old_one b y j least.0)) z)) ∙ less)
    ],
  )

  -- where it is below the least one, it is the least
  pub least_new : (n : ℕ) (y : Bytes) (o : Option ℕ) → IsLeast g l.parent y n o → name_cmp y l.name ≡ Less → ((j : ℕ) → o ≡ Some j → name_cmp (name_at g j) l.name ≢ Less) → IsLeast h l.parent y n (Some i)
  least_new n y o least above reached = (
    later_here y above,
    λ k lt later less. elim (cases_eq k i) as (λ _. ⊥) [
      | inl is ↦ not_itself (name_at h i) (ap (λ k. name_cmp (name_at h k) (name_at h i)) (sym is) ∙ less)
      | inr other ↦ by o least reached k lt (sym (later_other l.parent y k other) ∙ later) ((λ z. name_cmp (sym (name_other k other) z) (sym name_here z)) ∙ less)
    ],
  )
    where
      by : (o : Option ℕ) → IsLeast g l.parent y n o → ((j : ℕ) → o ≡ Some j → name_cmp (name_at g j) l.name ≢ Less) → (k : ℕ) → k < n → is_later g l.parent y k ≡ true → name_cmp (name_at g k) l.name ≡ Less → ⊥
      by None least reached k lt later less = yes_no _ later (least k lt)
      by (Some j) least reached k lt later less = least.1 k lt later (below_rest (name_at g k) l.name (name_at g j) less (reached j refl))

  -- where the least one is below it, that stays
  pub least_stays : (b n j : ℕ) (y : Bytes) → IsLeast g b y n (Some j) → name_cmp (name_at g j) l.name ≡ Less → IsLeast h b y n (Some j)
  least_stays b n j y least below = (
    later_kept b y j least.0,
    λ k lt later less. elim (cases_eq k i) as (λ _. ⊥) [
      | inl is ↦ not_back (name_at g j) l.name below ((λ z. name_cmp (sym name_here z) (name_at g j)) ∙ (λ z. name_cmp (name_at h (sym is z)) (sym (name_other j (old_one b y j least.0)) z)) ∙ less)
      | inr other ↦ least.1 k lt (sym (later_other b y k other) ∙ later) ((λ z. name_cmp (sym (name_other k other) z) (sym (name_other j (old_one b y j least.0)) z)) ∙ less)
    ],
  )

  -- ---- the place is taken out

  pub least_left : (b n : ℕ) (y : Bytes) (o : Option ℕ) → IsLeast h b y n o → o ≢ Some i → IsLeast g b y n o
  least_left b n y None least other = λ k lt. isnt _ (λ later. yes_no _ (later_kept b y k later) (least k lt))
  least_left b n y (Some j) least other = (
    sym (later_other b y j (λ is. other (ap Some is))) ∙ least.0,
    λ k lt later less. least.1 k lt (later_kept b y k later) ((λ z. name_cmp (name_other k (old_one b y k later) z) (name_other j (λ is. other (ap Some is)) z)) ∙ less),
  )

  -- what came next after it comes in its stead
  pub least_after : (b n : ℕ) (y : Bytes) (o : Option ℕ) → AreApart h → i < n → IsLeast h b y n (Some i) → IsLeast h l.parent l.name n o → IsLeast g b y n o
  least_after b n y o apart within least next =
      let here = here_later b y least.0 in
      subst (λ (b : ℕ). IsLeast g b y n o) here.0 (by o next (subst (λ (b : ℕ). IsLeast h b y n (Some i)) (sym here.0) least) here.1)
    where
      -- each other child that is later than the bound is later than the place too
      past : IsLeast h l.parent y n (Some i) → (k : ℕ) → k < n → is_later g l.parent y k ≡ true → is_later h l.parent l.name k ≡ true
      past least k lt later =
          let other = old_one l.parent y k later in
          let kept = later_kept l.parent y k later in
          let c = later_is h l.parent y k kept in
          elim (not_below (name_at h k) l.name (λ less. least.1 k lt kept (ap (name_cmp (name_at h k)) name_here ∙ less))) as (λ _. is_later h l.parent l.name k ≡ true) [
            | inl same ↦ absurd (other (apart k i c.link l c.below_root not_root c.live s.here c.parent (sym c.named ∙ same)))
            | inr above ↦ later_than h l.parent l.name y k kept above
          ]

      by : (o : Option ℕ) → IsLeast h l.parent l.name n o → IsLeast h l.parent y n (Some i) → name_cmp y l.name ≡ Less → IsLeast g l.parent y n o
      by None next least above = λ k lt. isnt _ (λ later. yes_no _ (past least k lt later) (next k lt))
      by (Some j) next least above =
          let c = later_is h l.parent l.name j next.0 in
          let other : j ≢ i = λ is. not_itself l.name (ap (name_cmp l.name) (sym name_here ∙ ap (name_at h) (sym is)) ∙ c.above) in (
            sym (later_other l.parent y j other) ∙ later_too h l.parent y l.name j above next.0,
            λ k lt later less. next.1 k lt (past least k lt later) ((λ z. name_cmp (name_other k (old_one l.parent y k later) z) (name_other j other z)) ∙ less),
          )

-- ---- a bound is raised to a name that no child has

pub least_raised : (g : Links) (a n : ℕ) (y x : Bytes) (o : Option ℕ) → IsLeast g a y n o → name_cmp y x ≡ Less → ((j : ℕ) → o ≡ Some j → name_cmp (name_at g j) x ≢ Less) → ((j : ℕ) → o ≡ Some j → name_at g j ≢ x) → IsLeast g a x n o
least_raised g a n y x None least less reached new = λ k lt. isnt _ (λ later. yes_no _ (later_too g a y x k less later) (least k lt))
least_raised g a n y x (Some j) least less reached new = (
  elim (not_below (name_at g j) x (reached j refl)) as (λ _. is_later g a x j ≡ true) [
    | inl same ↦ absurd (new j refl same)
    | inr above ↦ later_than g a x y j least.0 above
  ],
  λ k lt later. least.1 k lt (later_too g a y x k less later),
)

-- ---- a name that the least one above a bound has reached: none above the bound is below it

pub none_between : (g : Links) (a n : ℕ) (y x : Bytes) (o : Option ℕ) → IsLeast g a y n o → ((j : ℕ) → o ≡ Some j → name_cmp (name_at g j) x ≢ Less) → (k : ℕ) → k < n → is_later g a y k ≡ true → name_cmp (name_at g k) x ≢ Less
none_between g a n y x None least reached k lt later less = yes_no _ later (least k lt)
none_between g a n y x (Some j) least reached k lt later less = least.1 k lt later (below_rest (name_at g k) x (name_at g j) less (reached j refl))
