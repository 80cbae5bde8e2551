-- The child with the least name, found by a scan.
use Rattle.std.proofs.Common.{◌≡◌, ◌≢◌, ℕ, zero, suc, ◌+◌, ◌<◌, true, false, not, [], ◌∷◌, ◌++◌, ◌&&◌, inl, inr, Option, Some, None, refl, sym, ap, ◌∙◌, arith, is_some, unwrap_or}
use Rattle.std.specs.Prelude.{option_map}
use Rattle.std.specs.Option.{option_map_or}
use Rattle.std.specs.FinMap.{get}
use Rattle.std.proofs.lemmas.Bool.{cases_eq}
use Rattle.nn_base.specs.Paths.{Names, Bytes}
use Rattle.nn_tree.specs.declared.node.Node.{Node}
use Rattle.nn_tree.specs.declared.spot.Spot.{Spot}
use Rattle.nn_tree.specs.Links.{Link, Links, path_at, nodes_of, IsTree, has_place, place_of}
use Rattle.nn_tree.proofs.ClimbLemmas.{above}
use Rattle.nn_tree.proofs.LinksLemmas.{names_total, under}
use Rattle.std.proofs.Common.{nat_eq, eq-eqb}
use Rattle.std.specs.declared.cmp.Ordering.TheVariants.{Less}
use Rattle.std.specs.Ordering.{is_lt}
use Rattle.std.specs.Cmp.{IsTotalOrder, tied_itself}
use Rattle.std.proofs.lemmas.Bool.{eqb-true}
use Rattle.std.proofs.Math.Dec.{eqb-suc-zero}
use Rattle.nn_base.specs.Paths.{name_cmp}
use Rattle.nn_base.proofs.PlainLemmas.{some_is, some_of, is_less}
use Rattle.nn_tree.specs.Spots.{NextChild, IsNextChild}
use Rattle.nn_tree.specs.Plain.{is_later, is_later_link, name_at, IsLeast}
use Rattle.nn_tree.proofs.LinksLemmas.{child_of}
use Rattle.nn_tree.proofs.FindLemmas.{first_so, second_so}

-- ---- one place more

module _ (g : Links) (a : ℕ) (bound : Bytes) where
  not_less : (x : Bytes) → name_cmp x x ≢ Less
  not_less x h = let t = tied_itself names_total x in cc

  -- a place that is no such child changes nothing
  pub least_same : (n : ℕ) (best : Option ℕ) → IsLeast g a bound n best → is_later g a bound n ≡ false → IsLeast g a bound (n + 1) best
  least_same n None h e = λ k lt. elim (cases_eq k n) as (λ _. is_later g a bound k ≡ false) [ inl is ↦ ap (is_later g a bound) is ∙ e | inr other ↦ h k (omega arith) ]
  least_same n (Some b) h e = (h.0, λ k lt c. elim (cases_eq k n) as (λ _. name_cmp (name_at g k) (name_at g b) ≢ Less) [ inl is ↦ (let z = sym (ap (is_later g a bound) is ∙ e) ∙ c in cc) | inr other ↦ h.1 k (omega arith) c ])

  -- the first one is the best
  pub least_first : (n : ℕ) → IsLeast g a bound n None → is_later g a bound n ≡ true → IsLeast g a bound (n + 1) (Some n)
  least_first n h e = (
    e,
    λ k lt c. elim (cases_eq k n) as (λ _. name_cmp (name_at g k) (name_at g n) ≢ Less) [
      | inl is ↦ λ l. not_less (name_at g n) (ap (λ k. name_cmp (name_at g k) (name_at g n)) (sym is) ∙ l)
      | inr other ↦ (let z = sym (h k (omega arith)) ∙ c in cc)
    ],
  )

  pub least_better : (n b : ℕ) → IsLeast g a bound n (Some b) → is_later g a bound n ≡ true → is_lt (name_cmp (name_at g n) (name_at g b)) ≡ true → IsLeast g a bound (n + 1) (Some n)
  least_better n b h e w = (
    e,
    λ k lt c. elim (cases_eq k n) as (λ _. name_cmp (name_at g k) (name_at g n) ≢ Less) [
      | inl is ↦ λ l. not_less (name_at g n) (ap (λ k. name_cmp (name_at g k) (name_at g n)) (sym is) ∙ l)
      | inr other ↦ λ l. h.1 k (omega arith) c (let o : IsTotalOrder name_cmp = names_total in o.trans (name_at g k) (name_at g n) (name_at g b) l (is_less _ w))
    ],
  )

  pub least_worse : (n b : ℕ) → IsLeast g a bound n (Some b) → is_lt (name_cmp (name_at g n) (name_at g b)) ≡ false → IsLeast g a bound (n + 1) (Some b)
  least_worse n b h w = (
    h.0,
    λ k lt c. elim (cases_eq k n) as (λ _. name_cmp (name_at g k) (name_at g b) ≢ Less) [
      | inl is ↦ λ l. let z : is_lt (name_cmp (name_at g n) (name_at g b)) ≡ true = ap is_lt (ap (λ k. name_cmp (name_at g k) (name_at g b)) (sym is) ∙ l) in cc
      | inr other ↦ h.1 k (omega arith) c
    ],
  )

-- ---- such places are children

record LaterAt (g : Links) (a : ℕ) (bound : Bytes) (k : ℕ) : Type 0 where
  j : ℕ
  link : Link
  below_root : k ≡ suc j
  live : g.at k ≡ Some link
  parent : link.parent ≡ a
  above : name_cmp bound link.name ≡ Less

later_is : (g : Links) (a : ℕ) (bound : Bytes) (k : ℕ) → is_later g a bound k ≡ true → LaterAt g a bound k
later_is g a bound k h = elim (g.at k) as (λ o. g.at k ≡ o → is_later_link k o a bound ≡ true → LaterAt g a bound k) [
  | None ↦ λ _ h. cc
  | Some l ↦ λ is h. by k l is (first_so _ _ h) (second_so _ _ h)
] refl h
  where
    by : (k : ℕ) (l : Link) → g.at k ≡ Some l → not (nat_eq k 0) ≡ true → (nat_eq l.parent a && is_lt (name_cmp bound l.name)) ≡ true → LaterAt g a bound k
    by zero l is h e = cc
    by (suc j) l is h e = record {
      j = j;
      link = l;
      below_root = refl;
      live = is;
      parent = eqb-true l.parent a (first_so _ _ e);
      above = is_less _ (second_so (nat_eq l.parent a) _ e);
    }

-- and children are such places
record Present (g : Links) (a : ℕ) (bound y : Bytes) : Type 0 where
  k : ℕ
  within : k < g.size
  named : name_at g k ≡ y
  later : is_later g a bound k ≡ true

present : (g : Links) (a : ℕ) (bound : Bytes) (q : Names) (y : Bytes) (x : Node) → IsTree g → path_at g a ≡ Some q → name_cmp bound y ≡ Less → get (nodes_of g) (q ++ y ∷ []) ≡ Some x → Present g a bound y
present g a bound q y x t at above h =
    let c = child_of g q y x t h in
    let p : c.link.parent ≡ a = t.differ c.link.parent a q c.parent at in
    record {
      k = suc c.j;
      within = t.within (suc c.j) c.link c.live;
      named = ap (λ o. option_map_or (λ l. l.name) o []) c.live ∙ c.name;
      later = ap (λ o. is_later_link (suc c.j) o a bound) c.live
          ∙ ap (λ b. not b && (nat_eq c.link.parent a && is_lt (name_cmp bound c.link.name))) (eqb-suc-zero c.j)
          ∙ ap (λ b. b && is_lt (name_cmp bound c.link.name)) (eq-eqb c.link.parent a p)
          ∙ ap (λ n. is_lt (name_cmp bound n)) c.name ∙ ap is_lt above;
    }

-- ---- the answer

pub none_next : (g : Links) (a : ℕ) (q : Names) (bound : Bytes) → IsTree g → path_at g a ≡ Some q → IsLeast g a bound g.size None → (y : Bytes) → name_cmp bound y ≡ Less → get (nodes_of g) (q ++ y ∷ []) ≡ None
none_next g a q bound t at least y above =
    elim (get (nodes_of g) (q ++ y ∷ [])) as (λ v. get (nodes_of g) (q ++ y ∷ []) ≡ v → v ≡ None) [
      | None ↦ λ _. refl
      | Some x ↦ λ h. let p = present g a bound q y x t at above h in let z = sym (least p.k p.within) ∙ p.later in cc
    ] refl

pub some_next : (g : Links) (a i : ℕ) (q : Names) (bound : Bytes) → IsTree g → path_at g a ≡ Some q → IsLeast g a bound g.size (Some i)
    → NextChild (record { index = i }) (λ (s : Spot). has_place g s.index) (λ s. place_of g s.index) (nodes_of g) q bound
some_next g a i q bound t at best = let c = later_is g a bound i best.0 in by i c c.below_root best.1
  where
    by : (i : ℕ) (c : LaterAt g a bound i) → i ≡ suc c.j → ((k : ℕ) → k < g.size → is_later g a bound k ≡ true → name_cmp (name_at g k) (name_at g i) ≢ Less)
        → NextChild (record { index = i }) (λ (s : Spot). has_place g s.index) (λ s. place_of g s.index) (nodes_of g) q bound
    by zero c e least = absurd (omega arith)
    by (suc j) c e least =
        let u = under g j c.link t c.live in
        let front : u.front ≡ q = some_is _ _ (sym u.parent ∙ ap (path_at g) c.parent ∙ at) in
        let path : path_at g (suc j) ≡ Some (q ++ c.link.name ∷ []) = u.path ∙ ap (λ q. Some (q ++ c.link.name ∷ [])) front in
        let named : name_at g (suc j) ≡ c.link.name = ap (λ o. option_map_or (λ l. l.name) o []) c.live in
        record {
          there = ap is_some path;
          name = c.link.name;
          at = ap (λ o. unwrap_or o []) path;
          above = c.above;
          least = λ y above there l.
              let s = some_of (get (nodes_of g) (q ++ y ∷ [])) there in
              let p = present g a bound q y s.0 t at above s.1 in
              least p.k p.within p.later (ap (λ n. name_cmp n (name_at g (suc j))) p.named ∙ ap (name_cmp y) named ∙ l);
        }

pub is_next : (g : Links) (a : ℕ) (q : Names) (bound : Bytes) (best : Option ℕ) → IsTree g → path_at g a ≡ Some q → IsLeast g a bound g.size best
    → IsNextChild (option_map (λ i. record { index = i }) best) (λ (s : Spot). has_place g s.index) (λ s. place_of g s.index) (nodes_of g) q bound
is_next g a q bound None t at least = none_next g a q bound t at least
is_next g a q bound (Some i) t at least = some_next g a i q bound t at least
