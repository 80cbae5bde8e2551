-- One free place more, behind the others.
use Rattle.std.proofs.Common.{◌≡◌, ℕ, zero, suc, ◌+◌, ◌<◌, true, false, List, [], ◌∷◌, ◌++◌, inl, inr, length, Option, Some, None, refl, sym, ap, subst, ◌∙◌, arith, nat_eq, eq-eqb, length-append, is_some}
use Rattle.std.specs.Prelude.{slice_get, option_and_then, option_map, ◌||◌}
use Rattle.std.specs.Option.{option_map_or}
use Rattle.std.specs.List.{list_any}
use Rattle.std.proofs.lemmas.Bool.{cases_eq}
use Rattle.std.proofs.lemmas.Option.{slice_get_within, slice_get_past}
use Rattle.nn_base.specs.Paths.{Bytes, name_cmp}
use Rattle.nn_tree.specs.Links.{Link, Links, path_at, nodes_of, IsTree}
use Rattle.nn_tree.specs.Plain.{is_later, is_later_link, name_at, IsLeast}
use Rattle.nn_tree.proofs.MoreLemmas.{more_path, nodes_more, tree_more}
use Rattle.nn_arena.specs.declared.place.Place.{Place}
use Rattle.nn_arena.specs.declared.place.Place.TheVariants.{Free}
use Rattle.nn_arena.specs.Places.{entry_of, entry_at, link_of, links_of, name_of}
use Rattle.nn_arena.specs.Children.{AreLinked}
use Rattle.nn_arena.specs.FreeList.{AreFreeFrom, IsFreeList}

slice_front : (ps : List Place) (p : Place) (j : ℕ) → j < length ps → slice_get (ps ++ p ∷ []) j ≡ slice_get ps j
slice_front [] p j lt = absurd (omega arith)
slice_front (x ∷ ps) p zero lt = refl
slice_front (x ∷ ps) p (suc j) lt = slice_front ps p j (omega arith)

slice_last : (ps : List Place) (p : Place) → slice_get (ps ++ p ∷ []) (length ps) ≡ Some p
slice_last [] p = refl
slice_last (x ∷ ps) p = slice_last ps p

pub entry_more : (ps : List Place) (j : ℕ) → entry_at (ps ++ Free None ∷ []) j ≡ entry_at ps j
entry_more [] zero = refl
entry_more [] (suc j) = refl
entry_more (x ∷ ps) zero = refl
entry_more (x ∷ ps) (suc j) = entry_more ps j

-- ---- the children stay linked

least_more : (g h : Links) (a n : ℕ) (y : Bytes) (o : Option ℕ) → ((j : ℕ) → h.at j ≡ g.at j) → g.at n ≡ None → IsLeast g a y n o → IsLeast h a y (n + 1) o
least_more g h a n y o same free least = by o least
  where
    later : (k : ℕ) → is_later h a y k ≡ is_later g a y k
    later k = ap (λ o. is_later_link k o a y) (same k)

    named : (k : ℕ) → name_at h k ≡ name_at g k
    named k = ap (λ o. option_map_or (λ (l : Link). l.name) o []) (same k)

    last : (k : ℕ) → k ≡ n → is_later g a y k ≡ false
    last k is = ap (λ o. is_later_link k o a y) (ap g.at is ∙ free)

    by : (o : Option ℕ) → IsLeast g a y n o → IsLeast h a y (n + 1) o
    by None least = λ k lt. elim (cases_eq k n) as (λ _. is_later h a y k ≡ false) [
      | inl is ↦ later k ∙ last k is
      | inr other ↦ later k ∙ least k (omega arith)
    ]
    by (Some i) least = (
      later i ∙ least.0,
      λ k lt is less. elim (cases_eq k n) as (λ _. ⊥) [
        | inl same ↦ let z : true ≡ false = sym is ∙ later k ∙ last k same in cc
        | inr other ↦ least.1 k (omega arith) (sym (later k) ∙ is) ((λ t. name_cmp (sym (named k) t) (sym (named i) t)) ∙ less)
      ],
    )

-- all that `grow` promises where it adds a place
pub record IsGrown (ps qs : List Place) : Type 0 where
  pub tree : IsTree (links_of qs)
  pub linked : AreLinked qs
  pub same : (j : ℕ) → entry_at qs j ≡ entry_at ps j
  pub path : path_at (links_of qs) ≡ path_at (links_of ps)
  pub nodes : nodes_of (links_of qs) ≡ nodes_of (links_of ps)

module _ (ps : List Place) (tree : IsTree (links_of ps)) (linked : AreLinked ps) where
  abbrev qs : List Place
  qs = ps ++ Free None ∷ []

  size : length qs ≡ length ps + 1
  size = length-append ps (Free None ∷ [])

  links : (j : ℕ) → (links_of qs).at j ≡ (links_of ps).at j
  links j = ap (option_map link_of) (entry_more ps j)

  behind : (links_of ps).at (length ps) ≡ None
  behind = ap (λ o. option_map link_of (option_and_then entry_of o)) (slice_get_past ps (length ps) (omega arith))

  more : (a : ℕ) (y : Bytes) (o : Option ℕ) → IsLeast (links_of ps) a y (length ps) o → IsLeast (links_of qs) a y (length qs) o
  more a y o least = subst (λ n. IsLeast (links_of qs) a y n o) (sym size) (least_more (links_of ps) (links_of qs) a (length ps) y o links behind least)

  pub grown_here : IsGrown ps (ps ++ Free None ∷ [])
  grown_here = record {
    tree = tree_more (links_of ps) (links_of qs) tree size links;
    linked = record {
      first = λ i e is. more i [] e.first (linked.first i e (sym (entry_more ps i) ∙ is));
      next = λ i e is. more e.parent (name_of e) e.next (linked.next i e (sym (entry_more ps (suc i)) ∙ is));
    };
    same = entry_more ps;
    path = more_path (links_of ps) (links_of qs) tree size links;
    nodes = nodes_more (links_of ps) (links_of qs) tree size links;
  }

pub grown : (ps more : List Place) → more ≡ ps ++ Free None ∷ [] → IsTree (links_of ps) → AreLinked ps → IsGrown ps more
grown ps more pushed tree linked = subst (IsGrown ps) (sym pushed) (grown_here ps tree linked)

-- ---- the new place is the first of the list

module _ (ps : List Place) (list : IsFreeList ps None) where
  -- no place was free
  none_free : (j : ℕ) (n : Option ℕ) → slice_get ps j ≡ Some (Free n) → ⊥
  none_free j n is = by list.list list.linked (list.whole j n is)
    where
      by : (l : List ℕ) → AreFreeFrom ps None l → list_any (nat_eq j) l ≡ true → ⊥
      by [] linked has = cc
      by (i ∷ rest) linked has = let z = linked.0 in cc

  whole : (j : ℕ) (n : Option ℕ) → slice_get (ps ++ Free None ∷ []) j ≡ Some (Free n) → list_any (nat_eq j) (length ps ∷ []) ≡ true
  whole j n is = elim (cases_eq j (length ps)) as (λ _. list_any (nat_eq j) (length ps ∷ []) ≡ true) [
    | inl same ↦ ap (λ b. b || false) (eq-eqb j (length ps) same)
    | inr other ↦
        let w = slice_get_within (ps ++ Free None ∷ []) j (Free n) is in
        let lt : j < length ps = omega (arith, length-append ps (Free None ∷ [])) in
        absurd (none_free j n (sym (slice_front ps (Free None) j lt) ∙ is))
  ]

  pub list_grown : (n : ℕ) (more : List Place) → n ≡ length ps → more ≡ ps ++ Free None ∷ [] → IsFreeList more (Some n)
  list_grown n more len pushed =
      subst (λ (more : List Place). IsFreeList more (Some n)) (sym pushed)
      (subst (λ n. IsFreeList (ps ++ Free None ∷ []) (Some n)) (sym len)
      (record { list = length ps ∷ []; linked = (refl, tt, (None, (slice_last ps (Free None), refl))); whole = whole }))

-- where there is no first free place, there is none
pub no_first : (o : Option ℕ) → is_some o ≡ false → o ≡ None
no_first None h = refl
no_first (Some i) h = cc
