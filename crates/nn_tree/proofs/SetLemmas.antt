-- One place of a tree is written.
use Rattle.std.proofs.Common.{◌≡◌, ◌≢◌, ℕ, ◌<◌, inl, inr, length, Some, None, sym, ap, ◌∙◌, arith}
use Rattle.std.specs.Prelude.{option_and_then, option_map}
use Rattle.std.proofs.Math.ListN.{set, length-set}
use Rattle.std.proofs.lemmas.Bool.{cases_eq}
use Rattle.std.proofs.lemmas.List.{get_or-set_same, get_or-set_other, ext_get_or}
use Rattle.nn_base.specs.Paths.{Names}
use Rattle.nn_tree.specs.Slots.{slot_at}
use Rattle.nn_tree.specs.Links.{Link, Links, path_at, slot, slots}
use Rattle.nn_tree.proofs.ClimbLemmas.{IsBounded}
use Rattle.nn_tree.proofs.LinksLemmas.{slot_of, slot_is, length_slots}

-- h is g with l at the place i
pub record Sets (g h : Links) (i : ℕ) (l : Link) : Type 0 where
  pub size : h.size ≡ g.size
  pub within : i < g.size
  pub here : h.at i ≡ Some l
  pub others : (j : ℕ) → j ≢ i → h.at j ≡ g.at j

pub bounded_set : (g h : Links) (i : ℕ) (l : Link) → IsBounded g → Sets g h i l → IsBounded h
bounded_set g h i l within s j k live = elim (cases_eq j i) as (λ _. j < h.size) [
  | inl is ↦ let w = s.within in let e = s.size in omega arith
  | inr other ↦ let w = within j k (sym (s.others j other) ∙ live) in let e = s.size in omega arith
]

-- so the slots differ at i alone, where the paths do
pub slots_set : (g h : Links) (i : ℕ) (l : Link) (p : Names) → IsBounded g → Sets g h i l → path_at h i ≡ Some p → ((j : ℕ) → j ≢ i → path_at h j ≡ path_at g j) → slots h ≡ set (slots g) i (Some (p, l.node))
unfolding slot
slots_set g h i l p within s path same = ext_get_or None _ _ (length_slots h ∙ s.size ∙ sym (length-set (slots g) i _ ∙ length_slots g)) (λ j lt. elim (cases_eq j i) as (λ _. slot_at (slots h) j ≡ slot_at (set (slots g) i (Some (p, l.node))) j) [
  | inl is ↦
      let room : i < length (slots g) = let w = s.within in omega (arith, length_slots g) in
      slot_is h bounded j ∙ ap (slot h) is ∙ slot_of h i p l path s.here
      ∙ sym (get_or-set_same (slots g) i _ None room) ∙ ap (slot_at (set (slots g) i (Some (p, l.node)))) (sym is)
  | inr other ↦ slot_is h bounded j
      ∙ ap (option_and_then (λ l. option_map (λ p. (p, l.node)) (path_at h j))) (s.others j other)
      ∙ ap (λ o. option_and_then (λ l. option_map (λ p. (p, l.node)) o) (g.at j)) (same j other)
      ∙ sym (slot_is g within j) ∙ sym (get_or-set_other (slots g) i j _ None other)
])
  where
    bounded : IsBounded h
    bounded = bounded_set g h i l within s
