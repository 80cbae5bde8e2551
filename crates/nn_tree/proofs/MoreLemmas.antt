-- One free place more changes nothing that the places mean.
use Rattle.std.proofs.Common.{◌≡◌, ℕ, suc, ◌+◌, List, [], ◌∷◌, ◌++◌, map, Option, Some, None, refl, sym, ap, ◌∙◌, arith, is_some}
use Rattle.std.specs.Prelude.{option_and_then, option_map}
use Rattle.std.specs.FinMap.{insert}
use Rattle.nn_tree.specs.Slots.{of_slots}
use Rattle.nn_tree.specs.Links.{Link, Links, path_at, slot, slots, nodes_of, IsTree}
use Rattle.nn_tree.proofs.ClimbLemmas.{IsBounded, enough}
use Rattle.nn_tree.proofs.LinksLemmas.{slot_empty}
use Rattle.std.specs.List.{range_with_len}
use Rattle.std.specs.declared.cmp.Ordering.{Ordering}
use Rattle.std.proofs.lemmas.List.FromFn.{map-range_with_len_more}
use Rattle.nn_tree.proofs.EditLemmas.{up_steps}

module _ (g h : Links) (t : IsTree g) (size : h.size ≡ g.size + 1) (same : (j : ℕ) → h.at j ≡ g.at j) where
  bounded : IsBounded h
  bounded j l live = let w = t.within j l (sym (same j) ∙ live) in omega (arith, size)

  pub more_path : path_at h ≡ path_at g
  unfolding path_at
  more_path = λ k j. (up_steps h g (λ j. ap (option_map (λ (l : Link). (l.parent, l.name))) (same j)) h.size j ∙ enough g t.within h.size j (omega (arith, size))) k

  slot_more : slot h ≡ slot g
  unfolding slot
  slot_more = λ k j. option_and_then (λ l. option_map (λ p. (p, l.node)) (more_path k j)) (same j k)

  of_more : {K X : Type 0} {R : K → K → Ordering} (s : List (Option (K × X))) → of_slots {R = R} (s ++ None ∷ []) ≡ of_slots s
  unfolding of_slots
  of_more [] = refl
  of_more (None ∷ s) = of_more s
  of_more {R = R} (Some e ∷ s) = ap (λ m. insert m e.0 e.1) (of_more {R = R} s)

  free : g.at g.size ≡ None
  free = elim (g.at g.size) as (λ o. g.at g.size ≡ o → o ≡ None) [ None ↦ λ _. refl | Some l ↦ λ live. (let w = t.within g.size l live in absurd (omega arith)) ] refl

  pub nodes_more : nodes_of h ≡ nodes_of g
  unfolding slots
  nodes_more =
      (λ k. of_slots (map (slot_more k) (range_with_len 0 h.size)))
      ∙ ap (λ n. of_slots (map (slot g) (range_with_len 0 n))) size
      ∙ ap of_slots (map-range_with_len_more (slot g) 0 g.size g.size (omega arith))
      ∙ ap (λ o. of_slots (map (slot g) (range_with_len 0 g.size) ++ o ∷ [])) (slot_empty g g.size free)
      ∙ of_more (map (slot g) (range_with_len 0 g.size))

  pub tree_more : IsTree h
  tree_more = record {
    within = bounded;
    root = ap (λ f. f 0) more_path ∙ t.root;
    top = λ l live. t.top l (sym (same 0) ∙ live);
    unnamed = λ l live. t.unnamed l (sym (same 0) ∙ live);
    reaches = λ j l live. ap (λ f. is_some (f j)) more_path ∙ t.reaches j l (sym (same j) ∙ live);
    differ = λ j k q a b. t.differ j k q (sym (ap (λ f. f j) more_path) ∙ a) (sym (ap (λ f. f k) more_path) ∙ b);
    dirs = λ j l d live up. t.dirs j l d (sym (same (suc j)) ∙ live) (sym (same l.parent) ∙ up);
    names = λ j l live. t.names j l (sym (same (suc j)) ∙ live);
  }
