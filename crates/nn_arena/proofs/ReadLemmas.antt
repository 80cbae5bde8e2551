-- What the readers of the tree promise, and what a further free place leaves alone.
use Rattle.std.proofs.Common.{◌≡◌, ℕ, suc, ◌-◌, ◌<◌, List, [], ◌∷◌, ◌++◌, length, Option, Some, sym, ap, subst, ◌∙◌, arith, is_some, unwrap_or}
use Rattle.std.specs.Prelude.{option_map}
use Rattle.nn_base.specs.Paths.{Names, Bytes}
use Rattle.nn_tree.specs.declared.spot.Spot.{Spot}
use Rattle.nn_tree.specs.Namespace.{usage_of}
use Rattle.nn_tree.specs.Spots.{IsNextChild}
use Rattle.nn_tree.specs.Links.{path_at, nodes_of, place_of, has_place, IsTree}
use Rattle.nn_tree.specs.Plain.{IsLeast}
use Rattle.nn_tree.proofs.SoundLemmas.{sibling_of}
use Rattle.nn_tree.proofs.LinksLemmas.{path_of_place}
use Rattle.nn_tree.proofs.LeastLemmas.{is_next}
use Rattle.nn_arena.specs.declared.place.Entry.{Entry}
use Rattle.nn_arena.specs.declared.place.Place.{Place}
use Rattle.nn_arena.specs.Places.{entry_at, link_of, links_of}
use Rattle.nn_arena.specs.Children.{AreLinked}
use Rattle.nn_arena.specs.Totals.{AreTotals}
use Rattle.nn_arena.proofs.PlaceLemmas.{live_entry, in_use_spot}

abbrev spot_of : Option ℕ → Option Spot
spot_of o = option_map (λ i. record { index = i }) o

module _ (ps : List Place) (t : IsTree (links_of ps)) (linked : AreLinked ps) (i : ℕ) (e : Entry) (is : entry_at ps i ≡ Some e) (o : Option ℕ) where
  pub first_found : e.first ≡ o → IsNextChild (spot_of o) (λ (s : Spot). has_place (links_of ps) s.index) (λ s. place_of (links_of ps) s.index) (nodes_of (links_of ps)) (place_of (links_of ps) i) []
  first_found first =
      is_next (links_of ps) i (place_of (links_of ps) i) [] o t (path_of_place (links_of ps) i (in_use_spot ps i t (ap is_some is)))
      (subst (λ o. IsLeast (links_of ps) i [] (length ps) o) first (linked.first i e is))

  pub next_found : 0 < i → e.next ≡ o → (p : Names) (name : Bytes) → place_of (links_of ps) i ≡ p ++ name ∷ []
      → IsNextChild (spot_of o) (λ (s : Spot). has_place (links_of ps) s.index) (λ s. place_of (links_of ps) s.index) (nodes_of (links_of ps)) p name
  next_found below_root next p name at =
      let j : i ≡ suc (i - 1) = omega arith in
      let s = sibling_of (links_of ps) i (i - 1) (link_of e) t j (live_entry ps i e is) p name at in
      let least = linked.next (i - 1) e (ap (entry_at ps) (sym j) ∙ is) in
      is_next (links_of ps) e.parent p name o t s.0
      (subst (λ o. IsLeast (links_of ps) e.parent name (length ps) o) next (subst (λ (b : Bytes). IsLeast (links_of ps) e.parent b (length ps) e.next) s.1 least))

pub grown : (ps qs : List Place) → ((j : ℕ) → entry_at qs j ≡ entry_at ps j) → path_at (links_of qs) ≡ path_at (links_of ps) → nodes_of (links_of qs) ≡ nodes_of (links_of ps) → AreTotals ps → AreTotals qs
grown ps qs same path nodes totals j e is =
    totals j e (sym (same j) ∙ is) ∙ sym (λ k. usage_of (nodes k) (unwrap_or (path k j) []))
