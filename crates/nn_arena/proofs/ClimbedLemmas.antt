-- A climb changes usages alone.
use Rattle.std.proofs.Common.{◌≡◌, ℕ, Bool, true, false, cond, List, Option, Some, None, refl, sym, ap, ◌∙◌}
use Rattle.std.specs.Prelude.{slice_get, option_and_then, option_map}
use Rattle.nn_base.specs.Paths.{Names, is_under}
use Rattle.nn_base.proofs.PlainLemmas.{some_is}
use Rattle.nn_quota.specs.declared.quota.Usage.{Usage}
use Rattle.nn_tree.specs.Links.{place_of}
use Rattle.nn_arena.specs.declared.place.Entry.{Entry}
use Rattle.nn_arena.specs.declared.place.Place.{Place}
use Rattle.nn_arena.specs.declared.place.Place.TheVariants.{Free, Used}
use Rattle.nn_arena.specs.Places.{entry_of, entry_at, link_of, links_of}
use Rattle.nn_arena.specs.Totals.{IsClimbed, climbed_place}

-- an entry with its usage carried on, if it is above
abbrev pub carried : Bool → (Usage → Usage) → Entry → Entry
carried b f e = record e { usage = cond b (f e.usage) e.usage }

pub record Before (ps : List Place) (q : Names) (f : Usage → Usage) (j : ℕ) (e : Entry) : Type 0 where
  pub entry : Entry
  pub is : entry_at ps j ≡ Some entry
  pub usage : e.usage ≡ cond (is_under (place_of (links_of ps) j) q) (f entry.usage) entry.usage
  pub node : e.node ≡ entry.node

module _ (ps qs : List Place) (q : Names) (f : Usage → Usage) (c : IsClimbed ps qs q f) where
  link_same : (j : ℕ) (o : Option Place) → option_map link_of (option_and_then entry_of (option_map (climbed_place ps q f j) o)) ≡ option_map link_of (option_and_then entry_of o)
  link_same j None = refl
  link_same j (Some (Free next)) = refl
  link_same j (Some (Used e)) = elim (is_under (place_of (links_of ps) j) q) as (λ b. option_map link_of (entry_of (cond b (Used (record e { usage = f e.usage })) (Used e))) ≡ Some (link_of e)) [ true ↦ refl | false ↦ refl ]

  -- the places mean what they meant
  pub climbed_links : links_of qs ≡ links_of ps
  climbed_links = λ i. record { at = λ j. at j i; size = c.size i }
    where
      at : (j : ℕ) → option_map link_of (entry_at qs j) ≡ option_map link_of (entry_at ps j)
      at j = ap (λ o. option_map link_of (option_and_then entry_of o)) (c.each j) ∙ link_same j (slice_get ps j)

  entry_of_climbed : (j : ℕ) (o : Option Place) → option_and_then entry_of (option_map (climbed_place ps q f j) o) ≡ option_map (carried (is_under (place_of (links_of ps) j) q) f) (option_and_then entry_of o)
  entry_of_climbed j None = refl
  entry_of_climbed j (Some (Free next)) = refl
  entry_of_climbed j (Some (Used e)) = elim (is_under (place_of (links_of ps) j) q) as (λ b. entry_of (cond b (Used (record e { usage = f e.usage })) (Used e)) ≡ Some (carried b f e)) [ true ↦ refl | false ↦ refl ]

  pub climbed_at : (j : ℕ) → entry_at qs j ≡ option_map (carried (is_under (place_of (links_of ps) j) q) f) (entry_at ps j)
  climbed_at j = ap (option_and_then entry_of) (c.each j) ∙ entry_of_climbed j (slice_get ps j)

  -- what an entry was
  pub climbed_from : (j : ℕ) (e : Entry) → entry_at qs j ≡ Some e → Before ps q f j e
  climbed_from j e is = elim (entry_at ps j) as (λ o. entry_at ps j ≡ o → option_map (carried (is_under (place_of (links_of ps) j) q) f) o ≡ Some e → Before ps q f j e) [
    | None ↦ λ _ h. cc
    | Some d ↦ λ there h.
        let same : carried (is_under (place_of (links_of ps) j) q) f d ≡ e = some_is _ _ h in
        record { entry = d; is = there; usage = ap (λ (e : Entry). e.usage) (sym same); node = ap (λ (e : Entry). e.node) (sym same) }
  ] refl (sym (climbed_at j) ∙ is)
