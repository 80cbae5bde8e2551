-- What a step that changes links to neighbours alone keeps of an entry.
use Rattle.std.proofs.Common.{◌≡◌, ℕ, List, Option, Some, None, refl, sym, ap, ◌∙◌}
use Rattle.std.specs.Prelude.{slice_get, option_and_then, option_map}
use Rattle.nn_base.proofs.PlainLemmas.{some_is}
use Rattle.nn_arena.specs.declared.place.Entry.{Entry}
use Rattle.nn_arena.specs.declared.place.Place.{Place}
use Rattle.nn_arena.specs.declared.place.Place.TheVariants.{Free, Used}
use Rattle.nn_arena.specs.Places.{entry_of, entry_at, unlinked}
use Rattle.nn_arena.proofs.PlaceLemmas.{place_at}

-- its usage and its node
pub alike_from : (ps qs : List Place) (j : ℕ) (e : Entry) → option_map unlinked (slice_get qs j) ≡ option_map unlinked (slice_get ps j) → entry_at qs j ≡ Some e → (d : Entry) × (entry_at ps j ≡ Some d) × (e.usage ≡ d.usage) × (e.node ≡ d.node)
alike_from ps qs j e same is = by (slice_get ps j) refl (sym same ∙ ap (option_map unlinked) (let p = place_at qs j e is in p.is))
  where
    by : (o : Option Place) → slice_get ps j ≡ o → option_map unlinked o ≡ Some (Used (record e { first = None; next = None })) → (d : Entry) × (entry_at ps j ≡ Some d) × (e.usage ≡ d.usage) × (e.node ≡ d.node)
    by None at h = cc
    by (Some (Free next)) at h = cc
    by (Some (Used d)) at h =
        let one : record d { first = None; next = None } ≡ record e { first = None; next = None } = some_is _ _ (ap (option_and_then entry_of) h) in
        (d, ap (option_and_then entry_of) at, ap (λ (e : Entry). e.usage) (sym one), ap (λ (e : Entry). e.node) (sym one))
