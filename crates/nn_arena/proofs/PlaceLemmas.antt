-- The entries of the arena as links.
use Rattle.std.proofs.Common.{◌≡◌, ◌≢◌, ℕ, ◌<◌, true, List, [], length, Option, Some, None, refl, sym, ap, ◌∙◌, is_some}
use Rattle.std.specs.Prelude.{slice_get, option_and_then, option_map}
use Rattle.std.proofs.lemmas.Option.{slice_get_within}
use Rattle.nn_base.proofs.PlainLemmas.{some_is, some_of}
use Rattle.std.specs.Option.{option_map_or}
use Rattle.nn_tree.specs.Plain.{name_at}
use Rattle.nn_tree.specs.Links.{Link, IsTree, has_place}
use Rattle.nn_tree.proofs.LinksLemmas.{link_there}
use Rattle.nn_tree.proofs.SetLemmas.{Sets}
use Rattle.nn_arena.specs.declared.place.Entry.{Entry}
use Rattle.nn_arena.specs.declared.place.Place.{Place}
use Rattle.nn_arena.specs.declared.place.Place.TheVariants.{Free, Used}
use Rattle.nn_arena.specs.Places.{name_of, entry_of, entry_at, in_use, link_of, links_of, unlinked, AreAlikeBut, IsWith}

pub entry_read : (ps : List Place) (i : ℕ) (p : Place) → slice_get ps i ≡ Some p → entry_at ps i ≡ entry_of p
entry_read ps i p is = ap (option_and_then entry_of) is

-- the place of an entry
pub record PlaceAt (ps : List Place) (i : ℕ) (e : Entry) : Type 0 where
  pub is : slice_get ps i ≡ Some (Used e)

pub place_at : (ps : List Place) (i : ℕ) (e : Entry) → entry_at ps i ≡ Some e → PlaceAt ps i e
place_at ps i e h = elim (slice_get ps i) as (λ o. slice_get ps i ≡ o → option_and_then entry_of o ≡ Some e → PlaceAt ps i e) [
  | None ↦ λ _ h. cc
  | Some p ↦ λ is h. by p is h
] refl h
  where
    by : (p : Place) → slice_get ps i ≡ Some p → entry_of p ≡ Some e → PlaceAt ps i e
    by (Free next) is h = cc
    by (Used d) is h = record { is = is ∙ ap (λ d. Some (Used d)) (some_is d e h) }

pub entry_within : (ps : List Place) (i : ℕ) (e : Entry) → entry_at ps i ≡ Some e → i < length ps
entry_within ps i e h = let p = place_at ps i e h in slice_get_within ps i (Used e) p.is

pub live_entry : (ps : List Place) (i : ℕ) (e : Entry) → entry_at ps i ≡ Some e → (links_of ps).at i ≡ Some (link_of e)
live_entry ps i e h = ap (option_map link_of) h

pub free_entry : (ps : List Place) (i : ℕ) → entry_at ps i ≡ None → (links_of ps).at i ≡ None
free_entry ps i h = ap (option_map link_of) h

pub record EntryAt (ps : List Place) (i : ℕ) (l : Link) : Type 0 where
  pub entry : Entry
  pub is : entry_at ps i ≡ Some entry
  pub holds : l ≡ link_of entry

pub entry_at_live : (ps : List Place) (i : ℕ) (l : Link) → (links_of ps).at i ≡ Some l → EntryAt ps i l
entry_at_live ps i l h = elim (entry_at ps i) as (λ o. entry_at ps i ≡ o → option_map link_of o ≡ Some l → EntryAt ps i l) [
  | None ↦ λ _ h. cc
  | Some e ↦ λ is h. record { entry = e; is = is; holds = sym (some_is _ _ h) }
] refl h

pub entry_named : (ps : List Place) (j : ℕ) (k : Entry) → entry_at ps j ≡ Some k → name_at (links_of ps) j ≡ name_of k
entry_named ps j k is = ap (λ o. option_map_or (λ (l : Link). l.name) o []) (live_entry ps j k is)

-- what a spot names is in use
pub spot_entry : (ps : List Place) (i : ℕ) → has_place (links_of ps) i ≡ true → (e : Entry) × (entry_at ps i ≡ Some e)
spot_entry ps i has = let l = link_there (links_of ps) i has in let e = entry_at_live ps i l.0 l.1 in (e.entry, e.is)

pub spot_in_use : (ps : List Place) (i : ℕ) → has_place (links_of ps) i ≡ true → in_use ps i ≡ true
spot_in_use ps i has = ap is_some (spot_entry ps i has).1

-- and the other way round in a tree
pub in_use_spot : (ps : List Place) (i : ℕ) → IsTree (links_of ps) → in_use ps i ≡ true → has_place (links_of ps) i ≡ true
in_use_spot ps i t used = let e = some_of (entry_at ps i) used in t.reaches i (link_of e.0) (live_entry ps i e.0 e.1)

-- ---- a place is written

pub with_here : (ps qs : List Place) (i : ℕ) (p : Place) → IsWith ps qs i p → entry_at qs i ≡ entry_of p
with_here ps qs i p w = entry_read qs i p w.here

pub with_other : (ps qs : List Place) (i j : ℕ) (p : Place) → IsWith ps qs i p → j ≢ i → entry_at qs j ≡ entry_at ps j
with_other ps qs i j p w other = ap (option_and_then entry_of) (w.others j other)

-- ---- what a step leaves alone

link_unlinked : (o : Option Place) → option_map link_of (option_and_then entry_of o) ≡ option_map link_of (option_and_then entry_of (option_map unlinked o))
link_unlinked None = refl
link_unlinked (Some (Free next)) = refl
link_unlinked (Some (Used e)) = refl

pub alike_link : (ps qs : List Place) (j : ℕ) → option_map unlinked (slice_get qs j) ≡ option_map unlinked (slice_get ps j) → (links_of qs).at j ≡ (links_of ps).at j
alike_link ps qs j same =
    link_unlinked (slice_get qs j) ∙ ap (λ o. option_map link_of (option_and_then entry_of o)) same ∙ sym (link_unlinked (slice_get ps j))

pub sets_place : (ps qs : List Place) (i : ℕ) (e : Entry) → AreAlikeBut ps qs i → i < length ps → entry_at qs i ≡ Some e → Sets (links_of ps) (links_of qs) i (link_of e)
sets_place ps qs i e alike within here = record {
  size = alike.size;
  within = within;
  here = live_entry qs i e here;
  others = λ j other. alike_link ps qs j (alike.each j other);
}
