-- A node is taken away with all below it: what stands below it, then the leaf that it is.
use Rattle.std.proofs.Common.{◌≡◌, ◌≢◌, ℕ, Bool, true, false, cond, [], inl, inr, List, Option, Some, None, refl, sym, ap, ◌∙◌, is_some}
use Rattle.std.specs.Prelude.{slice_get, option_map, option_and_then}
use Rattle.std.specs.Option.{option_map_or}
use Rattle.std.proofs.lemmas.Bool.{cases_eq}
use Rattle.nn_base.specs.Paths.{Names, is_under}
use Rattle.nn_base.proofs.PlainLemmas.{some_is}
use Rattle.nn_tree.specs.declared.spot.Spot.{Spot}
use Rattle.nn_tree.specs.Changes.{cut}
use Rattle.nn_tree.specs.Spots.{Removes}
use Rattle.nn_tree.specs.Links.{Links, path_at, nodes_of, place_of, has_place, IsTree}
use Rattle.nn_tree.proofs.LinksLemmas.{path_of_place}
use Rattle.nn_tree.proofs.PrefixLemmas.{under_itself}
use Rattle.nn_tree.proofs.CutLemmas.{Cuts, nodes_cut, removes_cut}
use Rattle.nn_arena.specs.declared.place.Entry.{Entry}
use Rattle.nn_arena.specs.declared.place.Place.{Place}
use Rattle.nn_arena.specs.declared.place.Place.TheVariants.{Free, Used}
use Rattle.nn_arena.specs.Places.{entry_of, entry_at, link_of, links_of, unlinked, AreAlikeBut}
use Rattle.nn_arena.specs.Changes.{IsAlikeAt, IsClearedBelow, KeepNodes}
use Rattle.nn_arena.proofs.PlaceLemmas.{entry_read, place_at, entry_at_live, live_entry, free_entry, spot_entry, in_use_spot, alike_link}

-- what is in use keeps its usage and its node
pub kept_entry : (ps qs : List Place) (j : ℕ) (e : Entry) → IsAlikeAt ps qs j → entry_at qs j ≡ Some e → (d : Entry) × (entry_at ps j ≡ Some d) × (e.usage ≡ d.usage) × (e.node ≡ d.node)
kept_entry ps qs j e same h = by (slice_get ps j) refl (let q = place_at qs j e h in sym (ap (option_map unlinked) q.is) ∙ same)
  where
    by : (o : Option Place) → slice_get ps j ≡ o → Some (unlinked (Used e)) ≡ option_map unlinked o → (d : Entry) × (entry_at ps j ≡ Some d) × (e.usage ≡ d.usage) × (e.node ≡ d.node)
    by None is h = cc
    by (Some (Free next)) is h = cc
    by (Some (Used d)) is h = (
      d,
      entry_read ps j (Used d) is,
      ap (λ o. option_map_or (λ (x : Entry). x.usage) (option_and_then entry_of o) e.usage) h,
      ap (λ o. option_map_or (λ (x : Entry). x.node) (option_and_then entry_of o) e.node) h,
    )

-- what is cleared below is still there
pub cleared_has : (ps mid : List Place) (top : ℕ) → IsClearedBelow ps mid top → has_place (links_of ps) top ≡ true → IsTree (links_of mid) → has_place (links_of mid) top ≡ true
cleared_has ps mid top c has now =
    let e = spot_entry ps top has in
    let k = entry_at_live mid top (link_of e.0) (alike_link ps mid top c.kept ∙ live_entry ps top e.0 e.1) in
    in_use_spot mid top now (ap is_some k.is)

module _ (ps mid qs : List Place) (top : ℕ) (tree : IsTree (links_of ps)) (has : has_place (links_of ps) top ≡ true) (c : IsClearedBelow ps mid top) (alike : AreAlikeBut mid qs top) (free : entry_at qs top ≡ None) where
  abbrev g : Links
  g = links_of ps

  abbrev p : Names
  p = place_of (links_of ps) top

  still : (j : ℕ) (d : Entry) → entry_at qs j ≡ Some d → IsAlikeAt ps qs j
  still j d is =
      let apart : j ≢ top = λ same. (let z : None ≡ Some d = sym free ∙ ap (entry_at qs) (sym same) ∙ is in cc) in
      let k = entry_at_live mid j (link_of d) (sym (alike_link mid qs j (alike.each j apart)) ∙ live_entry qs j d is) in
      alike.each j apart ∙ c.left j k.entry k.is

  pub removed_kept : KeepNodes ps qs
  removed_kept j e is = kept_entry ps qs j e (still j e is) is

  abbrev gone : Option Names → Bool
  gone o = option_map_or (is_under p) o false

  free_before : (j : ℕ) → path_at g j ≡ None → g.at j ≡ None
  free_before j none = elim (g.at j) as (λ o. g.at j ≡ o → o ≡ None) [
    | None ↦ λ _. refl
    | Some l ↦ λ live. (let r : true ≡ false = sym (tree.reaches j l live) ∙ ap is_some none in cc)
  ] refl

  free_after : (j : ℕ) → g.at j ≡ None → (links_of qs).at j ≡ None
  free_after j none = elim (entry_at qs j) as (λ o. entry_at qs j ≡ o → (links_of qs).at j ≡ None) [
    | None ↦ λ is. free_entry qs j is
    | Some d ↦ λ is. (let k = kept_entry ps qs j d (still j d is) is in let z : None ≡ Some (link_of k.0) = sym none ∙ live_entry ps j k.0 k.1 in cc)
  ] refl

  each : (j : ℕ) (r : Names) (b : Bool) → path_at g j ≡ Some r → is_under p r ≡ b → (links_of qs).at j ≡ cond b None (g.at j)
  each j r true path inside = elim (cases_eq j top) as (λ _. (links_of qs).at j ≡ None) [
    | inl same ↦ ap (links_of qs).at same ∙ free_entry qs top free
    | inr other ↦ alike_link mid qs j (alike.each j other) ∙ free_entry mid j (c.below j r path inside other)
  ]
  each j r false path out =
      let other : j ≢ top = λ same. (
      let one : r ≡ p = some_is _ _ (sym path ∙ ap (path_at g) same ∙ path_of_place g top has) in
      let z : true ≡ false = sym (under_itself p) ∙ ap (is_under p) (sym one) ∙ out in cc
      ) in
      alike_link ps qs j (alike.each j other ∙ c.outside j r path out)

  cuts : Cuts (links_of ps) (links_of qs) (place_of (links_of ps) top) (λ j. gone (path_at g j))
  cuts = record {
    size = alike.size ∙ c.size;
    each = λ j. elim (path_at g j) as (λ o. path_at g j ≡ o → (links_of qs).at j ≡ cond (gone o) None (g.at j)) [
      | None ↦ λ none. free_after j (free_before j none) ∙ sym (free_before j none)
      | Some r ↦ λ path. each j r (is_under p r) path refl
    ] refl;
    told = λ j r path. ap gone path;
  }

  pub removed_nodes : place_of (links_of ps) top ≢ [] → nodes_of (links_of qs) ≡ cut (place_of (links_of ps) top) (nodes_of (links_of ps))
  removed_nodes below_root = nodes_cut (links_of ps) (links_of qs) (place_of (links_of ps) top) (λ j. gone (path_at g j)) tree cuts below_root

  pub removed_spots : place_of (links_of ps) top ≢ []
      → Removes (place_of (links_of ps) top) (λ (s : Spot). has_place (links_of ps) s.index) (λ s. has_place (links_of qs) s.index) (λ s. place_of (links_of ps) s.index) (λ s. place_of (links_of qs) s.index)
  removed_spots below_root = removes_cut (links_of ps) (links_of qs) (place_of (links_of ps) top) (λ j. gone (path_at g j)) tree cuts below_root
