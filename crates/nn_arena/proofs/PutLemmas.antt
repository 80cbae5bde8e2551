-- What is promised of an entry that is put into a free place.
use Rattle.std.proofs.Common.{◌≡◌, ◌≢◌, ℕ, ◌<◌, true, false, [], List, inl, inr, length, Option, Some, None, refl, sym, ap, subst, ◌∙◌, arith}
use Rattle.std.specs.Prelude.{slice_get, option_and_then, option_map, IfSome}
use Rattle.std.proofs.Math.ListN.{set, length-set}
use Rattle.std.proofs.lemmas.Bool.{cases_eq}
use Rattle.std.specs.declared.cmp.Ordering.TheVariants.{Less}
use Rattle.nn_base.specs.Paths.{name_cmp, is_name}
use Rattle.nn_base.proofs.PlainLemmas.{some_of}
use Rattle.nn_tree.specs.Links.{Link}
use Rattle.nn_tree.specs.Plain.{is_later, is_child, name_at, IsLeast}
use Rattle.nn_tree.proofs.OrderLemmas.{name_above}
use Rattle.nn_tree.proofs.PlainLemmas.{slice_set_same, slice_set_other}
use Rattle.nn_arena.specs.declared.gap.Gap.{Gap}
use Rattle.nn_arena.specs.declared.place.Entry.{Entry}
use Rattle.nn_arena.specs.declared.place.Place.{Place}
use Rattle.nn_arena.specs.declared.place.Place.TheVariants.{Used}
use Rattle.nn_arena.specs.Places.{name_of, entry_of, entry_at, in_use, links_of, unlinked, AreAlike, AreAlikeBut, IsWith}
use Rattle.nn_arena.specs.Children.{AreLinked, AreNamed, AreApart, IsGap, bound_of}
use Rattle.nn_arena.specs.Changes.{IsPut}
use Rattle.nn_arena.proofs.PlaceLemmas.{entry_read, place_at, entry_within, entry_at_live, entry_named, free_entry, with_other, sets_place}
use Rattle.nn_arena.proofs.SiblingLemmas.{later_is, yes_no}
use Rattle.nn_arena.proofs.GapLemmas.{some_so, found_child}
use Rattle.nn_arena.proofs.LinkLemmas.{put_first, put_behind}

-- a place is written with other links alone
pub with_alike : (ps qs : List Place) (t : ℕ) (p o : Place) → IsWith ps qs t p → slice_get ps t ≡ Some o → unlinked p ≡ unlinked o → AreAlike ps qs
with_alike ps qs t p o w is same = record {
  size = w.size;
  each = λ j. elim (cases_eq j t) as (λ _. option_map unlinked (slice_get qs j) ≡ option_map unlinked (slice_get ps j)) [
    | inl here ↦ ap (λ j. option_map unlinked (slice_get qs j)) here ∙ ap (option_map unlinked) w.here ∙ ap Some same
        ∙ sym (ap (λ j. option_map unlinked (slice_get ps j)) here ∙ ap (option_map unlinked) is)
    | inr other ↦ ap (option_map unlinked) (w.others j other)
  ];
}

pub set_alike : (ps mid : List Place) (i : ℕ) (x : Place) → AreAlike ps mid → AreAlikeBut ps (set mid i x) i
set_alike ps mid i x alike = record {
  size = length-set mid i x ∙ alike.size;
  each = λ j other. ap (option_map unlinked) (slice_set_other mid i j x other) ∙ alike.each j;
}

later_within : (ps : List Place) (a j : ℕ) (y : List ℕ) → is_later (links_of ps) a y j ≡ true → j < length ps
later_within ps a j y later =
    let c = later_is (links_of ps) a y j later in
    let e = entry_at_live ps j c.link c.live in
    entry_within ps j e.entry e.is

module _ (ps mid : List Place) (i : ℕ) (e : Entry) (linked : AreLinked ps) (named : AreNamed (links_of ps)) (apart : AreApart (links_of ps)) (within : i < length ps) (below_root : 0 < i) (free : entry_at ps i ≡ None)
    (dir : in_use ps e.parent ≡ true) (name : is_name (name_of e) ≡ true) (children : IsLeast (links_of ps) i [] (length ps) e.first)
    (new : (k : ℕ) → k < length ps → is_child (links_of ps) e.parent (name_of e) k ≡ false) where
  not_root : i ≢ 0
  not_root z = absurd (omega arith)

  -- a place in use is another one
  other_place : (j : ℕ) (d : Entry) → entry_at ps j ≡ Some d → j ≢ i
  other_place j d is same = let z : None ≡ Some d = sym free ∙ ap (entry_at ps) (sym same) ∙ is in cc

  other_name : (y : List ℕ) (o : Option ℕ) → IsLeast (links_of ps) e.parent y (length ps) o → (j : ℕ) → o ≡ Some j → name_at (links_of ps) j ≢ name_of e
  other_name y o least j is same =
      let later = (subst (λ o. IsLeast (links_of ps) e.parent y (length ps) o) is least).0 in
      yes_no _ (found_child (links_of ps) e.parent y (name_of e) j later same) (new j (later_within ps e.parent j y later))

  module _ (next : Option ℕ) (reached : (j : ℕ) → next ≡ Some j → name_cmp (name_at (links_of ps) j) (name_of e) ≢ Less) where
    abbrev entry : Entry
    entry = record e { next = next }

    abbrev qs : List Place
    qs = set mid i (Used (record e { next = next }))

    here : length mid ≡ length ps → entry_at qs i ≡ Some entry
    here size = entry_read qs i (Used entry) (slice_set_same mid i (Used entry) (omega arith))

    done : AreAlike ps mid → AreLinked qs → IsPut ps qs i e
    done alike linked = record { alike = set_alike ps mid i (Used entry) alike; next = next; here = here alike.size; linked = linked }

    elsewhere : (t : ℕ) (p : Place) → IsWith ps mid t p → (j : ℕ) → j ≢ i → j ≢ t → entry_at qs j ≡ entry_at ps j
    elsewhere t p w j other apart = ap (λ o. option_and_then entry_of o) (slice_set_other mid i j (Used entry) other) ∙ with_other ps mid t j p w apart

    at_target : (t : ℕ) (d : Entry) → IsWith ps mid t (Used d) → t ≢ i → entry_at qs t ≡ Some d
    at_target t d w other = entry_read qs t (Used d) (slice_set_other mid i t (Used entry) other ∙ w.here)

    pub put_at_head : IsLeast (links_of ps) e.parent [] (length ps) next → ((d : Entry) → entry_at ps e.parent ≡ Some d → IsWith ps mid e.parent (Used (record d { first = Some i }))) → IsPut ps qs i e
    put_at_head after set =
        let d = some_of (entry_at ps e.parent) dir in
        let w = set d.0 d.1 in
        let alike = with_alike ps mid e.parent (Used (record d.0 { first = Some i })) (Used d.0) w (let p = place_at ps e.parent d.0 d.1 in p.is) refl in
        let other = other_place e.parent d.0 d.1 in
        done alike (put_first ps qs i entry linked named apart (sets_place ps qs i entry (set_alike ps mid i (Used entry) alike) within (here alike.size)) (free_entry ps i free) not_root
        (name_above (name_of e) name) (here alike.size) other children d.0 d.1 (at_target e.parent (record d.0 { first = Some i }) w other)
        (elsewhere e.parent (Used (record d.0 { first = Some i })) w) after reached (other_name [] next after))

    pub put_after : (b : ℕ) → is_later (links_of ps) e.parent [] b ≡ true → name_cmp (name_at (links_of ps) b) (name_of e) ≡ Less → IsLeast (links_of ps) e.parent (name_at (links_of ps) b) (length ps) next
        → ((d : Entry) → entry_at ps b ≡ Some d → IsWith ps mid b (Used (record d { next = Some i }))) → IsPut ps qs i e
    put_after b later below after set =
        let c = later_is (links_of ps) e.parent [] b later in
        let x = entry_at_live ps b c.link c.live in
        let d = x.entry in
        let w = set d x.is in
        let alike = with_alike ps mid b (Used (record d { next = Some i })) (Used d) w (let p = place_at ps b d x.is in p.is) refl in
        let other = other_place b d x.is in
        let is = entry_named ps b d x.is in
        let bound = subst (λ y. IsLeast (links_of ps) e.parent y (length ps) next) is after in
        done alike (put_behind ps qs i entry linked named apart (sets_place ps qs i entry (set_alike ps mid i (Used entry) alike) within (here alike.size)) (free_entry ps i free) not_root
        (name_above (name_of e) name) (here alike.size) (other_place e.parent (some_of (entry_at ps e.parent) dir).0 (some_of (entry_at ps e.parent) dir).1) children
        b d x.is c.below_root (ap (λ (l : Link). l.parent) (sym x.holds) ∙ c.parent) (ap (λ y. name_cmp y (name_of e)) (sym is) ∙ below)
        (at_target b (record d { next = Some i }) w other) (elsewhere b (Used (record d { next = Some i })) w) bound reached (other_name (name_of d) next bound))

  pub put_done : (gap : Gap) → IsGap ps e.parent (name_of e) gap → (gap.before ≡ None → (d : Entry) → entry_at ps e.parent ≡ Some d → IsWith ps mid e.parent (Used (record d { first = Some i })))
      → ((b : ℕ) → gap.before ≡ Some b → (d : Entry) → entry_at ps b ≡ Some d → IsWith ps mid b (Used (record d { next = Some i }))) → IsPut ps (set mid i (Used (record e { next = gap.after }))) i e
  put_done gap g first behind = by gap.before refl g.before g.after
    where
      reached : (j : ℕ) → gap.after ≡ Some j → name_cmp (name_at (links_of ps) j) (name_of e) ≢ Less
      reached = some_so (λ j. name_cmp (name_at (links_of ps) j) (name_of e) ≡ Less → ⊥) gap.after g.reached

      by : (o : Option ℕ) → gap.before ≡ o → IfSome o (λ i. (is_later (links_of ps) e.parent [] i ≡ true) × (name_cmp (name_at (links_of ps) i) (name_of e) ≡ Less))
          → IsLeast (links_of ps) e.parent (bound_of (links_of ps) o) (length ps) gap.after → IsPut ps (set mid i (Used (record e { next = gap.after }))) i e
      by None is passed after = put_at_head gap.after reached after (first is)
      by (Some b) is passed after = put_after gap.after reached b passed.0 passed.1 after (behind b is)
