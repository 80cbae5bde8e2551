-- The climb that carries a usage up to the root.
use Rattle.std.proofs.Common.{◌≡◌, ◌≢◌, ℕ, suc, ◌-◌, ◌<◌, Bool, true, false, cond, [], ◌∷◌, ◌++◌, ◌&&◌, List, inl, inr, length, Option, Some, None, refl, sym, ap, subst, ◌∙◌, arith, length-append}
use Rattle.std.specs.Prelude.{slice_get, option_map, unwrap_or}
use Rattle.std.proofs.lemmas.Bool.{cases_eq}
use Rattle.nn_base.specs.Paths.{Names, Bytes, is_under}
use Rattle.nn_quota.specs.declared.quota.Usage.{Usage}
use Rattle.nn_base.proofs.PlainLemmas.{some_is}
use Rattle.nn_tree.specs.Links.{place_of, has_place, IsTree}
use Rattle.nn_tree.proofs.LinksLemmas.{path_of_place}
use Rattle.nn_tree.proofs.SoundLemmas.{parent_of}
use Rattle.nn_tree.proofs.PrefixLemmas.{under_itself, not_under_longer}
use Rattle.nn_tree.proofs.FindLemmas.{first_so, second_so}
use Rattle.nn_tree.proofs.OrderLemmas.{under_front, under_trans}
use Rattle.nn_arena.specs.declared.place.Entry.{Entry}
use Rattle.nn_arena.specs.declared.place.Place.{Place}
use Rattle.nn_arena.specs.declared.place.Place.TheVariants.{Free, Used}
use Rattle.nn_arena.specs.Places.{entry_at, in_use, link_of, links_of, IsWith}
use Rattle.nn_arena.specs.Totals.{IsClimbed, climbed_place}
use Rattle.nn_arena.proofs.PlaceLemmas.{entry_read, place_at, live_entry, spot_entry, in_use_spot}
use Rattle.nn_arena.proofs.UnderLemmas.{both_under, from_parent}
use Rattle.std.proofs.Common.{is_some}

-- the places from the path q up to the path r have been changed
abbrev pub part_place : List Place → Names → Names → (Usage → Usage) → ℕ → Place → Place
part_place ps q r f j (Free next) = Free next
part_place ps q r f j (Used e) = cond (is_under r (place_of (links_of ps) j) && is_under (place_of (links_of ps) j) q) (Used (record e { usage = f e.usage })) (Used e)

pub record IsPartly (ps cur : List Place) (q r : Names) (f : Usage → Usage) : Type 0 where
  pub size : length cur ≡ length ps
  pub each : (j : ℕ) → slice_get cur j ≡ option_map (part_place ps q r f j) (slice_get ps j)

-- at the root all above are done
pub all_climbed : (ps cur : List Place) (q : Names) (f : Usage → Usage) → IsPartly ps cur q [] f → IsClimbed ps cur q f
all_climbed ps cur q f p = record { size = p.size; each = λ j. p.each j ∙ same j (slice_get ps j) }
  where
    same : (j : ℕ) (o : Option Place) → option_map (part_place ps q [] f j) o ≡ option_map (climbed_place ps q f j) o
    same j None = refl
    same j (Some (Free next)) = refl
    same j (Some (Used e)) = refl

-- a place that stays is told by its entry
stays : (ps : List Place) (q r s : Names) (f : Usage → Usage) (j : ℕ) → ((e : Entry) → slice_get ps j ≡ Some (Used e) → (is_under r (place_of (links_of ps) j) && is_under (place_of (links_of ps) j) q) ≡ (is_under s (place_of (links_of ps) j) && is_under (place_of (links_of ps) j) q))
    → option_map (part_place ps q r f j) (slice_get ps j) ≡ option_map (part_place ps q s f j) (slice_get ps j)
stays ps q r s f j same = elim (slice_get ps j) as (λ o. slice_get ps j ≡ o → option_map (part_place ps q r f j) o ≡ option_map (part_place ps q s f j) o) [
  | None ↦ λ _. refl
  | Some p ↦ λ is. by p is
] refl
  where
    by : (p : Place) → slice_get ps j ≡ Some p → option_map (part_place ps q r f j) (Some p) ≡ option_map (part_place ps q s f j) (Some p)
    by (Free next) is = refl
    by (Used e) is = ap (λ b. Some (cond b (Used (record e { usage = f e.usage })) (Used e))) (same e is)

module _ (ps : List Place) (tree : IsTree (links_of ps)) where
  abbrev at : ℕ → Names
  at j = place_of (links_of ps) j

  -- places in use with one path are one
  one_place : (i j : ℕ) (d e : Entry) → slice_get ps i ≡ Some (Used d) → slice_get ps j ≡ Some (Used e) → at i ≡ at j → i ≡ j
  one_place i j d e is there same =
      let p = path_of_place (links_of ps) i (in_use_spot ps i tree (ap is_some (entry_read ps i (Used d) is))) in
      let q = path_of_place (links_of ps) j (in_use_spot ps j tree (ap is_some (entry_read ps j (Used e) there))) in
      tree.differ i j (at i) p (q ∙ ap Some (sym same))

  nothing_done : (q : Names) (b : Bool) → (b && false) ≡ false
  nothing_done q true = refl
  nothing_done q false = refl

  -- ---- the first place

  pub up_first : (cur : List Place) (i : ℕ) (e : Entry) (f : Usage → Usage) → entry_at ps i ≡ Some e → IsWith ps cur i (Used (record e { usage = f e.usage })) → IsPartly ps cur (at i) (at i) f
  up_first cur i e f is w = record {
    size = w.size;
    each = λ j. elim (cases_eq j i) as (λ _. slice_get cur j ≡ option_map (part_place ps (at i) (at i) f j) (slice_get ps j)) [
      | inl same ↦ subst (λ j. slice_get cur j ≡ option_map (part_place ps (at i) (at i) f j) (slice_get ps j)) (sym same)
          (w.here ∙ sym (ap (option_map (part_place ps (at i) (at i) f i)) here
          ∙ ap (λ b. Some (cond (b && b) (Used (record e { usage = f e.usage })) (Used e))) (under_itself (at i))))
      | inr other ↦ w.others j other ∙ sym (untouched j other)
    ];
  }
    where
      here : slice_get ps i ≡ Some (Used e)
      here = let p = place_at ps i e is in p.is

      untouched : (j : ℕ) → j ≢ i → option_map (part_place ps (at i) (at i) f j) (slice_get ps j) ≡ slice_get ps j
      untouched j other = elim (slice_get ps j) as (λ o. slice_get ps j ≡ o → option_map (part_place ps (at i) (at i) f j) o ≡ o) [
        | None ↦ λ _. refl
        | Some p ↦ λ there. by p there
      ] refl
        where
          by : (p : Place) → slice_get ps j ≡ Some p → option_map (part_place ps (at i) (at i) f j) (Some p) ≡ Some p
          by (Free next) there = refl
          by (Used d) there = elim (is_under (at i) (at j) && is_under (at j) (at i)) as (λ b. (is_under (at i) (at j) && is_under (at j) (at i)) ≡ b → Some (cond b (Used (record d { usage = f d.usage })) (Used d)) ≡ Some (Used d)) [
            | false ↦ λ _. refl
            | true ↦ λ h. absurd (other (sym (one_place i j e d here there (both_under (at i) (at j) (first_so _ _ h) (second_so _ _ h)))))
          ] refl

  -- ---- the next place, the directory of the last one

  module _ (cur next : List Place) (q r : Names) (t : ℕ) (d : Entry) (x : Bytes) (f : Usage → Usage) (part : IsPartly ps cur q r f) (is : r ≡ at t ++ x ∷ []) (over : is_under r q ≡ true)
      (there : entry_at cur t ≡ Some d) where
    -- it hasn't been changed yet
    pub unchanged : slice_get ps t ≡ Some (Used d)
    unchanged = elim (slice_get ps t) as (λ o. slice_get ps t ≡ o → option_map (part_place ps q r f t) o ≡ Some (Used d) → o ≡ Some (Used d)) [
      | None ↦ λ _ h. cc
      | Some p ↦ λ _ h. by p h
    ] refl (sym (part.each t) ∙ (let p = place_at cur t d there in p.is))
      where
        out : is_under r (at t) ≡ false
        out = not_under_longer r (at t) (let l = ap length is ∙ length-append (at t) (x ∷ []) in omega arith)

        by : (p : Place) → option_map (part_place ps q r f t) (Some p) ≡ Some (Used d) → Some p ≡ Some (Used d)
        by (Free n) h = h
        by (Used e) h = sym (ap (λ b. Some (cond (b && is_under (at t) q) (Used (record e { usage = f e.usage })) (Used e))) out) ∙ h

    pub up_next : IsWith cur next t (Used (record d { usage = f d.usage })) → IsPartly ps next q (at t) f
    up_next w = record {
      size = w.size ∙ part.size;
      each = λ j. elim (cases_eq j t) as (λ _. slice_get next j ≡ option_map (part_place ps q (at t) f j) (slice_get ps j)) [
        | inl same ↦ subst (λ j. slice_get next j ≡ option_map (part_place ps q (at t) f j) (slice_get ps j)) (sym same)
            (w.here ∙ sym (ap (option_map (part_place ps q (at t) f t)) unchanged
            ∙ (λ i. Some (cond (under_itself (at t) i && above i) (Used (record d { usage = f d.usage })) (Used d)))))
        | inr other ↦ w.others j other ∙ part.each j ∙ stays ps q r (at t) f j (λ e here. told j e here other)
      ];
    }
      where
        above : is_under (at t) q ≡ true
        above = under_trans (at t) r q (ap (is_under (at t)) is ∙ under_front (at t) (x ∷ [])) over

        told : (j : ℕ) (e : Entry) → slice_get ps j ≡ Some (Used e) → j ≢ t → (is_under r (at j) && is_under (at j) q) ≡ (is_under (at t) (at j) && is_under (at j) q)
        told j e here other = elim (is_under (at j) q) as (λ b. is_under (at j) q ≡ b → (is_under r (at j) && b) ≡ (is_under (at t) (at j) && b)) [
          | true ↦ λ up. ap (λ b. b && true) (sym (from_parent (at j) r (at t) q x is up over (λ same. other (one_place j t e d here unchanged same))))
          | false ↦ λ _. nothing_done q (is_under r (at j)) ∙ sym (nothing_done q (is_under (at t) (at j)))
        ] refl

  -- ---- what a climb reads

  module _ (cur : List Place) (q r : Names) (f : Usage → Usage) (part : IsPartly ps cur q r f) where
    -- a place in use stays in use, with its parent
    pub part_entry : (j : ℕ) (e : Entry) → entry_at ps j ≡ Some e → (d : Entry) × (entry_at cur j ≡ Some d) × (d.parent ≡ e.parent)
    part_entry j e is =
        let here : slice_get ps j ≡ Some (Used e) = (let p = place_at ps j e is in p.is) in
        by (is_under r (at j) && is_under (at j) q) (part.each j ∙ ap (option_map (part_place ps q r f j)) here)
      where
        by : (b : Bool) → slice_get cur j ≡ Some (cond b (Used (record e { usage = f e.usage })) (Used e)) → (d : Entry) × (entry_at cur j ≡ Some d) × (d.parent ≡ e.parent)
        by true now = (record e { usage = f e.usage }, entry_read cur j (Used (record e { usage = f e.usage })) now, refl)
        by false now = (e, entry_read cur j (Used e) now, refl)

    pub part_in_use : (j : ℕ) → has_place (links_of ps) j ≡ true → in_use cur j ≡ true
    part_in_use j has = let e = spot_entry ps j has in ap is_some (part_entry j e.0 e.1).1

    -- the directory of a place below the root
    pub part_parent : (i : ℕ) (d : Entry) → has_place (links_of ps) i ≡ true → i ≢ 0 → entry_at cur i ≡ Some d → (has_place (links_of ps) d.parent ≡ true) × ((x : Bytes) × (at i ≡ at d.parent ++ x ∷ []))
    part_parent i d has root is =
        let e = spot_entry ps i has in
        let k = part_entry i e.0 e.1 in
        let same : d.parent ≡ e.0.parent = ap (λ (d : Entry). d.parent) (some_is _ _ (sym is ∙ k.1)) ∙ k.2 in
        let below : i ≡ suc (i - 1) = omega arith in
        subst (λ t. (has_place (links_of ps) t ≡ true) × ((x : Bytes) × (at i ≡ at t ++ x ∷ []))) (sym same)
        (parent_of (links_of ps) i (i - 1) (link_of e.0) tree below (live_entry ps i e.0 e.1))

-- ---- what holds as a climb goes on

pub record Climbs (ps cur : List Place) (start now : ℕ) (f : Usage → Usage) : Type 0 where
  pub there : has_place (links_of ps) now ≡ true
  pub over : is_under (place_of (links_of ps) now) (place_of (links_of ps) start) ≡ true
  pub part : IsPartly ps cur (place_of (links_of ps) start) (place_of (links_of ps) now) f

pub climb_starts : (ps cur : List Place) (i : ℕ) (f : Usage → Usage) → IsTree (links_of ps) → has_place (links_of ps) i ≡ true → ((e : Entry) → entry_at ps i ≡ Some e → IsWith ps cur i (Used (record e { usage = f e.usage }))) → Climbs ps cur i i f
climb_starts ps cur i f tree has done =
    let e = spot_entry ps i has in
    record { there = has; over = under_itself (place_of (links_of ps) i); part = up_first ps tree cur i e.0 f e.1 (done e.0 e.1) }

-- one step: d stands at the last place, and t is its directory
pub climb_reads : (ps cur : List Place) (start i : ℕ) (d : Entry) (f : Usage → Usage) → IsTree (links_of ps) → Climbs ps cur start i f → i ≢ 0 → entry_at cur i ≡ Some d → in_use cur d.parent ≡ true
climb_reads ps cur start i d f tree c root is =
    part_in_use ps tree cur (place_of (links_of ps) start) (place_of (links_of ps) i) f c.part d.parent (part_parent ps tree cur (place_of (links_of ps) start) (place_of (links_of ps) i) f c.part i d c.there root is).0

pub climb_unchanged : (ps cur : List Place) (start i : ℕ) (d e : Entry) (f : Usage → Usage) → IsTree (links_of ps) → Climbs ps cur start i f → i ≢ 0 → entry_at cur i ≡ Some d → entry_at cur d.parent ≡ Some e → entry_at ps d.parent ≡ Some e
climb_unchanged ps cur start i d e f tree c root is there =
    let p = part_parent ps tree cur (place_of (links_of ps) start) (place_of (links_of ps) i) f c.part i d c.there root is in
    entry_read ps d.parent (Used e) (unchanged ps tree cur cur (place_of (links_of ps) start) (place_of (links_of ps) i) d.parent e p.1.0 f c.part p.1.1 c.over there)

pub climb_over : (ps cur : List Place) (start i : ℕ) (d : Entry) (f : Usage → Usage) → IsTree (links_of ps) → Climbs ps cur start i f → i ≢ 0 → entry_at cur i ≡ Some d → is_under (place_of (links_of ps) d.parent) (place_of (links_of ps) start) ≡ true
climb_over ps cur start i d f tree c root is =
    let p = part_parent ps tree cur (place_of (links_of ps) start) (place_of (links_of ps) i) f c.part i d c.there root is in
    under_trans (place_of (links_of ps) d.parent) (place_of (links_of ps) i) (place_of (links_of ps) start) (ap (is_under (place_of (links_of ps) d.parent)) p.1.1 ∙ under_front (place_of (links_of ps) d.parent) (p.1.0 ∷ [])) c.over

pub climb_goes_on : (ps cur next : List Place) (start i : ℕ) (d : Entry) (f : Usage → Usage) → IsTree (links_of ps) → Climbs ps cur start i f → i ≢ 0 → entry_at cur i ≡ Some d
    → ((e : Entry) → entry_at cur d.parent ≡ Some e → IsWith cur next d.parent (Used (record e { usage = f e.usage }))) → Climbs ps next start d.parent f
climb_goes_on ps cur next start i d f tree c root is done =
    let p = part_parent ps tree cur (place_of (links_of ps) start) (place_of (links_of ps) i) f c.part i d c.there root is in
    let x = spot_entry ps d.parent p.0 in
    let y = part_entry ps tree cur (place_of (links_of ps) start) (place_of (links_of ps) i) f c.part d.parent x.0 x.1 in
    record {
      there = p.0;
      over = climb_over ps cur start i d f tree c root is;
      part = up_next ps tree cur next (place_of (links_of ps) start) (place_of (links_of ps) i) d.parent y.0 p.1.0 f c.part p.1.1 c.over y.1 (done y.0 y.1);
    }

pub climb_shorter : (ps cur : List Place) (start i : ℕ) (d : Entry) (f : Usage → Usage) → IsTree (links_of ps) → Climbs ps cur start i f → i ≢ 0 → entry_at cur i ≡ Some d → length (place_of (links_of ps) d.parent) < length (place_of (links_of ps) i)
climb_shorter ps cur start i d f tree c root is =
    let p = part_parent ps tree cur (place_of (links_of ps) start) (place_of (links_of ps) i) f c.part i d c.there root is in
    let l = ap length p.1.1 ∙ length-append (place_of (links_of ps) d.parent) (p.1.0 ∷ []) in
    omega arith

pub climb_ends : (ps cur : List Place) (start i : ℕ) (f : Usage → Usage) → IsTree (links_of ps) → Climbs ps cur start i f → i ≡ 0 → IsClimbed ps cur (place_of (links_of ps) start) f
climb_ends ps cur start i f tree c root =
    all_climbed ps cur (place_of (links_of ps) start) f
    (subst (λ r. IsPartly ps cur (place_of (links_of ps) start) r f) (ap (place_of (links_of ps)) root ∙ ap (λ o. unwrap_or o []) tree.root) c.part)

pub climb_in_use : (ps cur : List Place) (start i : ℕ) (f : Usage → Usage) → IsTree (links_of ps) → Climbs ps cur start i f → in_use cur i ≡ true
climb_in_use ps cur start i f tree c = part_in_use ps tree cur (place_of (links_of ps) start) (place_of (links_of ps) i) f c.part i c.there

pub not_zero : (i : ℕ) → 0 < i → i ≢ 0
not_zero i lt z = absurd (omega arith)
