-- What the arena keeps while usages are carried up, and while one node is changed where it stands.
use Rattle.std.proofs.Common.{arith, ◌≡◌, ◌≢◌, ℕ, ◌+◌, ◌-◌, Bool, true, false, cond, List, inl, inr, ◌++◌, length, take, drop, Option, Some, None, refl, sym, ap, subst, ◌∙◌}
use Rattle.std.specs.Prelude.{slice_get, option_and_then, option_map}
use Rattle.std.proofs.Math.Logic.{∥∥₁_map}
use Rattle.std.proofs.lemmas.Bool.{cases_eq}
use Rattle.nn_base.specs.Paths.{Names, is_under}
use Rattle.nn_quota.specs.declared.quota.Usage.{Usage}
use Rattle.nn_tree.specs.declared.node.Node.{Node}
use Rattle.nn_tree.specs.Nodes.{is_dir}
use Rattle.nn_tree.specs.Links.{Links, place_of, has_place, nodes_of, IsTree}
use Rattle.nn_tree.specs.Limits.{IsWithinLimits}
use Rattle.nn_tree.proofs.SetLemmas.{Sets}
use Rattle.nn_tree.proofs.EditLemmas.{Edited, edited}
use Rattle.nn_tree.proofs.CutLoop.{written_back}
use Rattle.nn_arena.specs.declared.place.Entry.{Entry}
use Rattle.nn_arena.specs.declared.place.Place.{Place}
use Rattle.nn_arena.specs.declared.place.Place.TheVariants.{Free, Used}
use Rattle.nn_arena.specs.Places.{entry_of, entry_at, link_of, links_of, IsWith}
use Rattle.nn_arena.specs.Children.{AreLinked}
use Rattle.nn_arena.specs.FreeList.{IsFreeList}
use Rattle.nn_arena.specs.Totals.{IsClimbed, climbed_place, reweighed}
use Rattle.nn_arena.proofs.PlaceLemmas.{entry_read, place_at, entry_within, live_entry, spot_entry, with_other}
use Rattle.nn_arena.proofs.FreeLemmas.{list_kept}
use Rattle.nn_arena.proofs.ClimbedLemmas.{climbed_links, climbed_at, carried}
use Rattle.nn_arena.proofs.ShapeLemmas.{shape_of, linked_shaped}

-- ---- a climb

-- the tree of the arena, whatever the usages are
pub record IsKept (ps qs : List Place) (free : Option ℕ) : Type 0 where
  pub tree : IsTree (links_of qs)
  pub linked : AreLinked qs
  pub list : ∥ IsFreeList qs free ∥₁
  pub limits : IsWithinLimits (nodes_of (links_of qs))
  pub nodes : nodes_of (links_of qs) ≡ nodes_of (links_of ps)

module _ (ps qs : List Place) (q : Names) (f : Usage → Usage) (c : IsClimbed ps qs q f) where
  shape_carried : (b : Bool) (o : Option Entry) → option_map shape_of (option_map (carried b f) o) ≡ option_map shape_of o
  shape_carried b None = refl
  shape_carried b (Some e) = refl

  free_climbed : (j : ℕ) (n : Option ℕ) (o : Option Place) → o ≡ Some (Free n) → option_map (climbed_place ps q f j) o ≡ Some (Free n)
  free_climbed j n o is = ap (option_map (climbed_place ps q f j)) is

  free_before : (j : ℕ) (n : Option ℕ) (o : Option Place) → option_map (climbed_place ps q f j) o ≡ Some (Free n) → o ≡ Some (Free n)
  free_before j n None h = cc
  free_before j n (Some (Free k)) h = h
  free_before j n (Some (Used e)) h = elim (is_under (place_of (links_of ps) j) q) as (λ b. Some (cond b (Used (record e { usage = f e.usage })) (Used e)) ≡ Some (Free n) → Some (Used e) ≡ Some (Free n)) [ true ↦ λ h. cc | false ↦ λ h. h ] h

  pub kept_climbed : (o : Option ℕ) → IsTree (links_of ps) → AreLinked ps → ∥ IsFreeList ps o ∥₁ → IsWithinLimits (nodes_of (links_of ps)) → IsKept ps qs o
  kept_climbed o tree linked list limits =
      let links = climbed_links ps qs q f c in
      record {
        tree = subst IsTree (sym links) tree;
        linked = linked_shaped ps qs c.size (λ j. ap (option_map shape_of) (climbed_at ps qs q f c j) ∙ shape_carried (is_under (place_of (links_of ps) j) q) (entry_at ps j)) linked;
        list = ∥∥₁_map list (λ l. list_kept ps qs o (λ j n is. c.each j ∙ free_climbed j n (slice_get ps j) is) (λ j n is. free_before j n (slice_get ps j) (sym (c.each j) ∙ is)) l);
        limits = subst (λ (g : Links). IsWithinLimits (nodes_of g)) (sym links) limits;
        nodes = ap nodes_of links;
      }

-- as the vector is written through its slice
pub climbed_back : (ps cur new : List Place) (n : ℕ) (q : Names) (f : Usage → Usage) (o : Option ℕ) → cur ≡ ps → n ≡ length ps → IsClimbed cur new q f → IsTree (links_of ps) → AreLinked ps → ∥ IsFreeList ps o ∥₁ → IsWithinLimits (nodes_of (links_of ps))
    → IsKept ps (take n (new ++ drop (length new) ps)) o
climbed_back ps cur new n q f o same len climbed tree linked list limits =
    let c : IsClimbed ps new q f = subst (λ (ps : List Place). IsClimbed ps new q f) same climbed in
    subst (λ (qs : List Place). IsKept ps qs o) (sym (written_back n new ps len c.size)) (kept_climbed ps new q f c o tree linked list limits)

-- ---- a node is changed where it stands

pub record IsEdited (ps qs : List Place) (i : ℕ) (f : Node → Node) (free : Option ℕ) : Type 0 where
  pub edited : Edited (links_of ps) (links_of qs) i f
  pub linked : AreLinked qs
  pub list : ∥ IsFreeList qs free ∥₁

module _ (ps qs : List Place) (i : ℕ) (e : Entry) (f : Node → Node) (w : IsWith ps qs i (Used (record e { node = f e.node }))) (there : entry_at ps i ≡ Some e) where
  sets : Sets (links_of ps) (links_of qs) i (link_of (record e { node = f e.node }))
  sets = record {
    size = w.size;
    within = entry_within ps i e there;
    here = ap (λ o. option_map link_of (option_and_then entry_of o)) w.here;
    others = λ j other. ap (λ o. option_map link_of (option_and_then entry_of o)) (w.others j other);
  }

  shape : (j : ℕ) → option_map shape_of (entry_at qs j) ≡ option_map shape_of (entry_at ps j)
  shape j = elim (cases_eq j i) as (λ _. option_map shape_of (entry_at qs j) ≡ option_map shape_of (entry_at ps j)) [
    | inl is ↦ ap (λ j. option_map shape_of (entry_at qs j)) is ∙ ap (option_map shape_of) (entry_read qs i (Used (record e { node = f e.node })) w.here)
        ∙ sym (ap (λ j. option_map shape_of (entry_at ps j)) is ∙ ap (option_map shape_of) there)
    | inr other ↦ ap (option_map shape_of) (with_other ps qs i j (Used (record e { node = f e.node })) w other)
  ]

  free_apart : (xs : List Place) (d : Entry) (j : ℕ) (n : Option ℕ) → slice_get xs i ≡ Some (Used d) → slice_get xs j ≡ Some (Free n) → j ≢ i
  free_apart xs d j n here free is = let z : Some (Used d) ≡ Some (Free n) = sym here ∙ ap (slice_get xs) (sym is) ∙ free in cc

  was : slice_get ps i ≡ Some (Used e)
  was = let p = place_at ps i e there in p.is

  pub edited_here : (o : Option ℕ) → IsTree (links_of ps) → has_place (links_of ps) i ≡ true → AreLinked ps → ∥ IsFreeList ps o ∥₁ → is_dir (f e.node).kind ≡ is_dir e.node.kind → (f e.node).id ≡ e.node.id → IsEdited ps qs i f o
  edited_here o tree has linked list kind id = record {
    edited = edited (links_of ps) (links_of qs) i (link_of e) (link_of (record e { node = f e.node })) f tree sets (live_entry ps i e there) has refl refl refl kind id;
    linked = linked_shaped ps qs w.size shape linked;
    list = ∥∥₁_map list (λ l. list_kept ps qs o
        (λ j n is. w.others j (free_apart ps e j n was is) ∙ is)
        (λ j n is. sym (w.others j (free_apart qs (record e { node = f e.node }) j n w.here is)) ∙ is) l);
  }

pub edited_back : (ps cur new : List Place) (n i : ℕ) (f : Node → Node) (o : Option ℕ) → cur ≡ ps → n ≡ length ps → ((e : Entry) → entry_at cur i ≡ Some e → IsWith cur new i (Used (record e { node = f e.node })))
    → IsTree (links_of ps) → has_place (links_of ps) i ≡ true → AreLinked ps → ∥ IsFreeList ps o ∥₁ → ((node : Node) → is_dir (f node).kind ≡ is_dir node.kind) → ((node : Node) → (f node).id ≡ node.id)
    → IsEdited ps (take n (new ++ drop (length new) ps)) i f o
edited_back ps cur new n i f o same len done tree has linked list kind id =
    let there = spot_entry ps i has in
    let w = with_entry there.0 there.1 in
    subst (λ (qs : List Place). IsEdited ps qs i f o) (sym (written_back n new ps len w.size)) (edited_here ps new i there.0 f w there.1 o tree has linked list (kind there.0.node) (id there.0.node))
  where
    with_entry : (e : Entry) → entry_at ps i ≡ Some e → IsWith ps new i (Used (record e { node = f e.node }))
    with_entry e is = subst (λ (ps : List Place). IsWith ps new i (Used (record e { node = f e.node }))) same (done e (ap (λ (ps : List Place). entry_at ps i) same ∙ is))

pub with_back : (ps cur new : List Place) (n i : ℕ) (f : Node → Node) → cur ≡ ps → n ≡ length ps → ((e : Entry) → entry_at cur i ≡ Some e → IsWith cur new i (Used (record e { node = f e.node })))
    → (e : Entry) → entry_at ps i ≡ Some e → IsWith ps (take n (new ++ drop (length new) ps)) i (Used (record e { node = f e.node }))
with_back ps cur new n i f same len done e is =
    let w : IsWith ps new i (Used (record e { node = f e.node })) = subst (λ (ps : List Place). IsWith ps new i (Used (record e { node = f e.node }))) same (done e (ap (λ (ps : List Place). entry_at ps i) same ∙ is)) in
    subst (λ (qs : List Place). IsWith ps qs i (Used (record e { node = f e.node }))) (sym (written_back n new ps len w.size)) w

-- ---- what keeps its space keeps each usage

pub stays_climbed : (ps : List Place) (q : Names) (was now : ℕ) → was ≡ now → IsClimbed ps ps q (reweighed was now)
stays_climbed ps q was now same = record { size = refl; each = λ j. each j (slice_get ps j) }
  where
    usage : (u : Usage) → u ≡ reweighed was now u
    usage u = let s : u.space ≡ (u.space + now) - was = omega arith in λ i. record { names = u.names; space = s i }

    each : (j : ℕ) (o : Option Place) → o ≡ option_map (climbed_place ps q (reweighed was now) j) o
    each j None = refl
    each j (Some (Free next)) = refl
    each j (Some (Used e)) = elim (is_under (place_of (links_of ps) j) q) as (λ b. Some (Used e) ≡ Some (cond b (Used (record e { usage = reweighed was now e.usage })) (Used e))) [
      | true ↦ λ i. Some (Used (record e { usage = usage e.usage i }))
      | false ↦ refl
    ]
