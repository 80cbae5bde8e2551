-- A node that is taken out and put in elsewhere.
use Rattle.std.proofs.Common.{◌≡◌, ◌≢◌, ℕ, ◌<◌, true, false, [], ◌∷◌, ◌++◌, inl, inr, List, length, Some, None, sym, ap, subst, ◌∙◌, is_some}
use Rattle.std.specs.FinMap.{get}
use Rattle.std.proofs.lemmas.Bool.{cases_eq}
use Rattle.nn_base.specs.Paths.{is_under, is_name}
use Rattle.nn_tree.specs.Namespace.{is_dir_at}
use Rattle.nn_tree.specs.Links.{Link, nodes_of, place_of, has_place, IsTree}
use Rattle.nn_tree.specs.Plain.{is_child, is_child_link}
use Rattle.nn_tree.proofs.SetLemmas.{Sets}
use Rattle.nn_tree.proofs.MoveLemmas.{Moved, relinked}
use Rattle.nn_arena.specs.declared.place.Entry.{Entry}
use Rattle.nn_arena.specs.declared.place.Place.{Place}
use Rattle.nn_arena.specs.Places.{name_of, entry_at, in_use, link_of, links_of}
use Rattle.nn_arena.specs.Children.{AreNamed, AreApart}
use Rattle.nn_arena.specs.Changes.{IsTaken, IsPut}
use Rattle.nn_arena.proofs.PlaceLemmas.{entry_within, entry_at_live, spot_entry, live_entry, free_entry, alike_link}
use Rattle.nn_arena.proofs.TakenLemmas.{tree_named, tree_apart}
use Rattle.nn_arena.proofs.FillLemmas.{no_child}

module _ (ps mid : List Place) (i : ℕ) (old : Entry) (tree : IsTree (links_of ps)) (there : entry_at ps i ≡ Some old) (t : IsTaken ps mid i old) where
  same_link : (j : ℕ) → j ≢ i → (links_of mid).at j ≡ (links_of ps).at j
  same_link j other = alike_link ps mid j (t.alike.each j other)

  -- what is left was there
  was_there : (j : ℕ) (l : Link) → (links_of mid).at j ≡ Some l → (links_of ps).at j ≡ Some l
  was_there j l live = elim (cases_eq j i) as (λ _. (links_of ps).at j ≡ Some l) [
    | inl same ↦ let z : None ≡ Some l = sym (free_entry mid i t.free) ∙ ap (links_of mid).at (sym same) ∙ live in cc
    | inr other ↦ sym (same_link j other) ∙ live
  ]

  pub taken_named : AreNamed (links_of mid)
  taken_named j l root live = tree_named (links_of ps) tree j l root (was_there j l live)

  pub taken_apart : AreApart (links_of mid)
  taken_apart j k c d root other live up = tree_apart (links_of ps) tree j k c d root other (was_there j c live) (was_there k d up)

  pub taken_within : i < length mid
  taken_within = subst (λ n. i < n) (sym t.alike.size) (entry_within ps i old there)

  -- another directory is still there
  pub taken_in_use : (j : ℕ) → has_place (links_of ps) j ≡ true → j ≢ i → in_use mid j ≡ true
  taken_in_use j has other =
      let e = spot_entry ps j has in
      let x = entry_at_live mid j (link_of e.0) (same_link j other ∙ live_entry ps j e.0 e.1) in
      ap is_some x.is

  -- and has no more children than before
  pub taken_no_child : (a : ℕ) (x : List ℕ) → has_place (links_of ps) a ≡ true → get (nodes_of (links_of ps)) (place_of (links_of ps) a ++ x ∷ []) ≡ None → (k : ℕ) → is_child (links_of mid) a x k ≡ false
  taken_no_child a x has none k = elim (cases_eq k i) as (λ _. is_child (links_of mid) a x k ≡ false) [
    | inl same ↦ ap (λ o. is_child_link k o a x) (ap (links_of mid).at same ∙ free_entry mid i t.free)
    | inr other ↦ ap (λ o. is_child_link k o a x) (same_link k other) ∙ no_child (links_of ps) a x tree has none k
  ]

  module _ (qs : List Place) (new : Entry) (put : IsPut mid qs i new) where
    pub moved_sets : Sets (links_of ps) (links_of qs) i (link_of new)
    moved_sets = record {
      size = put.alike.size ∙ t.alike.size;
      within = entry_within ps i old there;
      here = live_entry qs i (record new { next = put.next }) put.here;
      others = λ j other. alike_link mid qs j (put.alike.each j other) ∙ same_link j other;
    }

    -- all that a move promises
    pub moved_place : has_place (links_of ps) i ≡ true → place_of (links_of ps) i ≢ [] → new.node ≡ old.node → has_place (links_of ps) new.parent ≡ true → is_name (name_of new) ≡ true
        → is_dir_at (nodes_of (links_of ps)) (place_of (links_of ps) new.parent) ≡ true → is_under (place_of (links_of ps) i) (place_of (links_of ps) new.parent) ≡ false
        → get (nodes_of (links_of ps)) (place_of (links_of ps) new.parent ++ name_of new ∷ []) ≡ None → Moved (links_of ps) (links_of qs) i (link_of new)
    moved_place has below_root node to name dir outside none =
        relinked (links_of ps) (links_of qs) i (link_of old) (link_of new) tree moved_sets (live_entry ps i old there) has below_root node to name dir outside none
