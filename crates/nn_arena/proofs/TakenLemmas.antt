-- What is promised of an entry that is taken out.
use Rattle.std.proofs.Common.{◌≡◌, ◌≢◌, ℕ, zero, suc, ◌<◌, true, [], ◌∷◌, ◌++◌, List, length, Option, Some, None, refl, sym, ap, subst, ◌∙◌, arith, is_some, length-append}
use Rattle.std.specs.Prelude.{slice_get, option_and_then, unwrap_or, IfSome}
use Rattle.std.proofs.Math.ListN.{get_or, set}
use Rattle.std.proofs.lemmas.Option.{slice_get-get_or}
use Rattle.std.specs.declared.cmp.Ordering.TheVariants.{Less}
use Rattle.nn_base.specs.Paths.{name_cmp}
use Rattle.nn_base.proofs.PlainLemmas.{some_is, some_of}
use Rattle.nn_tree.specs.Links.{Link, Links, path_at, IsTree}
use Rattle.nn_tree.specs.Plain.{is_later, name_at, IsLeast}
use Rattle.nn_tree.proofs.OrderLemmas.{name_above}
use Rattle.nn_tree.proofs.LinksLemmas.{path_live, under}
use Rattle.nn_tree.proofs.SetLemmas.{Sets}
use Rattle.nn_tree.proofs.PlainLemmas.{slice_set_same, slice_set_other}
use Rattle.nn_arena.specs.declared.gap.Gap.{Gap}
use Rattle.nn_arena.specs.declared.place.Entry.{Entry}
use Rattle.nn_arena.specs.declared.place.Place.{Place}
use Rattle.nn_arena.specs.declared.place.Place.TheVariants.{Free, Used}
use Rattle.nn_arena.specs.Places.{name_of, entry_of, entry_at, in_use, link_of, links_of, unlinked, AreAlike, IsWith}
use Rattle.nn_arena.specs.Children.{AreLinked, AreNamed, AreApart, IsGap, bound_of}
use Rattle.nn_arena.specs.Changes.{IsTaken}
use Rattle.nn_arena.proofs.PlaceLemmas.{entry_read, place_at, entry_within, entry_at_live, entry_named, live_entry, free_entry, with_other, alike_link}
use Rattle.nn_arena.proofs.SiblingLemmas.{later_is, here_later, least_left, not_itself}
use Rattle.nn_arena.proofs.GapLemmas.{some_so}
use Rattle.nn_arena.proofs.PutLemmas.{with_alike, set_alike}
use Rattle.nn_arena.proofs.TakeLemmas.{take_first, take_behind}

-- ---- a tree's children

pub tree_named : (g : Links) → IsTree g → AreNamed g
tree_named g t zero l root live = absurd (root refl)
tree_named g t (suc j) l root live = name_above l.name (t.names j l live)

pub tree_apart : (g : Links) → IsTree g → AreApart g
tree_apart g t zero k c d root other live up parent name = absurd (root refl)
tree_apart g t (suc j) zero c d root other live up parent name = absurd (other refl)
tree_apart g t (suc j) (suc k) c d root other live up parent name =
    let u = under g j c t live in
    let v = under g k d t up in
    let front : u.front ≡ v.front = some_is _ _ (sym u.parent ∙ ap (path_at g) parent ∙ v.parent) in
    t.differ (suc j) (suc k) (u.front ++ c.name ∷ []) u.path (v.path ∙ ap Some (sym (λ i. front i ++ name i ∷ [])))

-- the directory of a node is in use, and another place
pub parent_in_use : (ps : List Place) (i : ℕ) (e : Entry) → IsTree (links_of ps) → 0 < i → entry_at ps i ≡ Some e → in_use ps e.parent ≡ true
parent_in_use ps zero e t below_root is = absurd (omega arith)
parent_in_use ps (suc j) e t below_root is =
    let u = under (links_of ps) j (link_of e) t (live_entry ps (suc j) e is) in
    let l = path_live (links_of ps) e.parent u.front u.parent in
    ap is_some (let x = entry_at_live ps e.parent l.0 l.1 in x.is)

pub parent_other : (ps : List Place) (i : ℕ) (e : Entry) → IsTree (links_of ps) → 0 < i → entry_at ps i ≡ Some e → e.parent ≢ i
parent_other ps zero e t below_root is same = absurd (omega arith)
parent_other ps (suc j) e t below_root is same =
    let u = under (links_of ps) j (link_of e) t (live_entry ps (suc j) e is) in
    let one : u.front ≡ u.front ++ name_of e ∷ [] = some_is _ _ (sym u.parent ∙ ap (path_at (links_of ps)) same ∙ u.path) in
    let l = ap length one ∙ length-append u.front (name_of e ∷ []) in
    omega arith

module _ (ps mid : List Place) (i : ℕ) (e : Entry) (tree : IsTree (links_of ps)) (linked : AreLinked ps) (below_root : 0 < i) (there : entry_at ps i ≡ Some e)
    (gap : Gap) (g : IsGap ps e.parent (name_of e) gap)
    (first : gap.before ≡ None → (d : Entry) → entry_at ps e.parent ≡ Some d → IsWith ps mid e.parent (Used (record d { first = e.next })))
    (behind : (b : ℕ) → gap.before ≡ Some b → (d : Entry) → entry_at ps b ≡ Some d → IsWith ps mid b (Used (record d { next = e.next }))) where
  not_root : i ≢ 0
  not_root z = absurd (omega arith)

  within : i < length ps
  within = entry_within ps i e there

  reached : (j : ℕ) → gap.after ≡ Some j → name_cmp (name_at (links_of ps) j) (name_of e) ≢ Less
  reached = some_so (λ j. name_cmp (name_at (links_of ps) j) (name_of e) ≡ Less → ⊥) gap.after g.reached

  -- the place that is linked anew is another one
  record Relinked : Type 0 where
    alike : AreAlike ps mid
    here : slice_get mid i ≡ Some (Used e)

  relinked_at : (t : ℕ) (p d : Entry) → IsWith ps mid t (Used p) → entry_at ps t ≡ Some d → unlinked (Used p) ≡ unlinked (Used d) → t ≢ i → Relinked
  relinked_at t p d w is same other = record {
    alike = with_alike ps mid t (Used p) (Used d) w (let q = place_at ps t d is in q.is) same;
    here = w.others i (λ z. other (sym z)) ∙ (let q = place_at ps i e there in q.is);
  }

  dir : (d : Entry) × (entry_at ps e.parent ≡ Some d)
  dir = some_of (entry_at ps e.parent) (parent_in_use ps i e tree below_root there)

  -- what the walk passed stands before it
  record Before (b : ℕ) : Type 0 where
    entry : Entry
    is : entry_at ps b ≡ Some entry
    root : b ≢ 0
    sibling : entry.parent ≡ e.parent
    below : name_cmp (name_of entry) (name_of e) ≡ Less
    named : name_at (links_of ps) b ≡ name_of entry

  before_it : (b : ℕ) → is_later (links_of ps) e.parent [] b ≡ true → name_cmp (name_at (links_of ps) b) (name_of e) ≡ Less → Before b
  before_it b later less =
      let c = later_is (links_of ps) e.parent [] b later in
      let x = entry_at_live ps b c.link c.live in
      let named = entry_named ps b x.entry x.is in
      record {
        entry = x.entry;
        is = x.is;
        root = c.below_root;
        sibling = ap (λ (l : Link). l.parent) (sym x.holds) ∙ c.parent;
        below = ap (λ y. name_cmp y (name_of e)) (sym named) ∙ less;
        named = named;
      }

  before_other : (b : ℕ) → Before b → b ≢ i
  before_other b x same =
      let one : x.entry ≡ e = some_is _ _ (sym x.is ∙ ap (entry_at ps) same ∙ there) in
      not_itself (name_of e) (ap (λ (d : Entry). name_cmp (name_of d) (name_of e)) (sym one) ∙ x.below)

  relinked : Relinked
  relinked = by gap.before refl g.before
    where
      by : (o : Option ℕ) → gap.before ≡ o → IfSome o (λ i. (is_later (links_of ps) e.parent [] i ≡ true) × (name_cmp (name_at (links_of ps) i) (name_of e) ≡ Less)) → Relinked
      by None is passed = relinked_at e.parent (record dir.0 { first = e.next }) dir.0 (first is dir.0 dir.1) dir.1 refl (parent_other ps i e tree below_root there)
      by (Some b) is passed =
          let x = before_it b passed.0 passed.1 in
          relinked_at b (record x.entry { next = e.next }) x.entry (behind b is x.entry x.is) x.is refl (before_other b x)

  -- the entry is still there to be moved out
  pub mid_here : slice_get mid i ≡ Some (Used e)
  mid_here = relinked.here

  pub mid_within : i < length mid
  mid_within = let s = (let r = relinked in r.alike.size) in let w = within in omega arith

  abbrev qs : List Place
  qs = set mid i (Free None)

  gone : entry_at qs i ≡ None
  gone = entry_read qs i (Free None) (slice_set_same mid i (Free None) mid_within)

  sets : Sets (links_of qs) (links_of ps) i (link_of e)
  sets =
      let alike = set_alike ps mid i (Free None) relinked.alike in
      record {
        size = sym alike.size;
        within = let s = alike.size in let w = within in omega arith;
        here = live_entry ps i e there;
        others = λ j other. sym (alike_link ps qs j (alike.each j other));
      }

  elsewhere : (t : ℕ) (p : Place) → IsWith ps mid t p → (j : ℕ) → j ≢ i → j ≢ t → entry_at qs j ≡ entry_at ps j
  elsewhere t p w j other apart = ap (λ o. option_and_then entry_of o) (slice_set_other mid i j (Free None) other) ∙ with_other ps mid t j p w apart

  at_target : (t : ℕ) (d : Entry) → IsWith ps mid t (Used d) → t ≢ i → entry_at qs t ≡ Some d
  at_target t d w other = entry_read qs t (Used d) (slice_set_other mid i t (Free None) other ∙ w.here)

  all_linked : AreLinked qs
  all_linked = by gap.before refl g.before g.after
    where
      by : (o : Option ℕ) → gap.before ≡ o → IfSome o (λ i. (is_later (links_of ps) e.parent [] i ≡ true) × (name_cmp (name_at (links_of ps) i) (name_of e) ≡ Less))
          → IsLeast (links_of ps) e.parent (bound_of (links_of ps) o) (length ps) gap.after → AreLinked qs
      by None is passed after =
          let w = first is dir.0 dir.1 in
          take_first ps qs i e gap.after linked (tree_named (links_of ps) tree) (tree_apart (links_of ps) tree) sets not_root there gone (free_entry qs i gone) reached
          dir.0 dir.1 (at_target e.parent (record dir.0 { first = e.next }) w (parent_other ps i e tree below_root there)) (elsewhere e.parent (Used (record dir.0 { first = e.next })) w) after
      by (Some b) is passed after =
          let x = before_it b passed.0 passed.1 in
          let w = behind b is x.entry x.is in
          take_behind ps qs i e gap.after linked (tree_named (links_of ps) tree) (tree_apart (links_of ps) tree) sets not_root there gone (free_entry qs i gone) reached
          b x.entry x.is x.root x.sibling x.below (at_target b (record x.entry { next = e.next }) w (before_other b x)) (elsewhere b (Used (record x.entry { next = e.next })) w)
          (subst (λ y. IsLeast (links_of ps) e.parent y (length ps) gap.after) x.named after)

  pub taken : IsTaken ps qs i e
  taken = record {
    alike = set_alike ps mid i (Free None) relinked.alike;
    free = gone;
    linked = all_linked;
    first = subst (λ n. IsLeast (links_of qs) i [] n e.first) (let s = sets in s.size)
        (least_left (links_of qs) (links_of ps) i (link_of e) sets (free_entry qs i gone) not_root i (length ps) [] e.first (linked.first i e there)
        (λ same. parent_other ps i e tree below_root there
        (here_later (links_of qs) (links_of ps) i (link_of e) sets (free_entry qs i gone) not_root i [] (subst (λ o. IsLeast (links_of ps) i [] (length ps) o) same (linked.first i e there)).0).0));
  }

  pub read_here : (d : Place) → get_or mid i d ≡ Used e
  read_here d = sym (some_is _ _ (sym mid_here ∙ slice_get-get_or mid i d mid_within))

-- ---- the entry that was moved out

pub used_is : (d e : Entry) → Used d ≡ Used e → d ≡ e
used_is d e h = ap (λ o. unwrap_or o d) (ap entry_of h)

pub not_free : (next : Option ℕ) (e : Entry) → Free next ≡ Used e → ⊥
not_free next e h = let z : None ≡ Some e = ap entry_of h in cc
