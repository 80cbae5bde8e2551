-- To take an entry out keeps the others linked.
use Rattle.std.proofs.Common.{◌≡◌, ◌≢◌, ℕ, zero, suc, ◌<◌, true, [], List, inl, inr, length, Option, Some, None, refl, sym, ap, subst, ◌∙◌, arith}
use Rattle.std.specs.Option.{option_map_or}
use Rattle.std.proofs.lemmas.Bool.{cases_eq}
use Rattle.std.specs.declared.cmp.Ordering.TheVariants.{Less}
use Rattle.nn_base.specs.Paths.{Bytes, name_cmp}
use Rattle.nn_base.proofs.PlainLemmas.{some_is}
use Rattle.nn_tree.specs.Links.{Link, Links}
use Rattle.nn_tree.specs.Plain.{is_later, name_at, IsLeast}
use Rattle.nn_tree.proofs.SetLemmas.{Sets}
use Rattle.nn_arena.specs.declared.place.Entry.{Entry}
use Rattle.nn_arena.specs.declared.place.Place.{Place}
use Rattle.nn_arena.specs.Places.{name_of, entry_at, link_of, links_of}
use Rattle.nn_arena.specs.Children.{AreLinked, AreNamed, AreApart}
use Rattle.nn_arena.proofs.PlaceLemmas.{live_entry, entry_within}
use Rattle.nn_arena.proofs.SiblingLemmas.{later_so, here_later, later_here, not_below, least_left, least_after, none_between}

-- qs is ps without e at i; o is what the walk to its name finds at or after it
module _ (ps qs : List Place) (i : ℕ) (e : Entry) (o : Option ℕ) (linked : AreLinked ps) (named : AreNamed (links_of ps)) (apart : AreApart (links_of ps))
    (s : Sets (links_of qs) (links_of ps) i (link_of e)) (not_root : i ≢ 0) (there : entry_at ps i ≡ Some e) (gone : entry_at qs i ≡ None) (free : (links_of qs).at i ≡ None)
    (reached : (j : ℕ) → o ≡ Some j → name_cmp (name_at (links_of ps) j) (name_of e) ≢ Less) where
  abbrev g : Links
  g = links_of qs

  abbrev h : Links
  h = links_of ps

  abbrev n : ℕ
  n = length ps

  resize : (b : ℕ) (y : Bytes) (p : Option ℕ) → IsLeast g b y n p → IsLeast g b y (length qs) p
  resize b y p = subst (λ n. IsLeast g b y n p) s.size

  suc_not : (j : ℕ) → suc j ≢ 0
  suc_not j z = absurd (omega arith)

  within : i < n
  within = entry_within ps i e there

  in_place : (j : ℕ) (k : Entry) → entry_at qs j ≡ Some k → j ≢ i
  in_place j k is same = let z : None ≡ Some k = sym gone ∙ ap (entry_at qs) (sym same) ∙ is in cc

  child_named : (j : ℕ) (k : Entry) → entry_at ps j ≡ Some k → name_at h j ≡ name_of k
  child_named j k is = ap (λ o. option_map_or (λ (l : Link). l.name) o []) (live_entry ps j k is)

  child_later : (j : ℕ) (k : Entry) (y : Bytes) → j ≢ 0 → entry_at ps j ≡ Some k → k.parent ≡ e.parent → name_cmp y (name_of k) ≡ Less → is_later h e.parent y j ≡ true
  child_later j k y below_root is parent above = later_so h e.parent y j (link_of k) below_root (live_entry ps j k is) parent above

  none_below : (y : Bytes) → IsLeast h e.parent y n o → (j : ℕ) (k : Entry) → j ≢ 0 → entry_at ps j ≡ Some k → k.parent ≡ e.parent → name_cmp y (name_of k) ≡ Less → name_cmp (name_of k) (name_of e) ≢ Less
  none_below y after j k below_root is parent bound less =
      none_between h e.parent n y (name_of e) o after reached j (entry_within ps j k is) (child_later j k y below_root is parent bound) (ap (λ x. name_cmp x (name_of e)) (child_named j k is) ∙ less)

  -- it is the least above the bound of its gap
  least_here : (y : Bytes) → IsLeast h e.parent y n o → name_cmp y (name_of e) ≡ Less → IsLeast h e.parent y n (Some i)
  least_here y after above = (
    later_here g h i (link_of e) s free not_root y above,
    λ k lt later less. none_between h e.parent n y (name_of e) o after reached k lt later (ap (name_cmp (name_at h k)) (sym (child_named i e there)) ∙ less),
  )

  -- what came next after it
  next_of : (j : ℕ) → i ≡ suc j → IsLeast h e.parent (name_of e) n e.next
  next_of j is = linked.next j e (ap (entry_at ps) (sym is) ∙ there)

  next_it : IsLeast h e.parent (name_of e) n e.next
  next_it = by i refl
    where
      by : (k : ℕ) → k ≡ i → IsLeast h e.parent (name_of e) n e.next
      by zero is = absurd (not_root (sym is))
      by (suc j) is = next_of j (sym is)

  replaced : (y : Bytes) → IsLeast h e.parent y n o → name_cmp y (name_of e) ≡ Less → IsLeast g e.parent y n e.next
  replaced y after above = least_after g h i (link_of e) s free not_root e.parent n y e.next apart within (least_here y after above) next_it

  -- ---- from the head of its directory

  module _ (d : Entry) (dir : entry_at ps e.parent ≡ Some d) (now : entry_at qs e.parent ≡ Some (record d { first = e.next })) (others : (j : ℕ) → j ≢ i → j ≢ e.parent → entry_at qs j ≡ entry_at ps j)
      (after : IsLeast h e.parent [] n o) where
    above_none : name_cmp [] (name_of e) ≡ Less
    above_none = named i (link_of e) not_root (live_entry ps i e there)

    first_at : (j : ℕ) (k : Entry) → entry_at qs j ≡ Some k → IsLeast g j [] n k.first
    first_at j k is = elim (cases_eq j e.parent) as (λ _. IsLeast g j [] n k.first) [
      | inl same ↦
          let x : record d { first = e.next } ≡ k = some_is _ _ (sym now ∙ ap (entry_at qs) (sym same) ∙ is) in
          subst (λ (k : Entry). IsLeast g j [] n k.first) x (subst (λ j. IsLeast g j [] n e.next) (sym same) (replaced [] after above_none))
      | inr other ↦
          let least = linked.first j k (sym (others j (in_place j k is) other) ∙ is) in
          least_left g h i (link_of e) s free not_root j n [] k.first least
          (λ same. other (sym (here_later g h i (link_of e) s free not_root j [] (subst (λ p. IsLeast h j [] n p) same least).0).0))
    ]

    stays : (j : ℕ) (k : Entry) → entry_at ps (suc j) ≡ Some k → IsLeast g k.parent (name_of k) n k.next
    stays j k is =
        let least = linked.next j k is in
        least_left g h i (link_of e) s free not_root k.parent n (name_of k) k.next least
        (λ same.
        let w = here_later g h i (link_of e) s free not_root k.parent (name_of k) (subst (λ p. IsLeast h k.parent (name_of k) n p) same least).0 in
        none_below [] after (suc j) k (suc_not j) is (sym w.0) (named (suc j) (link_of k) (suc_not j) (live_entry ps (suc j) k is)) w.1)

    next_at : (j : ℕ) (k : Entry) → entry_at qs (suc j) ≡ Some k → IsLeast g k.parent (name_of k) n k.next
    next_at j k is = elim (cases_eq (suc j) e.parent) as (λ _. IsLeast g k.parent (name_of k) n k.next) [
      | inl same ↦
          let x : record d { first = e.next } ≡ k = some_is _ _ (sym now ∙ ap (entry_at qs) (sym same) ∙ is) in
          subst (λ (k : Entry). IsLeast g k.parent (name_of k) n k.next) x (stays j d (ap (entry_at ps) same ∙ dir))
      | inr other ↦ stays j k (sym (others (suc j) (in_place (suc j) k is) other) ∙ is)
    ]

    pub take_first : AreLinked qs
    take_first = record {
      first = λ j k is. resize j [] k.first (first_at j k is);
      next = λ j k is. resize k.parent (name_of k) k.next (next_at j k is);
    }

  -- ---- from behind one of its siblings

  module _ (b : ℕ) (d : Entry) (before : entry_at ps b ≡ Some d) (below_root : b ≢ 0) (sibling : d.parent ≡ e.parent) (below : name_cmp (name_of d) (name_of e) ≡ Less)
      (now : entry_at qs b ≡ Some (record d { next = e.next })) (others : (j : ℕ) → j ≢ i → j ≢ b → entry_at qs j ≡ entry_at ps j)
      (after : IsLeast h e.parent (name_of d) n o) where
    -- its sibling comes before it
    not_least : (y : Bytes) → IsLeast h e.parent y n (Some i) → name_cmp y (name_of d) ≢ Less
    not_least y least bound =
        least.1 b (entry_within ps b d before) (child_later b d y below_root before sibling bound) ((λ z. name_cmp (child_named b d before z) (child_named i e there z)) ∙ below)

    first_stays : (j : ℕ) (k : Entry) → entry_at ps j ≡ Some k → IsLeast g j [] n k.first
    first_stays j k is =
        let least = linked.first j k is in
        least_left g h i (link_of e) s free not_root j n [] k.first least
        (λ same.
        let it = subst (λ p. IsLeast h j [] n p) same least in
        let w = here_later g h i (link_of e) s free not_root j [] it.0 in
        not_least [] (subst (λ j. IsLeast h j [] n (Some i)) (sym w.0) it) (named b (link_of d) below_root (live_entry ps b d before)))

    first_behind : (j : ℕ) (k : Entry) → entry_at qs j ≡ Some k → IsLeast g j [] n k.first
    first_behind j k is = elim (cases_eq j b) as (λ _. IsLeast g j [] n k.first) [
      | inl same ↦
          let x : record d { next = e.next } ≡ k = some_is _ _ (sym now ∙ ap (entry_at qs) (sym same) ∙ is) in
          subst (λ (k : Entry). IsLeast g j [] n k.first) x (first_stays j d (ap (entry_at ps) same ∙ before))
      | inr other ↦ first_stays j k (sym (others j (in_place j k is) other) ∙ is)
    ]

    next_stays : (j : ℕ) (k : Entry) → entry_at ps (suc j) ≡ Some k → suc j ≢ b → IsLeast g k.parent (name_of k) n k.next
    next_stays j k is other =
        let least = linked.next j k is in
        least_left g h i (link_of e) s free not_root k.parent n (name_of k) k.next least
        (λ same.
        let it = subst (λ p. IsLeast h k.parent (name_of k) n p) same least in
        let w = here_later g h i (link_of e) s free not_root k.parent (name_of k) it.0 in
        elim (not_below (name_of k) (name_of d) (not_least (name_of k) (subst (λ j. IsLeast h j (name_of k) n (Some i)) (sym w.0) it))) as (λ _. ⊥) [
          | inl alike ↦ other (apart (suc j) b (link_of k) (link_of d) (suc_not j) below_root (live_entry ps (suc j) k is) (live_entry ps b d before) (sym w.0 ∙ sym sibling) alike)
          | inr bound ↦ none_below (name_of d) after (suc j) k (suc_not j) is (sym w.0) bound w.1
        ])

    next_behind : (j : ℕ) (k : Entry) → entry_at qs (suc j) ≡ Some k → IsLeast g k.parent (name_of k) n k.next
    next_behind j k is = elim (cases_eq (suc j) b) as (λ _. IsLeast g k.parent (name_of k) n k.next) [
      | inl same ↦
          let x : record d { next = e.next } ≡ k = some_is _ _ (sym now ∙ ap (entry_at qs) (sym same) ∙ is) in
          subst (λ (k : Entry). IsLeast g k.parent (name_of k) n k.next) x
          (subst (λ b. IsLeast g b (name_of d) n e.next) (sym sibling) (replaced (name_of d) after below))
      | inr other ↦ next_stays j k (sym (others (suc j) (in_place (suc j) k is) other) ∙ is) other
    ]

    pub take_behind : AreLinked qs
    take_behind = record {
      first = λ j k is. resize j [] k.first (first_behind j k is);
      next = λ j k is. resize k.parent (name_of k) k.next (next_behind j k is);
    }
