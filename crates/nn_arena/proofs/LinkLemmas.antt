-- To put an entry into a free place, and to take one out, keeps the children linked.
use Rattle.std.proofs.Common.{◌≡◌, ◌≢◌, ℕ, suc, ◌<◌, true, [], List, inl, inr, length, Option, Some, None, refl, sym, ap, subst, ◌∙◌, arith}
use Rattle.std.specs.Option.{option_map_or}
use Rattle.std.proofs.lemmas.Bool.{cases_eq}
use Rattle.std.specs.declared.cmp.Ordering.TheVariants.{Less, Equal, Greater}
use Rattle.nn_base.specs.Paths.{Bytes, name_cmp}
use Rattle.nn_base.proofs.PlainLemmas.{some_is}
use Rattle.nn_tree.specs.Links.{Link, Links}
use Rattle.nn_tree.specs.Plain.{is_later, name_at, IsLeast}
use Rattle.nn_tree.proofs.SetLemmas.{Sets}
use Rattle.nn_arena.specs.declared.place.Entry.{Entry}
use Rattle.nn_arena.specs.declared.place.Place.{Place}
use Rattle.nn_arena.specs.Places.{name_of, entry_at, link_of, links_of}
use Rattle.nn_arena.specs.Children.{AreLinked, AreNamed, AreApart}
use Rattle.nn_arena.proofs.PlaceLemmas.{live_entry, entry_within}
use Rattle.nn_arena.proofs.SiblingLemmas.{later_so, here_later, isnt, not_below, rest_below, not_itself, least_kept, least_new, least_stays, least_raised, none_between, yes_no}

-- ---- put

-- qs is ps with e at i, whose place before it, or its directory, names it
module _ (ps qs : List Place) (i : ℕ) (e : Entry) (linked : AreLinked ps) (named : AreNamed (links_of ps)) (apart : AreApart (links_of ps))
    (s : Sets (links_of ps) (links_of qs) i (link_of e)) (free : (links_of ps).at i ≡ None) (not_root : i ≢ 0) (above : name_cmp [] (name_of e) ≡ Less)
    (there : entry_at qs i ≡ Some e) (inside : e.parent ≢ i) (children : IsLeast (links_of ps) i [] (length ps) e.first) where
  abbrev g : Links
  g = links_of ps

  abbrev h : Links
  h = links_of qs

  abbrev n : ℕ
  n = length ps

  resize : (b : ℕ) (y : Bytes) (o : Option ℕ) → IsLeast h b y n o → IsLeast h b y (length qs) o
  resize b y o = subst (λ n. IsLeast h b y n o) (sym s.size)

  -- another directory, or a bound that isn't below the name
  untouched : (b : ℕ) (y : Bytes) (o : Option ℕ) → IsLeast g b y n o → (b ≡ e.parent → name_cmp y (name_of e) ≡ Less → ⊥) → IsLeast h b y n o
  untouched b y o least out = least_kept g h i (link_of e) s free not_root b n y o least
      (isnt _ (λ later. let w = here_later g h i (link_of e) s free not_root b y later in out (sym w.0) w.1))

  -- a bound below the name, in the directory: what comes next has a name below it too, and stays
  passed : (y : Bytes) (o : Option ℕ) (b : ℕ) → IsLeast g e.parent y n o → is_later g e.parent y b ≡ true → b < n → name_cmp (name_at g b) (name_of e) ≡ Less → IsLeast h e.parent y n o
  passed y None b least later within below = absurd (yes_no _ later (least b within))
  passed y (Some f) b least later within below =
      least_stays g h i (link_of e) s free not_root e.parent n f y least (rest_below (name_at g f) (name_at g b) (name_of e) (λ less. least.1 b within later less) below)

  first_here : IsLeast h i [] n e.first
  first_here = untouched i [] e.first children (λ is _. inside (sym is))

  -- its next one
  next_here : (y : Bytes) → IsLeast g e.parent y n e.next → name_cmp y (name_of e) ≡ Less → ((j : ℕ) → e.next ≡ Some j → name_cmp (name_at g j) (name_of e) ≢ Less) → ((j : ℕ) → e.next ≡ Some j → name_at g j ≢ name_of e)
      → IsLeast h e.parent (name_of e) n e.next
  next_here y least less reached new =
      untouched e.parent (name_of e) e.next (least_raised g e.parent n y (name_of e) e.next least less reached new) (λ _ z. not_itself (name_of e) z)

  -- the name of a child that stood there
  child_named : (j : ℕ) (k : Entry) → entry_at ps j ≡ Some k → name_at g j ≡ name_of k
  child_named j k is = ap (λ o. option_map_or (λ (l : Link). l.name) o []) (live_entry ps j k is)

  child_later : (j : ℕ) (k : Entry) (y : Bytes) → j ≢ 0 → entry_at ps j ≡ Some k → k.parent ≡ e.parent → name_cmp y (name_of k) ≡ Less → is_later g e.parent y j ≡ true
  child_later j k y below_root is parent above = later_so g e.parent y j (link_of k) below_root (live_entry ps j k is) parent above

  -- no child above the bound of the gap has a name below it
  none_below : (y : Bytes) → IsLeast g e.parent y n e.next → ((j : ℕ) → e.next ≡ Some j → name_cmp (name_at g j) (name_of e) ≢ Less) → (j : ℕ) (k : Entry) → j ≢ 0 → entry_at ps j ≡ Some k → k.parent ≡ e.parent → name_cmp y (name_of k) ≡ Less → name_cmp (name_of k) (name_of e) ≢ Less
  none_below y after reached j k below_root is parent bound less =
      none_between g e.parent n y (name_of e) e.next after reached j (entry_within ps j k is) (child_later j k y below_root is parent bound) (ap (λ x. name_cmp x (name_of e)) (child_named j k is) ∙ less)

  -- the place itself
  put_here_first : (j : ℕ) (k : Entry) → j ≡ i → entry_at qs j ≡ Some k → IsLeast h j [] n k.first
  put_here_first j k same is =
      let x : e ≡ k = some_is _ _ (sym there ∙ ap (entry_at qs) (sym same) ∙ is) in
      subst (λ (k : Entry). IsLeast h j [] n k.first) x (subst (λ j. IsLeast h j [] n e.first) (sym same) first_here)

  put_here_next : (j : ℕ) (k : Entry) → j ≡ i → entry_at qs j ≡ Some k → IsLeast h e.parent (name_of e) n e.next → IsLeast h k.parent (name_of k) n k.next
  put_here_next j k same is next =
      let x : e ≡ k = some_is _ _ (sym there ∙ ap (entry_at qs) (sym same) ∙ is) in
      subst (λ (k : Entry). IsLeast h k.parent (name_of k) n k.next) x next

  suc_not : (j : ℕ) → suc j ≢ 0
  suc_not j z = absurd (omega arith)

  -- ---- at the head of its directory

  module _ (d : Entry) (dir : entry_at ps e.parent ≡ Some d) (now : entry_at qs e.parent ≡ Some (record d { first = Some i })) (others : (j : ℕ) → j ≢ i → j ≢ e.parent → entry_at qs j ≡ entry_at ps j)
      (after : IsLeast g e.parent [] n e.next) (reached : (j : ℕ) → e.next ≡ Some j → name_cmp (name_at g j) (name_of e) ≢ Less) (new : (j : ℕ) → e.next ≡ Some j → name_at g j ≢ name_of e) where
    first_at : (j : ℕ) (k : Entry) → entry_at qs j ≡ Some k → IsLeast h j [] n k.first
    first_at j k is = elim (cases_eq j i) as (λ _. IsLeast h j [] n k.first) [
      | inl same ↦ put_here_first j k same is
      | inr other ↦ elim (cases_eq j e.parent) as (λ _. IsLeast h j [] n k.first) [
        | inl same ↦
            let x : record d { first = Some i } ≡ k = some_is _ _ (sym now ∙ ap (entry_at qs) (sym same) ∙ is) in
            subst (λ (k : Entry). IsLeast h j [] n k.first) x (subst (λ j. IsLeast h j [] n (Some i)) (sym same)
            (least_new g h i (link_of e) s free not_root n [] e.next after above reached))
        | inr apart ↦ untouched j [] k.first (linked.first j k (sym (others j other apart) ∙ is)) (λ same _. apart same)
      ]
    ]

    -- a child that stood there, with the next one that it had
    stays : (j : ℕ) (k : Entry) → entry_at ps (suc j) ≡ Some k → IsLeast h k.parent (name_of k) n k.next
    stays j k is = untouched k.parent (name_of k) k.next (linked.next j k is)
        (λ same less. none_below [] after reached (suc j) k (suc_not j) is same (named (suc j) (link_of k) (suc_not j) (live_entry ps (suc j) k is)) less)

    next_at : (j : ℕ) (k : Entry) → entry_at qs (suc j) ≡ Some k → IsLeast h k.parent (name_of k) n k.next
    next_at j k is = elim (cases_eq (suc j) i) as (λ _. IsLeast h k.parent (name_of k) n k.next) [
      | inl same ↦ put_here_next (suc j) k same is (next_here [] after above reached new)
      | inr other ↦ elim (cases_eq (suc j) e.parent) as (λ _. IsLeast h k.parent (name_of k) n k.next) [
        | inl same ↦
            let x : record d { first = Some i } ≡ k = some_is _ _ (sym now ∙ ap (entry_at qs) (sym same) ∙ is) in
            subst (λ (k : Entry). IsLeast h k.parent (name_of k) n k.next) x (stays j d (ap (entry_at ps) same ∙ dir))
        | inr apart ↦ stays j k (sym (others (suc j) other apart) ∙ is)
      ]
    ]

    pub put_first : AreLinked qs
    put_first = record {
      first = λ j k is. resize j [] k.first (first_at j k is);
      next = λ j k is. resize k.parent (name_of k) k.next (next_at j k is);
    }

  -- ---- behind one of its siblings

  module _ (b : ℕ) (d : Entry) (before : entry_at ps b ≡ Some d) (below_root : b ≢ 0) (sibling : d.parent ≡ e.parent) (below : name_cmp (name_of d) (name_of e) ≡ Less)
      (now : entry_at qs b ≡ Some (record d { next = Some i })) (others : (j : ℕ) → j ≢ i → j ≢ b → entry_at qs j ≡ entry_at ps j)
      (after : IsLeast g e.parent (name_of d) n e.next) (reached : (j : ℕ) → e.next ≡ Some j → name_cmp (name_at g j) (name_of e) ≢ Less) (new : (j : ℕ) → e.next ≡ Some j → name_at g j ≢ name_of e) where
    -- its sibling is above the bound
    behind : (y : Bytes) (o : Option ℕ) → IsLeast g e.parent y n o → name_cmp y (name_of d) ≡ Less → IsLeast h e.parent y n o
    behind y o least less = passed y o b least (child_later b d y below_root before sibling less) (entry_within ps b d before) (ap (λ x. name_cmp x (name_of e)) (child_named b d before) ∙ below)

    first_stays : (j : ℕ) (k : Entry) → entry_at ps j ≡ Some k → IsLeast h j [] n k.first
    first_stays j k is = elim (cases_eq j e.parent) as (λ _. IsLeast h j [] n k.first) [
      | inl same ↦ subst (λ j. IsLeast h j [] n k.first) (sym same)
          (behind [] k.first (subst (λ j. IsLeast g j [] n k.first) same (linked.first j k is)) (named b (link_of d) below_root (live_entry ps b d before)))
      | inr apart ↦ untouched j [] k.first (linked.first j k is) (λ same _. apart same)
    ]

    first_behind : (j : ℕ) (k : Entry) → entry_at qs j ≡ Some k → IsLeast h j [] n k.first
    first_behind j k is = elim (cases_eq j i) as (λ _. IsLeast h j [] n k.first) [
      | inl same ↦ put_here_first j k same is
      | inr other ↦ elim (cases_eq j b) as (λ _. IsLeast h j [] n k.first) [
        | inl same ↦
            let x : record d { next = Some i } ≡ k = some_is _ _ (sym now ∙ ap (entry_at qs) (sym same) ∙ is) in
            subst (λ (k : Entry). IsLeast h j [] n k.first) x (first_stays j d (ap (entry_at ps) same ∙ before))
        | inr apart ↦ first_stays j k (sym (others j other apart) ∙ is)
      ]
    ]

    -- a sibling with a name below it, but for the one before it, is followed as it was
    follows : (j : ℕ) (k : Entry) → entry_at ps (suc j) ≡ Some k → suc j ≢ b → k.parent ≡ e.parent → name_cmp (name_of k) (name_of e) ≡ Less → name_cmp (name_of k) (name_of d) ≡ Less
    follows j k is other parent less =
        let no : name_cmp (name_of d) (name_of k) ≢ Less = λ bound. none_below (name_of d) after reached (suc j) k (suc_not j) is parent bound less in
        elim (not_below (name_of d) (name_of k) no) as (λ _. name_cmp (name_of k) (name_of d) ≡ Less) [
          | inl same ↦ absurd (other (apart (suc j) b (link_of k) (link_of d) (suc_not j) below_root (live_entry ps (suc j) k is) (live_entry ps b d before) (parent ∙ sym sibling) (sym same)))
          | inr less ↦ less
        ]

    next_stays : (j : ℕ) (k : Entry) → entry_at ps (suc j) ≡ Some k → suc j ≢ b → IsLeast h k.parent (name_of k) n k.next
    next_stays j k is other = elim (cases_eq k.parent e.parent) as (λ _. IsLeast h k.parent (name_of k) n k.next) [
      | inr apart ↦ untouched k.parent (name_of k) k.next (linked.next j k is) (λ same _. apart same)
      | inl same ↦ elim (name_cmp (name_of k) (name_of e)) as (λ o. name_cmp (name_of k) (name_of e) ≡ o → IsLeast h k.parent (name_of k) n k.next) [
        | Less ↦ λ less. subst (λ b. IsLeast h b (name_of k) n k.next) (sym same)
            (behind (name_of k) k.next (subst (λ b. IsLeast g b (name_of k) n k.next) same (linked.next j k is)) (follows j k is other same less))
        | Equal ↦ λ no. untouched k.parent (name_of k) k.next (linked.next j k is) (λ _ less. let z = sym no ∙ less in cc)
        | Greater ↦ λ no. untouched k.parent (name_of k) k.next (linked.next j k is) (λ _ less. let z = sym no ∙ less in cc)
      ] refl
    ]

    next_behind : (j : ℕ) (k : Entry) → entry_at qs (suc j) ≡ Some k → IsLeast h k.parent (name_of k) n k.next
    next_behind j k is = elim (cases_eq (suc j) i) as (λ _. IsLeast h k.parent (name_of k) n k.next) [
      | inl same ↦ put_here_next (suc j) k same is (next_here (name_of d) after below reached new)
      | inr other ↦ elim (cases_eq (suc j) b) as (λ _. IsLeast h k.parent (name_of k) n k.next) [
        | inl same ↦
            let x : record d { next = Some i } ≡ k = some_is _ _ (sym now ∙ ap (entry_at qs) (sym same) ∙ is) in
            subst (λ (k : Entry). IsLeast h k.parent (name_of k) n k.next) x
            (subst (λ b. IsLeast h b (name_of d) n (Some i)) (sym sibling) (least_new g h i (link_of e) s free not_root n (name_of d) e.next after below reached))
        | inr apart ↦ next_stays j k (sym (others (suc j) other apart) ∙ is) apart
      ]
    ]

    pub put_behind : AreLinked qs
    put_behind = record {
      first = λ j k is. resize j [] k.first (first_behind j k is);
      next = λ j k is. resize k.parent (name_of k) k.next (next_behind j k is);
    }
