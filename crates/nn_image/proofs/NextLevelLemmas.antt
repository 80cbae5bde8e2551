-- The level that waits for the next node of a namespace is the node's directory.
use Rattle.std.proofs.Common.{◌≡◌, ◌≢◌, inl, inr, ℕ, ◌<◌, ◌≤◌, true, false, cond, List, [], ◌∷◌, ◌++◌, drop, length, map, refl, sym, ap, subst, ◌∙◌, arith, is_some, append-nil, length-append}
use Rattle.std.specs.Ordering.{is_eq, ordering_then}
use Rattle.std.specs.Cmp.{tied_itself}
use Rattle.std.specs.List.{filter}
use Rattle.std.specs.declared.cmp.Ordering.{Ordering}
use Rattle.std.specs.declared.cmp.Ordering.TheVariants.{Less, Equal, Greater}
use Rattle.std.specs.FinMap.{get, entries}
use Rattle.std.proofs.lemmas.List.{append_cancel_left}
use Rattle.nn_base.specs.Paths.{Bytes, Names, path_cmp, name_cmp, is_under, is_name}
use Rattle.nn_base.proofs.PlainLemmas.{some_of}
use Rattle.nn_tree.specs.declared.node.Node.{Node}
use Rattle.nn_tree.specs.Namespace.{Nodes, IsNamespace}
use Rattle.nn_tree.specs.Spots.{last_name}
use Rattle.nn_tree.proofs.LinksLemmas.{paths_total, paths_exact}
use Rattle.nn_tree.proofs.PrefixLemmas.{under_split}
use Rattle.nn_tree.proofs.OrderLemmas.{cancel, none_less, name_above}
use Rattle.nn_image.specs.Image.{is_child, child_ids}
use Rattle.nn_image.specs.Assembly.{Level, Partial, waiting}
use Rattle.nn_image.proofs.ChildLemmas.{is_its_child}
use Rattle.nn_image.proofs.LaterLemmas.{not_itself, above_front, comes_before}
use Rattle.nn_image.proofs.LevelsLemmas.{front, IsOn, AreAbove, AreOpen, waiting_open, Waits, waits_or_not, waiting_places, first_place, ArePlaces}
use Rattle.nn_image.proofs.FrontLemmas.{map_splits, same_in_front, next_there, part_before, under_first, LastName, has_last}
use Rattle.nn_image.proofs.ListedLemmas.{same_path, to_come, waiting_to_come, nothing_to_come, to_come_next, ids_in, ids_in-append, child_ids-is, listed}
use Rattle.nn_image.proofs.PartialLemmas.{IsPartial, some_dir}

-- outer levels have shorter paths
outer_to_come : (path : Names) (outer : List Level) → AreAbove path outer → (p : Names) → length path ≤ length p → to_come outer p ≡ []
unfolding to_come AreAbove
outer_to_come path [] h p long = refl
outer_to_come path (level ∷ outer) h p long =
    let l = ap length h.0 in
    let k = length-append level.path (level.newest ∷ []) in
    by (path_cmp level.path p) refl (omega (arith, l, k, long)) (outer_to_come level.path outer h.1 p (omega (arith, l, k, long)))
  where
    by : (r : Ordering) → path_cmp level.path p ≡ r → length level.path < length p → to_come outer p ≡ [] → cond (is_eq (path_cmp level.path p)) level.children [] ++ to_come outer p ≡ []
    by Less is less rest = ap (λ r. cond (is_eq r) level.children [] ++ to_come outer p) is ∙ rest
    by Greater is less rest = ap (λ r. cond (is_eq r) level.children [] ++ to_come outer p) is ∙ rest
    by Equal is less rest = absurd (let same = ap length (paths_exact level.path p is) in omega (arith, same, less))

pub own_to_come : (level : Level) (outer : List Level) → to_come (level ∷ outer) level.path ≡ level.children ++ to_come outer level.path
unfolding to_come
own_to_come level outer = ap (λ r. cond (is_eq r) level.children [] ++ to_come outer level.path) (tied_itself paths_total level.path)

-- a name behind the newest one
front_less : (rest : Names) (name : Bytes) → is_name name ≡ true → path_cmp rest (name ∷ []) ≡ Less → name_cmp (front rest) name ≡ Less
unfolding front
front_less [] name named l = name_above name named
front_less (x ∷ rest) name named l = by (name_cmp x name) refl l
  where
    by : (r : Ordering) → name_cmp x name ≡ r → ordering_then (name_cmp x name) (path_cmp rest []) ≡ Less → name_cmp x name ≡ Less
    by Less is l = is
    by Equal is l = absurd (none_less rest (sym (ap (λ o. ordering_then o (path_cmp rest [])) is) ∙ l))
    by Greater is l = let z : Greater ≡ Less = sym (ap (λ o. ordering_then o (path_cmp rest [])) is) ∙ l in cc

-- the children of a path among the first entries are put, and those among the others are to come
pub record Comes (m : Nodes) (h : Partial) (q : Names) (node : Node) (rest : List (Names × Node)) : Type 0 where
  pub whole : entries m ≡ entries h.nodes ++ (q, node) ∷ rest
  pub all : (p : Names) → is_some (get h.nodes p) ≡ true → listed h.nodes h.levels p ≡ child_ids m p

pub record IsNextLevel (levels : List Level) (q : Names) (id : ℕ) : Type 0 where
  pub level : Level
  pub outer : List Level
  pub left : waiting levels ≡ level ∷ outer
  pub rest : List ℕ
  pub children : level.children ≡ id ∷ rest
  pub path : q ≡ level.path ++ last_name q ∷ []
  pub named : is_name (last_name q) ≡ true
  pub behind : name_cmp level.newest (last_name q) ≡ Less

module _ (m : Nodes) (formed : IsNamespace m) (h : Partial) (partial : IsPartial h) (q : Names) (node : Node) (rest : List (Names × Node)) (comes : Comes m h q node rest) where
  last_less : path_cmp partial.last q ≡ Less
  last_less =
      let x = some_of (get h.nodes partial.last) partial.there in
      comes_before h.nodes q (part_before m h.nodes (entries h.nodes) q node rest comes.whole refl) partial.last x.0 x.1

  below_root : q ≢ []
  below_root e = none_less partial.last (ap (path_cmp partial.last) (sym e) ∙ last_less)

  split : LastName q
  split = has_last q below_root

  there : is_some (get m (split.front ++ last_name q ∷ [])) ≡ true
  there = ap (λ q. is_some (get m q)) (sym split.whole) ∙ ap is_some (next_there m h.nodes (entries h.nodes) q node rest comes.whole refl)

  parent_there : is_some (get h.nodes split.front) ≡ true
  parent_there =
      let less : path_cmp split.front q ≡ Less = ap (path_cmp split.front) split.whole ∙ above_front split.front (last_name q) [] in
      ap is_some (sym (same_in_front m h.nodes (entries h.nodes) q node rest comes.whole refl split.front less))
      ∙ some_dir m split.front (formed.parents split.front (last_name q) there)

  -- the ids to come are those of the entries behind
  coming : (p : Names) → is_some (get h.nodes p) ≡ true → to_come (waiting h.levels) p ≡ ids_in p ((q, node) ∷ rest)
  unfolding listed
  coming p at =
      waiting_to_come h.levels p
      ∙ append_cancel_left (child_ids h.nodes p) _ _ (
      comes.all p at ∙ child_ids-is m p ∙ ap (ids_in p) comes.whole ∙ ids_in-append p (entries h.nodes) ((q, node) ∷ rest)
      ∙ ap (λ ids. ids ++ ids_in p ((q, node) ∷ rest)) (sym (child_ids-is h.nodes p))
      )

  next_id : ids_in split.front ((q, node) ∷ rest) ≡ node.id ∷ ids_in split.front rest
  next_id =
      let child : is_child split.front q ≡ true = ap (is_child split.front) split.whole ∙ is_its_child split.front (last_name q) in
      ap (λ b. map (λ (e : Names × Node). e.1.id) (cond b ((q, node) ∷ filter (λ e. is_child split.front e.0) rest) (filter (λ e. is_child split.front e.0) rest))) child

  parent_comes : to_come (waiting h.levels) split.front ≡ node.id ∷ ids_in split.front rest
  parent_comes = coming split.front parent_there ∙ next_id

  module _ (w : Waits h.levels) where
    way : AreOpen partial.last (w.level ∷ w.outer)
    way = subst (AreOpen partial.last) w.is (waiting_open partial.last h.levels partial.way)

    on : IsOn partial.last w.level
    unfolding AreOpen
    on = way.0

    above : AreAbove w.level.path w.outer
    unfolding AreOpen
    above = way.1

    here : is_some (get h.nodes w.level.path) ≡ true
    here = some_dir h.nodes w.level.path (first_place h.nodes w.level w.outer (subst (ArePlaces h.nodes) w.is (waiting_places h.nodes h.levels partial.places))).0

    less : path_cmp (w.level.path ++ on.rest) q ≡ Less
    less = ap (λ p. path_cmp p q) (sym on.whole) ∙ last_less

    under : is_under w.level.path q ≡ true
    under =
        let after = (map_splits m (entries h.nodes) (q, node) rest comes.whole).after in
        let ids : ids_in w.level.path ((q, node) ∷ rest) ≡ w.child ∷ (w.rest ++ to_come w.outer w.level.path) =
        sym (coming w.level.path here) ∙ ap (λ levels. to_come levels w.level.path) w.is ∙ own_to_come w.level w.outer ∙ ap (λ ids. ids ++ to_come w.outer w.level.path) w.children in
        under_first w.level.path on.rest q node rest w.child (w.rest ++ to_come w.outer w.level.path) less after ids

    -- so it is no longer than the node's directory
    short : length w.level.path ≤ length split.front
    short = by (drop (length w.level.path) q) (under_split w.level.path q under)
      where
        itself : q ≡ w.level.path → ⊥
        itself same =
            let x = some_of (get h.nodes w.level.path) here in
            let before = comes_before h.nodes q (part_before m h.nodes (entries h.nodes) q node rest comes.whole refl) w.level.path x.0 x.1 in
            not_itself q (ap (λ p. path_cmp p q) same ∙ before)

        by : (d : Names) → q ≡ w.level.path ++ d → length w.level.path ≤ length split.front
        by [] is = absurd (itself (is ∙ append-nil w.level.path))
        by (x ∷ d) is =
            let a = ap length is in
            let b = length-append w.level.path (x ∷ d) in
            let c = ap length split.whole in
            let e = length-append split.front (last_name q ∷ []) in
            omega (arith, a, b, c, e)

    none_outer : to_come w.outer split.front ≡ []
    none_outer = outer_to_come w.level.path w.outer above split.front short

    its_path : w.level.path ≡ split.front
    its_path = by (path_cmp w.level.path split.front) refl
      where
        ids : cond (same_path w.level.path split.front) w.level.children [] ++ to_come w.outer split.front ≡ node.id ∷ ids_in split.front rest
        ids = sym (to_come_next w.level w.outer split.front) ∙ ap (λ levels. to_come levels split.front) (sym w.is) ∙ parent_comes

        apart : same_path w.level.path split.front ≡ false → ⊥
        apart is =
            let z : ◌≡◌ {A = List ℕ} [] (node.id ∷ ids_in split.front rest) = sym none_outer ∙ ap (λ b. cond b w.level.children [] ++ to_come w.outer split.front) (sym is) ∙ ids in
            cc

        by : (r : Ordering) → path_cmp w.level.path split.front ≡ r → w.level.path ≡ split.front
        by Equal is = paths_exact w.level.path split.front is
        by Less is = absurd (apart (ap is_eq is))
        by Greater is = absurd (apart (ap is_eq is))

    its_children : w.level.children ≡ node.id ∷ ids_in split.front rest
    its_children =
        let none : to_come w.outer w.level.path ≡ [] = ap (to_come w.outer) its_path ∙ none_outer in
        sym (append-nil w.level.children) ∙ ap (λ t. w.level.children ++ t) (sym none) ∙ sym (own_to_come w.level w.outer)
        ∙ ap (to_come (w.level ∷ w.outer)) its_path ∙ ap (λ levels. to_come levels split.front) (sym w.is) ∙ parent_comes

    found : IsNextLevel h.levels q node.id
    found =
        let name = last_name q in
        let named = formed.names split.front name there in
        let whole : q ≡ w.level.path ++ name ∷ [] = split.whole ∙ ap (λ p. p ++ name ∷ []) (sym its_path) in
        record {
          level = w.level;
          outer = w.outer;
          left = w.is;
          rest = ids_in split.front rest;
          children = its_children;
          path = whole;
          named = named;
          behind = ap (λ n. name_cmp n name) on.newest ∙ front_less on.rest name named (sym (cancel w.level.path on.rest (name ∷ [])) ∙ ap (path_cmp (w.level.path ++ on.rest)) (sym whole) ∙ less);
        }

  pub next_level : IsNextLevel h.levels q node.id
  next_level = elim (waits_or_not h.levels) as (λ _. IsNextLevel h.levels q node.id) [
    | inl none ↦ absurd (some_comes none)
    | inr w ↦ found w
  ]
    where
      some_comes : waiting h.levels ≡ [] → ⊥
      some_comes none =
          let z : ◌≡◌ {A = List ℕ} [] (node.id ∷ ids_in split.front rest) = sym (nothing_to_come split.front) ∙ ap (λ levels. to_come levels split.front) (sym none) ∙ parent_comes in
          cc
