-- The levels of a namespace that is partly put together: the directories on the way to the newest path.
use Rattle.std.proofs.Common.{◌≡◌, ◌⊎◌, inl, inr, ℕ, true, false, cond, List, [], ◌∷◌, ◌++◌, Some, None, refl, sym, ap, ◌∙◌, append_assoc, append-nil}
use Rattle.std.specs.Option.{option_map_or}
use Rattle.std.specs.Ordering.{is_eq, ordering_then}
use Rattle.std.specs.declared.cmp.Ordering.{Ordering}
use Rattle.std.specs.declared.cmp.Ordering.TheVariants.{Less, Equal, Greater}
use Rattle.std.specs.FinMap.{get, insert, get-insert}
use Rattle.nn_base.specs.Paths.{Bytes, Names, path_cmp, name_cmp}
use Rattle.nn_tree.specs.declared.node.Node.{Node}
use Rattle.nn_tree.specs.Nodes.{is_dir}
use Rattle.nn_tree.specs.Namespace.{Nodes, is_dir_at}
use Rattle.nn_tree.proofs.LinksLemmas.{paths_total, paths_exact}
use Rattle.nn_tree.proofs.OrderLemmas.{cancel}
use Rattle.nn_image.specs.Assembly.{Level, waiting}

-- the first name of a path; the root has none
unfoldable pub front : Names → Bytes
front [] = []
front (name ∷ rest) = name

-- the newest path is at or below the directory, and goes on by the name of the newest child
pub record IsOn (last : Names) (level : Level) : Type 0 where
  pub rest : Names
  pub whole : last ≡ level.path ++ rest
  pub newest : level.newest ≡ front rest

-- each directory is the newest child of the one around it, up to the root
unfoldable pub AreAbove : Names → List Level → Type 0
AreAbove path [] = path ≡ []
AreAbove path (level ∷ outer) = (path ≡ level.path ++ level.newest ∷ []) × AreAbove level.path outer

unfoldable pub AreOpen : Names → List Level → Type 0
AreOpen last [] = Unit {0}
AreOpen last (level ∷ outer) = IsOn last level × AreAbove level.path outer

-- ---- a level is left

left_open : (last : Names) (level : Level) (outer : List Level) → AreOpen last (level ∷ outer) → AreOpen last outer
unfolding AreOpen AreAbove front
left_open last level [] h = tt
left_open last level (next ∷ outer) h =
    let on = h.0 in (
      record {
        rest = next.newest ∷ on.rest;
        whole = on.whole ∙ ap (λ (t : Names). t ++ on.rest) h.1.0 ∙ append_assoc next.path (next.newest ∷ []) on.rest;
        newest = refl;
      },
      h.1.1,
    )

module _ (P : List Level → Type 0) (left : (level : Level) (outer : List Level) → level.children ≡ [] → P (level ∷ outer) → P outer) where
  -- what stays as levels without children to come are left
  pub stays_waiting : (levels : List Level) → P levels → P (waiting levels)
  unfolding waiting
  stays_waiting [] h = h
  stays_waiting (level ∷ outer) h =
      let later = λ (empty : level.children ≡ []). stays_waiting outer (left level outer empty h) in
      elim level.children as (λ (ids : List ℕ). level.children ≡ ids → P (elim ids as (λ _. List Level) [ [] ↦ waiting outer | child ∷ rest ↦ level ∷ outer ])) [
        | [] ↦ λ is. later is
        | child ∷ rest ↦ λ is. h
      ] refl

pub waiting_open : (last : Names) (levels : List Level) → AreOpen last levels → AreOpen last (waiting levels)
waiting_open last = stays_waiting (AreOpen last) (λ level outer empty h. left_open last level outer h)

-- the innermost level that waits has a child to come
pub record Waits (levels : List Level) : Type 0 where
  pub level : Level
  pub outer : List Level
  pub is : waiting levels ≡ level ∷ outer
  pub child : ℕ
  pub rest : List ℕ
  pub children : level.children ≡ child ∷ rest

pub waits_or_not : (levels : List Level) → (waiting levels ≡ []) ⊎ Waits levels
unfolding waiting
waits_or_not [] = inl refl
waits_or_not (level ∷ outer) = by level.children refl (waits_or_not outer)
  where
    first : List ℕ → List Level
    first ids = elim ids as (λ _. List Level) [ [] ↦ waiting outer | child ∷ rest ↦ level ∷ outer ]

    by : (ids : List ℕ) → level.children ≡ ids → (waiting outer ≡ []) ⊎ Waits outer → (waiting (level ∷ outer) ≡ []) ⊎ Waits (level ∷ outer)
    by [] none (inl is) = inl (ap first none ∙ is)
    by [] none (inr w) = inr (record { level = w.level; outer = w.outer; is = ap first none ∙ w.is; child = w.child; rest = w.rest; children = w.children })
    by (child ∷ rest) some later = inr (record { level = level; outer = outer; is = ap first some; child = child; rest = rest; children = some })

-- ---- a child is put into the innermost level

pub none_open : (last : Names) → AreOpen last []
unfolding AreOpen
none_open last = tt

pub top_open : (ids : List ℕ) → AreOpen [] (record { path = []; newest = []; children = ids } ∷ [])
unfolding AreOpen AreAbove front
top_open ids = (record { rest = []; whole = refl; newest = refl }, refl)

module _ (last : Names) (level : Level) (outer : List Level) (h : AreOpen last (level ∷ outer)) (name : Bytes) where
  newest_less : (rest : Names) → name_cmp (front rest) name ≡ Less → path_cmp rest (name ∷ []) ≡ Less
  unfolding front
  newest_less [] l = refl
  newest_less (x ∷ rest) l = ap (λ o. ordering_then o (path_cmp rest [])) l

  -- its path is behind the newest one
  pub child_behind : name_cmp level.newest name ≡ Less → path_cmp last (level.path ++ name ∷ []) ≡ Less
  unfolding AreOpen
  child_behind l =
      ap (λ t. path_cmp t (level.path ++ name ∷ [])) h.0.whole ∙ cancel level.path h.0.rest (name ∷ [])
      ∙ newest_less h.0.rest (ap (λ n. name_cmp n name) (sym h.0.newest) ∙ l)

  pub child_open : (children : List ℕ) → AreOpen (level.path ++ name ∷ []) (record { path = level.path; newest = name; children = children } ∷ outer)
  unfolding AreOpen front
  child_open children = (record { rest = name ∷ []; whole = refl; newest = refl }, h.1)

  pub directory_open : (children ids : List ℕ) → AreOpen (level.path ++ name ∷ []) (record { path = level.path ++ name ∷ []; newest = []; children = ids } ∷ record { path = level.path; newest = name; children = children } ∷ outer)
  unfolding AreOpen AreAbove front
  directory_open children ids = (record { rest = []; whole = sym (append-nil _); newest = refl }, (refl, h.1))

-- ---- the paths of levels

unfoldable pub ArePlaces : Nodes → List Level → Type 0
ArePlaces m [] = Unit {0}
ArePlaces m (level ∷ outer) = (is_dir_at m level.path ≡ true) × ArePlaces m outer

pub none_places : (m : Nodes) → ArePlaces m []
unfolding ArePlaces
none_places m = tt

pub waiting_places : (m : Nodes) (levels : List Level) → ArePlaces m levels → ArePlaces m (waiting levels)
unfolding ArePlaces
waiting_places m = stays_waiting (ArePlaces m) (λ level outer empty h. h.1)

pub first_place : (m : Nodes) (level : Level) (outer : List Level) → ArePlaces m (level ∷ outer) → (is_dir_at m level.path ≡ true) × ArePlaces m outer
unfolding ArePlaces
first_place m level outer h = h

pub more_places : (m : Nodes) (level : Level) (outer : List Level) → is_dir_at m level.path ≡ true → ArePlaces m outer → ArePlaces m (level ∷ outer)
unfolding ArePlaces
more_places m level outer h g = (h, g)

-- directories stay while nodes are put to new paths
pub dir_stays : (m : Nodes) (q : Names) (node : Node) (p : Names) → get m q ≡ None → is_dir_at m p ≡ true → is_dir_at (insert m q node) p ≡ true
dir_stays m q node p free h = by (path_cmp p q) refl
  where
    by : (r : Ordering) → path_cmp p q ≡ r → is_dir_at (insert m q node) p ≡ true
    by Equal is = absurd (not_dir (sym (ap (is_dir_at m) (paths_exact p q is)) ∙ h))
      where
        not_dir : is_dir_at m q ≡ true → ⊥
        not_dir h = let z : false ≡ true = sym (ap (λ o. option_map_or (λ (node : Node). is_dir node.kind) o false) free) ∙ h in cc
    by Less is = ap (λ o. option_map_or (λ (node : Node). is_dir node.kind) o false) (get-insert paths_total m q node p ∙ ap (λ r. cond (is_eq r) (Some node) (get m p)) is) ∙ h
    by Greater is = ap (λ o. option_map_or (λ (node : Node). is_dir node.kind) o false) (get-insert paths_total m q node p ∙ ap (λ r. cond (is_eq r) (Some node) (get m p)) is) ∙ h

pub places_stay : (m : Nodes) (q : Names) (node : Node) → get m q ≡ None → (levels : List Level) → ArePlaces m levels → ArePlaces (insert m q node) levels
unfolding ArePlaces
places_stay m q node free [] h = tt
places_stay m q node free (level ∷ outer) h = (dir_stays m q node level.path free h.0, places_stay m q node free outer h.1)
