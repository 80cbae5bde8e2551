-- Whether all that moves gets a short path, told by a walk over the children, in byte order of their names.
use Rattle.std.proofs.Common.{◌≡◌, ℕ, ◌+◌, ◌<◌, ◌≤◌, Bool, true, false, not, cond, [], ◌∷◌, ◌++◌, ◌&&◌, ◌||◌, length, drop, Option, Some, None, refl, sym, ap, ◌∙◌, arith, is_some, length-append}
use Rattle.std.specs.declared.cmp.Ordering.{Ordering}
use Rattle.std.specs.declared.cmp.Ordering.TheVariants.{Less, Equal, Greater}
use Rattle.std.specs.Ordering.{is_lt, ordering_then, ordering_reverse}
use Rattle.std.specs.Cmp.{IsTotalOrder, tied_itself}
use Rattle.std.specs.FinMap.{get}
use Rattle.std.proofs.Math.Seq.{append_snoc}
use Rattle.std.proofs.lemmas.Bool.Decides.{nat_tests}
use Rattle.std.specs.Prelude.{nat_le}
use Rattle.nn_base.specs.Paths.{Names, Bytes, is_under, joined, name_cmp, path_cmp}
use Rattle.nn_base.specs.Limits.{most_levels, most_path}
use Rattle.nn_base.proofs.PlainLemmas.{is_less}
use Rattle.nn_tree.specs.declared.spot.Spot.{Spot}
use Rattle.nn_tree.specs.declared.node.Node.{Node}
use Rattle.nn_tree.specs.Namespace.{Nodes, IsNamespace}
use Rattle.nn_tree.specs.Changes.{moved}
use Rattle.nn_tree.specs.Spots.{IsNextChild}
use Rattle.nn_tree.specs.Totals.{total}
use Rattle.nn_tree.proofs.LinksLemmas.{names_total, names_exact, paths_total, paths_exact}
use Rattle.nn_tree.proofs.OrderLemmas.{front_there, name_above, under_front}
use Rattle.nn_tree.proofs.PrefixLemmas.{under_split, moved_in}
use Rattle.nn_ops.specs.Bounds.{is_short, is_short_by, moves_short, TellsShort}
use Rattle.nn_ops.proofs.EntriesLemmas.{all_by_get, not_all_by_get, fewer}

-- ---- one name further

pub short_step : (levels size : ℕ) (name : Bytes) (rest : Names) → is_short_by levels size (name ∷ rest) ≡ is_short_by (levels + 1) (size + 1 + length name) rest
short_step levels size name rest =
    let a : levels + length (name ∷ rest) ≡ levels + 1 + length rest = omega arith in
    let b : size + length (joined (name ∷ rest)) ≡ size + 1 + length name + length (joined rest) = omega (arith, length-append name (joined rest)) in
    λ i. nat_le (a i) most_levels && nat_le (b i) most_path

pub short_here : (levels size : ℕ) → levels ≤ most_levels → size ≤ most_path → is_short_by levels size [] ≡ true
short_here levels size l s = grind (arith, nat_tests)

pub too_deep : (levels size : ℕ) (name : Bytes) → levels ≡ most_levels → is_short_by levels size (name ∷ []) ≡ false
too_deep levels size name l = grind (arith, nat_tests)

pub too_long : (levels size : ℕ) (name : Bytes) → most_path < size + 1 + length name → is_short_by levels size (name ∷ []) ≡ false
too_long levels size name s = short_step levels size name [] ∙ grind (arith, nat_tests)

-- ---- the order of children

then_equal : (r : Ordering) → ordering_then r Equal ≡ r
then_equal Less = refl
then_equal Equal = refl
then_equal Greater = refl

pub push_cmp : (p : Names) (x y : Bytes) → path_cmp (p ++ x ∷ []) (p ++ y ∷ []) ≡ name_cmp x y
push_cmp [] x y = then_equal (name_cmp x y)
push_cmp (z ∷ p) x y = ap (λ r. ordering_then r (path_cmp (p ++ x ∷ []) (p ++ y ∷ []))) (tied_itself names_total z) ∙ push_cmp p x y

-- ---- the walk

-- the next child, if there is one
abbrev pub IsChild : (Spot → Bool) → (Spot → Names) → Names → Option Spot → Type 0
IsChild has place p None = Unit {0}
IsChild has place p (Some s) = (has s ≡ true) × ((name : Bytes) × (place s ≡ p ++ name ∷ []))

pub next_is_child : (has : Spot → Bool) (place : Spot → Names) (m : Nodes) (p : Names) (bound : Bytes) (o : Option Spot) → IsNextChild o has place m p bound → IsChild has place p o
next_is_child has place m p bound None h = tt
next_is_child has place m p bound (Some s) h = (h.there, (h.name, h.at))

-- the children before the next one are done, or all where there is none
abbrev pub SoFar : Nodes → Names → ℕ → ℕ → (Spot → Names) → Option Spot → Type 0
SoFar m p levels size place None = (name : Bytes) (rest : Names) → is_some (get m (p ++ name ∷ rest)) ≡ true → is_short_by levels size (name ∷ rest) ≡ true
SoFar m p levels size place (Some s) = (name : Bytes) (rest : Names) → is_some (get m (p ++ name ∷ rest)) ≡ true → path_cmp (p ++ name ∷ []) (place s) ≡ Less → is_short_by levels size (name ∷ rest) ≡ true

module _ (m : Nodes) (sound : IsNamespace m) (p : Names) (levels size : ℕ) (place : Spot → Names) where
  child_there : (name : Bytes) (rest : Names) → is_some (get m (p ++ name ∷ rest)) ≡ true → is_some (get m (p ++ name ∷ [])) ≡ true
  child_there name rest h = front_there m sound rest (p ++ name ∷ []) (ap (λ q. is_some (get m q)) (append_snoc p name rest) ∙ h)

  -- no child is between a bound and the next one
  no_between : (has : Spot → Bool) (bound : Bytes) (o : Option Spot) → IsNextChild o has place m p bound → (name : Bytes) (rest : Names) → is_some (get m (p ++ name ∷ rest)) ≡ true → name_cmp bound name ≡ Less
      → elim o as (λ _. Type 0) [ None ↦ Unit {0} | Some s ↦ path_cmp (p ++ name ∷ []) (place s) ≡ Less ] → ⊥
  no_between has bound None h name rest there above before =
      let none = h name above in
      let t = child_there name rest there in
      let z : false ≡ true = sym (ap is_some none) ∙ t in
      cc
  no_between has bound (Some s) h name rest there above before =
      h.least name above (child_there name rest there) (sym (push_cmp p name h.name) ∙ ap (path_cmp (p ++ name ∷ [])) (sym h.at) ∙ before)

  pub started : (has : Spot → Bool) (o : Option Spot) → IsNextChild o has place m p [] → SoFar m p levels size place o
  started has None h = λ name rest there. absurd (no_between has [] None h name rest there (name_above name (sound.names p name (child_there name rest there))) tt)
  started has (Some s) h = λ name rest there before. absurd (no_between has [] (Some s) h name rest there (name_above name (sound.names p name (child_there name rest there))) before)

  module _ (c : Spot) (x : Bytes) (at : place c ≡ p ++ x ∷ []) (done : SoFar m p levels size place (Some c)) (below : TellsShort true m (place c) (levels + 1) (size + 1 + length x)) where
    -- a child up to the last one
    up_to : (name : Bytes) (rest : Names) → is_some (get m (p ++ name ∷ rest)) ≡ true → (name_cmp x name ≡ Less → ⊥) → is_short_by levels size (name ∷ rest) ≡ true
    up_to name rest there not_above = by (name_cmp name x) refl
      where
        by : (r : Ordering) → name_cmp name x ≡ r → is_short_by levels size (name ∷ rest) ≡ true
        by Less t = done name rest there (ap (path_cmp (p ++ name ∷ [])) at ∙ push_cmp p name x ∙ t)
        by Equal t =
            let same = names_exact name x t in
            let here = ap (λ q. is_some (get m q)) (ap (λ q. q ++ rest) at ∙ append_snoc p x rest ∙ ap (λ n. p ++ n ∷ rest) (sym same)) ∙ there in
            short_step levels size name rest ∙ ap (λ (n : Bytes). is_short_by (levels + 1) (size + 1 + length n) rest) same ∙ below rest here
        by Greater t = absurd (not_above (let o : IsTotalOrder name_cmp = names_total in o.antisymm x name ∙ ap ordering_reverse t))

    pub went_on : (has : Spot → Bool) (o : Option Spot) → IsNextChild o has place m p x → SoFar m p levels size place o
    went_on has None h = λ name rest there. up_to name rest there (λ above. no_between has x None h name rest there above tt)
    went_on has (Some s) h = λ name rest there before. up_to name rest there (λ above. no_between has x (Some s) h name rest there above before)

  pub all_done : levels ≤ most_levels → size ≤ most_path → SoFar m p levels size place None → TellsShort true m p levels size
  all_done l s done [] there = short_here levels size l s
  all_done l s done (name ∷ rest) there = done name rest there

-- ---- an end of the walk

pub child_fails : (m : Nodes) (p q : Names) (x : Bytes) (levels size : ℕ) → q ≡ p ++ x ∷ [] → is_some (get m q) ≡ true → is_short_by levels size (x ∷ []) ≡ false → TellsShort false m p levels size
child_fails m p q x levels size at there fails = (x ∷ [], ap (λ q. is_some (get m q)) (sym at) ∙ there, fails)

pub below_fails : (m : Nodes) (p q : Names) (x : Bytes) (levels size : ℕ) → q ≡ p ++ x ∷ [] → TellsShort false m q (levels + 1) (size + 1 + length x) → TellsShort false m p levels size
below_fails m p q x levels size at h = (x ∷ h.0, ap (λ q. is_some (get m q)) (sym (ap (λ q. q ++ h.0) at ∙ append_snoc p x h.0)) ∙ h.1, short_step levels size x h.0 ∙ h.2)

-- ---- the walk ends: fewer paths come behind each next child

abbrev pub behind : (Spot → Names) → Nodes → Option Spot → ℕ
behind place m None = 0
behind place m (Some s) = 1 + total (λ (q : Names) (x : Node). cond (is_lt (path_cmp (place s) q)) 1 0) m

pub fewer_behind : (m : Nodes) (p : Names) (has : Spot → Bool) (place : Spot → Names) (c : Spot) (x : Bytes) (o : Option Spot) → ((s : Spot) → has s ≡ true → is_some (get m (place s)) ≡ true)
    → place c ≡ p ++ x ∷ [] → IsNextChild o has place m p x → behind place m o < behind place m (Some c)
fewer_behind m p has place c x None named at h = omega arith
fewer_behind m p has place c x (Some s) named at h =
    let o : IsTotalOrder path_cmp = paths_total in
    let next : path_cmp (place c) (place s) ≡ Less = (λ i. path_cmp (at i) (h.at i)) ∙ push_cmp p x h.name ∙ h.above in
    let node = there (get m (place s)) (named s h.there) in
    let less = fewer paths_total paths_exact (λ q. is_lt (path_cmp (place c) q)) (λ q. is_lt (path_cmp (place s) q)) m (place s) node.0
    (λ q k. ap is_lt (o.trans (place c) (place s) q next (is_less _ k))) node.1 (ap is_lt next) (ap is_lt (tied_itself paths_total (place s))) in
    omega arith
  where
    there : (o : Option Node) → is_some o ≡ true → (node : Node) × (o ≡ Some node)
    there None h = cc
    there (Some node) h = (node, refl)

-- ---- all that moves

joined_append : (d r : Names) → length (joined (d ++ r)) ≡ length (joined d) + length (joined r)
joined_append [] r = omega arith
joined_append (x ∷ d) r = omega (arith, length-append x (joined (d ++ r)), length-append x (joined d), joined_append d r)

short_moved : (d rest : Names) → is_short (d ++ rest) ≡ is_short_by (length d) (length (joined d)) rest
short_moved d rest = λ i. nat_le (length-append d rest i) most_levels && nat_le (joined_append d rest i) most_path

moved_append : (s d rest : Names) → moved s d (s ++ rest) ≡ d ++ rest
moved_append s d rest = moved_in s d (s ++ rest) (under_front s rest) ∙ ap (λ r. d ++ r) (drop_front s rest)
  where
    drop_front : (s rest : Names) → drop (length s) (s ++ rest) ≡ rest
    drop_front [] rest = refl
    drop_front (x ∷ s) rest = drop_front s rest

pub told_moves : (b : Bool) (m : Nodes) (s d : Names) → TellsShort b m s (length d) (length (joined d)) → b ≡ moves_short m s d
told_moves true m s d h = sym (all_by_get paths_total paths_exact (λ e. not (is_under s e.0) || is_short (moved s d e.0)) m (λ q x is. each q x is))
  where
    each : (q : Names) (x : Node) → get m q ≡ Some x → (not (is_under s q) || is_short (moved s d q)) ≡ true
    each q x is = by (is_under s q) refl
      where
        by : (b : Bool) → is_under s q ≡ b → (not b || is_short (moved s d q)) ≡ true
        by false e = refl
        by true e =
            let split = under_split s q e in
            ap is_short (moved_in s d q e) ∙ short_moved d (drop (length s) q) ∙ h (drop (length s) q) (ap (λ q. is_some (get m q)) (sym split) ∙ ap is_some is)
told_moves false m s d h = by (get m (s ++ h.0)) refl h.1
  where
    by : (o : Option Node) → get m (s ++ h.0) ≡ o → is_some o ≡ true → false ≡ moves_short m s d
    by None is there = cc
    by (Some x) is there = sym (not_all_by_get paths_total paths_exact (λ e. not (is_under s e.0) || is_short (moved s d e.0)) m (s ++ h.0) x is
        ((λ i. not (under_front s h.0 i) || is_short (moved_append s d h.0 i)) ∙ short_moved d h.0 ∙ h.2))
