-- What a walk has left behind, and the next path from there.
use Rattle.std.proofs.Common.{◌≡◌, ◌≢◌, Bool, true, false, [], ◌∷◌, ◌++◌, length, drop, Some, None, refl, sym, ap, ◌∙◌, append_assoc, append-nil, is_some}
use Rattle.std.specs.FinMap.{get}
use Rattle.std.specs.Ordering.{ordering_then}
use Rattle.std.specs.declared.cmp.Ordering.TheVariants.{Less, Equal, Greater}
use Rattle.nn_base.specs.Paths.{Names, Bytes, path_cmp, name_cmp, is_under}
use Rattle.nn_tree.specs.declared.spot.Spot.{Spot}
use Rattle.nn_tree.specs.Namespace.{Namespace, Nodes, IsNamespace}
use Rattle.nn_tree.specs.Spots.{IsSound, IsParent, NextChild, IsNextChild}
use Rattle.nn_tree.specs.Below.{Follows, IsNextBelow}
use Rattle.nn_tree.proofs.LinksLemmas.{names_exact}
use Rattle.nn_tree.proofs.PrefixLemmas.{under_split, under_push, under_itself}
use Rattle.nn_tree.proofs.OrderLemmas.{under_front, under_trans, cancel, none_less, between, name_above, child_there}

-- nothing at or below p comes after the path where a walk was
pub record Done (m : Nodes) (from p : Names) : Type 0 where
  pub none : (q : Names) → is_some (get m q) ≡ true → is_under p q ≡ true → path_cmp from q ≢ Less

-- what comes after it below p is the children of p with names above a bound, and what is below those
pub record Reached (m : Nodes) (from p : Names) (bound : Bytes) : Type 0 where
  pub rest : Names
  pub whole : from ≡ p ++ rest
  pub after : (y : Bytes) (r : Names) → name_cmp bound y ≡ Less → path_cmp rest (y ∷ r) ≡ Less
  pub only : (y : Bytes) (r : Names) → is_some (get m (p ++ y ∷ r)) ≡ true → path_cmp rest (y ∷ r) ≡ Less → name_cmp bound y ≡ Less

pub reach_children : (m : Nodes) (p : Names) → IsNamespace m → Reached m p p []
reach_children m p formed = record {
  rest = [];
  whole = sym (append-nil p);
  after = λ y r l. refl;
  only = λ y r there l. name_above y (formed.names p y (child_there m formed p y r there));
}

pub reach_siblings : (m : Nodes) (from p : Names) (name : Bytes) (below : Names) → from ≡ (p ++ name ∷ []) ++ below → Done m from (p ++ name ∷ []) → Reached m from p name
reach_siblings m from p name below is done = record {
  rest = name ∷ below;
  whole = whole;
  after = λ y r l. ap (λ o. ordering_then o (path_cmp below r)) l;
  only = λ y r there l. elim (name_cmp name y) as (λ o. name_cmp name y ≡ o → ordering_then o (path_cmp below r) ≡ Less → o ≡ Less) [
    | Less ↦ λ _ _. refl
    | Equal ↦ λ e _.
        let inside : is_under (p ++ name ∷ []) (p ++ y ∷ r) ≡ true =
        ap (λ x. is_under (p ++ name ∷ []) (p ++ x ∷ r)) (sym (names_exact name y e)) ∙ ap (is_under (p ++ name ∷ [])) (sym (append_assoc p (name ∷ []) r)) ∙ under_front (p ++ name ∷ []) r in
        absurd (done.none (p ++ y ∷ r) there inside (ap (λ t. path_cmp t (p ++ y ∷ r)) whole ∙ cancel p (name ∷ below) (y ∷ r) ∙ l))
    | Greater ↦ λ _ l. cc
  ] refl l;
}
  where
    whole : from ≡ p ++ name ∷ below
    whole = is ∙ append_assoc p (name ∷ []) below

module _ (m : Nodes) (formed : IsNamespace m) (from p : Names) (bound : Bytes) (reached : Reached m from p bound) where
  -- from a path that is given by its part below p
  from_rest : (d : Names) → path_cmp from (p ++ d) ≡ path_cmp reached.rest d
  from_rest d = ap (λ t. path_cmp t (p ++ d)) reached.whole ∙ cancel p reached.rest d

  -- where no child is left, all below p is done
  pub all_done : ((other : Bytes) → name_cmp bound other ≡ Less → get m (p ++ other ∷ []) ≡ None) → Done m from p
  all_done none = record { none = λ q there inside l. let is = under_split p q inside in by (drop (length p) q) (ap (λ q. is_some (get m q)) (sym is) ∙ there) (sym (from_rest _) ∙ ap (path_cmp from) (sym is) ∙ l) }
    where
      by : (d : Names) → is_some (get m (p ++ d)) ≡ true → path_cmp reached.rest d ≡ Less → ⊥
      by [] there l = none_less reached.rest l
      by (y ∷ r) there l =
          let z : true ≡ false = sym (child_there m formed p y r there) ∙ ap is_some (none y (reached.only y r there l)) in
          cc

  module _ (has : Spot → Bool) (place : Spot → Names) (top : Names) (s : Spot) (next : NextChild s has place m p bound) where
    child_follows : is_under top p ≡ true → is_some (get m (place s)) ≡ true → Follows m top from (place s)
    child_follows below there = record {
      there = there;
      under = ap (is_under top) next.at ∙ under_trans top p (p ++ next.name ∷ []) below (under_front p _);
      after = ap (path_cmp from) next.at ∙ from_rest (next.name ∷ []) ∙ reached.after next.name [] next.above;
    }

    child_least : (q : Names) → Follows m top from q → path_cmp q (place s) ≢ Less
    child_least q f l =
        let h : path_cmp q (p ++ next.name ∷ []) ≡ Less = ap (path_cmp q) (sym next.at) ∙ l in
        let inside = between p reached.rest (next.name ∷ []) q (ap (λ t. path_cmp t q) (sym reached.whole) ∙ f.after) h in
        let is = under_split p q inside in
        by (drop (length p) q) (ap (λ q. is_some (get m q)) (sym is) ∙ f.there) (sym (from_rest _) ∙ ap (path_cmp from) (sym is) ∙ f.after)
        (sym (cancel p _ (next.name ∷ [])) ∙ ap (λ q. path_cmp q (p ++ next.name ∷ [])) (sym is) ∙ h)
      where
        by : (d : Names) → is_some (get m (p ++ d)) ≡ true → path_cmp reached.rest d ≡ Less → path_cmp d (next.name ∷ []) ≡ Less → ⊥
        by [] there l h = none_less reached.rest l
        by (y ∷ r) there l h = elim (name_cmp y next.name) as (λ o. name_cmp y next.name ≡ o → ordering_then o (path_cmp r []) ≡ Less → ⊥) [
          | Less ↦ λ e _. next.least y (reached.only y r there l) (child_there m formed p y r there) e
          | Equal ↦ λ _ h. none_less r h
          | Greater ↦ λ _ h. cc
        ] refl h

-- the next child is what comes next
pub next_is : (ns : Namespace) (has : Spot → Bool) (place : Spot → Names) → IsSound ns has place → (top from p : Names) (bound : Bytes) (s : Spot) → Reached ns.nodes from p bound → is_under top p ≡ true → NextChild s has place ns.nodes p bound
    → IsNextBelow (Some s) has place ns.nodes top from
next_is ns has place sound top from p bound s reached below next = (
  next.there,
  child_follows ns.nodes sound.formed from p bound reached has place top s next below (sound.named s next.there),
  child_least ns.nodes sound.formed from p bound reached has place top s next,
)

-- ---- the climb

-- the directory of a path and its name
pub record Split (p : Names) : Type 0 where
  pub dir : Names
  pub name : Bytes
  pub is : p ≡ dir ++ name ∷ []

split : (x : Bytes) (p : Names) → Split (x ∷ p)
split x [] = record { dir = []; name = x; is = refl }
split x (y ∷ p) = let s = split y p in record { dir = x ∷ s.dir; name = s.name; is = ap (λ (t : Names). x ∷ t) s.is }

-- a path below top that is not top
pub below_top : (top p : Names) → is_under top p ≡ true → top ≢ p → Split p
below_top [] [] h other = absurd (other refl)
below_top (x ∷ top) [] h other = cc
below_top top (x ∷ p) h other = split x p

-- the climb stands at p, above the path where the walk was, and all below p is done
pub record Climbed (m : Nodes) (top from p : Names) : Type 0 where
  pub under : is_under top p ≡ true
  pub above : is_under p from ≡ true
  pub done : Done m from p

-- at a node with no children
pub begins : (m : Nodes) (top p : Names) → IsNamespace m → is_under top p ≡ true → ((other : Bytes) → name_cmp [] other ≡ Less → get m (p ++ other ∷ []) ≡ None) → Climbed m top p p
begins m top p formed under none = record { under = under; above = under_itself p; done = all_done m formed p p [] (reach_children m p formed) none }

module _ (ns : Namespace) (has : Spot → Bool) (place : Spot → Names) (sound : IsSound ns has place) (top last : Spot) (from : Names) where
  -- ... and so below the directory that p stands in but for the siblings to come
  apart : has top ≡ true → has last ≡ true → last ≢ top → place top ≢ place last
  apart h g other is = other (sound.apart last top g h (sym is))

  module _ (top_there : has top ≡ true) (there : has last ≡ true) (c : Climbed ns.nodes (place top) from (place last)) (other : last ≢ top) where
    stands : Split (place last)
    stands = below_top (place top) (place last) c.under (apart top_there there other)

    beside : (s : Split (place last)) → Reached ns.nodes from s.dir s.name
    beside s = reach_siblings ns.nodes from s.dir s.name (drop (length (place last)) from)
        (under_split (place last) from c.above ∙ ap (λ (t : Names). t ++ drop (length (place last)) from) s.is)
        (record { none = λ q there inside. c.done.none q there (ap (λ t. is_under t q) s.is ∙ inside) })

    dir_under : (s : Split (place last)) → is_under (place top) s.dir ≡ true
    dir_under s =
        let not_top : place top ≢ s.dir ++ s.name ∷ [] = λ e. apart top_there there other (e ∙ sym s.is) in
        sym (under_push (place top) s.dir s.name not_top) ∙ ap (is_under (place top)) (sym s.is) ∙ c.under

    pub sibling_next : (s : Spot) → ((p : Names) (name : Bytes) → place last ≡ p ++ name ∷ [] → IsNextChild (Some s) has place ns.nodes p name) → IsNextBelow (Some s) has place ns.nodes (place top) from
    sibling_next s next = next_is ns has place sound (place top) from stands.dir stands.name s (beside stands) (dir_under stands) (next stands.dir stands.name stands.is)

    pub climbs : (s : Spot) → ((p : Names) (name : Bytes) → place last ≡ p ++ name ∷ [] → IsNextChild None has place ns.nodes p name) → IsParent (Some s) has place (place last) → Climbed ns.nodes (place top) from (place s)
    climbs s next parent =
        let at : Split (place last) = record { dir = place s; name = parent.1.0; is = parent.1.1 } in
        record {
          under = dir_under at;
          above = under_trans (place s) (place last) from (ap (is_under (place s)) at.is ∙ under_front (place s) _) c.above;
          done = all_done ns.nodes sound.formed from (place s) at.name (beside at) (next at.dir at.name at.is);
        }
