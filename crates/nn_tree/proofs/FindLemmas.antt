-- The walk along a path, one name at a time.
use Rattle.std.proofs.Common.{◌≡◌, ◌≢◌, ℕ, zero, suc, ◌+◌, ◌<◌, Bool, true, false, not, cond, [], ◌∷◌, ◌++◌, ◌&&◌, length, take, drop, Option, Some, None, refl, sym, ap, ◌∙◌, arith, is_some, unwrap_or}
use Rattle.std.specs.FinMap.{get}
use Rattle.std.proofs.Math.ListN.{get_or}
use Rattle.nn_base.specs.Paths.{Names, Bytes}
use Rattle.nn_base.proofs.PlainLemmas.{some_is}
use Rattle.nn_tree.specs.Nodes.{is_dir}
use Rattle.nn_tree.specs.Namespace.{Nodes}
use Rattle.nn_tree.specs.Links.{Link, Links, path_at, nodes_of, IsTree, has_place, place_of}
use Rattle.nn_tree.proofs.LinksLemmas.{node_found, path_live, under}
use Rattle.std.proofs.Common.{nat_eq, eq-eqb}
use Rattle.std.specs.Prelude.{slice_get}
use Rattle.std.specs.Cmp.Lexicographic.{pointwise, bytes_decides}
use Rattle.std.proofs.lemmas.Bool.{eqb-true}
use Rattle.std.proofs.Math.Dec.{eqb-suc-zero}
use Rattle.std.proofs.Math.Seq.{take-length}
use Rattle.std.proofs.lemmas.List.{take_more, drop_more}
use Rattle.std.proofs.lemmas.Option.{slice_get-get_or, slice_get_within}
use Rattle.nn_tree.specs.Walks.{Obstacle, Absent, AFile, obstacle, obstacle_from}
use Rattle.nn_tree.specs.Plain.{is_child, is_child_link}
use Rattle.nn_tree.proofs.LinksLemmas.{child_of}
use Rattle.nn_tree.proofs.AbsentLemmas.{absent_below}

-- ---- children

pub first_so : (a b : Bool) → (a && b) ≡ true → a ≡ true
first_so true b h = refl
first_so false b h = h

pub second_so : (a b : Bool) → (a && b) ≡ true → b ≡ true
second_so true b h = h
second_so false b h = cc

-- a place that is a child
record ChildAt (g : Links) (a : ℕ) (name : Bytes) (i : ℕ) : Type 0 where
  j : ℕ
  link : Link
  below_root : i ≡ suc j
  live : g.at i ≡ Some link
  parent : link.parent ≡ a
  named : link.name ≡ name

child_is : (g : Links) (a : ℕ) (name : Bytes) (i : ℕ) → is_child g a name i ≡ true → ChildAt g a name i
child_is g a name i h = elim (g.at i) as (λ o. g.at i ≡ o → is_child_link i o a name ≡ true → ChildAt g a name i) [
  | None ↦ λ _ h. cc
  | Some l ↦ λ is h. by i is (first_so _ _ h) (second_so _ _ h)
] refl h
  where
    by : (k : ℕ) {l : Link} → g.at k ≡ Some l → not (nat_eq k 0) ≡ true → (nat_eq l.parent a && pointwise nat_eq l.name name) ≡ true → ChildAt g a name k
    by zero is h e = cc
    by (suc j) {l = l} is h e = record {
      j = j;
      link = l;
      below_root = refl;
      live = is;
      parent = eqb-true l.parent a (first_so _ _ e);
      named = (bytes_decides l.name name).0 (second_so (nat_eq l.parent a) _ e);
    }

pub child_found : (g : Links) (a : ℕ) (q : Names) (name : Bytes) (i : ℕ) → IsTree g → path_at g a ≡ Some q → is_child g a name i ≡ true → path_at g i ≡ Some (q ++ name ∷ [])
child_found g a q name i t at h = let k = child_is g a name i h in by i k k.below_root
  where
    by : (i : ℕ) (k : ChildAt g a name i) → i ≡ suc k.j → path_at g i ≡ Some (q ++ name ∷ [])
    by zero k is = absurd (omega arith)
    by (suc j) k is =
        let u = under g j k.link t k.live in
        let front : u.front ≡ q = some_is _ _ (sym u.parent ∙ ap (path_at g) k.parent ∙ at) in
        u.path ∙ ap Some (λ i. front i ++ k.named i ∷ [])

pub child_missed : (g : Links) (a : ℕ) (q : Names) (name : Bytes) → IsTree g → path_at g a ≡ Some q → ((k : ℕ) → k < g.size → is_child g a name k ≡ false) → get (nodes_of g) (q ++ name ∷ []) ≡ None
child_missed g a q name t at none = elim (get (nodes_of g) (q ++ name ∷ [])) as (λ v. get (nodes_of g) (q ++ name ∷ []) ≡ v → v ≡ None) [
  | None ↦ λ _. refl
  | Some x ↦ λ h.
      let c = child_of g q name x t h in
      let p : c.link.parent ≡ a = t.differ c.link.parent a q c.parent at in
      let n = none (suc c.j) (t.within (suc c.j) c.link c.live) in
      let y : is_child g a name (suc c.j) ≡ true =
      ap (λ o. is_child_link (suc c.j) o a name) c.live
      ∙ ap (λ b. not b && (nat_eq c.link.parent a && pointwise nat_eq c.link.name name)) (eqb-suc-zero c.j)
      ∙ ap (λ b. b && pointwise nat_eq c.link.name name) (eq-eqb c.link.parent a p)
      ∙ (bytes_decides c.link.name name).1 c.name in
      cc
] refl

-- ---- one step of the walk

-- a stands at the first k names of the path, and no file is in the way so far
pub record Here (g : Links) (path : Names) (k a : ℕ) : Type 0 where
  pub at : path_at g a ≡ Some (take k path)
  pub way : obstacle (nodes_of g) path ≡ obstacle_from (nodes_of g) (take k path) (drop k path)

pub start : (g : Links) (path : Names) → IsTree g → Here g path 0 0
start g path t = record { at = t.root; way = refl }

module _ (g : Links) (path : Names) (k a : ℕ) (x : Bytes) (l : Link) (t : IsTree g) (here : Here g path k a) (name : slice_get path k ≡ Some x) (live : g.at a ≡ Some l) where
  node_here : get (nodes_of g) (take k path) ≡ Some l.node
  node_here = node_found g a _ l t here.at live

  one_less : k < length path
  one_less = slice_get_within path k x name

  named : get_or path k x ≡ x
  named = let h = slice_get-get_or path k x one_less in cc

  rest : drop k path ≡ x ∷ drop (k + 1) path
  rest = drop_more path k x one_less ∙ ap (λ y. y ∷ drop (k + 1) path) named

  more : take (k + 1) path ≡ take k path ++ x ∷ []
  more = take_more path k x one_less ∙ ap (λ y. take k path ++ y ∷ []) named

  step_way : obstacle (nodes_of g) path ≡ cond (is_dir l.node.kind) (obstacle_from (nodes_of g) (take k path ++ x ∷ []) (drop (k + 1) path)) (Some AFile)
  step_way = here.way ∙ ap (obstacle_from (nodes_of g) (take k path)) rest
      ∙ ap (λ o. elim o as (λ _. Option Obstacle) [ None ↦ Some Absent | Some node ↦ cond (is_dir node.kind) (obstacle_from (nodes_of g) (take k path ++ x ∷ []) (drop (k + 1) path)) (Some AFile) ]) node_here

  pub stopped : is_dir l.node.kind ≡ false → obstacle (nodes_of g) path ≡ Some AFile
  stopped h = step_way ∙ ap (λ b. cond b (obstacle_from (nodes_of g) (take k path ++ x ∷ []) (drop (k + 1) path)) (Some AFile)) h

  pub stepped : (i : ℕ) → is_dir l.node.kind ≡ true → is_child g a x i ≡ true → Here g path (k + 1) i
  stepped i h c = record {
    at = child_found g a (take k path) x i t here.at c ∙ ap Some (sym more);
    way = step_way ∙ ap (λ b. cond b (obstacle_from (nodes_of g) (take k path ++ x ∷ []) (drop (k + 1) path)) (Some AFile)) h ∙ ap (λ p. obstacle_from (nodes_of g) p (drop (k + 1) path)) (sym more);
  }

  absent_way : (m : Nodes) (p rest : Names) → get m p ≡ None → obstacle_from m p rest ≢ Some AFile
  absent_way m p [] none h = cc
  absent_way m p (y ∷ rest) none h =
      let e = ap (λ o. elim o as (λ _. Option Obstacle) [ None ↦ Some Absent | Some node ↦ cond (is_dir node.kind) (obstacle_from m (p ++ y ∷ []) rest) (Some AFile) ]) none in
      let c : Some Absent ≡ Some AFile = sym e ∙ h in cc

  pub missing : is_dir l.node.kind ≡ true → ((k : ℕ) → k < g.size → is_child g a x k ≡ false) → (get (nodes_of g) path ≡ None) × (obstacle (nodes_of g) path ≢ Some AFile)
  missing h none =
      let m = child_missed g a (take k path) x t here.at none in (
        absent_below g (k + 1) path t (let l = one_less in omega arith) (ap (get (nodes_of g)) more ∙ m),
        λ f. absent_way (nodes_of g) (take k path ++ x ∷ []) (drop (k + 1) path) m
            (sym (step_way ∙ ap (λ b. cond b (obstacle_from (nodes_of g) (take k path ++ x ∷ []) (drop (k + 1) path)) (Some AFile)) h) ∙ f),
      )

drop_all : (p : Names) → drop (length p) p ≡ []
drop_all [] = refl
drop_all (x ∷ p) = drop_all p

pub arrived : (g : Links) (path : Names) (k a : ℕ) → IsTree g → Here g path k a → k ≡ length path → (has_place g a ≡ true) × (place_of g a ≡ path) × (is_some (get (nodes_of g) path) ≡ true) × (obstacle (nodes_of g) path ≡ None)
arrived g path k a t here all =
    let at : path_at g a ≡ Some path = here.at ∙ ap (λ k. Some (take k path)) all ∙ ap Some (take-length path) in
    let l = path_live g a path at in (
      ap is_some at,
      ap (λ o. unwrap_or o []) at,
      ap is_some (node_found g a path l.0 t at l.1),
      here.way ∙ ap (λ k. obstacle_from (nodes_of g) (take k path) (drop k path)) all ∙ ap (obstacle_from (nodes_of g) (take (length path) path)) (drop_all path),
    )
