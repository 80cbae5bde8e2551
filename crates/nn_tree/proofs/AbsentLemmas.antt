-- What stands below an absent path is absent.
use Rattle.std.proofs.Common.{◌≡◌, ℕ, zero, suc, ◌≤◌, [], ◌∷◌, inl, inr, length, take, Some, None, refl, sym, ap, ◌∙◌, arith, length-append}
use Rattle.std.specs.FinMap.{get}
use Rattle.std.proofs.lemmas.Bool.{cases_lt}
use Rattle.nn_base.specs.Paths.{Names, Bytes}
use Rattle.nn_tree.specs.Links.{Links, up, path_at, nodes_of, IsTree}
use Rattle.nn_tree.proofs.ClimbLemmas.{above, root_path, path_found}
use Rattle.nn_tree.proofs.LinksLemmas.{node_found, at_place, path_live}
use Rattle.std.proofs.Math.Seq.{take-length}
use Rattle.std.proofs.lemmas.List.{take-append-le}

prefix_place : (g : Links) → IsTree g → (n i k : ℕ) (p : Names) → up g i n ≡ Some p → k ≤ length p → (j : ℕ) × (path_at g j ≡ Some (take k p))
prefix_place g t n zero k p is le = (zero, path_found g t.within n zero p is ∙ ap Some (sym (ap (take k) (root_path g n p is) ∙ none k ∙ sym (root_path g n p is))))
  where
    none : (k : ℕ) → take {A = Bytes} k [] ≡ []
    none zero = refl
    none (suc k) = refl
prefix_place g t zero (suc i) k p is le = cc
prefix_place g t (suc n) (suc i) k p is le =
    let u = above g i (suc n) p is in
    let f : u.m ≡ n = omega (arith, u.fuel) in
    let l = ap length u.is ∙ length-append u.front (u.link.name ∷ []) in
    elim (cases_lt k (length p)) as (λ _. (j : ℕ) × (path_at g j ≡ Some (take k p))) [
      | inr all ↦ (suc i, path_found g t.within (suc n) (suc i) p is ∙ ap Some (sym (let e : k ≡ length p = omega arith in ap (λ k. take k p) e ∙ take-length p)))
      | inl less ↦
          let le : k ≤ length u.front = omega arith in
          let r = prefix_place g t n u.link.parent k u.front (ap (up g u.link.parent) (sym f) ∙ u.parent) le in
          (r.0, r.1 ∙ ap Some (sym (ap (take k) u.is ∙ take-append-le k u.front (u.link.name ∷ []) le)))
    ]

pub absent_below : (g : Links) (k : ℕ) (p : Names) → IsTree g → k ≤ length p → get (nodes_of g) (take k p) ≡ None → get (nodes_of g) p ≡ None
unfolding path_at
absent_below g k p t le none = elim (get (nodes_of g) p) as (λ v. get (nodes_of g) p ≡ v → v ≡ None) [
  | None ↦ λ _. refl
  | Some x ↦ λ is.
      let e = at_place g p x t is in
      let r = prefix_place g t g.size e.i k p e.path le in
      let l = path_live g r.0 _ r.1 in
      let f = node_found g r.0 _ l.0 t r.1 l.1 in cc
] refl
