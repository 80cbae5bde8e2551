-- What holds of every tree.
use Rattle.std.proofs.Common.{◌≡◌, ℕ, zero, suc, true, [], ◌∷◌, ◌++◌, Some, refl, sym, ap, ◌∙◌, arith, is_some, unwrap_or}
use Rattle.std.proofs.lemmas.List.{same_from_push}
use Rattle.nn_base.specs.Paths.{Names, Bytes}
use Rattle.nn_tree.specs.declared.spot.Spot.{Spot}
use Rattle.nn_tree.specs.Links.{Link, Links, path_at, nodes_of, IsTree, has_place, place_of}
use Rattle.nn_tree.proofs.LinksLemmas.{path_of_place, link_there, under}
use Rattle.nn_tree.specs.declared.node.Counters.{Counters}
use Rattle.nn_tree.specs.Limits.{IsWithinLimits, IsCounters}
use Rattle.nn_tree.specs.Spots.{IsSound, last_name}
use Rattle.nn_tree.specs.Links.{meaning_of}
use Rattle.nn_tree.proofs.LinksLemmas.{formed, node_at}

pub sound_of : (g : Links) (counters : Counters) → IsTree g → IsWithinLimits (nodes_of g) → IsCounters counters → IsSound (meaning_of g counters) (λ (s : Spot). has_place g s.index) (λ s. place_of g s.index)
sound_of g counters t limits range = record {
  formed = formed g t;
  limits = limits;
  counters = range;
  named = λ s has. let l = link_there g s.index has in ap is_some (node_at g s.index l.0 t has l.1);
  apart = λ s u has had same.
      let e : s.index ≡ u.index = t.differ s.index u.index (place_of g s.index) (path_of_place g s.index has) (path_of_place g u.index had ∙ ap Some (sym same)) in
      λ i. record { index = e i };
}

-- ---- names and parents

pub last_name_push : (p : Names) (x : Bytes) → last_name (p ++ x ∷ []) ≡ x
last_name_push [] x = refl
last_name_push (y ∷ []) x = refl
last_name_push (y ∷ z ∷ p) x = last_name_push (z ∷ p) x

pub parent_of : (g : Links) (i j : ℕ) (l : Link) → IsTree g → i ≡ suc j → g.at i ≡ Some l → (has_place g l.parent ≡ true) × ((x : Bytes) × (place_of g i ≡ place_of g l.parent ++ x ∷ []))
parent_of g zero j l t is live = absurd (omega arith)
parent_of g (suc i) j l t is live =
    let u = under g i l t live in
    (ap is_some u.parent, (l.name, ap (λ o. unwrap_or o []) u.path ∙ ap (λ o. unwrap_or o [] ++ l.name ∷ []) (sym u.parent)))

pub name_of_spot : (g : Links) (i : ℕ) (l : Link) → IsTree g → g.at i ≡ Some l → l.name ≡ last_name (place_of g i)
name_of_spot g zero l t live = t.unnamed l live ∙ sym (ap (λ o. last_name (unwrap_or o [])) t.root)
name_of_spot g (suc i) l t live =
    let u = under g i l t live in
    sym (ap (λ o. last_name (unwrap_or o [])) u.path ∙ last_name_push u.front l.name)

-- the directory of a node, and its name, by its path
pub sibling_of : (g : Links) (i j : ℕ) (l : Link) → IsTree g → i ≡ suc j → g.at i ≡ Some l → (p : Names) (x : Bytes) → place_of g i ≡ p ++ x ∷ [] → (path_at g l.parent ≡ Some p) × (l.name ≡ x)
sibling_of g zero j l t is live p x at = absurd (omega arith)
sibling_of g (suc i) j l t is live p x at =
    let u = under g i l t live in
    let s = same_from_push u.front p l.name x (sym (ap (λ o. unwrap_or o []) u.path) ∙ at) in
    (u.parent ∙ ap Some s.0, s.1)
