-- The places of the empty namespace.
use Rattle.std.proofs.Common.{◌≡◌, ℕ, zero, suc, ◌<◌, true, List, [], ◌∷◌, ◌++◌, length, Option, Some, None, refl, sym, ap, subst, ◌∙◌, arith, unwrap_or}
use Rattle.std.specs.Prelude.{slice_get, sum_by, false, nat_eq}
use Rattle.std.specs.List.{list_any}
use Rattle.nn_tree.specs.Nodes.{blocks_of}
use Rattle.std.specs.FinMap.{insert, empty}
use Rattle.nn_base.specs.Paths.{Names}
use Rattle.nn_base.proofs.PlainLemmas.{some_is}
use Rattle.nn_tree.specs.declared.node.Node.{Node}
use Rattle.nn_tree.specs.Namespace.{IsRoot, root_node, block_count, empty_namespace}
use Rattle.nn_tree.specs.Links.{nodes_of, IsTree}
use Rattle.nn_tree.specs.Limits.{IsWithinLimits}
use Rattle.nn_tree.specs.Plain.{is_later, IsLeast}
use Rattle.nn_tree.proofs.FillLemmas.{tree_new, nodes_new}
use Rattle.nn_tree.proofs.LimitsLemmas.{limits_empty}
use Rattle.nn_tree.proofs.EmptyLemmas.{root_alone}
use Rattle.nn_arena.specs.declared.place.Entry.{Entry}
use Rattle.nn_arena.specs.declared.place.Place.{Place}
use Rattle.nn_arena.specs.declared.place.Place.TheVariants.{Free, Used}
use Rattle.nn_arena.specs.Places.{entry_at, link_of, links_of}
use Rattle.nn_arena.specs.Children.{AreLinked}
use Rattle.nn_arena.specs.FreeList.{IsFreeList}

-- one place, in use by the root
pub record IsRooted (ps : List Place) : Type 0 where
  pub tree : IsTree (links_of ps)
  pub linked : AreLinked ps
  pub free_list : IsFreeList ps None
  pub nodes : nodes_of (links_of ps) ≡ insert empty [] root_node
  pub counted : 0 ≡ block_count (nodes_of (links_of ps))
  pub limits : IsWithinLimits (nodes_of (links_of ps))

no_blocks : block_count empty_namespace.nodes ≡ 0
no_blocks = ap (λ es. sum_by (λ (e : Names × Node). length (blocks_of e.1.kind)) es) root_alone

one_place : (e : Entry) → e.first ≡ None → e.name ≡ None → e.node ≡ root_node → IsRooted (Used e ∷ [])
one_place e childless unnamed node =
    let others : (j : ℕ) → (links_of (Used e ∷ [])).at (suc j) ≡ None = λ j. refl in
    let nodes = nodes_new (links_of (Used e ∷ [])) (link_of e) refl refl others ∙ ap (insert empty []) node in
    record {
      tree = tree_new (links_of (Used e ∷ [])) (link_of e) refl refl others (subst IsRoot (sym node) (refl, refl)) (ap (λ o. unwrap_or o []) unnamed);
      linked = record { first = λ i d is. first i d is; next = λ i d is. cc };
      free_list = record { list = []; linked = refl; whole = λ i next is. whole i next is };
      nodes = nodes;
      counted = sym (ap block_count nodes ∙ no_blocks);
      limits = subst IsWithinLimits (sym nodes) limits_empty;
    }
  where
    childless_at : (a k : ℕ) → k < 1 → is_later (links_of (Used e ∷ [])) a [] k ≡ false
    childless_at a zero lt = refl
    childless_at a (suc k) lt = absurd (omega arith)

    first : (i : ℕ) (d : Entry) → entry_at (Used e ∷ []) i ≡ Some d → IsLeast (links_of (Used e ∷ [])) i [] 1 d.first
    first zero d is = subst (λ (o : Option ℕ). IsLeast (links_of (Used e ∷ [])) 0 [] 1 o) (sym childless ∙ ap (λ (e : Entry). e.first) (some_is _ _ is)) (childless_at 0)
    first (suc i) d is = cc

    whole : (i : ℕ) (next : Option ℕ) → slice_get (Used e ∷ []) i ≡ Some (Free next) → list_any (nat_eq i) [] ≡ true
    whole zero next is = cc
    whole (suc i) next is = cc

pub rooted : (ps xs : List Place) (e : Entry) → xs ≡ [] → ps ≡ xs ++ Used e ∷ [] → e.first ≡ None → e.name ≡ None → e.node ≡ root_node → IsRooted ps
rooted ps xs e none pushed childless unnamed node =
    subst IsRooted (sym (pushed ∙ ap (λ (xs : List Place). xs ++ Used e ∷ []) none)) (one_place e childless unnamed node)
