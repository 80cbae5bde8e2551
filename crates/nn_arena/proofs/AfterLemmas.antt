-- The totals after a climb and the step that it is for.
use Rattle.std.proofs.Common.{◌≡◌, ℕ, ◌+◌, ◌-◌, Bool, true, false, not, cond, List, [], ◌∷◌, ◌++◌, inl, inr, Some, None, refl, sym, ap, ◌∙◌, arith, is_some}
use Rattle.std.specs.FinMap.{get, insert}
use Rattle.std.proofs.lemmas.Bool.{cases_eq}
use Rattle.nn_base.specs.Paths.{Names, Bytes, path_cmp, is_under}
use Rattle.nn_quota.specs.declared.quota.Usage.{Usage}
use Rattle.nn_tree.specs.declared.node.Node.{Node}
use Rattle.nn_tree.specs.declared.spot.Spot.{Spot}
use Rattle.nn_tree.specs.Nodes.{space_of}
use Rattle.nn_tree.specs.Totals.{total}
use Rattle.nn_tree.specs.Namespace.{usage_of}
use Rattle.nn_tree.specs.Changes.{cut}
use Rattle.nn_tree.specs.Spots.{Removes}
use Rattle.nn_tree.specs.Links.{Links, nodes_of, place_of, has_place, IsTree}
use Rattle.nn_tree.proofs.LinksLemmas.{paths_total, node_at}
use Rattle.nn_tree.proofs.TotalsLemmas.{total-insert}
use Rattle.nn_tree.proofs.PrefixLemmas.{under_itself, under_push}
use Rattle.nn_tree.proofs.FindLemmas.{second_so}
use Rattle.nn_arena.specs.declared.place.Entry.{Entry}
use Rattle.nn_arena.specs.declared.place.Place.{Place}
use Rattle.nn_arena.specs.Places.{entry_at, link_of, links_of, AreAlikeBut}
use Rattle.nn_arena.specs.Changes.{KeepNodes}
use Rattle.nn_arena.specs.Totals.{AreTotals, IsClimbed, own_usage, plus, less}
use Rattle.nn_arena.proofs.PlaceLemmas.{live_entry, in_use_spot}
use Rattle.nn_arena.proofs.UsageLemmas.{share, nothing_below, total_cut}
use Rattle.nn_arena.proofs.ClimbedLemmas.{climbed_links, climbed_from}
use Rattle.nn_arena.proofs.AlikeLemmas.{alike_from}

abbrev pub usage_at : Links → ℕ → Usage
usage_at g j = usage_of (nodes_of g) (place_of g j)

-- the usages are the totals, carried on along the path q
abbrev pub AreCarried : List Place → Names → (Usage → Usage) → Type 0
AreCarried ps q f = (j : ℕ) (e : Entry) → entry_at ps j ≡ Some e → e.usage ≡ cond (is_under (place_of (links_of ps) j) q) (f (usage_at (links_of ps) j)) (usage_at (links_of ps) j)

pub carried_on : (ps mid : List Place) (q : Names) (f : Usage → Usage) → AreTotals ps → IsClimbed ps mid q f → AreCarried mid q f
carried_on ps mid q f totals c j e is =
    let b = climbed_from ps mid q f c j e is in
    b.usage ∙ ap (λ u. cond (is_under (place_of (links_of ps) j) q) (f u) u) (totals j b.entry b.is)
    ∙ ap (λ (g : Links). cond (is_under (place_of g j) q) (f (usage_at g j)) (usage_at g j)) (sym (climbed_links ps mid q f c))

-- ---- usages by their numbers

pub plus_is : (b : Bool) (more u v : Usage) → v.names ≡ cond b more.names 0 + u.names → v.space ≡ cond b more.space 0 + u.space → cond b (plus more u) u ≡ v
plus_is true more u v n s =
    let names : u.names + more.names ≡ v.names = omega arith in
    let space : u.space + more.space ≡ v.space = omega arith in
    λ i. record { names = names i; space = space i }
plus_is false more u v n s =
    let names : u.names ≡ v.names = omega arith in
    let space : u.space ≡ v.space = omega arith in
    λ i. record { names = names i; space = space i }

pub less_is : (b : Bool) (gone u v : Usage) → v.names + cond b gone.names 0 ≡ u.names → v.space + cond b gone.space 0 ≡ u.space → cond b (less gone u) u ≡ v
less_is true gone u v n s =
    let names : u.names - gone.names ≡ v.names = omega arith in
    let space : u.space - gone.space ≡ v.space = omega arith in
    λ i. record { names = names i; space = space i }
less_is false gone u v n s =
    let names : u.names ≡ v.names = omega arith in
    let space : u.space ≡ v.space = omega arith in
    λ i. record { names = names i; space = space i }

-- the node of an entry stands at its path
pub there_at : (ps : List Place) (j : ℕ) (e : Entry) → IsTree (links_of ps) → entry_at ps j ≡ Some e → get (nodes_of (links_of ps)) (place_of (links_of ps) j) ≡ Some e.node
there_at ps j e t is = node_at (links_of ps) j (link_of e) t (in_use_spot ps j t (ap is_some is)) (live_entry ps j e is)

-- ---- one node more

module _ (g : Links) (t : IsTree g) (p : Names) (x : Bytes) (node : Node) (none : get (nodes_of g) (p ++ x ∷ []) ≡ None) where
  -- what was there has it more where it is above
  more_above : (w : Node → ℕ) (r : Names) (n : Node) → get (nodes_of g) r ≡ Some n → total (share w r) (insert (nodes_of g) (p ++ x ∷ []) node) ≡ cond (is_under r p) (w node) 0 + total (share w r) (nodes_of g)
  more_above w r n there =
      total-insert path_cmp paths_total (share w r) (nodes_of g) (p ++ x ∷ []) node none
      ∙ ap (λ b. cond b (w node) 0 + total (share w r) (nodes_of g)) (under_push r p x (λ e. (let z : None ≡ Some n = sym none ∙ ap (get (nodes_of g)) (sym e) ∙ there in cc)))

  -- itself has nothing else
  more_here : (w : Node → ℕ) → total (share w (p ++ x ∷ [])) (insert (nodes_of g) (p ++ x ∷ []) node) ≡ w node
  more_here w =
      let e = total-insert path_cmp paths_total (share w (p ++ x ∷ [])) (nodes_of g) (p ++ x ∷ []) node none in
      let a : share w (p ++ x ∷ []) (p ++ x ∷ []) node ≡ w node = ap (λ b. cond b (w node) 0) (under_itself (p ++ x ∷ [])) in
      let z = nothing_below w g (p ++ x ∷ []) t none in
      omega (arith, e, a, z)

pub inserted : (mid qs : List Place) (i a : ℕ) (q : Names) (x : Bytes) (node : Node) → IsTree (links_of mid) → q ≡ place_of (links_of mid) a → AreCarried mid q (plus (own_usage node)) → get (nodes_of (links_of mid)) (place_of (links_of mid) a ++ x ∷ []) ≡ None
    → AreAlikeBut mid qs i → ((e : Entry) → entry_at qs i ≡ Some e → e.usage ≡ own_usage node) → nodes_of (links_of qs) ≡ insert (nodes_of (links_of mid)) (place_of (links_of mid) a ++ x ∷ []) node
    → place_of (links_of qs) i ≡ place_of (links_of mid) a ++ x ∷ [] → ((j : ℕ) → has_place (links_of mid) j ≡ true → place_of (links_of qs) j ≡ place_of (links_of mid) j) → AreTotals qs
inserted mid qs i a q x node t at carried none alike here nodes new kept j e is = elim (cases_eq j i) as (λ _. e.usage ≡ usage_at (links_of qs) j) [
  | inl same ↦
      here e (ap (entry_at qs) (sym same) ∙ is)
      ∙ (λ k. record { names = sym (more_here (links_of mid) t (place_of (links_of mid) a) x node none (λ _. 1)) k; space = sym (more_here (links_of mid) t (place_of (links_of mid) a) x node none (λ n. space_of n.kind)) k })
      ∙ sym (λ k. usage_of (nodes k) ((ap (place_of (links_of qs)) same ∙ new) k))
  | inr other ↦
      let d = alike_from mid qs j e (alike.each j other) is in
      let r = place_of (links_of mid) j in
      let there = there_at mid j d.0 t d.1 in
      d.2 ∙ carried j d.0 d.1 ∙ ap (λ q. cond (is_under r q) (plus (own_usage node) (usage_at (links_of mid) j)) (usage_at (links_of mid) j)) at
      ∙ plus_is (is_under r (place_of (links_of mid) a)) (own_usage node) (usage_at (links_of mid) j) (usage_of (insert (nodes_of (links_of mid)) (place_of (links_of mid) a ++ x ∷ []) node) r)
      (more_above (links_of mid) t (place_of (links_of mid) a) x node none (λ _. 1) r d.0.node there) (more_above (links_of mid) t (place_of (links_of mid) a) x node none (λ n. space_of n.kind) r d.0.node there)
      ∙ sym (λ k. usage_of (nodes k) (kept j (in_use_spot mid j t (ap is_some d.1)) k))
]

-- ---- a node is cut, with all below it

pub removed : (mid qs : List Place) (i a : ℕ) (q : Names) (x : Bytes) (gone : Usage) → IsTree (links_of mid) → IsTree (links_of qs) → q ≡ place_of (links_of mid) a → place_of (links_of mid) i ≡ place_of (links_of mid) a ++ x ∷ [] → gone ≡ usage_at (links_of mid) i
    → AreCarried mid q (less gone) → KeepNodes mid qs → nodes_of (links_of qs) ≡ cut (place_of (links_of mid) i) (nodes_of (links_of mid))
    → Removes (place_of (links_of mid) i) (λ (s : Spot). has_place (links_of mid) s.index) (λ s. has_place (links_of qs) s.index) (λ s. place_of (links_of mid) s.index) (λ s. place_of (links_of qs) s.index) → AreTotals qs
removed mid qs i a q x gone t u at dir is_gone carried keep nodes removes j e is =
    let d = keep j e is in
    let r = place_of (links_of mid) j in
    let has : has_place (links_of qs) j ≡ true = in_use_spot qs j u (ap is_some is) in
    let out : is_under (place_of (links_of mid) i) r ≡ false = outside (is_under (place_of (links_of mid) i) r) (second_so (has_place (links_of mid) j) _ (sym (removes.left (record { index = j })) ∙ has)) in
    let above : is_under r (place_of (links_of mid) i) ≡ is_under r (place_of (links_of mid) a) = ap (is_under r) dir ∙ under_push r (place_of (links_of mid) a) x (λ same. (let z : true ≡ false = sym (under_itself (place_of (links_of mid) i)) ∙ ap (is_under (place_of (links_of mid) i)) (dir ∙ sym same) ∙ out in cc)) in
    d.2 ∙ carried j d.0 d.1 ∙ ap (λ q. cond (is_under r q) (less gone (usage_at (links_of mid) j)) (usage_at (links_of mid) j)) at
    ∙ less_is (is_under r (place_of (links_of mid) a)) gone (usage_at (links_of mid) j) (usage_of (cut (place_of (links_of mid) i) (nodes_of (links_of mid))) r)
    (ap (λ (z : Usage). total (share (λ _. 1) r) (cut (place_of (links_of mid) i) (nodes_of (links_of mid))) + cond (is_under r (place_of (links_of mid) a)) z.names 0) is_gone ∙ part (λ _. 1) r out above)
    (ap (λ (z : Usage). total (share (λ n. space_of n.kind) r) (cut (place_of (links_of mid) i) (nodes_of (links_of mid))) + cond (is_under r (place_of (links_of mid) a)) z.space 0) is_gone ∙ part (λ n. space_of n.kind) r out above)
    ∙ sym (λ k. usage_of (nodes k) (removes.same (record { index = j }) has k))
  where
    outside : (b : Bool) → not b ≡ true → b ≡ false
    outside true h = cc
    outside false h = refl

    part : (w : Node → ℕ) (r : Names) → is_under (place_of (links_of mid) i) r ≡ false → is_under r (place_of (links_of mid) i) ≡ is_under r (place_of (links_of mid) a) → total (share w r) (cut (place_of (links_of mid) i) (nodes_of (links_of mid))) + cond (is_under r (place_of (links_of mid) a)) (total (share w (place_of (links_of mid) i)) (nodes_of (links_of mid))) 0 ≡ total (share w r) (nodes_of (links_of mid))
    part w r out above = ap (λ b. total (share w r) (cut (place_of (links_of mid) i) (nodes_of (links_of mid))) + cond b (total (share w (place_of (links_of mid) i)) (nodes_of (links_of mid))) 0) (sym above) ∙ total_cut w (nodes_of (links_of mid)) (place_of (links_of mid) i) r out
