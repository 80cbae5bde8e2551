-- A node and what is above it.
use Rattle.std.proofs.Common.{◌≡◌, ◌≢◌, ℕ, zero, suc, ◌-◌, ◌<◌, ◌≤◌, true, false, List, [], ◌∷◌, ◌++◌, length, Some, refl, sym, ap, ◌∙◌, arith, unwrap_or, length-append}
use Rattle.nn_base.specs.Paths.{Names, Bytes, is_under}
use Rattle.nn_quota.specs.declared.quota.Usage.{Usage}
use Rattle.nn_tree.specs.Nodes.{space_of}
use Rattle.nn_tree.specs.Links.{Links, nodes_of, place_of, has_place, IsTree}
use Rattle.nn_tree.proofs.SoundLemmas.{parent_of}
use Rattle.nn_tree.proofs.PrefixLemmas.{not_under_longer}
use Rattle.nn_tree.proofs.OrderLemmas.{under_front, under_trans}
use Rattle.nn_arena.specs.declared.place.Entry.{Entry}
use Rattle.nn_arena.specs.declared.place.Place.{Place}
use Rattle.nn_arena.specs.Places.{entry_at, link_of, links_of}
use Rattle.nn_arena.specs.Totals.{AreTotals}
use Rattle.nn_arena.proofs.PlaceLemmas.{live_entry}
use Rattle.nn_arena.proofs.BoundLemmas.{share_above, one_of_all}
use Rattle.nn_arena.proofs.AfterLemmas.{usage_at, there_at}

below_root : (g : Links) (i : ℕ) → IsTree g → place_of g i ≢ [] → 0 < i
below_root g zero t h = absurd (h (ap (λ o. unwrap_or o []) t.root))
below_root g (suc i) t h = omega arith

-- the directory of a node is there, and its path a name shorter
pub dir_of : (ps : List Place) (i : ℕ) (e : Entry) → IsTree (links_of ps) → entry_at ps i ≡ Some e → place_of (links_of ps) i ≢ [] → (has_place (links_of ps) e.parent ≡ true) × ((x : Bytes) × (place_of (links_of ps) i ≡ place_of (links_of ps) e.parent ++ x ∷ []))
dir_of ps i e t is root =
    let positive = below_root (links_of ps) i t root in
    let j : i ≡ suc (i - 1) = omega arith in
    parent_of (links_of ps) i (i - 1) (link_of e) t j (live_entry ps i e is)

pub record AtMost (u v : Usage) : Type 0 where
  pub names : u.names ≤ v.names
  pub space : u.space ≤ v.space

at_most : (u v x y : Usage) → u ≡ x → v ≡ y → AtMost x y → AtMost u v
at_most u v x y a b most =
    let n = most.names in
    let m = most.space in
    let c = ap (λ (u : Usage). u.names) a in
    let d = ap (λ (u : Usage). u.names) b in
    let e = ap (λ (u : Usage). u.space) a in
    let f = ap (λ (u : Usage). u.space) b in
    record { names = omega (arith, c, d, n); space = omega (arith, e, f, m) }

-- what is above a directory of a node has at least the usage of the node
pub gone_above : (ps : List Place) (i a : ℕ) (x : Bytes) (o : Entry) (j : ℕ) (e : Entry) → AreTotals ps → entry_at ps i ≡ Some o → place_of (links_of ps) i ≡ place_of (links_of ps) a ++ x ∷ [] → entry_at ps j ≡ Some e
    → is_under (place_of (links_of ps) j) (place_of (links_of ps) a) ≡ true → AtMost o.usage e.usage
gone_above ps i a x o j e totals there dir is above =
    at_most o.usage e.usage (usage_at (links_of ps) i) (usage_at (links_of ps) j) (totals i o there) (totals j e is)
    (record { names = share_above (λ _. 1) (nodes_of (links_of ps)) p q out over; space = share_above (λ n. space_of n.kind) (nodes_of (links_of ps)) p q out over })
  where
    p : Names
    p = place_of (links_of ps) i

    q : Names
    q = place_of (links_of ps) j

    over : is_under (place_of (links_of ps) j) (place_of (links_of ps) i) ≡ true
    over = under_trans (place_of (links_of ps) j) (place_of (links_of ps) a) (place_of (links_of ps) i) above (ap (is_under (place_of (links_of ps) a)) dir ∙ under_front (place_of (links_of ps) a) (x ∷ []))

    out : is_under (place_of (links_of ps) i) (place_of (links_of ps) j) ≡ false
    out = elim (is_under (place_of (links_of ps) i) (place_of (links_of ps) j)) as (λ b. is_under (place_of (links_of ps) i) (place_of (links_of ps) j) ≡ b → b ≡ false) [
      | false ↦ λ _. refl
      | true ↦ λ under.
          let z : true ≡ false = sym (under_trans (place_of (links_of ps) i) (place_of (links_of ps) j) (place_of (links_of ps) a) under above)
          ∙ not_under_longer (place_of (links_of ps) i) (place_of (links_of ps) a) (let l = ap length dir ∙ length-append (place_of (links_of ps) a) (x ∷ []) in omega arith) in cc
    ] refl

-- and at least the space of the node itself
pub space_above : (ps : List Place) (i : ℕ) (o : Entry) (j : ℕ) (e : Entry) → IsTree (links_of ps) → AreTotals ps → entry_at ps i ≡ Some o → entry_at ps j ≡ Some e → is_under (place_of (links_of ps) j) (place_of (links_of ps) i) ≡ true → space_of o.node.kind ≤ e.usage.space
space_above ps i o j e t totals there is above =
    let one = one_of_all (nodes_of (links_of ps)) (place_of (links_of ps) i) (place_of (links_of ps) j) o.node (there_at ps i o t there) above in
    let same = ap (λ (u : Usage). u.space) (totals j e is) in
    omega (arith, one, same)
