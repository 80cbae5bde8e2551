-- The totals after a move, and after a change of one node.
use Rattle.std.proofs.Common.{◌≡◌, ℕ, ◌+◌, ◌-◌, ◌≤◌, Bool, true, false, cond, List, [], ◌∷◌, ◌++◌, inl, inr, map, length, drop, Some, None, refl, sym, ap, ◌∙◌, arith, is_some, unwrap_or, length-append}
use Rattle.std.specs.FinMap.{get, insert}
use Rattle.std.proofs.lemmas.Bool.{cases_eq}
use Rattle.nn_base.specs.Paths.{Names, Bytes, path_cmp, is_under}
use Rattle.nn_base.proofs.PlainLemmas.{some_is}
use Rattle.nn_quota.specs.declared.quota.Usage.{Usage}
use Rattle.nn_tree.specs.declared.node.Node.{Node}
use Rattle.nn_tree.specs.declared.spot.Spot.{Spot}
use Rattle.nn_tree.specs.Nodes.{space_of}
use Rattle.nn_tree.specs.Totals.{total}
use Rattle.nn_tree.specs.Namespace.{Nodes, usage_of}
use Rattle.nn_tree.specs.Changes.{moved, change_at}
use Rattle.nn_tree.specs.Slots.{rekey_slot}
use Rattle.nn_tree.specs.Spots.{Keeps}
use Rattle.nn_tree.specs.Links.{Links, path_at, slots, nodes_of, place_of, has_place, IsTree}
use Rattle.nn_tree.proofs.LinksLemmas.{paths_total, paths_exact}
use Rattle.nn_tree.proofs.TotalsLemmas.{total-insert_old}
use Rattle.nn_tree.proofs.PrefixLemmas.{under_itself, under_push, not_under_longer, moved_in, moved_out}
use Rattle.nn_tree.proofs.OrderLemmas.{under_trans}
use Rattle.nn_arena.specs.declared.place.Entry.{Entry}
use Rattle.nn_arena.specs.declared.place.Place.{Place}
use Rattle.nn_arena.specs.declared.place.Place.TheVariants.{Used}
use Rattle.nn_arena.specs.Places.{entry_at, links_of, IsWith}
use Rattle.nn_arena.specs.Changes.{KeepNodes}
use Rattle.nn_arena.specs.Totals.{AreTotals, IsClimbed, plus, less, reweighed}
use Rattle.nn_arena.proofs.PlaceLemmas.{in_use_spot, with_here, with_other}
use Rattle.nn_arena.proofs.UsageLemmas.{share, total_moved_in, total_moved_out}
use Rattle.nn_arena.proofs.BoundLemmas.{share_above}
use Rattle.nn_arena.proofs.ClimbedLemmas.{climbed_links, climbed_from}
use Rattle.nn_arena.proofs.AfterLemmas.{usage_at, AreCarried, there_at}

-- ---- usages by their numbers

both_is : (a b : Bool) (gone u v : Usage) → v.names + cond a gone.names 0 ≡ u.names + cond b gone.names 0 → v.space + cond a gone.space 0 ≡ u.space + cond b gone.space 0 → cond a gone.names 0 ≤ u.names → cond a gone.space 0 ≤ u.space
    → cond b (plus gone (cond a (less gone u) u)) (cond a (less gone u) u) ≡ v
both_is true true gone u v n s few little =
    let names : (u.names - gone.names) + gone.names ≡ v.names = omega arith in
    let space : (u.space - gone.space) + gone.space ≡ v.space = omega arith in
    λ i. record { names = names i; space = space i }
both_is true false gone u v n s few little =
    let names : u.names - gone.names ≡ v.names = omega arith in
    let space : u.space - gone.space ≡ v.space = omega arith in
    λ i. record { names = names i; space = space i }
both_is false true gone u v n s few little =
    let names : u.names + gone.names ≡ v.names = omega arith in
    let space : u.space + gone.space ≡ v.space = omega arith in
    λ i. record { names = names i; space = space i }
both_is false false gone u v n s few little =
    let names : u.names ≡ v.names = omega arith in
    let space : u.space ≡ v.space = omega arith in
    λ i. record { names = names i; space = space i }

reweighed_is : (b : Bool) (was now : ℕ) (u v : Usage) → v.names ≡ u.names → v.space + cond b was 0 ≡ cond b now 0 + u.space → cond b (reweighed was now u) u ≡ v
reweighed_is true was now u v n s =
    let names : u.names ≡ v.names = omega arith in
    let space : (u.space + now) - was ≡ v.space = omega arith in
    λ i. record { names = names i; space = space i }
reweighed_is false was now u v n s =
    let names : u.names ≡ v.names = omega arith in
    let space : u.space ≡ v.space = omega arith in
    λ i. record { names = names i; space = space i }

-- ---- s moves to d, which is q with a new name; it stood in p

module _ (g h : Links) (s p q : Names) (x y : Bytes) (t : IsTree g) (u : IsTree h) (dir : s ≡ p ++ x ∷ []) (outside : is_under s q ≡ false) (none : get (nodes_of g) (q ++ y ∷ []) ≡ None)
    (is : slots h ≡ map (rekey_slot (moved s (q ++ y ∷ []))) (slots g)) where
  abbrev d : Names
  d = q ++ y ∷ []

  record Shifts (w : Node → ℕ) (r : Names) : Type 0 where
    sum : total (share w (moved s d r)) (nodes_of h) + cond (is_under r p) (total (share w s) (nodes_of g)) 0 ≡ total (share w r) (nodes_of g) + cond (is_under (moved s d r) q) (total (share w s) (nodes_of g)) 0
    some : cond (is_under r p) (total (share w s) (nodes_of g)) 0 ≤ total (share w r) (nodes_of g)

  -- what moves: neither directory is below it
  not_above_in : (r : Names) → is_under s r ≡ true → is_under r p ≡ false
  not_above_in r inside = elim (is_under r p) as (λ b. is_under r p ≡ b → b ≡ false) [
    | false ↦ λ _. refl
    | true ↦ λ above. (let z : true ≡ false = sym (under_trans s r p inside above) ∙ not_under_longer s p (let l = ap length dir ∙ length-append p (x ∷ []) in omega arith) in cc)
  ] refl

  not_above_out : (r : Names) → is_under s r ≡ true → is_under (moved s d r) q ≡ false
  not_above_out r inside = not_under_longer (moved s d r) q (let l = ap length (moved_in s d r inside) ∙ length-append d (drop (length s) r) in let k = length-append q (y ∷ []) in omega arith)

  -- what stays
  above_old : (r : Names) → is_under s r ≡ false → is_under r s ≡ is_under r p
  above_old r out = ap (is_under r) dir ∙ under_push r p x (λ same. (let z : true ≡ false = sym (under_itself s) ∙ ap (is_under s) (dir ∙ sym same) ∙ out in cc))

  above_new : (r : Names) (n : Node) → get (nodes_of g) r ≡ Some n → is_under s r ≡ false → is_under r d ≡ is_under (moved s d r) q
  above_new r n there out = under_push r q y (λ same. (let z : None ≡ Some n = sym none ∙ ap (get (nodes_of g)) (sym same) ∙ there in cc)) ∙ ap (λ r. is_under r q) (sym (moved_out s d r out))

  shifts : (w : Node → ℕ) (r : Names) (n : Node) → get (nodes_of g) r ≡ Some n → (b : Bool) → is_under s r ≡ b → Shifts w r
  shifts w r n there true inside =
      let zero : cond (is_under r p) (total (share w s) (nodes_of g)) 0 ≡ 0 = ap (λ b. cond b (total (share w s) (nodes_of g)) 0) (not_above_in r inside) in
      let none_new : cond (is_under (moved s d r) q) (total (share w s) (nodes_of g)) 0 ≡ 0 = ap (λ b. cond b (total (share w s) (nodes_of g)) 0) (not_above_out r inside) in
      let kept = total_moved_in w g h s d t u is none r inside in
      record { sum = omega arith; some = omega arith }
  shifts w r n there false out =
      let was : cond (is_under r s) (total (share w s) (nodes_of g)) 0 ≡ cond (is_under r p) (total (share w s) (nodes_of g)) 0 = ap (λ b. cond b (total (share w s) (nodes_of g)) 0) (above_old r out) in
      let now : cond (is_under r d) (total (share w s) (nodes_of g)) 0 ≡ cond (is_under (moved s d r) q) (total (share w s) (nodes_of g)) 0 = ap (λ b. cond b (total (share w s) (nodes_of g)) 0) (above_new r n there out) in
      let same : total (share w (moved s d r)) (nodes_of h) ≡ total (share w r) (nodes_of h) = ap (λ r. total (share w r) (nodes_of h)) (moved_out s d r out) in
      let kept = total_moved_out w g h s d t u is none r n there out in
      record { sum = omega arith; some = part (is_under r p) (above_old r out) }
    where
      part : (b : Bool) → is_under r s ≡ b → cond b (total (share w s) (nodes_of g)) 0 ≤ total (share w r) (nodes_of g)
      part true above = share_above w (nodes_of g) s r out above
      part false above = omega arith

  pub shifted : (gone v : Usage) (r : Names) (n : Node) → gone ≡ usage_of (nodes_of g) s → get (nodes_of g) r ≡ Some n
      → cond (is_under (moved s d r) q) (plus gone (cond (is_under r p) (less gone (usage_of (nodes_of g) r)) (usage_of (nodes_of g) r))) (cond (is_under r p) (less gone (usage_of (nodes_of g) r)) (usage_of (nodes_of g) r)) ≡ usage_of (nodes_of h) (moved s d r)
  shifted gone v r n is_gone there =
      let a = shifts (λ _. 1) r n there (is_under s r) refl in
      let b = shifts (λ n. space_of n.kind) r n there (is_under s r) refl in
      ap (λ gone. cond (is_under (moved s d r) q) (plus gone (cond (is_under r p) (less gone (usage_of (nodes_of g) r)) (usage_of (nodes_of g) r))) (cond (is_under r p) (less gone (usage_of (nodes_of g) r)) (usage_of (nodes_of g) r))) is_gone
      ∙ both_is (is_under r p) (is_under (moved s d r) q) (usage_of (nodes_of g) s) (usage_of (nodes_of g) r) (usage_of (nodes_of h) (moved s d r)) a.sum b.sum a.some b.some

pub relinked : (ps ms qs : List Place) (i above a : ℕ) (from : Names) (x y : Bytes) (gone : Usage) → IsTree (links_of ps) → IsTree (links_of ms) → from ≡ place_of (links_of ps) above → place_of (links_of ps) i ≡ place_of (links_of ps) above ++ x ∷ []
    → gone ≡ usage_at (links_of ps) i → AreCarried ps from (less gone) → KeepNodes ps ms → slots (links_of ms) ≡ map (rekey_slot (moved (place_of (links_of ps) i) (place_of (links_of ps) a ++ y ∷ []))) (slots (links_of ps))
    → get (nodes_of (links_of ps)) (place_of (links_of ps) a ++ y ∷ []) ≡ None → is_under (place_of (links_of ps) i) (place_of (links_of ps) a) ≡ false → has_place (links_of ps) a ≡ true
    → Keeps (λ (s : Spot). has_place (links_of ps) s.index) (λ s. has_place (links_of ms) s.index) (λ s. place_of (links_of ps) s.index) (λ s. place_of (links_of ms) s.index) (moved (place_of (links_of ps) i) (place_of (links_of ps) a ++ y ∷ []))
    → IsClimbed ms qs (place_of (links_of ms) a) (plus gone) → AreTotals qs
relinked ps ms qs i above a from x y gone t u at dir is_gone carried keep slots none outside has keeps climbed j e is =
    let b = climbed_from ms qs (place_of (links_of ms) a) (plus gone) climbed j e is in
    let k = keep j b.entry b.is in
    let r = place_of (links_of ps) j in
    let here = keeps.same (record { index = j }) (in_use_spot ps j t (ap is_some k.1)) in
    let to : place_of (links_of ms) a ≡ place_of (links_of ps) a = keeps.same (record { index = a }) has ∙ moved_out (place_of (links_of ps) i) (place_of (links_of ps) a ++ y ∷ []) (place_of (links_of ps) a) outside in
    let was : b.entry.usage ≡ cond (is_under r (place_of (links_of ps) above)) (less gone (usage_at (links_of ps) j)) (usage_at (links_of ps) j) =
    k.2 ∙ carried j k.0 k.1 ∙ ap (λ q. cond (is_under r q) (less gone (usage_at (links_of ps) j)) (usage_at (links_of ps) j)) at in
    b.usage
    ∙ (λ n. cond (is_under (here n) (to n)) (plus gone (was n)) (was n))
    ∙ shifted (links_of ps) (links_of ms) (place_of (links_of ps) i) (place_of (links_of ps) above) (place_of (links_of ps) a) x y t u dir outside none slots gone gone r k.0.node is_gone (there_at ps j k.0 t k.1)
    ∙ ap (usage_of (nodes_of (links_of ms))) (sym here)
    ∙ ap (λ (g : Links). usage_at g j) (sym (climbed_links ms qs (place_of (links_of ms) a) (plus gone) climbed))

-- ---- one node is changed where it stands

module _ (m : Nodes) (p : Names) (f : Node → Node) (x : Node) (there : get m p ≡ Some x) where
  change_is : change_at p f m ≡ insert m p (f x)
  change_is = ap (λ o. elim o as (λ _. Nodes) [ None ↦ m | Some x ↦ insert m p (f x) ]) there

  changed_share : (w : Node → ℕ) (r : Names) → total (share w r) (change_at p f m) + cond (is_under r p) (w x) 0 ≡ cond (is_under r p) (w (f x)) 0 + total (share w r) m
  changed_share w r = ap (λ n. total (share w r) n + cond (is_under r p) (w x) 0) change_is ∙ total-insert_old path_cmp paths_total paths_exact (share w r) m p (f x) x there

  pub changed_usage : (r : Names) → cond (is_under r p) (reweighed (space_of x.kind) (space_of (f x).kind) (usage_of m r)) (usage_of m r) ≡ usage_of (change_at p f m) r
  changed_usage r =
      let a = changed_share (λ _. 1) r in
      reweighed_is (is_under r p) (space_of x.kind) (space_of (f x).kind) (usage_of m r) (usage_of (change_at p f m) r) (omega (arith, a)) (changed_share (λ n. space_of n.kind) r)

-- what an entry was, where only nodes change
pub set_from : (ps ms : List Place) (i : ℕ) (o : Entry) (node : Node) → entry_at ps i ≡ Some o → IsWith ps ms i (Used (record o { node = node })) → (j : ℕ) (e : Entry) → entry_at ms j ≡ Some e → (d : Entry) × (entry_at ps j ≡ Some d) × (e.usage ≡ d.usage)
set_from ps ms i o node there set j e is = elim (cases_eq j i) as (λ _. (d : Entry) × (entry_at ps j ≡ Some d) × (e.usage ≡ d.usage)) [
  | inl here ↦
      let one : record o { node = node } ≡ e = some_is _ _ (sym (with_here ps ms i (Used (record o { node = node })) set) ∙ ap (entry_at ms) (sym here) ∙ is) in
      (o, ap (entry_at ps) here ∙ there, ap (λ (e : Entry). e.usage) (sym one))
  | inr other ↦ (e, sym (with_other ps ms i j (Used (record o { node = node })) set other) ∙ is, refl)
]

pub changed : (ps ms qs : List Place) (i : ℕ) (o : Entry) (f : Node → Node) → IsTree (links_of ps) → AreTotals ps → entry_at ps i ≡ Some o → IsWith ps ms i (Used (record o { node = f o.node })) → nodes_of (links_of ms) ≡ change_at (place_of (links_of ps) i) f (nodes_of (links_of ps))
    → path_at (links_of ms) ≡ path_at (links_of ps) → IsClimbed ms qs (place_of (links_of ms) i) (reweighed (space_of o.node.kind) (space_of (f o.node).kind)) → AreTotals qs
changed ps ms qs i o f t totals there set nodes path climbed j e is =
    let b = climbed_from ms qs (place_of (links_of ms) i) (reweighed (space_of o.node.kind) (space_of (f o.node).kind)) climbed j e is in
    let k = set_from ps ms i o (f o.node) there set j b.entry b.is in
    let was = k.2 ∙ totals j k.0 k.1 in
    b.usage
    ∙ (λ n. cond (is_under (same j n) (same i n)) (reweighed (space_of o.node.kind) (space_of (f o.node).kind) (was n)) (was n))
    ∙ changed_usage (nodes_of (links_of ps)) (place_of (links_of ps) i) f o.node (there_at ps i o t there) (place_of (links_of ps) j)
    ∙ sym (λ n. usage_of (nodes n) (same j n))
    ∙ ap (λ (g : Links). usage_at g j) (sym (climbed_links ms qs (place_of (links_of ms) i) (reweighed (space_of o.node.kind) (space_of (f o.node).kind)) climbed))
  where
    same : (j : ℕ) → place_of (links_of ms) j ≡ place_of (links_of ps) j
    same j = ap (λ p. unwrap_or (p j) []) path
