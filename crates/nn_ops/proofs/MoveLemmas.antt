-- The quotas above the new place of what moves, but for directories that are above the old place too.
use Rattle.std.proofs.Common.{◌≡◌, ℕ, zero, suc, ◌+◌, ◌-◌, ◌<◌, ◌≤◌, ◌^◌, Bool, true, false, not, List, [], ◌∷◌, ◌++◌, ◌&&◌, ◌||◌, take, length, None, refl, sym, ap, ◌∙◌, arith}
use Rattle.std.specs.Option.{is_none}
use Rattle.std.specs.List.{list_all}
use Rattle.std.specs.FinMap.{get}
use Rattle.std.proofs.Math.ListN.{get_or}
use Rattle.std.proofs.lemmas.List.{take_more, same_from_push}
use Rattle.std.proofs.lemmas.List.Folds.{list_all-append}
use Rattle.nn_base.specs.Paths.{Names, Bytes, IsPath, is_under}
use Rattle.nn_quota.specs.declared.quota.Usage.{Usage}
use Rattle.nn_tree.specs.Namespace.{Namespace, Nodes, usage_of}
use Rattle.nn_tree.proofs.PrefixLemmas.{not_under_longer}
use Rattle.nn_ops.specs.declared.refusal.OpRefusal.TheVariants.{NotFound, Under, Root, Limit, Quota}
use Rattle.nn_ops.specs.Above.{parent_of, prefixes, is_above, shared, has_room_at, has_room_but}
use Rattle.nn_base.specs.First.{when, first_of}
use Rattle.nn_ops.specs.Refusals.{Test, walk}
use Rattle.nn_ops.specs.Commands.{free_tests, moved_tests, is_root}
use Rattle.nn_base.proofs.FirstLemmas.{untrue}
use Rattle.nn_ops.proofs.RefusalLemmas.{first_passed, rest_passed, go_on, both_pass}
use Rattle.nn_ops.specs.Step.{refusal_of}
use Rattle.nn_ops.specs.Plans.{IsReady}
use Rattle.nn_ops.specs.Bounds.{moves_short}
use Rattle.nn_ops.specs.declared.command.Command.TheVariants.{Rename}
use Rattle.nn_ops.specs.declared.plan.Target.TheVariants.{Move}
use Rattle.nn_record.specs.declared.op.Op.TheVariants.{RenameOld}
use Rattle.nn_tree.specs.declared.spot.Spot.{Spot}
use Rattle.nn_tree.specs.Spots.{Spare}
use Rattle.nn_ops.proofs.AboveLemmas.{prefixes_push, and_false, and_true}
use Rattle.nn_ops.proofs.SharedLemmas.{shared_prefix, unshared_prefix, both_under}
use Rattle.nn_ops.proofs.NodeLemmas.{free_name}

take_push : (p : Names) (n : ℕ) → n < length p → take (n + 1) p ≡ take n p ++ get_or p n [] ∷ []
take_push p n h = take_more p n [] h

pub parent_take : (p q : Names) (name : Bytes) (n : ℕ) → 0 < n → n ≤ length p → q ++ name ∷ [] ≡ take n p → q ≡ take (n - 1) p
parent_take p q name n some le is =
    let whole : n - 1 + 1 ≡ n = omega arith in
    let more = take_push p (n - 1) (omega arith) in
    (same_from_push q (take (n - 1) p) name (get_or p (n - 1) []) (is ∙ ap (λ k. take k p) (sym whole) ∙ more)).0

module _ (m : Nodes) (from to : Names) (more : Usage) where
  abbrev Exempt : Names → Bool
  Exempt q = is_above q from

  step : (n : ℕ) → n < length to → has_room_but m Exempt more (take (n + 1) to) ≡ (has_room_but m Exempt more (take n to) && (is_above (take n to) from || has_room_at m more (take n to)))
  step n h =
      ap (has_room_but m Exempt more) (take_push to n h) ∙ ap (list_all (λ q. is_above q from || has_room_at m more q)) (prefixes_push (take n to) (get_or to n []))
      ∙ list_all-append (λ q. is_above q from || has_room_at m more q) (prefixes (take n to)) (take n to ∷ [])
      ∙ ap (λ b. has_room_but m Exempt more (take n to) && b) (and_true _)

  not_exempt : (n : ℕ) → shared to from < n → n ≤ length to → is_above (take n to) from ≡ false
  not_exempt n h le = ap (λ b. b && not (is_under from (take n to))) (unshared_prefix to from n h le)

  exempt : (n : ℕ) → n ≤ shared to from → shared to from < length from → is_above (take n to) from ≡ true
  exempt n h few =
      let short : length (take n to) ≤ n = length_take_most n to in
      λ i. shared_prefix to from n h i && not (not_under_longer from (take n to) (omega arith) i)
    where
      length_take_most : (n : ℕ) (p : Names) → length (take n p) ≤ n
      length_take_most zero p = omega arith
      length_take_most (suc n) [] = omega arith
      length_take_most (suc n) (x ∷ p) = omega (arith, length_take_most n p)

  pub move_fails : (n : ℕ) → shared to from < n → n < length to → has_room_at m more (take n to) ≡ false → has_room_but m Exempt more (take (n + 1) to) ≡ false
  move_fails n h lt fails = step n lt ∙ (λ i. has_room_but m Exempt more (take n to) && (not_exempt n h (omega arith) i || fails i)) ∙ and_false _

  pub move_goes_on : (n : ℕ) → shared to from < n → n < length to → has_room_at m more (take n to) ≡ true → has_room_but m Exempt more (take (n + 1) to) ≡ has_room_but m Exempt more (take n to)
  move_goes_on n h lt fits = step n lt ∙ (λ i. has_room_but m Exempt more (take n to) && (not_exempt n h (omega arith) i || fits i)) ∙ and_true _

  -- what is left is above the old place
  pub move_ends : (n : ℕ) → n ≤ shared to from + 1 → shared to from < length from → n ≤ length to → has_room_but m Exempt more (take n to) ≡ true
  move_ends zero h few le = refl
  move_ends (suc n) h few le =
      let whole : suc n ≡ n + 1 = omega arith in
      ap (λ k. has_room_but m Exempt more (take k to)) whole ∙ step n (omega arith)
      ∙ (λ i. move_ends n (omega arith) few (omega arith) i && (exempt n (omega arith) few i || has_room_at m more (take n to)))

-- ---- what the tests say of the two paths

pub not_below : (m : Nodes) (from to : Names) → first_of (moved_tests m from to) ≡ None → first_of (free_tests m to) ≡ None → is_under from to ≡ false
not_below m from to moved free =
    let h = rest_passed (when (is_root from || is_root to) Root) _ moved in
    let h2 = rest_passed (walk m from) _ h in
    let there = untrue (is_none (get m from)) NotFound (first_passed _ (when (is_above from to) Under ∷ []) h2) in
    let above = untrue (is_above from to) Under (first_passed _ [] (rest_passed (when (is_none (get m from)) NotFound) (when (is_above from to) Under ∷ []) h2)) in
    by (is_under from to) refl there above (free_name m to free)
  where
    by : (b : Bool) → is_under from to ≡ b → is_none (get m from) ≡ false → is_above from to ≡ false → get m to ≡ None → b ≡ false
    by false e there above none = refl
    by true e there above none = over (is_under to from) refl
      where
        over : (b : Bool) → is_under to from ≡ b → true ≡ false
        over false f = (λ i. sym e i && not (sym f i)) ∙ above
        over true f = (let same = both_under from to e f in ap is_none (sym (ap (get m) same ∙ none)) ∙ there)

abbrev pub last_tests : Nodes → Names → Names → List Test
last_tests m from to = when (not (moves_short m from to)) Limit ∷ when (not (has_room_but m (λ q. is_above q from) (usage_of m from) to)) Quota ∷ []

pub all_passed : (ns : Namespace) (from to : Names) → first_of (moved_tests ns.nodes from to) ≡ None → first_of (free_tests ns.nodes to) ≡ None → moves_short ns.nodes from to ≡ true
    → has_room_but ns.nodes (λ q. is_above q from) (usage_of ns.nodes from) to ≡ true → refusal_of ns (Rename from to) ≡ None
all_passed ns from to moved free short room =
    go_on (moved_tests ns.nodes from to) (free_tests ns.nodes to ++ last_tests ns.nodes from to) None moved
    (go_on (free_tests ns.nodes to) (last_tests ns.nodes from to) None free (both_pass (moves_short ns.nodes from to) (has_room_but ns.nodes (λ q. is_above q from) (usage_of ns.nodes from) to) Limit Quota short room))

pub move_ready : (ns : Namespace) (has : Spot → Bool) (place : Spot → Names) (spare : Spare) (at parent : Spot) (name : Bytes) (from to f t : Names) (now : ℕ) → refusal_of ns (Rename from to) ≡ None → f ≡ from → t ≡ to
    → has at ≡ true → place at ≡ from → has parent ≡ true → place parent ≡ parent_of to → t ≡ parent_of t ++ name ∷ [] → IsPath t → now < 2 ^ 63
    → IsReady (record { op = RenameOld f t now; target = Move at parent name }) has place spare ns
move_ready ns has place spare at parent name from to f t now passed sf st there is dir above named path time = record {
  fits = ((λ i. refusal_of ns (Rename (sf i) (st i))) ∙ passed, refl);
  bounds = time;
  path = path;
  target = (there, is ∙ sym sf, (dir, named ∙ (λ i. parent_of (st i) ++ name ∷ []) ∙ (λ i. sym above i ++ name ∷ [])));
}
