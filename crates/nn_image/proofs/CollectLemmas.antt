-- The names that a walk over the nodes collects.
use Rattle.std.proofs.Common.{◌≡◌, ℕ, ◌+◌, ◌≤◌, ◌<◌, Bool, true, false, List, [], ◌∷◌, ◌++◌, take, length, Option, Some, None, refl, sym, ap, subst, ◌∙◌, arith, length-append, if◌then◌else◌, get_or}
use Rattle.std.specs.Prelude.{All, fold, sum_by, slice_get}
use Rattle.std.specs.List.{flat_map, list_any}
use Rattle.std.specs.Str.{bytes_eq}
use Rattle.std.specs.FinMap.{get, entries}
use Rattle.std.proofs.lemmas.List.{take_all, length-take}
use Rattle.std.proofs.lemmas.List.Concat.{flat_map-append}
use Rattle.std.proofs.lemmas.List.Elements.{All-push}
use Rattle.std.proofs.lemmas.List.Sums.{fold-append, sum_by-cons}
use Rattle.std.proofs.lemmas.Option.{slice_get_within, slice_get-get_or}
use Rattle.nn_base.specs.Labels.{IsLabel}
use Rattle.nn_base.specs.Limits.{most_nodes}
use Rattle.nn_base.specs.Paths.{Bytes, Names}
use Rattle.nn_strtab.specs.Numbers.{with_use, first_uses}
use Rattle.nn_tree.specs.declared.node.Node.{Node}
use Rattle.nn_tree.specs.declared.spot.Spot.{Spot}
use Rattle.nn_tree.specs.Namespace.{Nodes}
use Rattle.nn_tree.specs.Limits.{IsWithinLimits}
use Rattle.nn_tree.specs.Below.{entries_below, visited, count_before, IsNextBelow, IsBelow}
use Rattle.nn_tree.proofs.BelowLemmas.{take_one_more, entry_at, entry_of, none_visited}
use Rattle.nn_image.specs.Image.{labels, string_table}
use Rattle.nn_image.proofs.ListsLemmas.{filter_all}

pub short_more : (names : List Bytes) (x : Bytes) → All IsLabel names → IsLabel x → All IsLabel (with_use names x)
short_more names x all is = by (list_any (bytes_eq x) names)
  where
    by : (b : Bool) → All IsLabel (if b then names else names ++ x ∷ [])
    by true = all
    by false = All-push IsLabel names x all is

pub one_more_name : (names : List Bytes) (x : Bytes) → length (with_use names x) ≤ length names + 1
one_more_name names x = by (list_any (bytes_eq x) names)
  where
    by : (b : Bool) → length (if b then names else names ++ x ∷ []) ≤ length names + 1
    by true = omega arith
    by false = omega (arith, length-append names (x ∷ []))

pub few_names : (uses names : List Bytes) → length (fold with_use names uses) ≤ length names + length uses
few_names [] names = omega arith
few_names (x ∷ uses) names = let a = few_names uses (with_use names x) in let b = one_more_name names x in omega (arith, a, b)

two_labels : (es : List (Names × Node)) → length (flat_map labels es) ≡ length es + length es
two_labels [] = refl
two_labels (e ∷ es) = let a = two_labels es in let b = length-append (labels e) (flat_map labels es) in omega (arith, a, b)

-- two names a node, at most
pub few_uses : (es : List (Names × Node)) → length (first_uses (flat_map labels es)) ≤ length es + length es
few_uses es = let a = few_names (flat_map labels es) [] in let b = two_labels es in omega (arith, a, b)

count_all : (es : List (Names × Node)) → sum_by (λ (e : Names × Node). 1) es ≡ length es
count_all [] = refl
count_all (e ∷ es) = let a = sum_by-cons (λ (e : Names × Node). 1) e es in let b = count_all es in omega (arith, a, b)

pub few_nodes : (m : Nodes) → IsWithinLimits m → length (entries m) ≤ most_nodes
few_nodes m limits = let a = count_all (entries m) in let b = limits.nodes in omega (arith, a, b)

-- below the root are all entries
pub all_entries : (m : Nodes) (top : Names) → top ≡ [] → entries_below m top ≡ entries m
all_entries m top is = ap (entries_below m) is ∙ filter_all (entries m)

-- each entry stands at its path
pub entry_there : (m : Nodes) (k : ℕ) (d : Names × Node) → k < length (entries m) → (let e = get_or (entries m) k d in get m e.0 ≡ Some e.1)
entry_there m k d lt = (entry_at m [] k (get_or (entries m) k d) (ap (λ es. slice_get es k) (all_entries m [] refl) ∙ slice_get-get_or (entries m) k d lt)).1

-- a part of the entries has few names
pub few_collected : (m : Nodes) (top : Names) (n : ℕ) (names : List Bytes) → top ≡ [] → IsWithinLimits m → names ≡ first_uses (flat_map labels (take n (entries_below m top))) → length names ≤ 2097152
few_collected m top n names is limits collected =
    let part = take n (entries_below m top) in
    let a = few_uses part in
    let b = ap length collected in
    let c = few_nodes m limits in
    let d = ap length (all_entries m top is) in
    let e = length-take n (entries_below m top) in
    grind (arith, a, b, c, d, e)

pub none_collected : (m : Nodes) (top : Names) → [] ≡ first_uses (flat_map labels (take (count_before m top top) (entries_below m top)))
none_collected m top = ap (λ n. first_uses (flat_map labels (take n (entries_below m top)))) (sym (none_visited m top))

pub all_collected : (m : Nodes) (top : Names) (place : Spot → Names) (at : Option Spot) (names : List Bytes) → top ≡ [] → at ≡ None → names ≡ first_uses (flat_map labels (take (visited m top place at) (entries_below m top))) → names ≡ string_table m
unfolding string_table
all_collected m top place at names is none collected =
    collected ∙ ap (λ o. first_uses (flat_map labels (take (visited m top place o) (entries_below m top)))) none
    ∙ ap (λ es. first_uses (flat_map labels es)) (take_all (length (entries_below m top)) (entries_below m top) (omega arith) ∙ all_entries m top is)

pub all_counted : (m : Nodes) (top : Names) (place : Spot → Names) (at : Option Spot) → top ≡ [] → at ≡ None → visited m top place at ≡ length (entries m)
all_counted m top place at is none = ap (visited m top place) none ∙ ap length (all_entries m top is)

module _ (m : Nodes) (top : Names) (has : Spot → Bool) (place : Spot → Names) (at to : Option Spot) (s : Spot) (node : Node) (is : at ≡ Some s) (below : IsBelow at has place top) (there : get m (place s) ≡ Some node) (next : IsNextBelow to has place m top (place s)) where
  pub two_more : (names one two : List Bytes) → names ≡ first_uses (flat_map labels (take (visited m top place at) (entries_below m top))) → one ≡ with_use names node.owner → two ≡ with_use one node.group
      → two ≡ first_uses (flat_map labels (take (visited m top place to) (entries_below m top)))
  two_more names one two collected owner group =
      let uses = flat_map labels (take (visited m top place at) (entries_below m top)) in
      group ∙ ap (λ n. with_use n node.group) (owner ∙ ap (λ n. with_use n node.owner) collected)
      ∙ sym (fold-append with_use [] uses (labels (place s, node) ++ []))
      ∙ ap first_uses (sym (flat_map-append labels (take (visited m top place at) (entries_below m top)) ((place s, node) ∷ [])))
      ∙ ap (λ es. first_uses (flat_map labels es)) (sym (take_one_more m top has place at to s node is below there next))

-- a walk that stands somewhere has not visited all
pub not_all : (m : Nodes) (top : Names) (has : Spot → Bool) (place : Spot → Names) (at : Option Spot) (s : Spot) (node : Node) → at ≡ Some s → IsBelow at has place top → get m (place s) ≡ Some node → visited m top place at < length (entries_below m top)
not_all m top has place at s node is below there =
    slice_get_within (entries_below m top) _ (place s, node) (ap (λ o. slice_get (entries_below m top) (visited m top place o)) is ∙ entry_of m top (place s) node (subst (λ (o : Option Spot). IsBelow o has place top) is below).1 there)
