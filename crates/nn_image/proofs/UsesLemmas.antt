-- Each owner and each group of a node has a number in the string table.
use Rattle.std.proofs.Common.{◌≡◌, ℕ, zero, suc, Bool, true, false, ◌||◌, List, [], ◌∷◌, ◌++◌, Some, refl, sym, ap, subst, ◌∙◌, inl, inr, if◌then◌else◌}
use Rattle.std.specs.Prelude.{All, slice_get, fold}
use Rattle.std.specs.List.{list_any, flat_map}
use Rattle.std.specs.Str.{bytes_eq}
use Rattle.std.specs.Cmp.Lexicographic.{bytes_decides}
use Rattle.std.specs.FinMap.{get, entries}
use Rattle.std.proofs.lemmas.Bool.{or_cases, false≢true}
use Rattle.std.proofs.lemmas.Option.{none-some, same_Some}
use Rattle.std.proofs.lemmas.List.Elements.{All-contains}
use Rattle.std.proofs.lemmas.List.Folds.{list_any-append}
use Rattle.std.proofs.lemmas.Map.Views.{Contains-from_any}
use Rattle.nn_base.specs.Labels.{IsLabel}
use Rattle.nn_base.specs.Paths.{Bytes, Names}
use Rattle.nn_strtab.specs.Numbers.{with_use}
use Rattle.nn_tree.specs.declared.node.Node.{Node}
use Rattle.nn_tree.specs.Namespace.{Nodes}
use Rattle.nn_tree.specs.Below.{count_before}
use Rattle.nn_tree.proofs.BelowLemmas.{entry_of}
use Rattle.nn_image.specs.Image.{labels, string_table}
use Rattle.nn_image.specs.Imaged.{AreLabelled}
use Rattle.nn_image.proofs.ListsLemmas.{filter_all}

has : List Bytes → Bytes → Bool
has names name = list_any (bytes_eq name) names

or_left : (a b : Bool) → a ≡ true → (a || b) ≡ true
or_left a b h = ap (λ a. a || b) h

or_right : (a b : Bool) → b ≡ true → (a || b) ≡ true
or_right true b h = refl
or_right false b h = h

stays : (names : List Bytes) (name x : Bytes) → has names name ≡ true → has (with_use names x) name ≡ true
unfolding has
stays names name x h = by (list_any (bytes_eq x) names)
  where
    by : (b : Bool) → list_any (bytes_eq name) (if b then names else names ++ x ∷ []) ≡ true
    by true = h
    by false = list_any-append (bytes_eq name) names (x ∷ []) ∙ or_left _ _ h

comes : (names : List Bytes) (x : Bytes) → has (with_use names x) x ≡ true
unfolding has
comes names x = by (list_any (bytes_eq x) names) refl
  where
    by : (b : Bool) → list_any (bytes_eq x) names ≡ b → list_any (bytes_eq x) (if b then names else names ++ x ∷ []) ≡ true
    by true h = h
    by false h = list_any-append (bytes_eq x) names (x ∷ []) ∙ or_right _ _ (or_left (bytes_eq x x) false ((bytes_decides x x).1 refl))

fold_stays : (uses names : List Bytes) (name : Bytes) → has names name ≡ true → has (fold with_use names uses) name ≡ true
fold_stays [] names name h = h
fold_stays (x ∷ uses) names name h = fold_stays uses (with_use names x) name (stays names name x h)

fold_has : (uses names : List Bytes) (name : Bytes) → has uses name ≡ true → has (fold with_use names uses) name ≡ true
unfolding has
fold_has [] names name h = absurd (false≢true h)
fold_has (x ∷ uses) names name h = elim (or_cases (bytes_eq name x) (list_any (bytes_eq name) uses) h) as (λ _. has (fold with_use names (x ∷ uses)) name ≡ true) [
  | inl here ↦ let same = (bytes_decides name x).0 here in fold_stays uses (with_use names x) name (subst (λ n. has (with_use names x) n ≡ true) (sym same) (comes names x))
  | inr later ↦ fold_has uses (with_use names x) name later
]

uses_has : (es : List (Names × Node)) (k : ℕ) (e : Names × Node) (name : Bytes) → slice_get es k ≡ Some e → has (labels e) name ≡ true → has (flat_map labels es) name ≡ true
unfolding has
uses_has [] k e name at h = absurd (none-some e at)
uses_has (x ∷ es) zero e name at h = list_any-append (bytes_eq name) (labels x) (flat_map labels es) ∙ or_left _ _ (ap (λ e. list_any (bytes_eq name) (labels e)) (same_Some x e at) ∙ h)
uses_has (x ∷ es) (suc k) e name at h = list_any-append (bytes_eq name) (labels x) (flat_map labels es) ∙ or_right _ _ (uses_has es k e name at h)

no_new : (names : List Bytes) (name : Bytes) → has names name ≡ true → with_use names name ≡ names
unfolding has
no_new names name h = ap (λ b. if b then names else names ++ name ∷ []) h

-- both names of a node are in the table
both_used : (m : Nodes) (table : List Bytes) (p : Names) (node : Node) → table ≡ string_table m → get m p ≡ Some node → (has table node.owner ≡ true) × (has table node.group ≡ true)
unfolding string_table has
both_used m table p node is there =
    let at : slice_get (entries m) (count_before m [] p) ≡ Some (p, node) = ap (λ es. slice_get es (count_before m [] p)) (sym (filter_all (entries m))) ∙ entry_of m [] p node refl there in
    let in_table = λ (name : Bytes) (h : has (labels (p, node)) name ≡ true). ap (λ t. has t name) is ∙ fold_has (flat_map labels (entries m)) [] name (uses_has (entries m) _ (p, node) name at h) in
    let self = λ (name : Bytes). (bytes_decides name name).1 refl in (
      in_table node.owner (or_left (bytes_eq node.owner node.owner) _ (self node.owner)),
      in_table node.group (or_right (bytes_eq node.group node.owner) _ (or_left (bytes_eq node.group node.group) false (self node.group))),
    )

-- so using them again changes nothing
pub no_new_use : (m : Nodes) (table : List Bytes) (p : Names) (node : Node) → table ≡ string_table m → get m p ≡ Some node → (with_use table node.owner ≡ table) × (with_use table node.group ≡ table)
no_new_use m table p node is there =
    let used = both_used m table p node is there in
    (no_new table node.owner used.0, no_new table node.group used.1)

label_in : (names : List Bytes) (name : Bytes) → All IsLabel names → has names name ≡ true → IsLabel name
unfolding has
label_in names name all h = All-contains IsLabel names name all (Contains-from_any (λ x y. (bytes_decides x y).0) name names h)

-- and each is a label, if all names of the table are
pub labelled : (m : Nodes) (table : List Bytes) → table ≡ string_table m → All IsLabel table → AreLabelled m
labelled m table is all = λ p node there.
    let used = both_used m table p node is there in
    (label_in table node.owner all used.0, label_in table node.group all used.1)
