-- One step of an image that is written: what it puts, and what is left.
use Rattle.std.proofs.Common.{◌≡◌, ℕ, zero, suc, true, inl, inr, ◌+◌, ◌-◌, ◌≤◌, ◌<◌, List, [], ◌∷◌, ◌++◌, drop, length, Option, Some, None, refl, sym, ap, ◌∙◌, arith}
use Rattle.std.specs.Prelude.{slice_get}
use Rattle.std.specs.List.{flat_map}
use Rattle.std.specs.FinMap.{get, entries}
use Rattle.std.proofs.Math.Seq.{drop-length}
use Rattle.std.proofs.lemmas.Option.{none-some, same_Some, slice_get_within}
use Rattle.nn_base.specs.Paths.{Bytes}
use Rattle.nn_strtab.specs.Numbers.{name_at}
use Rattle.nn_tree.specs.declared.node.Node.{Node}
use Rattle.nn_tree.specs.declared.spot.Spot.{Spot}
use Rattle.nn_tree.specs.Below.{entries_below, visited, count_before, IsNextBelow}
use Rattle.nn_tree.proofs.BelowLemmas.{entry_of, none_visited, one_more}
use Rattle.nn_message.specs.Messages.{Text}
use Rattle.std.proofs.lemmas.Bool.{cases_lt}
use Rattle.std.proofs.Math.ListN.{drop_of_length-le}
use Rattle.nn_message.specs.Spelling.{string, delimited}
use Rattle.nn_image.specs.Image.{numbered_from}
use Rattle.nn_image.specs.Saving.{Target, IsTarget, strings_from, ahead}
use Rattle.nn_image.proofs.ListsLemmas.{drop_at, filter_all}

numbered_at : (n k : ℕ) (table : List Bytes) (text : Bytes) → slice_get table k ≡ Some text → drop k (numbered_from n table) ≡ (let entry : Text = record { number = n + k; text = text } in entry) ∷ drop (suc k) (numbered_from n table)
unfolding numbered_from
numbered_at n k [] text at = absurd (none-some _ at)
numbered_at n zero (x ∷ table) text at = let same = same_Some x text at in let e : n ≡ n + 0 = omega arith in λ j. record { number = e j; text = same j } ∷ numbered_from (suc n) table
numbered_at n (suc k) (x ∷ table) text at =
    let e : suc n + k ≡ n + suc k = omega arith in
    numbered_at (suc n) k table text at ∙ ap (λ number. (let entry : Text = record { number = number; text = text } in entry) ∷ drop (suc k) (numbered_from (suc n) table)) e

pub length-numbered : (n : ℕ) (table : List Bytes) → length (numbered_from n table) ≡ length table
unfolding numbered_from
length-numbered n [] = refl
length-numbered n (x ∷ table) = ap suc (length-numbered (suc n) table)

-- ---- strings

pub string_next : (table : List Bytes) (number : ℕ) (text : Bytes) → name_at table number ≡ Some text
    → strings_from table number ≡ delimited (string (record { number = number; text = text })) ++ strings_from table (number + 1)
unfolding strings_from
string_next table zero text at = absurd (none-some _ at)
string_next table (suc k) text at =
    let f : Text → Bytes = λ entry. delimited (string entry) in
    let n : 1 + k ≡ suc k = omega arith in
    let here : suc k - 1 ≡ k = omega arith in
    let next : suc k ≡ suc k + 1 - 1 = omega arith in
    ap (λ i. flat_map f (drop i (numbered_from 1 table))) here ∙ ap (flat_map f) (numbered_at 1 k table text at)
    ∙ (λ j. f (record { number = n j; text = text }) ++ flat_map f (drop (next j) (numbered_from 1 table)))

pub strings_over : (table : List Bytes) (number : ℕ) → length table < number → strings_from table number ≡ []
unfolding strings_from
strings_over table number over = ap (flat_map (λ entry. delimited (string entry))) (drop_of_length-le (numbered_from 1 table) (let e = length-numbered 1 table in omega arith))

-- behind the last name there is none
pub number_over : (table : List Bytes) (number : ℕ) → 1 ≤ number → name_at table number ≡ None → length table < number
number_over table zero some none = absurd (omega arith)
number_over table (suc k) some none = elim (cases_lt k (length table)) as (λ _. length table < suc k) [
  | inl within ↦ absurd (by table k within none)
  | inr over ↦ omega arith
]
  where
    by : (table : List Bytes) (k : ℕ) → k < length table → slice_get table k ≡ None → ⊥
    by [] k within none = absurd (omega arith)
    by (x ∷ table) zero within none = none-some x (sym none)
    by (x ∷ table) (suc k) within none = by table k (omega arith) none

pub number_within : (table : List Bytes) (number : ℕ) (text : Bytes) → name_at table number ≡ Some text → number ≤ length table
number_within table zero text at = omega arith
number_within table (suc k) text at = let w = slice_get_within table k text at in omega arith

module _ (t : Target) where
  -- ---- the walk

  entries_all : entries_below t.ns.nodes [] ≡ entries t.ns.nodes
  entries_all = filter_all (entries t.ns.nodes)

  pub ahead_all : IsTarget t → ahead t (Some t.task.root) ≡ entries t.ns.nodes
  unfolding ahead
  ahead_all is =
      let none : count_before t.ns.nodes [] (t.place t.task.root) ≡ 0 = ap (count_before t.ns.nodes []) is.top ∙ none_visited t.ns.nodes [] in
      (λ j. drop (none j) (entries_all j))

  pub ahead_none : ahead t None ≡ []
  unfolding ahead
  ahead_none = drop-length (entries_below t.ns.nodes [])

  pub ahead_next : (s : Spot) (node : Node) (to : Option Spot) → get t.ns.nodes (t.place s) ≡ Some node → t.has s ≡ true → IsNextBelow to t.has t.place t.ns.nodes [] (t.place s)
      → ahead t (Some s) ≡ (t.place s, node) ∷ ahead t to
  unfolding ahead
  ahead_next s node to there has next =
      let stands = entry_of t.ns.nodes [] (t.place s) node refl there in
      let one = one_more t.ns.nodes [] t.has t.place (Some s) to s node refl (has, refl) there next in
      let e : suc (count_before t.ns.nodes [] (t.place s)) ≡ visited t.ns.nodes [] t.place to = omega (arith, one) in
      drop_at (entries_below t.ns.nodes []) (count_before t.ns.nodes [] (t.place s)) (t.place s, node) stands
      ∙ ap (λ n. (t.place s, node) ∷ drop n (entries_below t.ns.nodes [])) e
