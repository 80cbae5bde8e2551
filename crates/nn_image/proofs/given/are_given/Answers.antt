use Rattle.std.proofs.Common.{ℕ, ◌≡◌, ◌≢◌, ◌≤◌, List, All, nat_eq, sym, subst, arith}
use Rattle.std.specs.List.{AllPairs}
use Rattle.std.specs.List.Sorted.{IsPermutation, IsStrictlyIncreasing, IsSortedByKey}
use Rattle.std.specs.Ordering.{nat_cmp}
use Rattle.std.proofs.lemmas.List.Sorted.{IsPermutation-sym, All-permutation, IsNonDecreasingBy-from_sort}
use Rattle.std.proofs.lemmas.List.Kept.{AllPairs-from_increasing}
use Rattle.std.proofs.lemmas.Map.Keys.{IsDistinct-IsPermutation, IsStrictlyIncreasing-from_distinct}
use Rattle.std.proofs.lemmas.Map.Made.{IsDistinct-from_AllPairs}
use Rattle.std.proofs.lemmas.Bool.Decides.{Decides-eqb, nat_tests}
use Rattle.nn_tree.specs.Imaged.{AreGiven}
use Rattle.nn_image.proofs.given.are_given.Goals as goal

flips : (x y : ℕ) → nat_eq x y ≡ nat_eq y x
flips x y = grind (arith, nat_tests)

-- in order, equal ids are neighbours
rises : (ids sorted : List ℕ) (last : ℕ) → IsPermutation ids sorted → IsSortedByKey (λ id. id) nat_cmp sorted → AreGiven ids last → IsStrictlyIncreasing sorted
rises ids sorted last p s given = IsStrictlyIncreasing-from_distinct sorted (IsNonDecreasingBy-from_sort (λ id. id) sorted s) (IsDistinct-IsPermutation nat_eq flips ids sorted p given.once)

given : (ids sorted : List ℕ) (last : ℕ) → IsPermutation ids sorted → IsStrictlyIncreasing sorted → All (λ id. id ≤ last) sorted → AreGiven ids last
given ids sorted last p rises within =
    let back = IsPermutation-sym ids sorted p in
    let apart : AllPairs (λ x y. x ≢ y) sorted = λ i j d less in_range. let h = AllPairs-from_increasing sorted rises i j d less in_range in omega arith in
    record {
      once = IsDistinct-IsPermutation nat_eq flips sorted ids back (IsDistinct-from_AllPairs Decides-eqb sorted apart);
      within = All-permutation (λ id. id ≤ last) sorted ids back within;
    }

pub returns-then-once : goal.returns-then-once
returns-then-once c =
    let ids = c.args.ids.now.items in
    let at = c.deref.ensures.value in
    let also = c.deref-then-once.ensures.value in
    let p = c.sort_unstable.ensures.permutation in (
      λ true. given ids _ c.args.last p (subst IsStrictlyIncreasing at (c.rise-once.ensures.0 c.if-once.true)) (subst (All (λ id. id ≤ c.args.last)) also (c.are_within.ensures.0 true)),
      λ g. c.are_within.ensures.1 (subst (All (λ id. id ≤ c.args.last)) (sym also) (All-permutation (λ id. id ≤ c.args.last) _ _ p g.within)),
    )

pub returns-else-once : goal.returns-else-once
returns-else-once c =
    let ids = c.args.ids.now.items in
    let rise = λ (g : AreGiven ids c.args.last). c.rise-once.ensures.1 (subst IsStrictlyIncreasing (sym c.deref.ensures.value) (rises ids _ c.args.last c.sort_unstable.ensures.permutation c.sort_unstable.ensures.sorted g)) in
    (λ true. absurd (cc), λ g. rise g)
