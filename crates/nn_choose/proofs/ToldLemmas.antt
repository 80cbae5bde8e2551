-- No refusal of VERSIONs tells of an image.
use Rattle.std.proofs.Common.{◌≡◌, ℕ, Bool, true, false, List, Option, Some, None}
use Rattle.std.specs.Prelude.{option_map, if◌then◌else◌}
use Rattle.nn_marks.specs.declared.key.Key.{Key}
use Rattle.nn_pick.specs.declared.fault.OpenFault.TheVariants.{Refused}
use Rattle.nn_pick.specs.declared.refusal.Refusal.{Refusal}
use Rattle.nn_pick.specs.declared.refusal.Refusal.TheVariants.{Mismatch, FutureLayout, ForeignLayout}
use Rattle.nn_choose.specs.declared.served.Lead.{Lead}
use Rattle.nn_choose.specs.declared.served.Served.{Served}
use Rattle.nn_pick.specs.Refused.{first_refused}
use Rattle.nn_pick.specs.Refusing.{first_difference}
use Rattle.nn_choose.specs.Served.{served_at, mismatch_in, future_in, is_future, foreign_in, is_foreign}
use Rattle.nn_choose.specs.Picking.{NeverMemory}
use Rattle.nn_choose.proofs.ServedLemmas.{some_refused}

key_told : (first : Lead) (i : ℕ) (key : Option Key) (r : Refusal) → option_map (λ k. Mismatch first.dir (record { 0 = i }) k) key ≡ Some r → NeverMemory (Refused r)
key_told first i None r is j e = cc
key_told first i (Some k) r is j e = cc

mismatch_is : (first : Lead) (i : ℕ) (it : Option Served) (r : Refusal) → mismatch_in first i it ≡ Some r → NeverMemory (Refused r)
mismatch_is first i None r is j e = cc
mismatch_is first i (Some it) r is j e = key_told first i (first_difference first.served.version it.version) r is j e

future_is : (i : ℕ) (it : Option Served) (r : Refusal) → future_in i it ≡ Some r → NeverMemory (Refused r)
future_is i None r is j e = cc
future_is i (Some it) r is j e = by (is_future it.version.layout) is
  where
    by : (b : Bool) → (if b then Some (FutureLayout (record { 0 = i }) it.version.layout) else None) ≡ Some r → ⊥
    by true same = cc
    by false same = cc

foreign_is : (i : ℕ) (it : Option Served) (r : Refusal) → foreign_in i it ≡ Some r → NeverMemory (Refused r)
foreign_is i None r is j e = cc
foreign_is i (Some it) r is j e = by (is_foreign it.version.layout) is
  where
    by : (b : Bool) → (if b then Some (ForeignLayout (record { 0 = i }) it.version.layout) else None) ≡ Some r → ⊥
    by true same = cc
    by false same = cc

pub mismatch_told : (first : Lead) (served : List (Option Served)) (n : ℕ) (r : Refusal) → first_refused (λ i. mismatch_in first i (served_at served i)) n ≡ Some r → NeverMemory (Refused r)
mismatch_told first served n r is = let found = some_refused (λ i. mismatch_in first i (served_at served i)) n r is in mismatch_is first found.at (served_at served found.at) r found.here

pub future_told : (served : List (Option Served)) (n : ℕ) (r : Refusal) → first_refused (λ i. future_in i (served_at served i)) n ≡ Some r → NeverMemory (Refused r)
future_told served n r is = let found = some_refused (λ i. future_in i (served_at served i)) n r is in future_is found.at (served_at served found.at) r found.here

pub foreign_told : (served : List (Option Served)) (n : ℕ) (r : Refusal) → first_refused (λ i. foreign_in i (served_at served i)) n ≡ Some r → NeverMemory (Refused r)
foreign_told served n r is = let found = some_refused (λ i. foreign_in i (served_at served i)) n r is in foreign_is found.at (served_at served found.at) r found.here
