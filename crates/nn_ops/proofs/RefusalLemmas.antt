-- Tests that are made one after the other.
use Rattle.std.proofs.Common.{◌≡◌, ◌≢◌, Bool, true, false, not, ◌||◌, List, [], ◌∷◌, ◌++◌, Option, Some, None, Result, Ok, Err, IfErr, refl, sym, ap, ◌∙◌}
use Rattle.std.specs.Result.{IsErrAnd}
use Rattle.nn_ops.specs.declared.refusal.OpRefusal.TheVariants.{Memory}
use Rattle.nn_ops.specs.declared.refusal.OpRefusal.{OpRefusal}
use Rattle.nn_base.specs.First.{when, first_of}
use Rattle.nn_base.proofs.FirstLemmas.{none_first, none_before, some_before, none_in_both}
use Rattle.nn_ops.specs.Refusals.{Test}

-- where the tests before don't apply, those behind decide
pub go_on : (before behind : List Test) (r : Option OpRefusal) → first_of before ≡ None → first_of behind ≡ r → first_of (before ++ behind) ≡ r
go_on before behind r none h = none_before before behind none ∙ h

pub first_passed : (t : Test) (rest : List Test) → first_of (t ∷ rest) ≡ None → t ≡ None
first_passed t rest h = (none_first t rest h).0

pub rest_passed : (t : Test) (rest : List Test) → first_of (t ∷ rest) ≡ None → first_of rest ≡ None
rest_passed t rest h = (none_first t rest h).1

-- the refusal of the tests behind is passed on
pub passed_on : {A : Type 0} (before behind : List Test) (result : Result A OpRefusal) (r : OpRefusal) → first_of before ≡ None → IsErrAnd result (λ x. x ≡ r) → first_of behind ≡ Some r → IfErr result (λ x. x ≢ Memory → first_of (before ++ behind) ≡ Some x)
passed_on before behind (Ok a) r none same h = tt
passed_on before behind (Err x) r none same h = λ _. go_on before behind (Some x) none (h ∙ ap Some (sym same))

-- ---- none of many tests applies

pub front_passed : (before behind : List Test) → first_of (before ++ behind) ≡ None → first_of before ≡ None
front_passed before behind h = (none_in_both before behind h).0

pub back_passed : (before behind : List Test) → first_of (before ++ behind) ≡ None → first_of behind ≡ None
back_passed before behind h = (none_in_both before behind h).1

pub left_false : (a b : Bool) → (a || b) ≡ false → a ≡ false
left_false true b h = cc
left_false false b h = refl

pub right_false : (a b : Bool) → (a || b) ≡ false → b ≡ false
right_false true b h = cc
right_false false b h = h

-- the same, where more tests come behind
pub passed_on_early : {A : Type 0} (before middle behind : List Test) (result : Result A OpRefusal) (r : OpRefusal) → first_of before ≡ None → IsErrAnd result (λ x. x ≡ r) → (r ≢ Memory → first_of middle ≡ Some r) → IfErr result (λ x. x ≢ Memory → first_of (before ++ (middle ++ behind)) ≡ Some x)
passed_on_early before middle behind (Ok a) r none same h = tt
passed_on_early before middle behind (Err x) r none same h = λ other. go_on before (middle ++ behind) (Some x) none (some_before middle behind x (h (λ e. other (same ∙ e)) ∙ ap Some (sym same)))

-- both last tests are passed
pub both_pass : (a b : Bool) (r s : OpRefusal) → a ≡ true → b ≡ true → first_of (when (not a) r ∷ when (not b) s ∷ []) ≡ None
both_pass a b r s p q = λ i. first_of (when (not (p i)) r ∷ when (not (q i)) s ∷ [])
