-- The directories of one cTime, from directory to directory.
use Rattle.std.proofs.Common.{◌≡◌, ◌≢◌, inl, inr, ℕ, ◌+◌, Bool, true, false, List, Option, Some, sym, ◌∙◌, subst, arith}
use Rattle.std.specs.Prelude.{◌==◌, ◌||◌}
use Rattle.std.proofs.lemmas.Bool.Decides.{eqb_tells}
use Rattle.nn_choose.specs.declared.served.Served.{Served}
use Rattle.nn_choose.specs.Served.{AreOfCtime, served_at}
use Rattle.nn_choose.proofs.BetterLemmas.{with_here, with_others}

pub none_alike : (served : List (Option Served)) (ctime : ℕ) (none : ℕ → Bool) → ((i : ℕ) → none i ≡ false) → AreOfCtime served ctime 0 none
none_alike served ctime none empty i = (λ is. let other : true ≡ false = sym is ∙ empty i in cc, λ it. absurd (omega (arith, it.1)))

-- one more of them
pub alike_more : (served : List (Option Served)) (ctime n : ℕ) (old new : ℕ → Bool) (it : Served) → served_at served n ≡ Some it → it.version.ctime ≡ ctime → ((j : ℕ) → new j ≡ ((j == n) || old j)) → AreOfCtime served ctime n old → AreOfCtime served ctime (n + 1) new
alike_more served ctime n old new it at same with_n alike i = elim (eqb_tells i n) [
  | inl here ↦ (
    λ is. (it, omega (arith, here.1), subst (λ (k : ℕ). served_at served k ≡ Some it) (sym here.1) at, same),
    λ its. subst (λ (k : ℕ). new k ≡ true) (sym here.1) (with_here new old n with_n),
  )
  | inr apart ↦ (
    λ is. let found = (alike i).0 (sym (with_others new old n with_n i apart.1) ∙ is) in (found.0, omega (arith, found.1), found.2, found.3),
    λ its. with_others new old n with_n i apart.1 ∙ (alike i).1 (its.0, omega (arith, its.1, apart.1), its.2, its.3),
  )
]

-- or one that isn't
pub alike_stays : (served : List (Option Served)) (ctime n : ℕ) (are : ℕ → Bool) → ((it : Served) → served_at served n ≡ Some it → it.version.ctime ≢ ctime) → AreOfCtime served ctime n are → AreOfCtime served ctime (n + 1) are
alike_stays served ctime n are other alike i = (
  λ is. let found = (alike i).0 is in (found.0, omega (arith, found.1), found.2, found.3),
  λ its. elim (eqb_tells i n) [
    | inl here ↦ absurd (other its.0 (subst (λ (k : ℕ). served_at served k ≡ Some its.0) here.1 its.2) its.3)
    | inr apart ↦ (alike i).1 (its.0, omega (arith, its.1, apart.1), its.2, its.3)
  ],
)
