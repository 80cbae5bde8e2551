-- A list of one directory, as it was found.
use Rattle.std.proofs.Common.{◌≡◌, ◌≢◌, ℕ, zero, suc, List, [], ◌∷◌, refl, sym, ◌∙◌, ap, subst, arith}
use Rattle.nn_host.specs.Moments.{State, disk_at}
use Rattle.nn_state.specs.declared.state.StorageState.{StorageState}
use Rattle.nn_state.specs.declared.state.StorageState.TheVariants as state
use Rattle.nn_state.specs.declared.typed.Found.{Found}
use Rattle.nn_state.specs.Typed.{state_of, dir_of, FitsFound}
use Rattle.nn_state.specs.Bays.{IsAt, AreFound, FitAll}

at_one : (it other : Found) (k : ℕ) → IsAt (it ∷ []) k other → (k ≡ 0) × (other ≡ it)
at_one it other zero is = (refl, is.is)
at_one it other (suc k) is = absurd (omega (arith, is.within))

pub one_found : (n : ℕ) (items : List Found) (it : Found) → n ≡ 1 → items ≡ it ∷ [] → state_of it ≢ state.NonExistent → (dir_of it).0 ≡ 0 → AreFound n items
one_found n items it one is there dir = subst (λ (xs : List Found). AreFound n xs) (sym is) (record {
  all = sym one;
  placed = λ k other at. let here = at_one it other k at in ap (λ (x : Found). (dir_of x).0) here.1 ∙ dir ∙ sym here.0;
  there = λ k other at gone. there (ap state_of (sym (at_one it other k at).1) ∙ gone);
})

pub one_fits : (s : State) (items : List Found) (it : Found) → items ≡ it ∷ [] → FitsFound it (disk_at s 0) → FitAll items s
one_fits s items it is fits = subst (λ (xs : List Found). FitAll xs s) (sym is) (λ k other at.
    let here = at_one it other k at in
    subst (λ (n : ℕ). FitsFound other (disk_at s n)) (sym here.0) (subst (λ (x : Found). FitsFound x (disk_at s 0)) (sym here.1) fits))
