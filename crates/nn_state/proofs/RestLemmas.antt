-- Directories in which nothing is under way.
use Rattle.std.proofs.Common.{◌≡◌, ◌≢◌, ℕ, Bool, true, false, Result, refl, sym, ◌∙◌, ap, subst}
use Rattle.std.specs.Prelude.{is_ok, OnOk}
use Rattle.nn_base.specs.declared.sub.Sub.TheVariants.{Current, Previous}
use Rattle.nn_host.specs.Disk.{Held}
use Rattle.nn_host.specs.Moments.{State, IsLawful, disk_at}
use Rattle.nn_host.specs.Runs.{OnlyAt, Looked}
use Rattle.nn_host.proofs.WorkLemmas.{work_refl, work_weaker}
use Rattle.nn_state.specs.declared.state.StorageState.{StorageState}
use Rattle.nn_state.specs.declared.state.StorageState.TheVariants as state
use Rattle.nn_state.specs.declared.typed.Found.{Found}
use Rattle.nn_state.specs.Table.{seven_of}
use Rattle.nn_state.specs.Seat.{seat_of}
use Rattle.nn_state.specs.Typed.{IsIn, state_of, FitsFound}
use Rattle.nn_state.specs.Recovery.{SameSeat, KeepsSeat, IsRecovered, WasRecovered, HasNoTmp}
use Rattle.nn_state.proofs.TableLemmas.{at_rest, rooted, normal_seven, fresh_seven, seat_at_rest, seat_fresh}
use Rattle.nn_state.proofs.LeftLemmas.{state_left}
use Rattle.nn_state.proofs.SeatLemmas.{takes, takes_none, takes_if, unsaved_if, recovered, same_seat_refl}
use Rattle.nn_state.proofs.CallLemmas.{then_was}

pub state_old : {A : Type 0} (d : Held A) (is : StorageState) → is ≢ state.NonExistent → IsIn is d → SameSeat d d
state_old d is there fits = same_seat_refl d is fits (rooted (seven_of d) is fits there)

pub found_old : {A : Type 0} (d : Held A) (it : Found) → state_of it ≢ state.NonExistent → FitsFound it d → SameSeat d d
found_old d it there fits = state_old d (state_of it) there fits

module _ {A : Type 0} (d : Held A) where
  no_tmp : (current previous : Bool) → seven_of d ≡ at_rest current previous → HasNoTmp d
  no_tmp current previous is = record { upgrade = λ k. (is k).previous_tmp; rollback = λ k. (is k).removed_tmp; finalize = λ k. (is k).finalized_tmp; checkpoint = λ k. (is k).last_checkpoint_tmp }

  pub normal_recovered : IsIn state.Normal d → IsRecovered d d
  normal_recovered fits =
      let is = normal_seven (seven_of d) fits in
      recovered d d state.Normal fits refl (ap seat_of is ∙ seat_at_rest (d.has Previous)) refl
      (takes d d Current Current (record { there = refl; files = λ n. refl }))
      (λ none. cc)
      (takes_if d d (d.has Previous) Previous Previous (record { there = refl; files = λ n. refl }))
      (unsaved_if d d (d.has Previous) refl)
      (record { there = refl; files = λ n. refl })
      (no_tmp true (d.has Previous) is)

  pub fresh_recovered : IsIn state.NotFormatted d → IsRecovered d d
  fresh_recovered fits =
      let is = fresh_seven (seven_of d) fits in
      recovered d d state.NotFormatted fits refl (ap seat_of is ∙ seat_fresh) refl (takes_none d d Current) (λ none. record { there = refl; files = λ n. refl }) (takes_none d d Previous) (λ none k. (is k).previous) (record { there = refl; files = λ n. refl }) (no_tmp false false is)

-- ---- on the host

fits_as : {A : Type 0} (d : Held A) {state : StorageState} (it : Found) → state_of it ≡ state → FitsFound it d → IsIn state d
fits_as d it is fits = subst (λ (s : StorageState). IsIn s d) is fits

module _ {told : Type 0} (i : ℕ) (a : State) (it : Found) (lawful : told → IsLawful a) (fits : told → FitsFound it (disk_at a i)) where
  pub fresh_was : state_of it ≡ state.NotFormatted → told → WasRecovered i a a
  fresh_was is tells =
      let here = fits_as (disk_at a i) it is (fits tells) in
      record { disk = fresh_recovered (disk_at a i) here; reads = fresh_recovered (a.reads i) (state_left (disk_at a i) (a.reads i) ((lawful tells).reads i) state.NotFormatted here) }

  pub normal_was : state_of it ≡ state.Normal → told → WasRecovered i a a
  normal_was is tells =
      let here = fits_as (disk_at a i) it is (fits tells) in
      record { disk = normal_recovered (disk_at a i) here; reads = normal_recovered (a.reads i) (state_left (disk_at a i) (a.reads i) ((lawful tells).reads i) state.Normal here) }

  module _ (there : state_of it ≢ state.NonExistent) where
    pub rest_work : OnlyAt told i a a (KeepsSeat (disk_at a i))
    rest_work = work_refl (λ tells versioned. found_old (disk_at a i) it there (fits tells))

    pub looked_work : {j : ℕ} {b : State} → i ≡ j → OnlyAt told j a b (λ d. d ≡ disk_at a j) → OnlyAt told i a b (KeepsSeat (disk_at a i))
    looked_work {j} {b} same p = work_weaker (subst (λ (n : ℕ). OnlyAt told n a b (λ d. d ≡ disk_at a n)) (sym same) p) (λ tells d is versioned. subst (SameSeat (disk_at a i)) (sym is) (found_old (disk_at a i) it there (fits tells)))

  pub normal_looked : {T E : Type 0} {j : ℕ} {b : State} → state_of it ≡ state.Normal → (result : Result T E) → i ≡ j → OnlyAt told j a b (λ d. d ≡ disk_at a j) → Looked told j a b (is_ok result) → told → OnOk result (WasRecovered i a b)
  normal_looked {j = j} {b = b} is result same p looked tells = then_was (subst (λ (n : ℕ). OnlyAt told n a b (λ d. d ≡ disk_at a n)) (sym same) p) result (normal_was is) (subst (λ (n : ℕ). Looked told n a b (is_ok result)) (sym same) looked) tells
