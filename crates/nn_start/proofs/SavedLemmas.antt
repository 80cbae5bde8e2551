-- Whether a chosen directory has a saved state, by the types of those that were recovered.
use Rattle.std.proofs.Common.{◌≡◌, inl, inr, ℕ, ◌<◌, Bool, true, false, List, Option, Some, None, Result, refl, sym, ◌∙◌, ap, subst, arith, true≢false}
use Rattle.std.specs.Prelude.{◌↔◌}
use Rattle.std.proofs.lemmas.Bool.{cases_Bool}
use Rattle.nn_base.specs.declared.sub.Sub.{Sub}
use Rattle.nn_base.specs.declared.sub.Sub.TheVariants.{Previous}
use Rattle.nn_host.specs.Disk.{Disk, Reads}
use Rattle.nn_host.specs.Moments.{State, IsLawful, disk_at}
use Rattle.nn_state.specs.declared.state.Seven.{Seven}
use Rattle.nn_state.specs.declared.state.StorageState.{StorageState}
use Rattle.nn_state.specs.declared.state.Why.{Why}
use Rattle.nn_state.specs.declared.typed.Settled.{Settled}
use Rattle.nn_state.specs.declared.typed.Settled.TheVariants as settled
use Rattle.nn_state.specs.Table.{seven_of}
use Rattle.nn_state.specs.Seat.{seat_of, seat_by, saved}
use Rattle.nn_state.specs.Typed.{FitsSettled}
use Rattle.nn_state.specs.Recovery.{SameFolder}
use Rattle.nn_state.specs.Bays.{IsAt, AreSettled, AllRecovered}
use Rattle.nn_state.proofs.LeftLemmas.{seven_left}
use Rattle.nn_pick.specs.declared.intent.Intent.{Intent}
use Rattle.nn_pick.specs.Dirs.{IsAmongChosen}
use Rattle.nn_pick.specs.Refusing.{IsUnrefused, IsChosenWithPrevious}
use Rattle.nn_choose.specs.Looking.{OnlyLooked, dirs_read}
use Rattle.nn_start.specs.Entry.{AllKeepSeats, SettledFitNow, SomeSaved, NoneSaved}
use Rattle.nn_start.proofs.BringLemmas.{unsaved_by}
use Rattle.nn_start.proofs.ReadyLemmas.{settled_at}
use Rattle.nn_start.proofs.ReopenLemmas.{versioned}

-- no previous is there, and none serves
unsaved_fits : (it : Settled) (d : Disk) → FitsSettled it d → d.has Previous ≡ false → saved d ≡ None
unsaved_fits (settled.Ready it) d fits none = unsaved_by d fits.normal none
unsaved_fits (settled.ReadyWithPrevious it) d fits none = absurd (true≢false (sym fits.something_saved ∙ none))
unsaved_fits (settled.Fresh it) d fits none = ap (λ (r : Result StorageState Why). (seat_by r (seven_of d)).previous) fits

-- a folder that serves doesn't stop to
lost : (before now : Option Sub) (old new : Disk) → SameFolder before now old new → now ≡ None → before ≡ None
lost None now old new same gone = refl
lost (Some a) None old new same gone = absurd same
lost (Some a) (Some b) old new same gone = cc

module _ {told : Type 0} {a b c : State} (looked : OnlyLooked told a b) (tells : told) (lawful : IsLawful b) (intent : Intent) (unrefused : IsUnrefused (dirs_read a) intent) (chosen : ℕ → Bool) (greatest : (i : ℕ) → IsAmongChosen (dirs_read a) i ↔ (chosen i ≡ true))
    (at : List Settled) (are : AreSettled b.count at) (fits : SettledFitNow at c) (all : AllRecovered b c) (seats : AllKeepSeats b c) where
  inside : (k : ℕ) (it : Settled) → IsAt at k it → k < b.count
  inside k it is = omega (arith, is.within, are.all)

  -- what is saved, on the disk as it reads
  same_saved : (k : ℕ) → saved (disk_at b k) ≡ saved (a.reads k)
  same_saved k = sym (ap (λ (s : Seven). (seat_of s).previous) (seven_left (disk_at b k) (b.reads k) (lawful.reads k))) ∙ ap (λ (r : Reads). saved r) (looked.reads tells k)

  some_has : SomeSaved at chosen → (i : ℕ) × IsChosenWithPrevious (dirs_read a) i
  some_has (k, it, is, chosen_one, has) = (
    k,
    (
      (greatest k).1 (subst (λ (n : ℕ). chosen n ≡ true) (are.placed k it is) chosen_one),
      λ none. true≢false (sym (has (disk_at c k) (fits k it is)) ∙ (all k (inside k it is)).disk.unsaved (same_saved k ∙ none)),
    ),
  )

  none_has : NoneSaved at chosen → ¬ ((i : ℕ) × IsChosenWithPrevious (dirs_read a) i)
  none_has none (i, (among, has)) =
      let below : i < b.count = subst (λ (n : ℕ). i < n) (sym looked.untouched.count) among.3.ahead.below in
      let here = settled_at at i (omega (arith, below, are.all)) in
      let chosen_one = subst (λ (n : ℕ). chosen n ≡ true) (sym (are.placed i here.0 here.1)) ((greatest i).0 among) in
      let gone = unsaved_fits here.0 (disk_at c i) (fits i here.0 here.1) (none i here.0 here.1 chosen_one (disk_at c i) (fits i here.0 here.1)) in
      let seat = seats i below (versioned looked tells lawful intent unrefused i among.3.ahead.below) in
      has (sym (same_saved i) ∙ lost (saved (disk_at b i)) (saved (disk_at c i)) (disk_at b i) (disk_at c i) seat.previous gone)

  pub saved_tells : (result : Bool) → (result ≡ true → SomeSaved at chosen) → (result ≡ false → NoneSaved at chosen) → (result ≡ true) ↔ ((i : ℕ) × IsChosenWithPrevious (dirs_read a) i)
  saved_tells result some none = (
    λ e. some_has (some e),
    λ has. elim (cases_Bool result) [ inl is ↦ is | inr isnt ↦ absurd (none_has (none isnt) has) ],
  )
