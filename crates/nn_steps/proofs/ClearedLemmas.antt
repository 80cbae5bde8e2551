-- A directory of which what serves as current stays, and what serves as previous stays or is gone; and one that is cleared.
use Rattle.std.proofs.Common.{◌≡◌, ◌⊎◌, inl, inr, ⊎_elim, Option, None, refl, sym, ◌∙◌, ap, true≢false}
use Rattle.std.specs.Prelude.{is_some}
use Rattle.nn_base.specs.declared.sub.Sub.{Sub}
use Rattle.nn_host.specs.Disk.{Disk, Reads, Leaves}
use Rattle.nn_state.specs.declared.state.StorageState.TheVariants.{Normal, NotFormatted, CompleteFinalize}
use Rattle.nn_state.specs.Seat.{saved}
use Rattle.nn_remake.specs.Clearing.{KeepsCurrent}
use Rattle.nn_remake.proofs.ClearingLemmas.{giving_keeps}
use Rattle.nn_marks.specs.declared.version.Version.{Version}
use Rattle.nn_tree.specs.Namespace.{Namespace}
use Rattle.nn_chain.specs.Chain.{Reached}
use Rattle.nn_kept.specs.Ends.{EndsAt}
use Rattle.std.specs.Prelude.{Bool}
use Rattle.nn_kept.specs.Kept.{Shared, HasState, IsKept}
use Rattle.nn_kept.specs.Laws.{IsOutranked, EachLeft}
use Rattle.nn_kept.specs.Onward.{HasSameSeat, IsCutFrom}
use Rattle.nn_kept.proofs.KeptOnwardLemmas.{same_seat_is_kept, cut_is_kept}
use Rattle.nn_steps.specs.Steps.{ClearingKeeps, GivingUpKeeps, GivingUpEnds}
use Rattle.nn_steps.proofs.MadeLemmas.{fresh_is_kept}
use Rattle.nn_steps.proofs.SeatLemmas.{LeftCut, left_cut, has_state, neither}
use Rattle.nn_steps.proofs.RecoveredLemmas.{served}

keeps_state : (old d : Disk) (c : Reads) → Leaves d c → KeepsCurrent old d → HasState c
keeps_state old d c leaves is = elim is.state [
  | inl rest ↦ elim rest [ inl normal ↦ has_state d c leaves is.root Normal normal | inr fresh ↦ has_state d c leaves is.root NotFormatted fresh ]
  | inr finalizing ↦ has_state d c leaves is.root CompleteFinalize finalizing
]

module _ (shared : Shared) (old d : Disk) (is : KeepsCurrent old d) (c : Reads) (leaves : Leaves d c) where
  it : LeftCut old d c
  it = left_cut old d c leaves is.current is.previous

  cut_from : IsCutFrom it.before c
  cut_from = record {
    state = keeps_state old d c leaves is;
    current = λ folder serves. (folder, served it.before c it.unserved it.current folder serves, refl, refl);
    previous = it.previous;
  }

  outranked : IsOutranked shared it.before → IsOutranked shared c
  outranked low v a under = low v a (record { serves = served it.before c it.unserved it.current a under.serves; says = under.says })

  -- without a previous the seat is the same
  none_saved : saved old ≡ None → is_some (saved c) ≡ is_some (saved it.before)
  none_saved none =
      let here : saved d ≡ None = ⊎_elim (λ held. neither old d c (saved old) (saved d) held none) (λ gone. gone) is.previous in
      ap (λ (o : Option Sub). is_some o) (it.saved_here ∙ here ∙ sym none ∙ sym it.saved_before)

  same_seat : saved old ≡ None → HasSameSeat it.before c
  same_seat none = record { state = cut_from.state; unserved = it.unserved; current = it.current; previous = it.previous; there = none_saved none }

  kept_here : IsKept shared it.before → IsOutranked shared it.before ⊎ (saved old ≡ None) → IsKept shared c
  kept_here kept (inl low) = cut_is_kept shared it.before c cut_from kept low (λ v a under. inl (outranked low v a under))
  kept_here kept (inr none) = same_seat_is_kept shared it.before c (same_seat none) kept

pub keeps_current : (shared : Shared) (old d : Disk) → EachLeft old (IsKept shared) → EachLeft old (IsOutranked shared) ⊎ (saved old ≡ None) → KeepsCurrent old d → EachLeft d (IsKept shared)
unfolding it
keeps_current shared old d kept either is c leaves fair =
    let it = left_cut old d c leaves is.current is.previous in
    kept_here shared old d is c leaves (kept it.before it.left (it.fair fair)) (⊎_elim (λ low. inl (low it.before it.left (it.fair fair))) (λ none. inr none) either)

pub clearing_keeps : ClearingKeeps
clearing_keeps shared old d kept either is = ⊎_elim
    (λ fresh. fresh_is_kept shared d fresh)
    (λ keeps. record {
      kept = keeps_current shared old d kept either keeps;
      run = λ e. absurd (true≢false (sym e));
      led = λ e. absurd (true≢false (sym e));
    })
    is

-- ---- its previous is given up

pub giving_up_keeps : GivingUpKeeps
unfolding it
giving_up_keeps shared old d rest behind is c leaves fair =
    let keeps = giving_keeps old d rest is in
    let it = left_cut old d c leaves keeps.current keeps.previous in
    let was = behind it.before it.left (it.fair fair) in
    (kept_here shared old d keeps c leaves was.0 (inl was.1), outranked shared old d keeps c leaves was.1)

-- what serves as current ends where it ended, with its previous or without
module _ (version : Version) (has : Bool) (what : Option Namespace) (end : Reached) (old d : Disk) (keeps : KeepsCurrent old d) (c : Reads) (leaves : Leaves d c) where
  abbrev before : LeftCut old d c
  before = left_cut old d c leaves keeps.current keeps.previous

  given_up_ends : EndsAt before.before version has what end → EndsAt c version (is_some (saved c)) what end
  given_up_ends is = record {
    state = keeps_state old d c leaves keeps;
    folder = is.folder;
    under = record { serves = before.current is.folder is.under.serves; says = is.under.says };
    chain = is.chain;
    bare = is.bare;
    seen = is.seen;
    previous = refl;
    holds = λ previous serves. (
        let it = is.holds previous (before.previous previous serves) in
        record { sound = it.sound; own = it.own; end = it.end; chain = record { serves = serves; says = it.chain.says; chain = it.chain.chain }; is = it.is; low = it.low; bare = it.bare }
        );
  }

pub giving_up_ends : GivingUpEnds
giving_up_ends version has what list lo hi old d rest ends is c leaves fair =
    let keeps = giving_keeps old d rest is in
    let it = left_cut old d c leaves keeps.current keeps.previous in
    let was = ends it.before it.left (it.fair fair) in
    (was.0, was.1, was.2, given_up_ends version has what (record { last = was.0; ns = list was.0 }) old d keeps c leaves was.3)
