-- The directories that have a saved state, found in order.
use Rattle.std.proofs.Common.{◌≡◌, inl, inr, ℕ, ◌+◌, ◌<◌, ◌≤◌, ◌==◌, ◌||◌, get_or, Bool, true, false, List, length, sym, ◌∙◌, ap, subst, arith}
use Rattle.std.proofs.lemmas.Bool.Decides.{eqb_tells}
use Rattle.std.proofs.lemmas.List.{get_or_default}
use Rattle.nn_base.specs.declared.ids.DirNo.{DirNo}
use Rattle.nn_base.specs.DirSets.{Members, has}
use Rattle.nn_base.specs.declared.sub.Sub.TheVariants.{Previous}
use Rattle.nn_host.specs.Disk.{Disk}
use Rattle.nn_state.specs.declared.typed.Settled.{Settled}
use Rattle.nn_state.specs.Typed.{FitsSettled, dir_in}
use Rattle.nn_state.specs.Bays.{IsAt}
use Rattle.nn_host.specs.Moments.{State, disk_at}
use Rattle.nn_state.specs.Bays.{AreSettled}
use Rattle.nn_start.specs.Entry.{SettledFitNow}
use Rattle.nn_start.proofs.ReadyLemmas.{settled_at}
use Rattle.nn_begin.specs.Begun.{IsPlaced, HoldsBy}
use Rattle.nn_begin.proofs.MomentLemmas.{HoldPrevious}

-- the holders of a journal have a saved state, as their states say
pub hold_previous : {at : List Settled} {holders other : Members} (a : State) → other ≡ holders → HoldsBy at (has holders) → AreSettled a.count at → SettledFitNow at a → HoldPrevious other a
hold_previous {at} {holders} {other} a same holds are fits j below =
    let here = settled_at at j (let long = are.all in omega (arith, below, long)) in
    ap (λ (set : Members). has set j) same ∙ holds j here.0 here.1 (disk_at a j) (fits j here.0 here.1)

-- those of the first k
pub record Holding (at : List Settled) (k : ℕ) (set : Members) : Type 0 where
  pub before : (j : ℕ) (it : Settled) → j < k → IsAt at j it → (d : Disk) → FitsSettled it d → has set j ≡ d.has Previous
  pub after : (j : ℕ) → k ≤ j → has set j ≡ false

pub holding_none : {at : List Settled} {set : Members} → ((j : ℕ) → has set j ≡ false) → Holding at 0 set
holding_none {at} {set} empty = record { before = λ j it below. absurd (omega (arith, below)); after = λ j least. empty j }

-- one place has one state
same_at : (at : List Settled) (k : ℕ) (x y : Settled) → IsAt at k x → IsAt at k y → y ≡ x
same_at at k x y p q = q.is ∙ get_or_default at k y x q.within ∙ sym p.is

-- an element stands at its place
pub element_at : (at : List Settled) (k : ℕ) (d : Settled) → k < length at → IsAt at k (get_or at k d)
element_at at k d within = record { within = within; is = get_or_default at k d (get_or at k d) within }

pub element_there : (at there : List Settled) (k : ℕ) (d : Settled) → there ≡ at → k < length at → IsAt at k (get_or there k d)
element_there at there k d same within = subst (λ (xs : List Settled). IsAt at k (get_or xs k d)) (sym same) (element_at at k d within)

module _ {at : List Settled} {k : ℕ} {set : Members} {it : Settled} {saves : Bool} (so_far : Holding at k set) (here : IsAt at k it) (placed : IsPlaced k it) (tells : (d : Disk) → FitsSettled it d → d.has Previous ≡ saves) where
  fits_here : (j : ℕ) (other : Settled) (d : Disk) → j ≡ k → IsAt at j other → FitsSettled other d → d.has Previous ≡ saves
  fits_here j other d same is fits = tells d (subst (λ (s : Settled). FitsSettled s d) (same_at at k it other here (subst (λ (n : ℕ). IsAt at n other) same is)) fits)

  pub holding_more : {more : Members} (dir : DirNo) → saves ≡ true → dir ≡ dir_in it → ((j : ℕ) → has more j ≡ ((j == dir.0) || has set j)) → Holding at (k + 1) more
  holding_more {more} dir saved same_dir added =
      let number : dir.0 ≡ k = ap (λ (n : DirNo). n.0) same_dir ∙ placed.here in
      record {
        before = λ j other below is d fits. elim (eqb_tells j k) [
          | inl same ↦ added j ∙ ap (λ (n : ℕ). (j == n) || has set j) number ∙ ap (λ (b : Bool). b || has set j) same.0 ∙ sym (fits_here j other d same.1 is fits ∙ saved)
          | inr differs ↦ added j ∙ ap (λ (n : ℕ). (j == n) || has set j) number ∙ ap (λ (b : Bool). b || has set j) differs.0 ∙ so_far.before j other (let apart = differs.1 in grind (arith, below, apart)) is d fits
        ];
        after = λ j least. elim (eqb_tells j k) [
          | inl same ↦ absurd (omega (arith, least, same.1))
          | inr differs ↦ added j ∙ ap (λ (n : ℕ). (j == n) || has set j) number ∙ ap (λ (b : Bool). b || has set j) differs.0 ∙ so_far.after j (omega (arith, least))
        ];
      }

  pub holding_past : saves ≡ false → Holding at (k + 1) set
  holding_past lacks = record {
    before = λ j other below is d fits. elim (eqb_tells j k) [
      | inl same ↦ so_far.after j (omega (arith, same.1)) ∙ sym (fits_here j other d same.1 is fits ∙ lacks)
      | inr differs ↦ so_far.before j other (let apart = differs.1 in grind (arith, below, apart)) is d fits
    ];
    after = λ j least. so_far.after j (omega (arith, least));
  }
