-- Settled directories that are picked from and then recovered.
use Rattle.std.proofs.Common.{◌≡◌, inl, inr, ℕ, ◌<◌, true, List, Option, Some, sym, ◌∙◌, ap, subst, arith}
use Rattle.std.specs.Prelude.{is_some}
use Rattle.std.proofs.lemmas.Option.{none-some, same_Some}
use Rattle.nn_base.specs.declared.file_name.FileName.TheVariants as name
use Rattle.nn_host.specs.Disk.{Disk, Reads, Leaves}
use Rattle.nn_host.specs.Moments.{State, IsLawful, disk_at}
use Rattle.nn_host.proofs.RunsLemmas.{throughout_trans, throughout_weaker}
use Rattle.nn_state.specs.declared.state.Seven.{Seven}
use Rattle.nn_state.specs.declared.typed.Found.{Found}
use Rattle.nn_state.specs.declared.typed.Settled.{Settled}
use Rattle.nn_state.specs.Table.{table_of}
use Rattle.nn_state.specs.Seat.{seat_of, serving}
use Rattle.nn_state.specs.Typed.{FitsFound}
use Rattle.nn_state.specs.Recovery.{HasServingVersion, KeepsSeat}
use Rattle.nn_state.specs.Bays.{FitAll, AreSettled, SettledFit, EachKeepsSeat}
use Rattle.nn_chain.specs.Folder.{Folder, folder_at}
use Rattle.nn_state.proofs.LeftLemmas.{seven_left, some_left}
use Rattle.nn_marks.specs.declared.version.Version.{Version}
use Rattle.nn_pick.specs.declared.intent.Intent.{Intent}
use Rattle.nn_pick.specs.Dirs.{ServesUnder}
use Rattle.nn_pick.specs.Refusing.{IsUnrefused}
use Rattle.nn_kept.proofs.UnrefusedLemmas.{read}
use Rattle.nn_choose.specs.Looking.{OnlyLooked, dirs_read}
use Rattle.nn_choose.specs.Picking.{AreStates}
use Rattle.nn_start.specs.Entry.{ReopensAtAnyMoment, AllKeepSeats, SettledFitNow}

-- ---- looks, and then a recovery

module _ {told : Type 0} {a b c : State} (looked : OnlyLooked told a b) (recovery : EachKeepsSeat told b c) where
  pub then_recovered : ReopensAtAnyMoment told a c
  then_recovered = throughout_trans
      (throughout_weaker looked.untouched (λ tells m same. inl same))
      (throughout_weaker recovery (λ tells m each. inr (record { at = λ j below. subst (λ (d : Disk). KeepsSeat d (m.dirs j).disk) ((looked.untouched.ends tells).disks j) (each.at j (subst (λ (n : ℕ). j < n) (sym looked.untouched.count) below)) })))

  pub seats_kept : told → AllKeepSeats a c
  seats_kept tells j below = subst (λ (d : Disk). KeepsSeat d (disk_at c j)) ((looked.untouched.ends tells).disks j) ((recovery.ends tells).at j (subst (λ (n : ℕ). j < n) (sym looked.untouched.count) below))

-- ---- the states that were found

-- a state that was found by what reads fits the disk
pub found_fits : (d : Disk) (r : Reads) → Leaves d r → (it : Found) → FitsFound it r → FitsFound it d
found_fits d r leaves it fits = ap table_of (sym (seven_left d r leaves)) ∙ fits

module _ {told : Type 0} {a b : State} (looked : OnlyLooked told a b) (tells : told) (lawful : IsLawful b) where
  pub all_fit : (found : List Found) → AreStates (dirs_read a) found → FitAll found b
  all_fit found states k it is = found_fits (disk_at b k) (b.reads k) (lawful.reads k) it (subst (FitsFound it) (sym (looked.reads tells k)) (states.each k it is))

  -- what serves in a directory that isn't refused has VERSION
  pub versioned : (intent : Intent) → IsUnrefused (dirs_read a) intent → (k : ℕ) → k < a.count → HasServingVersion (disk_at b k)
  versioned intent unrefused k below sub serves = elim (read (dirs_read a) intent unrefused k below) [
    | inl none ↦ absurd (none-some sub (sym none ∙ serves_read))
    | inr it ↦ sym (some_left ((disk_at b k).file sub name.Version) ((b.reads k).file sub name.Version) ((lawful.reads k).files sub name.Version)) ∙ has it.0 it.1 it.2
  ]
    where
      serves_read : serving (a.reads k) ≡ Some sub
      serves_read = ap (λ (r : Reads). serving r) (sym (looked.reads tells k)) ∙ ap (λ (s : Seven). (seat_of s).current) (seven_left (disk_at b k) (b.reads k) (lawful.reads k)) ∙ serves

      has : (v : Version) (folder : Folder) → ServesUnder (a.reads k) v folder → is_some ((b.reads k).file sub name.Version) ≡ true
      has v folder under =
          let same : folder ≡ folder_at (a.reads k) sub = under.serves.is ∙ ap (folder_at (a.reads k)) (same_Some under.serves.sub sub (sym under.serves.serves ∙ serves_read)) in
          let there : (b.reads k).file sub name.Version ≡ Some under.says.0 = ap (λ (r : Reads). r.file sub name.Version) (looked.reads tells k) ∙ sym (ap (λ (f : Folder). f name.Version) same) ∙ under.says.1 in
          ap (λ (o : Option (List ℕ)). is_some o) there

  pub all_settled_fit : (c : State) (intent : Intent) → IsUnrefused (dirs_read a) intent → (at : List Settled) → AreSettled b.count at → SettledFit at b c → SettledFitNow at c
  all_settled_fit c intent unrefused at are fit k it is = fit k it is (versioned intent unrefused k (omega (arith, is.within, are.all, looked.untouched.count)))
