-- Directories that are settled, and then opened.
use Rattle.std.proofs.Common.{◌≡◌, inl, inr, ⊎_elim, ℕ, ◌<◌, Bool, Result, Ok, Err, sym, ◌∙◌, subst, List, true}
use Rattle.std.specs.Prelude.{IsErrAnd, OnOk, IfErr, IfOk}
use Rattle.nn_base.specs.declared.ids.DirNo.{DirNo}
use Rattle.nn_host.specs.Disk.{Disk, Reads}
use Rattle.nn_host.specs.Moments.{Dir, Moment, State, IsLawful, disk_at}
use Rattle.nn_host.specs.Runs.{EachDir, Undisturbed, SameCounts}
use Rattle.nn_host.proofs.RunsLemmas.{throughout_trans, throughout_weaker, counts_trans, rose_then}
use Rattle.nn_state.specs.Recovery.{KeepsSeat, IsRecovered}
use Rattle.nn_state.specs.declared.typed.Settled.{Settled}
use Rattle.nn_state.specs.Bays.{AreSettled, AllRecovered}
use Rattle.nn_pick.specs.declared.intent.Intent.TheVariants.{Start}
use Rattle.nn_pick.specs.declared.fault.OpenFault.{OpenFault}
use Rattle.nn_pick.specs.declared.fault.OpenFault.TheVariants.{Refused, Failed, Memory}
use Rattle.nn_pick.specs.Dirs.{Dirs}
use Rattle.nn_pick.specs.Opening.{AreSound}
use Rattle.nn_kept.specs.Kept.{Shared}
use Rattle.nn_kept.specs.First.{IsFirst, AreKeptFirst}
use Rattle.nn_kept.specs.Laws.{AllKept, IsKeptDisk}
use Rattle.nn_kept.proofs.KeptFirstLemmas.{sound_is_kept, settled_is_kept}
use Rattle.nn_steps.proofs.RecoveredLemmas.{recovering_keeps}
use Rattle.nn_choose.specs.Looking.{dirs_read}
use Rattle.nn_open.specs.Answers.{settled_disk, EachAsBefore}
use Rattle.nn_start.specs.Entry.{IsAsAtEntry, KeepsSeats, OpensAtAnyMoment, ReopensAtAnyMoment, CountChosen, StartKept, AllKeepSeats, AllReopened, ReadsAsBefore, IsCountedBy}

-- ---- the directories read the same

module _ (a b : State) (count : b.count ≡ a.count) (reads : (j : ℕ) → b.reads j ≡ a.reads j) where
  dirs_same : dirs_read b ≡ dirs_read a
  dirs_same = λ k. record { count = count k; at = λ j. reads j k }

  pub dirs_back : (P : Dirs → Type 0) → P (dirs_read b) → P (dirs_read a)
  dirs_back P x = subst P dirs_same x

-- ---- at each moment

module _ {told : Type 0} {a b : State} (survey : EachAsBefore told a b) where
  pub settled_run : OpensAtAnyMoment told a b
  settled_run = throughout_weaker survey (λ tells m as_before. inl as_before)

  pub settled_kept : StartKept told a b
  settled_kept sound shared run leaders first counts = throughout_weaker survey (λ tells m as_before. inl as_before)

-- ---- directories that were settled, and then opened

module _ {told : Type 0} {a b c : State} (survey : EachAsBefore told a b) (settled : told → (j : ℕ) → j < a.count → disk_at b j ≡ settled_disk a j) (opening : ReopensAtAnyMoment told b c) where
  as_before : told → (m : Moment) → Undisturbed b m → IsAsAtEntry a m
  as_before tells m same = record { at = λ j. ⊎_elim (λ was. inl (same.disks j ∙ was)) (λ is. inr (same.disks j ∙ is)) ((survey.ends tells).at j) }

  seats : told → (m : Moment) → EachDir (λ i d. i < b.count → KeepsSeat (disk_at b i) d.disk) m → KeepsSeats a m
  seats tells m each = record { at = λ j below. subst (λ (d : Disk). KeepsSeat d (m.dirs j).disk) (settled tells j below) (each.at j (subst (λ (n : ℕ). j < n) (sym survey.count) below)) }

  pub opened_run : OpensAtAnyMoment told a c
  opened_run = throughout_trans (settled_run survey) (throughout_weaker opening (λ tells m either. ⊎_elim (λ same. inl (as_before tells m same)) (λ each. inr (seats tells m each)) either))

-- each disk that keeps the seat of a settled directory is kept, as one of the run if it is chosen
module _ (a : State) (lawful : IsLawful a) (sound : AreSound (dirs_read a) Start) (shared : Shared) (run leaders : ℕ → Dir → Bool) (first : IsFirst shared (dirs_read a) Start sound) (counts : CountChosen (dirs_read a) sound.opened.book run leaders) where
  kept_first : AreKeptFirst shared (dirs_read a) sound.opened.book
  kept_first = sound_is_kept shared (dirs_read a) Start sound first

  seat_kept : (i : ℕ) (d : Dir) → i < a.count → KeepsSeat (settled_disk a i) d.disk → IsKeptDisk shared (run i d) (leaders i d) d.disk
  seat_kept i d below seat = recovering_keeps shared (run i d) (leaders i d) (settled_disk a i) d.disk
      (settled_is_kept shared (run i d) (leaders i d) (disk_at a i) (a.reads i) (lawful.reads i) (kept_first.kept i below)
      (λ e. (shared.floor, kept_first.run i (counts.of_run i d e)))
      (λ e. (let it = counts.led i d e in kept_first.led i it.0 it.1)))
      seat

  pub seats_kept : (m : Moment) → KeepsSeats a m → AllKept shared a.count run leaders m
  seats_kept m each = record { at = λ i below. seat_kept i (m.dirs i) below (each.at i below) }

pub kept_run : {told : Type 0} {a b : State} → (told → IsLawful a) → OpensAtAnyMoment told a b → StartKept told a b
kept_run {told} {a} {b} lawful opening sound shared run leaders first counts =
    throughout_weaker opening (λ tells m either. ⊎_elim (λ entry. inl entry) (λ each. inr (seats_kept a (lawful tells) sound shared run leaders first counts m each)) either)

-- ---- afterwards

module _ (a b c : State) (count : b.count ≡ a.count) (reads : (j : ℕ) → b.reads j ≡ a.reads j) {T : Type 0} where
  pub all_reopened : ((j : ℕ) → j < a.count → disk_at b j ≡ settled_disk a j) → (result : Result T OpenFault) → OnOk result (AllRecovered b c) → OnOk result (AllKeepSeats b c) → OnOk result (AllReopened a c)
  all_reopened settled (Ok v) all seats = λ j below. record {
    seat = subst (λ (d : Disk). KeepsSeat d (disk_at c j)) (settled j below) (seats j (subst (λ (n : ℕ). j < n) (sym count) below));
    disk = subst (λ (d : Disk). IsRecovered d (disk_at c j)) (settled j below) (all j (subst (λ (n : ℕ). j < n) (sym count) below)).disk;
    reads = subst (λ (r : Reads). IsRecovered r (c.reads j)) (reads j) (all j (subst (λ (n : ℕ). j < n) (sym count) below)).reads;
  }
  all_reopened settled (Err e) all seats = tt

  pub reads_before : (result : Result T OpenFault) → IfErr result (ReadsAsBefore b c) → IfErr result (ReadsAsBefore a c)
  reads_before (Ok v) same = tt
  reads_before (Err (Refused refusal)) same = λ j. same j ∙ reads j
  reads_before (Err (Failed i)) same = tt
  reads_before (Err Memory) same = λ j. same j ∙ reads j

-- a call that failed, handed on
pub failed_reads : {T : Type 0} (a b : State) (result : Result T OpenFault) (fault : OpenFault) → IsErrAnd result (λ e. e ≡ fault) → ((i : DirNo) × (fault ≡ Failed i)) → IfErr result (ReadsAsBefore a b)
failed_reads a b (Ok v) fault is at = absurd is
failed_reads a b (Err e) fault is at = subst (ReadsAsBefore a b) (sym (is ∙ at.1)) tt

pub counted_then : {T : Type 0} (a b c : State) (result : Result T OpenFault) → b.count ≡ a.count → SameCounts a b → IsCountedBy b c result → IsCountedBy a c result
counted_then a b c (Ok v) count none counts = counts_trans none counts
counted_then a b c (Err (Refused refusal)) count none counts = counts_trans none counts
counted_then a b c (Err (Failed i)) count none rose = rose_then none count rose
counted_then a b c (Err Memory) count none counts = counts_trans none counts

-- a type for each directory, by as many as there were at the beginning
pub settled_then : {R : Type 0} (result : Result R OpenFault) (at : R → List Settled) (chosen : R → ℕ → Bool) {n m : ℕ} → n ≡ m → IfOk result (λ it. AreSettled n (at it) × ((i : ℕ) → chosen it i ≡ true → i < n)) → IfOk result (λ it. AreSettled m (at it))
settled_then (Err e) at chosen same placed = tt
settled_then (Ok it) at chosen same placed = subst (λ (k : ℕ). AreSettled k (at it)) same placed.0
