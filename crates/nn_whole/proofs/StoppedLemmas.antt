-- A stop before the first change leaves what one at entry could leave.
use Rattle.std.proofs.Common.{◌≡◌, inl, inr, ℕ, refl, sym, subst}
use Rattle.std.proofs.lemmas.List.Elements.{All-head}
use Rattle.nn_host.specs.Disk.{Disk, Reads, Leaves, Settle, disk_after}
use Rattle.nn_host.specs.Moments.{Moment, State, IsLawful, disk_at}
use Rattle.nn_chain.specs.Fair.{IsFair, IsFairStop}
use Rattle.nn_kept.proofs.KeptFirstLemmas.{settled_reads}
use Rattle.nn_run.specs.Window.{Answered}
use Rattle.nn_run.specs.Course.{IsAsAtEntry, course_of}
use Rattle.nn_run.proofs.StopLemmas.{run_stops}
use Rattle.std.proofs.Common.{ap, List, ◌++◌}
use Rattle.nn_whole.specs.Stopped.{EntryIsLeft, RunKeptLeaves}
use Rattle.nn_whole.proofs.OpenedLemmas.{is_opening, HasText}

module _ (old : State) (m : Moment) (contents : ℕ → Reads) (lawful : IsLawful old) (entry : IsAsAtEntry old m) (leaves : (i : ℕ) → Leaves (m.dirs i).disk (contents i)) where
  -- a settled disk leaves what reads
  reads_so : (i : ℕ) → (m.dirs i).disk ≡ disk_after Settle (old.reads i) (disk_at old i) → contents i ≡ old.reads i
  reads_so i settled = settled_reads (disk_at old i) (old.reads i) (contents i) (lawful.reads i) (subst (λ (d : Disk). Leaves d (contents i)) settled (leaves i))

  left_at : (i : ℕ) → Leaves (disk_at old i) (contents i)
  left_at i = elim (entry.at i) [
    | inl same ↦ subst (λ (d : Disk). Leaves d (contents i)) same (leaves i)
    | inr settled ↦ subst (Leaves (disk_at old i)) (sym (reads_so i settled)) (lawful.reads i)
  ]

  fair_at : IsFairStop old.count m contents → IsFairStop old.count old.now old.reads → IsFairStop old.count old.now contents
  fair_at fair reads_fair i below = elim (entry.at i) [
    | inl same ↦ subst (λ (d : Disk). IsFair d (contents i)) same (fair i below)
    | inr settled ↦ subst (IsFair (disk_at old i)) (sym (reads_so i settled)) (reads_fair i below)
  ]

pub entry_is_left : EntryIsLeft
entry_is_left old m contents lawful entry leaves fair = record {
  left = record { since = inl refl; leaves = left_at old m contents lawful entry leaves };
  fair = fair_at old m contents lawful entry leaves fair;
}

pub run_kept_leaves : RunKeptLeaves
run_kept_leaves asked ctime opened seen ahead old new lawful through m contents left fair =
    let is = is_opening asked ctime opened in
    let course = course_of asked old.count ctime opened seen ahead in
    elim (run_stops course is.first (is.others ++ course.script) old new (ap (λ (o : List Answered). o ++ course.script) is.are) (All-head HasText is.first is.others is.texts) lawful through m contents left fair) [
      | inl before ↦ inl (before.answered, entry_is_left old m contents lawful before.disks left.leaves fair)
      | inr opens ↦ inr opens
    ]
