-- An image was published in all live directories, and those in which a call failed were dropped.
use Rattle.std.proofs.Common.{◌≡◌, ℕ, ◌≤◌, true, false, None, Result, Ok, Err, IsErr, sym, ◌∙◌, ap, subst, arith}
use Rattle.nn_base.specs.DirSets.{Members, has}
use Rattle.nn_base.specs.declared.sub.Sub.TheVariants.{Current}
use Rattle.nn_base.specs.declared.file_name.FileName.TheVariants.{Image}
use Rattle.nn_host.specs.Moments.{State, IsLawful, disk_at}
use Rattle.nn_marks.specs.declared.version.Version.{Version}
use Rattle.nn_tree.specs.Namespace.{Namespace}
use Rattle.nn_segment_file.specs.Log.{Shared}
use Rattle.nn_segment_file.specs.Stages.{Stage, Ended, Going}
use Rattle.nn_journal.specs.declared.journal.JournalSet.{JournalSet}
use Rattle.nn_journal.specs.Places.{Place, Matches, place_of}
use Rattle.nn_ckpt.specs.declared.fault.RunFault.{RunFault}
use Rattle.nn_ckpt.specs.Each.{DoneEach, DropsFailed}
use Rattle.nn_ckpt.specs.Checkpointed.{AreImaged, HasGoneOn, HasTwoImages, IsPublishingOf, HasPublished, Publishes}
use Rattle.nn_ckpt.proofs.LoggingLemmas.{logging_keeps_two}
use Rattle.nn_ckpt.proofs.PublishedLemmas.{published_stands}
use Rattle.nn_ckpt.proofs.ImagedLemmas.{ImagedDisk, imaged_each}
use Rattle.nn_ckpt.proofs.DroppedLemmas.{none_is, gone_on, dropped_beside}
use Rattle.nn_ckpt.proofs.PublishLemmas.{publishing_imaged}

-- where no segment is in progress the last one was ended at the last id
pub ended_at : (version : Version) (list : Shared) (stage : Stage) (place : Place) → Matches version list stage place → place.going ≡ false → stage ≡ Ended place.last
ended_at version list (Ended end) place is going = ap Ended (sym is.last)
ended_at version list (Going base kept) place is going = absurd (let apart = sym is.going ∙ going in cc)

-- it has no image as late as this id
abbrev pub NoneSoLate : ℕ → JournalSet → State → Type 0
NoneSoLate id journal s = (j : ℕ) → has journal.live j ≡ true → (later : ℕ) → id ≤ later → (disk_at s j).file Current (Image later) ≡ None

module _ {told : Type 0} {journal after : JournalSet} {failed : Members} {old mid new : State} (version : Version) (id : ℕ) (ns : Namespace) (lawful : told → IsLawful old) (going : journal.going ≡ false) (done : DoneEach told (IsPublishingOf version id ns) journal.live failed old mid) (drops : DropsFailed told failed journal after mid new) where
  module _ (tells : told) (list : Shared) (stage : Stage) (is : AreImaged version list stage journal old) (at : journal.last ≡ id) (same : list id ≡ ns) (none : NoneSoLate id journal old) where
    here : AreImaged version list (Ended id) journal old
    here = subst (λ (s : Stage). AreImaged version list s journal old) (ended_at version list stage (place_of journal) is.matches going ∙ ap Ended at) is

    of_list : DoneEach told (IsPublishingOf version id (list id)) journal.live failed old mid
    of_list = subst (λ (n : Namespace). DoneEach told (IsPublishingOf version id n) journal.live failed old mid) (sym same) done

    was : (j : ℕ) → has journal.live j ≡ true → ImagedDisk version list (Ended id) (disk_at old j)
    was = imaged_each version list (Ended id) journal old here

    keeps : (j : ℕ) → has journal.live j ≡ true → (d : _) → IsPublishingOf version id (list id) (old.reads j) (disk_at old j) d → ImagedDisk version list (Ended id) d
    keeps j live d p = publishing_imaged version list id (disk_at old j) d (old.reads j) ((lawful tells).reads j) (none j live) p (was j live)

    published_on : HasGoneOn version list journal after old new
    published_on = gone_on tells journal after of_list drops version list (Ended id) here.matches keeps

    published_two : (told → (j : ℕ) → has journal.live j ≡ true → has failed j ≡ false → HasPublished version id ns j old mid) → (j : ℕ) → has after.live j ≡ true → (older : ℕ) × HasTwoImages version list older id (disk_at new j)
    published_two each j there =
        let (live, whole, beside) = dropped_beside tells journal after of_list drops version list (Ended id) here.matches keeps j there in
        let before = was j live in
        let written = subst (λ (n : Namespace). HasPublished version id n j old mid) (sym same) (each tells j live whole) before.stands.has in
        let two = (published_stands version list id j old mid (none j live) before.stands before.image written).1 in
        (before.image.id, logging_keeps_two version list before.image.id id id (disk_at mid j) (disk_at new j) two (omega arith) beside)

  -- where there was a fault, only this is said
  pub publishes_err : (result : Result (Unit {0}) RunFault) → IsErr result → Publishes told version id ns journal after old new result
  publishes_err (Ok v) fault tells list stage is at same none = absurd (none_is fault)
  publishes_err (Err e) fault tells list stage is at same none = (published_on tells list stage is at same none, tt)

  pub publishes_ok : (told → (j : ℕ) → has journal.live j ≡ true → has failed j ≡ false → HasPublished version id ns j old mid) → Publishes told version id ns journal after old new (Ok tt)
  publishes_ok each tells list stage is at same none = (published_on tells list stage is at same none, published_two tells list stage is at same none each)
