-- All live directories were purged, and those in which a call failed were dropped.
use Rattle.std.proofs.Common.{◌≡◌, ⊎_elim, ℕ, sym, subst, arith, true, false, Result, Ok, Err, IsErr}
use Rattle.nn_base.specs.DirSets.{Members, has}
use Rattle.nn_host.specs.Moments.{State, IsLawful, disk_at}
use Rattle.nn_segment_file.specs.Log.{Shared}
use Rattle.nn_segment_file.specs.Stages.{Stage}
use Rattle.nn_marks.specs.declared.version.Version.{Version}
use Rattle.nn_journal.specs.declared.journal.JournalSet.{JournalSet}
use Rattle.nn_ckpt.specs.declared.fault.RunFault.{RunFault}
use Rattle.nn_ckpt.specs.Retention.{WasPurged}
use Rattle.nn_ckpt.specs.Each.{DoneEach, DropsFailed}
use Rattle.nn_ckpt.specs.Checkpointed.{AreImaged, HasGoneOn, IsPurgingOf, Purges}
use Rattle.nn_ckpt.proofs.ImagedLemmas.{imaged_each}
use Rattle.nn_ckpt.proofs.DroppedLemmas.{none_is, gone_on, dropped_beside}
use Rattle.nn_ckpt.proofs.PurgeLemmas.{purging_imaged, then_pruned, then_two}

module _ {told : Type 0} {journal after : JournalSet} {failed : Members} {old mid new : State} (lawful : told → IsLawful old) (done : DoneEach told IsPurgingOf journal.live failed old mid) (drops : DropsFailed told failed journal after mid new) where
  module _ (tells : told) (version : Version) (list : Shared) (stage : Stage) (is : AreImaged version list stage journal old) where
    purged_on : HasGoneOn version list journal after old new
    purged_on = gone_on tells journal after done drops version list stage is.matches
        (λ j live d p. purging_imaged version list stage (old.reads j) (disk_at old j) d ((lawful tells).reads j) p (imaged_each version list stage journal old is j live))

  -- none was dropped, and each is as it was purged
  pub purges_exact : after.last ≡ journal.last → (told → (j : ℕ) → has journal.live j ≡ true → has failed j ≡ false → WasPurged j old mid) → told → (j : ℕ) → has after.live j ≡ true → WasPurged j old new
  purges_exact same each tells = ⊎_elim
      (λ none j there. subst (λ (s : State). WasPurged j old s) (sym none.2) (each tells j (subst (λ (x : JournalSet). has x.live j ≡ true) none.1 there) (none.0 j)))
      (λ some. absurd (omega (arith, some.0, same)))
      drops

  -- where there was a fault, only this is said
  pub purges_err : (result : Result (Unit {0}) RunFault) → IsErr result → Purges told journal after old new result
  purges_err (Ok v) fault tells version list stage is = absurd (none_is fault)
  purges_err (Err e) fault tells version list stage is = (purged_on tells version list stage is, tt)

  pub purges_ok : (told → (j : ℕ) → has journal.live j ≡ true → has failed j ≡ false → WasPurged j old mid) → Purges told journal after old new (Ok tt)
  purges_ok each tells version list stage is = (
    purged_on tells version list stage is,
    λ j there.
        let (live, whole, beside) = dropped_beside tells journal after done drops version list stage is.matches
        (λ k k_live d p. purging_imaged version list stage (old.reads k) (disk_at old k) d ((lawful tells).reads k) p (imaged_each version list stage journal old is k k_live)) j there in
        let was = imaged_each version list stage journal old is j live in
        let purged = each tells j live whole in (
          then_pruned version list stage j old mid new ((lawful tells).reads j) was purged beside,
          then_two version list stage j old mid new ((lawful tells).reads j) was purged beside,
        ),
  )
