-- What a directory that is taken back in parts leaves, however far it came.
use Rattle.std.proofs.Common.{◌≡◌, inl, inr, ℕ, ◌+◌, ◌<◌, ◌≤◌, false, Result, Ok, Err, IsErr, OnOk, sym, ap, subst, arith}
use Rattle.nn_base.specs.DirSets.{has}
use Rattle.nn_host.specs.Disk.{IsSound}
use Rattle.nn_host.specs.Moments.{Dir, State, disk_at}
use Rattle.nn_marks.specs.declared.version.Version.{Version}
use Rattle.nn_tree.specs.Namespace.{Namespace}
use Rattle.nn_segment_file.specs.Stages.{Ended}
use Rattle.nn_journal.specs.declared.journal.JournalSet.{JournalSet}
use Rattle.nn_journal.specs.Places.{Place, BringsAhead, Went, place_of}
use Rattle.nn_remake.specs.Made.{IsBare}
use Rattle.nn_remake.proofs.MakingLemmas.{bare_fresh}
use Rattle.nn_pick.specs.Refusing.{spent_from}
use Rattle.nn_ckpt.specs.declared.fault.RunFault.{RunFault}
use Rattle.nn_restore.specs.declared.restoring.Restored.{Restored}
use Rattle.nn_restore.specs.Making.{MakesIn}
use Rattle.nn_restore.specs.Restored.{Restores}
use Rattle.nn_restore.proofs.PartsLemmas.{ended_stands, only_ended, back_imaged, only_made, begun_stands, parts_onward}
use Rattle.nn_restore.proofs.TakenLemmas.{no_answer, same_dir, dropped_rose, made_rose, begun_rose}

-- what holds anyway holds of an answer
on_answer : {T E X : Type 0} (result : Result T E) → X → OnOk result X
on_answer (Ok v) x = x
on_answer (Err e) x = tt

-- the segment in progress was ended, beside an empty directory
module _ {told : Type 0} (version : Version) (ns : Namespace) (i : ℕ) (first ended : JournalSet) {a b : State} (out : has first.live i ≡ false) (brought : BringsAhead told (place_of first) (place_of ended) first.holders first.live ended.live a b) (went : Went told first.live ended.live a b)
    (rose : first.last < ended.last) (most : ended.last ≤ first.last + 18) (going : ended.going ≡ false) where
  module _ (bare : told → IsBare (disk_at a i)) (sound : told → IsSound (disk_at b i)) where
    still_bare : told → IsBare (disk_at b i)
    still_bare tells = subst (λ (x : Dir). IsBare x.disk) (sym (same_dir i out went tells)) (bare tells)

    pub ended_restores : (result : Result Restored RunFault) → IsErr result → Restores told version ns i first ended a b result
    ended_restores result fault tells list stage is same ids layout = record {
      comes = inr (
        only_ended tells version list ns i first ended out stage is same brought rose going (inl (bare_fresh (disk_at b i) (sound tells) (still_bare tells))) layout (omega (arith, most, ids)) (λ j there. dropped_rose j (went.counted j) there),
        no_answer _ result fault,
      );
      stands = ended_stands tells version list ns i first ended out stage is same brought rose going;
    }

  module _ {E : Type 0} (back : JournalSet) {c : State} (made : Result (Unit {0}) E) (makes : MakesIn told version ns i ended back b c made) where
    pub made_restores : (result : Result Restored RunFault) → IsErr result → Restores told version ns i first back a c result
    made_restores result fault tells list stage is same ids layout =
        let room : ended.last < spent_from = omega (arith, most, ids) in
        record {
          comes = inr (only_made tells version list ns i first ended out stage is same brought rose going back made makes layout room (made_rose i first ended back out went made makes), no_answer _ result fault);
          stands = (Ended ended.last, back_imaged tells version list ns i first ended out stage is same brought rose going back made makes layout room);
        }

    pub begun_restores : (after : JournalSet) {d : State} → BringsAhead told (place_of back) (place_of after) back.holders back.live after.live c d → Went told back.live after.live c d → back.last < after.last → (result : Result Restored RunFault) → Restores told version ns i first after a d result
    begun_restores after begun went_after up result tells list stage is same ids layout =
        let room : ended.last < spent_from = omega (arith, most, ids) in
        let same_last = ap (λ (p : Place). p.last) makes.place in
        let parts = parts_onward tells version list ns i first ended out stage is same brought rose going back made makes layout room after begun (begun_rose i first ended back out went made makes after went_after) (omega (arith, up, same_last)) in
        record {
          comes = inr (parts.0, on_answer result parts.1);
          stands = begun_stands tells version list ns i first ended out stage is same brought rose going back made makes layout room after begun;
        }
