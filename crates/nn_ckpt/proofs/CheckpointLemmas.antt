-- A checkpoint, phase by phase: the segment is ended, the image is published, the next segment is begun, and all is purged.
use Rattle.std.proofs.Common.{◌≡◌, inl, inr, ⊎_elim, ℕ, zero, suc, ◌+◌, ◌-◌, ◌<◌, ◌≤◌, true, false, Result, Ok, Err, IsErr, IsErrOf, OnOk, refl, sym, ◌∙◌, ap, subst, arith}
use Rattle.std.proofs.lemmas.Bool.{cases_Bool}
use Rattle.std.specs.Prelude.{IsErrAnd}
use Rattle.nn_base.specs.DirSets.{Members, has}
use Rattle.nn_base.proofs.DirSetLemmas.{same_members}
use Rattle.nn_base.specs.declared.sub.Sub.TheVariants.{Current}
use Rattle.nn_base.specs.declared.file_name.FileName.TheVariants.{Image}
use Rattle.nn_host.specs.Moments.{State, disk_at, faults_at}
use Rattle.nn_marks.specs.declared.version.Version.{Version}
use Rattle.nn_tree.specs.Namespace.{Namespace}
use Rattle.nn_chain.specs.Folder.{folder_at}
use Rattle.nn_segment_file.specs.Log.{Shared, Beside, IsOfLog}
use Rattle.nn_segment_file.specs.Stages.{Stage, Ended, base_of, last_of}
use Rattle.nn_segment_file.proofs.BesideLemmas.{not_log}
use Rattle.nn_journal.specs.declared.journal.JournalSet.{JournalSet}
use Rattle.nn_journal.specs.Places.{Place, Matches, IsSteady, BringsAhead, HasCome, Went, place_of}
use Rattle.nn_journal.proofs.CarriedLemmas.{still_live}
use Rattle.nn_kept.specs.Laws.{EachLeft}
use Rattle.nn_run.specs.Flights.{Flown}
use Rattle.nn_base.specs.declared.ids.Txid.{Txid}
use Rattle.nn_ckpt.specs.declared.fault.RunFault.{RunFault}
use Rattle.nn_ckpt.specs.declared.fault.RunFault.TheVariants.{NoneLeft}
use Rattle.nn_ckpt.specs.Retention.{IsPruned}
use Rattle.nn_ckpt.specs.Checkpointed.{HasTwoImages, IsCheckpointed, AreImaged, StayImaged, ComesOn, HasGoneOn, Publishes, HasCheckpointed, StaysTwoImages}
use Rattle.nn_ckpt.proofs.FlownLemmas.{flown_trans}
use Rattle.nn_ckpt.proofs.ImagedLemmas.{AllImaged, last_matches, imaged_each, each_imaged, come_flown, come_beside, come_imaged}
use Rattle.nn_ckpt.proofs.DroppedLemmas.{none_is}
use Rattle.nn_ckpt.proofs.LoggingLemmas.{logging_keeps_two}
use Rattle.nn_ckpt.proofs.PublishesLemmas.{NoneSoLate, ended_at}
use Rattle.nn_ckpt.proofs.TwoLemmas.{two_are_checkpointed}

-- ---- counts, and the list behind the last id

-- no count falls
pub went_rises : {told : Type 0} {live live_after : Members} {a b : State} → Went told live live_after a b → (j : ℕ) → faults_at a j ≤ faults_at b j
went_rises {a = a} went j = ⊎_elim (λ stays. omega (arith, stays.faults)) (λ dropped. omega (arith, dropped.faults)) (went.counted j)

comes_then : {told : Type 0} {version : Version} {list : Shared} (j0 j1 j2 : JournalSet) {a b c : State} → ComesOn version list j0 j1 a b → ComesOn version list j1 j2 b c → Went told j0.live j1.live a b → Went told j1.live j2.live b c → ComesOn version list j0 j2 a c
comes_then j0 j1 j2 one two went went_after = flown_trans one two (went_rises went) (went_rises went_after)

steady_by : (list : Shared) (last : ℕ) → IsSteady list last → (more : ℕ) → list (last + more) ≡ list last
steady_by list last steady zero = ap list (omega arith)
steady_by list last steady (suc more) = ap list (omega arith) ∙ steady (last + more) (omega arith) ∙ steady_by list last steady more

-- behind a matching place the list goes on the same
pub same_behind : (version : Version) (list : Shared) (stage : Stage) (place : Place) → Matches version list stage place → (n : ℕ) → place.last ≤ n → list n ≡ list place.last
same_behind version list stage place is n le = ap list (omega (arith, le)) ∙ steady_by list place.last (steady stage is) (n - place.last)
  where
    steady : (s : Stage) → Matches version list s place → IsSteady list place.last
    steady (Ended end) m = subst (IsSteady list) (sym m.last) m.steady
    steady (Stage.Going base kept) m = m.steady

-- a set between two that are the same
pub same_between : (a b c : Members) → ((j : ℕ) → has b j ≡ true → has a j ≡ true) → ((j : ℕ) → has c j ≡ true → has b j ≡ true) → c ≡ a → b ≡ a
same_between a b c below above same = same_members b a (λ j. elim (cases_Bool (has b j)) [
  | inl there ↦ there ∙ sym (below j there)
  | inr none ↦ none ∙ sym (elim (cases_Bool (has a j)) [
    | inl there ↦ absurd (let apart = sym none ∙ above j (ap (λ (s : Members). has s j) same ∙ there) in cc)
    | inr out ↦ out
  ])
])

-- ---- a call of the journal

module _ {told : Type 0} (tells : told) (journal after : JournalSet) {old new : State} (brought : BringsAhead told (place_of journal) (place_of after) journal.holders journal.live after.live old new) (version : Version) (list : Shared) (stage : Stage) (is : AreImaged version list stage journal old) where
  came : (below : ℕ) × (below < after.last) × HasCome told version list stage (place_of after) below journal.holders journal.live after.live old new
  came = brought version list stage is.matches (λ t. is.disks)

  start : AllImaged version list stage journal.live old
  start = imaged_each version list stage journal old is

  flown : Flown (Unit {0}) version list (has journal.live) (has after.live) (last_of stage) (last_of came.2.to) old new
  flown = come_flown tells version list stage (place_of after) came.0 journal.holders journal.live after.live old new came.2 came.1 start

  pub brought_comes : ComesOn version list journal after old new
  brought_comes = subst (λ (n : ℕ). Flown (Unit {0}) version list (has journal.live) (has after.live) n after.last old new) (sym (last_matches version list stage (place_of journal) is.matches))
      (subst (λ (n : ℕ). Flown (Unit {0}) version list (has journal.live) (has after.live) (last_of stage) n old new) (sym (last_matches version list came.2.to (place_of after) came.2.matches)) flown)

  pub brought_imaged : StayImaged version list after new
  brought_imaged = (came.2.to, each_imaged version list came.2.to after new came.2.matches (come_imaged tells version list stage (place_of after) came.0 journal.holders journal.live after.live old new came.2 came.1 start))

  pub brought_beside : (j : ℕ) → has after.live j ≡ true → Beside (IsOfLog (base_of stage)) (disk_at old j) (disk_at new j)
  brought_beside = come_beside tells version list stage (place_of after) came.0 journal.holders journal.live after.live old new came.2 came.1 start

  -- no image is as late as an id behind the last one
  pub none_behind : (id : ℕ) → journal.last < id → NoneSoLate id after new
  none_behind id above j there later le =
      let image = is.images j (flown.alive j there) in
      (brought_beside j there).other_files (Image later) (not_log (Image later) refl (λ e. cc) (λ e. cc)) ∙ image.later later (omega (arith, image.low, above, le))

-- ---- so far

-- They came on from the first journal to this one, and stand there.
pub record SoFar (version : Version) (list : Shared) (first journal : JournalSet) (old s : State) : Type 0 where
  pub comes : ComesOn version list first journal old s
  pub stands : StayImaged version list journal s

module _ {told : Type 0} (tells : told) (version : Version) (list : Shared) where
  pub first_brought : (first journal : JournalSet) {a b : State} → BringsAhead told (place_of first) (place_of journal) first.holders first.live journal.live a b → (stage : Stage) → AreImaged version list stage first a → SoFar version list first journal a b
  first_brought first journal brought stage is = record { comes = brought_comes tells first journal brought version list stage is; stands = brought_imaged tells first journal brought version list stage is }

  module _ (first j k : JournalSet) {a b c : State} (so_far : SoFar version list first j a b) (went : Went told first.live j.live a b) (went_after : Went told j.live k.live b c) where
    pub then_brought : BringsAhead told (place_of j) (place_of k) j.holders j.live k.live b c → SoFar version list first k a c
    then_brought brought =
        let (stage, is) = so_far.stands in
        record { comes = comes_then first j k so_far.comes (brought_comes tells j k brought version list stage is) went went_after; stands = brought_imaged tells j k brought version list stage is }

    pub then_gone : 0 < j.last → HasGoneOn version list j k b c → SoFar version list first k a c
    then_gone some on = record { comes = comes_then first j k so_far.comes (on.comes some) went went_after; stands = on.stands }

-- where there was a fault, only this is said
pub faulted : {version : Version} {list : Shared} (ns : Namespace) (first journal : JournalSet) {a b : State} → SoFar version list first journal a b → (result : Result Txid RunFault) → IsErr result → HasCheckpointed version list ns first journal a b result
faulted ns first journal so_far (Ok v) fault = absurd (none_is fault)
faulted ns first journal so_far (Err e) fault = record { comes = so_far.comes; stands = so_far.stands; each = tt }

-- a fault that is handed on is the same
pub left_on : (Q : Type 0) (result : Result Txid RunFault) (fault : RunFault) → IsErrAnd result (λ e. e ≡ fault) → (IsErrOf {T = Unit {0}} (Err fault) NoneLeft → Q) → IsErrOf result NoneLeft → Q
left_on Q (Ok v) fault is left of = absurd is
left_on Q (Err e) fault is left of = let same : e ≡ NoneLeft = cc in left (ap Err (sym is ∙ same))

-- ---- once the image was published

-- two images stay while the next segment is begun
pub two_then : {told : Type 0} (tells : told) (journal after : JournalSet) {old new : State} (brought : BringsAhead told (place_of journal) (place_of after) journal.holders journal.live after.live old new) (version : Version) (list : Shared) (stage : Stage) (is : AreImaged version list stage journal old) → journal.going ≡ false
    → (older id : ℕ) → id ≤ journal.last → (j : ℕ) → has after.live j ≡ true → HasTwoImages version list older id (disk_at old j) → HasTwoImages version list older id (disk_at new j)
two_then tells journal after {old} {new} brought version list stage is going older id low j there two =
    let at : base_of stage ≡ journal.last = ap base_of (ended_at version list stage (place_of journal) is.matches going) in
    logging_keeps_two version list older id (base_of stage) (disk_at old j) (disk_at new j) two (omega (arith, at, low)) (brought_beside tells journal after brought version list stage is j there)

-- pruned with two images of this namespace it is checkpointed
pub then_checkpointed : (version : Version) (list : Shared) (stage : Stage) (journal : JournalSet) (s : State) (is : AreImaged version list stage journal s) (older id : ℕ) (ns : Namespace) (j : ℕ) → has journal.live j ≡ true → HasTwoImages version list older id (disk_at s j) → list id ≡ ns → list journal.last ≡ ns
    → EachLeft (disk_at s j) (λ c. IsPruned (folder_at c Current)) → EachLeft (disk_at s j) (λ c. IsCheckpointed version id journal.last ns (folder_at c Current))
then_checkpointed version list stage journal s is older id ns j there two same same_last pruned =
    let last = last_matches version list stage (place_of journal) is.matches in
    subst (λ (n : ℕ). EachLeft (disk_at s j) (λ c. IsCheckpointed version id n ns (folder_at c Current))) (sym last)
    (two_are_checkpointed version list stage older id ns (disk_at s j) (is.disks j there) two same (ap list (sym last) ∙ same_last) pruned)

-- ---- from its beginning

module _ {told : Type 0} (tells : told) (version : Version) (list : Shared) (ns : Namespace) (first ended : JournalSet) {a b : State} (brought : BringsAhead told (place_of first) (place_of ended) first.holders first.live ended.live a b) (rose : first.last < ended.last) (stage : Stage) (is : AreImaged version list stage first a) (same : list first.last ≡ ns) where
  pub same_after : (n : ℕ) → first.last ≤ n → list n ≡ ns
  same_after n le = same_behind version list stage (place_of first) is.matches n le ∙ same

  so_ended : SoFar version list first ended a b
  so_ended = first_brought tells version list first ended brought stage is

  -- the image was published in those that ended their segment
  module _ (published : JournalSet) {c : State} (id : ℕ) (at : id ≡ ended.last) (result : Result (Unit {0}) RunFault) (publishes : Publishes told version id ns ended published b c result) (went : Went told first.live ended.live a b) (went_on : Went told ended.live published.live b c) where
    pub publishing : HasGoneOn version list ended published b c × OnOk result ((j : ℕ) → has published.live j ≡ true → (older : ℕ) × HasTwoImages version list older id (disk_at c j))
    publishing = publishes tells list so_ended.stands.0 so_ended.stands.1 (sym at) (same_after id (omega (arith, at, rose))) (none_behind tells first ended brought version list stage is id (omega (arith, at, rose)))

    pub so_published : SoFar version list first published a c
    so_published = then_gone tells version list first ended published so_ended went went_on (omega (arith, rose)) publishing.0

-- it was done in each
pub all_checkpointed : {told : Type 0} (tells : told) (version : Version) (list : Shared) (ns : Namespace) (published begun purged : JournalSet) {c d e : State} (id : ℕ) → StayImaged version list published c → published.going ≡ false → id ≤ published.last → ((j : ℕ) → has published.live j ≡ true → (older : ℕ) × HasTwoImages version list older id (disk_at c j))
    → BringsAhead told (place_of published) (place_of begun) published.holders published.live begun.live c d → Went told published.live begun.live c d → Went told begun.live purged.live d e → StayImaged version list purged e
    → ((j : ℕ) → has purged.live j ≡ true → EachLeft (disk_at e j) (λ r. IsPruned (folder_at r Current)) × StaysTwoImages version list (disk_at d j) (disk_at e j)) → list id ≡ ns → list purged.last ≡ ns
    → (j : ℕ) → has purged.live j ≡ true → EachLeft (disk_at e j) (λ r. IsCheckpointed version id purged.last ns (folder_at r Current))
all_checkpointed tells version list ns published begun purged {c} {d} {e} id stood going low two brought went went_on stands pruned same same_last j there =
    let there_begun = still_live went_on.counted j there in
    let there_published = still_live went.counted j there_begun in
    let (older, at_first) = two j there_published in
    let then = two_then tells published begun brought version list stood.0 stood.1 going older id low j there_begun at_first in
    let last = pruned j there in
    then_checkpointed version list stands.0 purged e stands.1 older id ns j there (last.1 older id then) same same_last last.0
