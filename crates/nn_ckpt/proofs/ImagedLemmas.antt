-- A directory that stands at a stage and has its last image: what the journal keeps of it, at each of its calls.
use Rattle.std.proofs.Common.{◌≡◌, inl, inr, ⊎_elim, ℕ, ◌<◌, ◌≤◌, true, sym, ◌∙◌, subst, arith}
use Rattle.std.proofs.lemmas.Bool.{cases_lt}
use Rattle.nn_base.specs.DirSets.{Members, has}
use Rattle.nn_base.specs.declared.file_name.FileName.TheVariants.{InProgress}
use Rattle.nn_host.specs.Disk.{Disk}
use Rattle.nn_host.specs.Moments.{State, disk_at}
use Rattle.nn_marks.specs.declared.version.Version.{Version}
use Rattle.nn_segment_file.specs.Log.{Shared, Beside, IsOfLog}
use Rattle.nn_segment_file.specs.Stages.{Stage, Ended, Going, base_of, last_of, IsBegun, OneInProgress, IsAlone, StandsAt}
use Rattle.nn_journal.specs.declared.journal.JournalSet.{JournalSet}
use Rattle.nn_journal.specs.Places.{Place, Matches, HasCome, place_of}
use Rattle.nn_run.specs.Flights.{Flies, Flown}
use Rattle.nn_ckpt.specs.Checkpointed.{HasLastImage, AreImaged}
use Rattle.nn_ckpt.proofs.FlownLemmas.{flown_of, beside_end}
use Rattle.nn_ckpt.proofs.LoggingLemmas.{logging_keeps_image}

pub record ImagedDisk (version : Version) (list : Shared) (stage : Stage) (d : Disk) : Type 0 where
  pub stands : StandsAt version list stage d
  pub alone : IsAlone stage d
  pub flies : Flies version list (last_of stage) (last_of stage) d
  pub image : HasLastImage version list (last_of stage) d

-- so is each of these
abbrev pub AllImaged : Version → Shared → Stage → Members → State → Type 0
AllImaged version list stage live s = (j : ℕ) → has live j ≡ true → ImagedDisk version list stage (disk_at s j)

-- a journal has in mind at which id its directories stand
pub last_matches : (version : Version) (list : Shared) (stage : Stage) (place : Place) → Matches version list stage place → place.last ≡ last_of stage
last_matches version list (Ended end) place is = is.last
last_matches version list (Going base kept) place is = omega (arith, is.last)

pub imaged_each : (version : Version) (list : Shared) (stage : Stage) (journal : JournalSet) (s : State) → AreImaged version list stage journal s → AllImaged version list stage journal.live s
imaged_each version list stage journal s is j live =
    let last = last_matches version list stage (place_of journal) is.matches in
    record {
      stands = is.disks j live;
      alone = is.alone j live;
      flies = subst (λ (n : ℕ). Flies version list n n (disk_at s j)) last (is.flies j live);
      image = subst (λ (n : ℕ). HasLastImage version list n (disk_at s j)) last (is.images j live);
    }

pub each_imaged : (version : Version) (list : Shared) (stage : Stage) (journal : JournalSet) (s : State) → Matches version list stage (place_of journal) → AllImaged version list stage journal.live s → AreImaged version list stage journal s
each_imaged version list stage journal s matches all =
    let last = sym (last_matches version list stage (place_of journal) matches) in
    record {
      matches = matches;
      disks = λ j live. (all j live).stands;
      alone = λ j live. (all j live).alone;
      flies = λ j live. subst (λ (n : ℕ). Flies version list n n (disk_at s j)) last (all j live).flies;
      images = λ j live. subst (λ (n : ℕ). HasLastImage version list n (disk_at s j)) last (all j live).image;
    }

-- a segment that a stage has in progress begins behind its base
begun_behind : (stage : Stage) (first : ℕ) → IsBegun stage first → base_of stage < first
begun_behind (Ended last) first begun = absurd begun
begun_behind (Going base kept) first begun = omega (arith, begun)

-- no other segment is in progress, where none was up to the base and none came behind it
alone_on : (from to : Stage) (old d : Disk) → IsAlone from old → Beside (IsOfLog (base_of from)) old d → OneInProgress from to d → IsAlone to d
alone_on from to old d alone beside one first ranged not_begun = elim (cases_lt (base_of from) first) [
  | inl behind ↦ one first ranged behind not_begun
  | inr before ↦ beside.other_files (InProgress first) (λ of_log. early of_log before)
      ∙ alone first ranged (λ begun. let after = begun_behind from first begun in omega (arith, after, before))
]
  where
    early : IsOfLog (base_of from) (InProgress first) → first ≤ base_of from → ⊥
    early of_log before = ⊎_elim (λ e. cc) (λ rest. ⊎_elim (λ e. cc) (λ it. let same : first ≡ it.0 = cc in omega (arith, it.2, same, before)) rest) of_log

module _ {told : Type 0} (tells : told) (version : Version) (list : Shared) (from : Stage) (place : Place) (below : ℕ) (holders live live_after : Members) (a b : State) (come : HasCome told version list from place below holders live live_after a b) (low : below < place.last) (start : AllImaged version list from live a) where
  low_end : below < last_of come.to
  low_end = let end = last_matches version list come.to place come.matches in omega (arith, low, end)

  flying : (j : ℕ) → has live j ≡ true → Flies version list (last_of from) (last_of from) (disk_at a j)
  flying j is_live = (start j is_live).flies

  pub come_flown : Flown (Unit {0}) version list (has live) (has live_after) (last_of from) (last_of come.to) a b
  come_flown = flown_of tells version list from come.to below holders live live_after a b come.carried low_end flying

  pub come_beside : (j : ℕ) → has live_after j ≡ true → Beside (IsOfLog (base_of from)) (disk_at a j) (disk_at b j)
  come_beside j is_live = beside_end tells version list from come.to below holders live live_after a b come.carried low_end flying j (come_flown.alive j is_live)

  pub come_imaged : AllImaged version list come.to live_after b
  come_imaged j is_live =
      let was = start j (come_flown.alive j is_live) in
      record {
        stands = come.carried.stands tells j is_live;
        alone = alone_on from come.to (disk_at a j) (disk_at b j) was.alone (come_beside j is_live) (come.carried.alone tells j is_live);
        flies = come_flown.stand tt j is_live;
        image = logging_keeps_image version list (base_of from) (last_of from) (last_of come.to) (disk_at a j) (disk_at b j) was.image come.carried.grows (come_beside j is_live);
      }
