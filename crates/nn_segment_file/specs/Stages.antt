-- How far a live directory has come, and what a step does in each of them.
use Rattle.std.specs.Prelude.{◌≡◌, ◌⊎◌, ℕ, ◌+◌, ◌<◌, List, [], ◌++◌, length, None, Result, OnOk}
use Rattle.nn_base.specs.declared.sub.Sub.TheVariants.{Current}
use Rattle.nn_base.specs.declared.file_name.FileName.{FileName}
use Rattle.nn_base.specs.declared.file_name.FileName.TheVariants.{Seen, SeenTmp, Edits, InProgress}
use Rattle.nn_base.specs.FileText.{IsInRange}
use Rattle.nn_host.specs.Disk.{Disk}
use Rattle.nn_host.specs.Moments.{State, disk_at}
use Rattle.nn_host.specs.Runs.{OnlyAt}
use Rattle.nn_marks.specs.declared.version.Version.{Version}
use Rattle.nn_record.specs.declared.transaction.Record.{Record}
use Rattle.nn_segment_file.specs.Log.{Shared, Rests, IsEnded}
use Rattle.nn_segment_file.specs.Steps.{GoesOn, IsGoing, Logged, StartsInTurn, EndsInTurn}
use Rattle.nn_segment_file.specs.declared.step.Step.{Step}
use Rattle.nn_segment_file.specs.declared.step.Step.TheVariants as step

-- the last segment is ended at this id, or one is in progress behind this id, with these records
pub data Stage : Type 0 where
  Ended : ℕ → Stage
  Going : ℕ → List Record → Stage

-- the last id
abbrev pub last_of : Stage → ℕ
last_of (Ended last) = last
last_of (Going base kept) = base + length kept

-- no segment but that in progress begins after this id
abbrev pub base_of : Stage → ℕ
base_of (Ended last) = last
base_of (Going base kept) = base

-- its segment in progress begins here
abbrev pub IsBegun : Stage → ℕ → Type 0
IsBegun (Ended last) first = ⊥
IsBegun (Going base kept) first = first ≡ base + 1

-- of the segments that begin after the base of the first, none is in progress but that of the second
abbrev pub OneInProgress : Stage → Stage → Disk → Type 0
OneInProgress from to d = (first : ℕ) → IsInRange (InProgress first) → base_of from < first → ¬ IsBegun to first → d.file Current (InProgress first) ≡ None

-- no segment is in progress but that of the stage
abbrev pub IsAlone : Stage → Disk → Type 0
IsAlone stage d = (first : ℕ) → IsInRange (InProgress first) → ¬ IsBegun stage first → d.file Current (InProgress first) ≡ None

-- a disk that has come so far, all of it synced
abbrev pub StandsAt : Version → Shared → Stage → Disk → Type 0
StandsAt version list (Ended last) d = Rests version list last d
StandsAt version list (Going base kept) d = IsGoing version list base kept d

-- what a step with these bytes does
pub data Does (version : Version) (list : Shared) : Step → ℕ → List ℕ → Stage → Stage → Type 0 where
  Starts : {last first : ℕ} {rs : List Record} {bytes : List ℕ} → GoesOn version list last [] rs first bytes → Does version list step.Start first bytes (Ended last) (Going last rs)
  Adds : {base first : ℕ} {kept rs : List Record} {bytes : List ℕ} → GoesOn version list base kept rs first bytes → Does version list step.Write first bytes (Going base kept) (Going base (kept ++ rs))
  Ends : {base first end : ℕ} {kept rs : List Record} {bytes : List ℕ} → GoesOn version list base kept rs first bytes → end ≡ base + length (kept ++ rs) → Does version list (step.End end) first bytes (Going base kept) (Ended end)

-- what it leaves once it is done: after the last one, the segment whole under its last name
abbrev pub Leads : {version : Version} {list : Shared} {step : Step} {first : ℕ} {bytes : List ℕ} {from to : Stage} → Does version list step first bytes from to → Disk → Type 0
Leads {version = version} {list = list} (Starts {last = last} {rs = rs} goes) d = IsGoing version list last rs d
Leads {version = version} {list = list} (Adds {base = base} {kept = kept} {rs = rs} goes) d = IsGoing version list base (kept ++ rs) d
Leads {version = version} {list = list} (Ends {base = base} {end = end} {kept = kept} {rs = rs} goes is) d = IsEnded version list base (kept ++ rs) end d

-- at each moment of it in one directory, the chain ends between the two
abbrev pub StepsAtAnyMoment : Type 0 → ℕ → Step → ℕ → List ℕ → State → State → Type 0
StepsAtAnyMoment told i step first bytes old new = (version : Version) (list : Shared) (from to : Stage) → Does version list step first bytes from to → (told → StandsAt version list from (disk_at old i))
    → OnlyAt told i old new (Logged version list (base_of from) (last_of from) (last_of to) (disk_at old i))

-- what says that bytes are there is written once they last: seen_txid after the first records, the last name after the last ones
abbrev pub StepsInTurn : Type 0 → ℕ → Step → ℕ → List ℕ → State → State → Type 0
StepsInTurn told i step.Start first bytes old new = StartsInTurn told i first bytes old new
StepsInTurn told i step.Write first bytes old new = Unit {0}
StepsInTurn told i (step.End end) first bytes old new = EndsInTurn told i first end bytes old new

-- once it is done, the directory has come to the second
abbrev pub HasStepped : {T E : Type 0} → ℕ → Step → ℕ → List ℕ → State → State → Result T E → Type 0
HasStepped i step first bytes old new result = (version : Version) (list : Shared) (from to : Stage) (does : Does version list step first bytes from to) → StandsAt version list from (disk_at old i) → OnOk result (Leads does (disk_at new i))

-- the files in `current` that it touches
abbrev pub Touched : Step → ℕ → FileName → Type 0
Touched step.Start first n = (n ≡ InProgress first) ⊎ (n ≡ Seen) ⊎ (n ≡ SeenTmp)
Touched step.Write first n = n ≡ InProgress first
Touched (step.End end) first n = (n ≡ InProgress first) ⊎ (n ≡ Edits (first, end))

-- how many calls it makes in one directory at most
abbrev pub calls_of : Step → ℕ
calls_of step.Start = 7
calls_of step.Write = 2
calls_of (step.End end) = 3
