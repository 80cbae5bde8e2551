-- A step in several directories, where those that fail are dropped.
use Rattle.std.specs.Prelude.{◌≡◌, ◌⊎◌, ℕ, ◌<◌, ◌≤◌, ◌+◌, ◌*◌, ◌-◌, ◌^◌, true, false, List}
use Rattle.nn_base.specs.DirSets.{Members, has, count_of}
use Rattle.nn_host.specs.Moments.{Dir, Moment, State, moment, disk_at, faults_at}
use Rattle.nn_host.specs.Calls.{next_count}
use Rattle.nn_host.specs.Runs.{Throughout, EachDir, Unspoken}
use Rattle.nn_marks.specs.declared.version.Version.{Version}
use Rattle.nn_segment_file.specs.Log.{Shared}
use Rattle.nn_segment_file.specs.Steps.{Logged}
use Rattle.nn_segment_file.specs.Stages.{Stage, base_of, last_of, StandsAt, IsAlone, Does, Leads, calls_of}
use Rattle.nn_segment_file.specs.declared.step.Step.{Step}

-- each of them stands here
abbrev pub AllAt : Version → Shared → Stage → Members → State → Type 0
AllAt version list stage among s = (j : ℕ) → has among j ≡ true → StandsAt version list stage (disk_at s j)

-- in none of them another segment is in progress
abbrev pub AllAlone : Stage → Members → State → Type 0
AllAlone stage among s = (j : ℕ) → has among j ≡ true → IsAlone stage (disk_at s j)

-- at a moment the chain of each of them ends between the two stages, and all others are as they were
pub record AmongAt (version : Version) (list : Shared) (from to : Stage) (among : Members) (old : State) (j : ℕ) (dir : Dir) : Type 0 where
  pub logged : has among j ≡ true → Logged version list (base_of from) (last_of from) (last_of to) (disk_at old j) dir.disk
  pub same : has among j ≡ false → dir ≡ old.now.dirs j

-- its count is the same, and so is whether it is live; or it has failed, and is dropped
pub record StaysLive (old_live live : Members) (old new : State) (j : ℕ) : Type 0 where
  pub same_live : has live j ≡ has old_live j
  pub faults : faults_at new j ≡ faults_at old j

pub record IsDropped (among live : Members) (old new : State) (j : ℕ) : Type 0 where
  pub was_among : has among j ≡ true
  pub not_live : has live j ≡ false
  pub faults : faults_at new j ≡ next_count (faults_at old j)

abbrev pub EachCounted : Members → Members → Members → State → State → Type 0
EachCounted among old_live live old new = (j : ℕ) → StaysLive old_live live old new j ⊎ IsDropped among live old new j

-- the step at each moment
abbrev pub AmongAtAnyMoment : Type 0 → Step → ℕ → List ℕ → Members → State → State → Type 0
AmongAtAnyMoment told step first bytes among old new = (version : Version) (list : Shared) (from to : Stage) → Does version list step first bytes from to → (told → AllAt version list from among old)
    → Throughout told old new (EachDir (AmongAt version list from to among old))

-- those that are still live have what the step leads to
abbrev pub AmongDone : Type 0 → Step → ℕ → List ℕ → Members → Members → State → State → Type 0
AmongDone told step first bytes among live old new = (version : Version) (list : Shared) (from to : Stage) (does : Does version list step first bytes from to) → told → AllAt version list from among old
    → (j : ℕ) → has among j ≡ true → has live j ≡ true → Leads does (disk_at new j)

-- ---- a directory that failed is left alone

-- At a moment no count has fallen; each directory that isn't one of these is as it was, and one in which a call has failed is as it is in the end.
pub record IsLeftAlone (among : Members) (old new : State) (m : Moment) : Type 0 where
  pub grown : (j : ℕ) → faults_at old j ≤ (m.dirs j).faults
  pub others : (j : ℕ) → has among j ≡ false → m.dirs j ≡ old.now.dirs j
  pub failed : (j : ℕ) → faults_at old j < (m.dirs j).faults → m.dirs j ≡ new.now.dirs j

abbrev pub LeavesAlone : Type 0 → Members → State → State → Type 0
LeavesAlone told among old new = Throughout told old new (IsLeftAlone among old new)

-- ---- holders are served first

-- at a moment no other directory was touched yet, or each holder that hasn't failed has come to the second stage
abbrev pub OrderedAt : Version → Shared → Stage → Members → Members → State → Moment → Type 0
OrderedAt version list to live holders old m = ((j : ℕ) → has holders j ≡ false → m.dirs j ≡ old.now.dirs j)
    ⊎ ((j : ℕ) → has live j ≡ true → has holders j ≡ true → faults_at old j < 2 ^ 64 - 1 → (m.dirs j).faults ≡ faults_at old j → StandsAt version list to (m.dirs j).disk)

abbrev pub HoldersFirst : Type 0 → Step → ℕ → List ℕ → Members → Members → State → State → Type 0
HoldersFirst told step first bytes live holders old new = (version : Version) (list : Shared) (from to : Stage) → Does version list step first bytes from to → (told → AllAt version list from live old)
    → Throughout told old new (OrderedAt version list to live holders old)

-- ---- a step, whatever they held

-- in these directories: who is live afterwards, each moment, what it leads to, which are left alone, that nothing is said, and how many calls there are
pub record SteppedAmong (told : Type 0) (step : Step) (first : ℕ) (bytes : List ℕ) (among old_live live : Members) (old new : State) : Type 0 where
  pub counted : EachCounted among old_live live old new
  pub any_moment : AmongAtAnyMoment told step first bytes among old new
  pub done : AmongDone told step first bytes among live old new
  pub left : LeavesAlone told among old new
  pub quiet : Unspoken told old new
  pub calls : told → moment new ≤ moment old + calls_of step * count_of among

-- in the live ones, holders first
pub record SteppedAll (told : Type 0) (step : Step) (first : ℕ) (bytes : List ℕ) (holders old_live live : Members) (old new : State) : Type 0 where
  pub counted : EachCounted old_live old_live live old new
  pub any_moment : AmongAtAnyMoment told step first bytes old_live old new
  pub done : AmongDone told step first bytes old_live live old new
  pub order : HoldersFirst told step first bytes old_live holders old new
  pub left : LeavesAlone told old_live old new
  pub quiet : Unspoken told old new
  pub calls : told → moment new ≤ moment old + calls_of step * count_of old_live
