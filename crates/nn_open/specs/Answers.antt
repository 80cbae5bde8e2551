-- What `format` answers.
use Rattle.std.specs.Prelude.{◌≡◌, ◌⊎◌, ◌<◌, ℕ, Option, Some, None, Result, Ok, Err}
use Rattle.nn_host.specs.Disk.{Disk, Reads, Settle, disk_after}
use Rattle.nn_host.specs.Moments.{Moment, State, Left, disk_at, moment}
use Rattle.nn_host.specs.Runs.{Throughout, EachDir, RoseAt, SameCounts}
use Rattle.nn_marks.specs.declared.version.Version.{Version}
use Rattle.nn_state.specs.Table.{seven_of, table_of}
use Rattle.nn_state.specs.Typed.{FitsFresh}
use Rattle.nn_pick.specs.declared.refusal.Refusal.{Refusal}
use Rattle.nn_pick.specs.declared.fault.OpenFault.{OpenFault}
use Rattle.nn_pick.specs.declared.fault.OpenFault.TheVariants.{Refused, Failed, Memory}
use Rattle.nn_pick.specs.Refused.{unformattable, first_refused}
use Rattle.nn_pick.specs.Dirs.{EachChoice}
use Rattle.nn_open.specs.Formatted.{IsFormatted, ReadsFormatted, FreshOrNew, OpensEmpty, OpenEmptySoundly, LeftFreshOrOpen}

-- the refusal of the lowest of the first n directories that isn't NOT_FORMATTED
abbrev pub first_unformattable : (ℕ → Reads) → ℕ → Option Refusal
first_unformattable dirs n = first_refused (λ i. unformattable i (table_of (seven_of (dirs i)))) n

-- no directory was refused, and each is formatted, as it reads and on its disk, and alone opens to the empty namespace, as
-- each choice of one or more does
pub record AllFormatted (version : Version) (old new : State) : Type 0 where
  pub unrefused : first_unformattable old.reads old.count ≡ None
  pub reads : (i : ℕ) → i < old.count → ReadsFormatted version (new.reads i)
  pub disks : (i : ℕ) → i < old.count → IsFormatted version (disk_at new i)
  pub opens : (i : ℕ) → i < old.count → OpensEmpty (new.reads i)
  pub choices : EachChoice old.count new.reads (λ dirs. 0 < dirs.count → OpenEmptySoundly dirs)

-- the disk of a directory once it is settled, as it reads
abbrev pub settled_disk : State → ℕ → Disk
settled_disk s i = disk_after Settle (s.reads i) (disk_at s i)

-- this is the first refusal; each directory reads as before, and was settled
pub record IsRefused (refusal : Refusal) (old new : State) : Type 0 where
  pub first : first_unformattable old.reads old.count ≡ Some refusal
  pub reads : (i : ℕ) → new.reads i ≡ old.reads i
  pub settled : (i : ℕ) → i < old.count → disk_at new i ≡ settled_disk old i

-- each of the directories is NOT_FORMATTED
abbrev pub AllFresh : State → Type 0
AllFresh s = (i : ℕ) → i < s.count → FitsFresh (s.reads i)

-- from old to new the disk of each directory is NOT_FORMATTED, or holds a new namespace under this VERSION
abbrev pub EachFreshOrNew : Type 0 → Version → State → State → Type 0
EachFreshOrNew told version old new = Throughout told old new (EachDir (λ i d. i < old.count → FreshOrNew version d.disk))

-- a stop at any moment since leaves each directory NOT_FORMATTED, or one that alone opens to the empty namespace; and each
-- choice of them with one that is formatted opens to it
abbrev pub StopsFreshOrOpen : State → State → Type 0
StopsFreshOrOpen old new = (contents : ℕ → Reads) (m : Moment) → Left new (moment old) contents m → LeftFreshOrOpen old.count contents

-- from old to new the disk of each directory is as it was, or settled: a stop leaves of it what one could leave before
abbrev pub EachAsBefore : Type 0 → State → State → Type 0
EachAsBefore told old new = Throughout told old new (EachDir (λ i d. (d.disk ≡ disk_at old i) ⊎ (d.disk ≡ settled_disk old i)))

-- which counts rose, by the answer: that of the directory that failed, and else none
abbrev pub IsCountedBy : State → State → Result (Unit {0}) OpenFault → Type 0
IsCountedBy old new (Ok v) = SameCounts old new
IsCountedBy old new (Err (Refused refusal)) = SameCounts old new
IsCountedBy old new (Err (Failed i)) = RoseAt i.0 old new
IsCountedBy old new (Err Memory) = SameCounts old new
