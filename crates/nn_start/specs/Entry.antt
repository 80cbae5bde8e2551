-- Directories while they are opened for a start: as at entry or settled, and then each with the seat that it had.
use Rattle.std.specs.Prelude.{◌≡◌, ◌⊎◌, ℕ, ◌<◌, Bool, true, false, List, None, Result, Ok, Err}
use Rattle.nn_base.specs.declared.sub.Sub.TheVariants.{Previous}
use Rattle.nn_host.specs.Disk.{Disk}
use Rattle.nn_host.specs.Moments.{Dir, Moment, State, disk_at}
use Rattle.nn_host.specs.Runs.{Throughout, EachDir, Undisturbed, RoseAt, SameCounts}
use Rattle.nn_state.specs.declared.typed.Settled.{Settled}
use Rattle.nn_state.specs.Typed.{FitsSettled, dir_in}
use Rattle.nn_state.specs.Recovery.{KeepsSeat, IsRecovered}
use Rattle.nn_state.specs.Bays.{IsAt}
use Rattle.nn_pick.specs.declared.intent.Intent.TheVariants.{Start}
use Rattle.nn_pick.specs.declared.fault.OpenFault.{OpenFault}
use Rattle.nn_pick.specs.declared.fault.OpenFault.TheVariants.{Refused, Failed, Memory}
use Rattle.nn_pick.specs.Dirs.{Dirs, IsAmongChosen}
use Rattle.nn_pick.specs.Refusing.{HasServingPrevious}
use Rattle.nn_pick.specs.Opening.{Book, AreSound}
use Rattle.nn_kept.specs.Kept.{Shared}
use Rattle.nn_kept.specs.Laws.{AllKept}
use Rattle.nn_kept.specs.First.{IsFirst}
use Rattle.nn_choose.specs.Looking.{dirs_read}
use Rattle.nn_open.specs.Answers.{settled_disk}

-- ---- at each moment

-- the disk of each is as at entry, or settled
abbrev pub IsAsAtEntry : State → Moment → Type 0
IsAsAtEntry old = EachDir (λ i d. (d.disk ≡ disk_at old i) ⊎ (d.disk ≡ settled_disk old i))

-- each keeps the seat that it had once it was settled
abbrev pub KeepsSeats : State → Moment → Type 0
KeepsSeats old = EachDir (λ i d. i < old.count → KeepsSeat (settled_disk old i) d.disk)

-- Of settled directories: none has changed yet, or each keeps its seat.
abbrev pub ReopensAtAnyMoment : Type 0 → State → State → Type 0
ReopensAtAnyMoment told old new = Throughout told old new (λ m. Undisturbed old m ⊎ EachDir (λ i d. i < old.count → KeepsSeat (disk_at old i) d.disk) m)

abbrev pub OpensAtAnyMoment : Type 0 → State → State → Type 0
OpensAtAnyMoment told old new = Throughout told old new (λ m. IsAsAtEntry old m ⊎ KeepsSeats old m)

-- ---- what that keeps

-- Those that count as of the run are chosen; and those that count as led have a serving previous, unless nothing is saved.
pub record CountChosen (dirs : Dirs) (book : Book) (run leaders : ℕ → Dir → Bool) : Type 0 where
  pub of_run : (i : ℕ) (d : Dir) → run i d ≡ true → IsAmongChosen dirs i
  pub led : (i : ℕ) (d : Dir) → leaders i d ≡ true → IsAmongChosen dirs i × (HasServingPrevious dirs i ⊎ (book.saved ≡ None))

-- Where the directories are sound at entry, at each moment they are as at entry or settled, or each is kept: every choice of them with a chosen one is sound and opens to their Book.
abbrev pub StartKept : Type 0 → State → State → Type 0
StartKept told old new = (sound : AreSound (dirs_read old) Start) (shared : Shared) (run leaders : ℕ → Dir → Bool) → IsFirst shared (dirs_read old) Start sound → CountChosen (dirs_read old) sound.opened.book run leaders
    → Throughout told old new (λ m. IsAsAtEntry old m ⊎ AllKept shared old.count run leaders m)

-- ---- afterwards

-- each keeps the seat that it had
abbrev pub AllKeepSeats : State → State → Type 0
AllKeepSeats old new = (j : ℕ) → j < old.count → KeepsSeat (disk_at old j) (disk_at new j)

-- recovered since it was settled, on the disk of this directory and as it reads; the same folders serve in it
pub record WasReopened (i : ℕ) (old new : State) : Type 0 where
  pub seat : KeepsSeat (settled_disk old i) (disk_at new i)
  pub disk : IsRecovered (settled_disk old i) (disk_at new i)
  pub reads : IsRecovered (old.reads i) (new.reads i)

abbrev pub AllReopened : State → State → Type 0
AllReopened old new = (j : ℕ) → j < old.count → WasReopened j old new

-- each of these states fits the disk of its directory
abbrev pub SettledFitNow : List Settled → State → Type 0
SettledFitNow at s = (k : ℕ) (it : Settled) → IsAt at k it → FitsSettled it (disk_at s k)

-- Where it was refused, and where there was no memory, each directory reads as before.
abbrev pub ReadsAsBefore : State → State → OpenFault → Type 0
ReadsAsBefore old new (Refused refusal) = (j : ℕ) → new.reads j ≡ old.reads j
ReadsAsBefore old new (Failed i) = Unit {0}
ReadsAsBefore old new Memory = (j : ℕ) → new.reads j ≡ old.reads j

-- where it was refused
abbrev pub ReadsWhereRefused : State → State → OpenFault → Type 0
ReadsWhereRefused old new (Refused refusal) = (j : ℕ) → new.reads j ≡ old.reads j
ReadsWhereRefused old new (Failed i) = Unit {0}
ReadsWhereRefused old new Memory = Unit {0}

-- ---- a saved state

-- some directory, of these, has one by its type; or none has
abbrev pub SomeSaved : List Settled → (ℕ → Bool) → Type 0
SomeSaved at chosen = (k : ℕ) × (it : Settled) × IsAt at k it × (chosen (dir_in it).0 ≡ true) × ((d : Disk) → FitsSettled it d → d.has Previous ≡ true)

abbrev pub NoneSaved : List Settled → (ℕ → Bool) → Type 0
NoneSaved at chosen = (k : ℕ) (it : Settled) → IsAt at k it → chosen (dir_in it).0 ≡ true → (d : Disk) → FitsSettled it d → d.has Previous ≡ false

-- ---- counts

-- which counts rose, by the answer: that of the directory that failed, and else none
abbrev pub IsCountedBy : {T : Type 0} → State → State → Result T OpenFault → Type 0
IsCountedBy old new (Ok v) = SameCounts old new
IsCountedBy old new (Err (Refused refusal)) = SameCounts old new
IsCountedBy old new (Err (Failed i)) = RoseAt i.0 old new
IsCountedBy old new (Err Memory) = SameCounts old new
