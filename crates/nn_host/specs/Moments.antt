-- All directories and the output at one moment, the record of calls, and what a stop since some moment finds.
use Rattle.std.specs.Prelude.{◌≡◌, ◌≢◌, ◌⊎◌, ℕ, List, [], ◌∷◌, ◌++◌, length, take, drop}
use Rattle.nn_host.specs.Disk.{Disk, Reads, Call, InFlight, Leaves, IsSound}

-- a directory at a moment: its disk, and how often it has failed
pub record Dir : Type 0 where
  pub disk : Disk
  pub faults : ℕ

-- all directories by their numbers, the bytes said by then, and how often the output has failed
pub record Moment : Type 0 where
  pub dirs : ℕ → Dir
  pub said : List ℕ
  pub out_faults : ℕ

pub data Event : Type 0 where
  On : ℕ → Call → Event
  Say : List ℕ → Event

-- a call, the moment before it, and the one at which the call before that ended: in between, only counts can have risen
pub record Entry : Type 0 where
  pub ended : Moment
  pub before : Moment
  pub event : Event

-- what a host means: how things stand and stood when the last recorded call ended, how the directories read,
-- how many there are, and the record of calls
pub record State : Type 0 where
  pub now : Moment
  pub ended : Moment
  pub reads : ℕ → Reads
  pub count : ℕ
  pub trace : List Entry

abbrev pub disk_at : State → ℕ → Disk
disk_at s i = (s.now.dirs i).disk

abbrev pub faults_at : State → ℕ → ℕ
faults_at s i = (s.now.dirs i).faults

-- how many calls were recorded
abbrev pub moment : State → ℕ
moment s = length s.trace

-- all but this directory is the same
pub record SameBut (i : ℕ) (old new : Moment) : Type 0 where
  pub dirs : (j : ℕ) → j ≢ i → new.dirs j ≡ old.dirs j
  pub said : new.said ≡ old.said
  pub out_faults : new.out_faults ≡ old.out_faults

-- a stop inside the call finds this
abbrev pub Stops : Event → Moment → Moment → Type 0
Stops (On i call) before m = SameBut i before m × InFlight call (before.dirs i).disk (m.dirs i).disk × ((m.dirs i).faults ≡ (before.dirs i).faults)
Stops (Say bytes) before m = (m.dirs ≡ before.dirs) × (m.out_faults ≡ before.out_faults) × ((n : ℕ) × (m.said ≡ before.said ++ take n bytes))

abbrev pub Within : List Entry → Moment → Type 0
Within [] m = ⊥
Within (e ∷ es) m = (m ≡ e.ended) ⊎ (m ≡ e.before) ⊎ Stops e.event e.before m ⊎ Within es m

-- a stop at some moment since t, inside a call or between two, finds this
abbrev pub Since : State → ℕ → Moment → Type 0
Since s t m = (m ≡ s.now) ⊎ (m ≡ s.ended) ⊎ Within (drop t s.trace) m

-- a stop at some moment since t may leave these contents; m has the bytes said, the counts and the files of that moment
pub record Left (s : State) (t : ℕ) (c : ℕ → Reads) (m : Moment) : Type 0 where
  pub since : Since s t m
  pub leaves : (i : ℕ) → Leaves (m.dirs i).disk (c i)

-- what always holds of a host that tells: its disks are sound, what reads is what a stop at this moment may leave,
-- and since the last recorded call ended, no disk has changed and nothing was said
pub record IsLawful (s : State) : Type 0 where
  pub disks : (i : ℕ) → IsSound (disk_at s i)
  pub reads : (i : ℕ) → Leaves (disk_at s i) (s.reads i)
  pub ended : (i : ℕ) → (s.ended.dirs i).disk ≡ disk_at s i
  pub said : s.ended.said ≡ s.now.said
