-- What holds over a run of calls: which directories it touched, and what each moment of it has.
use Rattle.std.specs.Prelude.{◌≡◌, ◌≢◌, ◌⊎◌, ◌<◌, ◌≤◌, ℕ, Bool, true, List, ◌++◌, All, if◌then◌else◌}
use Rattle.nn_host.specs.Disk.{Disk, Look}
use Rattle.nn_host.specs.Moments.{Dir, Moment, Entry, On, State, Since, SameBut, moment, disk_at, faults_at}
use Rattle.nn_host.specs.Calls.{Frame, next_count}

-- nothing has changed since but this directory, whose disk has P and whose count of faults hasn't fallen
pub record AtWork (i : ℕ) (old : State) (m : Moment) (P : Disk → Type 0) : Type 0 where
  pub others : SameBut i old.now m
  pub disk : P (m.dirs i).disk
  pub counted : faults_at old i ≤ (m.dirs i).faults

-- from old to new this directory alone was touched: at each moment its disk has P, and its count of faults hasn't fallen
pub record OnlyAt (told : Type 0) (i : ℕ) (old new : State) (P : Disk → Type 0) : Type 0 where
  pub frame : Frame i old new
  pub counted : faults_at old i ≤ faults_at new i
  pub later : told → moment old ≤ moment new
  pub ends : told → P (disk_at new i)
  pub each : told → (t : ℕ) (m : Moment) → t ≤ moment old → Since new t m → Since old t m ⊎ AtWork i old m P

-- from old to new each moment has Q
pub record Throughout (told : Type 0) (old new : State) (Q : Moment → Type 0) : Type 0 where
  pub count : new.count ≡ old.count
  pub later : told → moment old ≤ moment new
  pub ends : told → Q new.now
  pub each : told → (t : ℕ) (m : Moment) → t ≤ moment old → Since new t m → Since old t m ⊎ Q m

-- each directory has its own fact
pub record EachDir (K : ℕ → Dir → Type 0) (m : Moment) : Type 0 where
  pub at : (j : ℕ) → K j (m.dirs j)

-- the disk of each directory is as it was in this state
pub record Undisturbed (old : State) (m : Moment) : Type 0 where
  pub disks : (j : ℕ) → (m.dirs j).disk ≡ (old.now.dirs j).disk

-- from old to new no directory was changed: a stop at any moment leaves of each what a stop at the beginning could leave
abbrev pub Untouched : Type 0 → State → State → Type 0
Untouched told old new = Throughout told old new (Undisturbed old)

-- from old to new the output didn't fail
abbrev pub OutWhole : Type 0 → State → State → Type 0
OutWhole told old new = Throughout told old new (λ m. m.out_faults ≡ old.now.out_faults)

-- from old to new nothing was said any more once the output had failed
abbrev pub SilentAfter : Type 0 → State → State → Type 0
SilentAfter told old new = Throughout told old new (λ m. (m.out_faults ≡ old.now.out_faults) ⊎ (m.said ≡ new.now.said))

-- what was said, and how often the output failed, is as in this state
pub record OutAsIn (old : State) (m : Moment) : Type 0 where
  pub said : m.said ≡ old.now.said
  pub out_faults : m.out_faults ≡ old.now.out_faults

-- from old to new nothing was said, and the output didn't fail
pub record Unspoken (told : Type 0) (old new : State) : Type 0 where
  pub now : OutAsIn old new.now
  pub each : Throughout told old new (OutAsIn old)

-- no directory's count of faults rose
pub record SameCounts (old new : State) : Type 0 where
  pub faults : (j : ℕ) → faults_at new j ≡ faults_at old j

-- the count of this directory rose, and that of no other
pub record RoseAt (i : ℕ) (old new : State) : Type 0 where
  pub below : i < old.count
  pub rose : faults_at new i ≡ next_count (faults_at old i)
  pub others : (j : ℕ) → j ≢ i → faults_at new j ≡ faults_at old j

-- from old to new the record of calls grew by looks at this directory alone
abbrev pub LooksAlone : ℕ → State → State → Type 0
LooksAlone i old new = (looks : List Entry) × (new.trace ≡ old.trace ++ looks) × All (λ e. e.event ≡ On i Look) looks

-- from old to new this directory alone was looked at, and nothing was said; all calls were answered, or the last one failed
pub record Looked (told : Type 0) (i : ℕ) (old new : State) (answered : Bool) : Type 0 where
  pub frame : Frame i old new
  pub counted : faults_at new i ≡ (if answered then faults_at old i else next_count (faults_at old i))
  pub untouched : Untouched told old new
  pub out : OutWhole told old new
  pub reads : told → answered ≡ true → new.reads i ≡ old.reads i
  pub calls : told → LooksAlone i old new

-- from old to new each call was answered, and no directory was changed
pub record AllAnswered (told : Type 0) (old new : State) : Type 0 where
  pub untouched : Untouched told old new
  pub out : OutWhole told old new
  pub faults : (j : ℕ) → faults_at new j ≡ faults_at old j
  pub out_faults : new.now.out_faults ≡ old.now.out_faults
  pub reads : told → (j : ℕ) → new.reads j ≡ old.reads j
