-- What all directories of a start are brought up to, and how one stands before its turn and after it.
use Rattle.std.specs.Prelude.{◌≡◌, ◌≢◌, ◌⊎◌, ℕ, ◌<◌, ◌^◌, Bool, true, false, ◌&&◌, None, is_some, Contains, Result, OnOk}
use Rattle.nn_base.specs.declared.sub.Sub.TheVariants.{Current}
use Rattle.nn_host.specs.Disk.{Disk}
use Rattle.nn_host.specs.Moments.{Dir, State, disk_at}
use Rattle.nn_host.specs.Runs.{OnlyAt, Throughout}
use Rattle.nn_marks.specs.declared.version.Version.{Version}
use Rattle.nn_state.specs.declared.state.StorageState.TheVariants.{Normal}
use Rattle.nn_state.specs.declared.typed.Settled.{Settled}
use Rattle.nn_state.specs.declared.typed.Settled.TheVariants as settled
use Rattle.nn_state.specs.Seat.{saved}
use Rattle.nn_state.specs.Typed.{IsIn}
use Rattle.nn_tree.specs.Namespace.{Namespace}
use Rattle.nn_chain.specs.Folder.{HasVersion, folder_at}
use Rattle.nn_chain.specs.Images.{IsIntact}
use Rattle.nn_kept.specs.Kept.{Shared, IsOurs}
use Rattle.nn_kept.specs.Laws.{EachLeft, IsKeptDisk, AllKept}
use Rattle.nn_steps.specs.Steps.{IsSure, StaysBehind, EndsAtFloor}

-- ---- what they are brought up to

-- What is shared has this rank for its floor and its lead, and there this namespace; and their Book is in the window.
pub record IsAimedAt (shared : Shared) (version : Version) (id : ℕ) (ns : Namespace) : Type 0 where
  pub ours : IsOurs shared version
  pub floor : shared.floor ≡ record { ctime = version.ctime; last = id }
  pub lead : shared.lead ≡ shared.floor
  pub list : shared.ns version.ctime id ≡ ns
  pub room : id < 2 ^ 62
  pub there : Contains shared.window (record { ns = ns; saved = shared.saved version.ctime })

-- ---- one directory

-- it is NORMAL, and each fair stop leaves a chain that ends at the floor
pub record StandsThere (shared : Shared) (version : Version) (id : ℕ) (d : Disk) : Type 0 where
  pub normal : IsIn Normal d
  pub ends : EndsAtFloor shared version id d

-- and beside it the image of the floor, intact; and its files are certain
pub record IsBrought (shared : Shared) (version : Version) (id : ℕ) (i : ℕ) (s : State) : Type 0 where
  pub stands : StandsThere shared version id (disk_at s i)
  pub sure : IsSure Current i s
  pub intact : EachLeft (disk_at s i) (λ c. IsIntact (folder_at c Current) version id (shared.ns version.ctime id))

-- The floor has left it behind. One of the floor's cTime says so itself, its files are certain, and its previous is kept only where something is saved.
pub record LagsBehind (shared : Shared) (level keep : Bool) (version : Version) (i : ℕ) (s : State) : Type 0 where
  pub behind : StaysBehind shared (disk_at s i)
  pub says : level ≡ true → EachLeft (disk_at s i) (λ c. HasVersion (folder_at c Current) version)
  pub sure : level ≡ true → IsSure Current i s
  pub saves : keep ≡ true → shared.saved version.ctime ≢ None

-- whether something is formatted in a directory in which nothing is under way
abbrev pub serves_by : Settled → Bool
serves_by (settled.Ready it) = true
serves_by (settled.ReadyWithPrevious it) = true
serves_by (settled.Fresh it) = false

-- ---- one that is brought up

-- At each moment it is kept, though it doesn't count as of the run.
abbrev pub BringsKept : Type 0 → Bool → Bool → Version → ℕ → Namespace → ℕ → State → State → Type 0
BringsKept told level keep version id ns i old new = (shared : Shared) → (told → IsAimedAt shared version id ns) → (told → LagsBehind shared level keep version i old) → OnlyAt told i old new (IsKeptDisk shared false false)

-- It stands there, and something is saved in it where that was so, if it is of the floor's cTime and a saved state is to stay.
pub record IsBroughtUp (shared : Shared) (level keep : Bool) (version : Version) (id : ℕ) (i : ℕ) (old new : State) : Type 0 where
  pub brought : IsBrought shared version id i new
  pub saves : is_some (saved (disk_at new i)) ≡ (level && keep && is_some (saved (disk_at old i)))

-- Once that is done it is so.
abbrev pub BringsUp : {T E : Type 0} → Bool → Bool → Version → ℕ → Namespace → ℕ → State → State → Result T E → Type 0
BringsUp level keep version id ns i old new result = (shared : Shared) → IsAimedAt shared version id ns → LagsBehind shared level keep version i old → OnOk result (IsBroughtUp shared level keep version id i old new)

-- ---- all of them

-- those that were chosen stand there, and the others lag behind
pub record AreReady (shared : Shared) (chosen level : ℕ → Bool) (keep : Bool) (version : Version) (id : ℕ) (s : State) : Type 0 where
  pub stand : (i : ℕ) → i < s.count → chosen i ≡ true → StandsThere shared version id (disk_at s i)
  pub lag : (i : ℕ) → i < s.count → chosen i ≡ false → LagsBehind shared (level i) keep version i s

-- Those that count as of the run are chosen; and those that count as led have something saved, unless nothing is.
pub record CountStanding (shared : Shared) (version : Version) (chosen : ℕ → Bool) (s : State) (run leaders : ℕ → Dir → Bool) : Type 0 where
  pub of_run : (i : ℕ) (d : Dir) → run i d ≡ true → chosen i ≡ true
  pub led : (i : ℕ) (d : Dir) → leaders i d ≡ true → (chosen i ≡ true) × ((is_some (saved (disk_at s i)) ≡ true) ⊎ (shared.saved version.ctime ≡ None))

-- ---- what a call on all of them keeps, and what it does

-- Where those at the beginning are so, at each moment every choice of them with a chosen one is sound and opens to the Book.
abbrev pub KeepsAll : Type 0 → (Shared → State → Type 0) → (ℕ → Bool) → Version → ℕ → Namespace → State → State → Type 0
KeepsAll told Before chosen version id ns old new = (shared : Shared) (run leaders : ℕ → Dir → Bool) → (told → IsAimedAt shared version id ns) → (told → Before shared old) → (told → CountStanding shared version chosen old run leaders)
    → Throughout told old new (AllKept shared old.count run leaders)

-- and once it is done each of these directories is so
abbrev pub BringsAll : {T E : Type 0} → (Shared → State → Type 0) → (Shared → ℕ → State → Type 0) → (ℕ → Bool) → Version → ℕ → Namespace → State → State → Result T E → Type 0
BringsAll Before After todo version id ns old new result = (shared : Shared) → IsAimedAt shared version id ns → Before shared old → OnOk result ((i : ℕ) → i < old.count → todo i ≡ true → After shared i new)

-- this directory is as it was
pub record IsAsItWas (i : ℕ) (old new : State) : Type 0 where
  pub dir : new.now.dirs i ≡ old.now.dirs i
  pub reads : new.reads i ≡ old.reads i
