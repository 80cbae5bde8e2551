-- The states of all directories, in order, before and after their recovery.
use Rattle.std.specs.Prelude.{◌≡◌, ◌≢◌, ◌<◌, ℕ, List, length, get_or, Result, Ok, Err}
use Rattle.nn_host.specs.Moments.{State, disk_at}
use Rattle.nn_host.specs.Runs.{Throughout, EachDir, RoseAt, SameCounts}
use Rattle.nn_state.specs.declared.state.StorageState.TheVariants.{NonExistent}
use Rattle.nn_state.specs.declared.typed.Found.{Found}
use Rattle.nn_state.specs.declared.typed.Settled.{Settled}
use Rattle.nn_state.specs.declared.bay.Bay.{Bay}
use Rattle.nn_state.specs.declared.bay.BayFault.{BayFault}
use Rattle.nn_state.specs.declared.bay.BayFault.TheVariants.{Failed, Memory}
use Rattle.nn_state.specs.Typed.{state_of, dir_of, FitsFound, dir_in, FitsSettled}
use Rattle.nn_state.specs.Recovery.{HasServingVersion, KeepsSeat, WasRecovered}

-- this stands in the list at this place
pub record IsAt {X : Type 0} (xs : List X) (k : ℕ) (x : X) : Type 0 where
  pub within : k < length xs
  pub is : x ≡ get_or xs k x

-- ---- as they were found

-- so many states, each at the place of its directory, and each directory is there
pub record AreFound (count : ℕ) (found : List Found) : Type 0 where
  pub all : length found ≡ count
  pub placed : (k : ℕ) (it : Found) → IsAt found k it → (dir_of it).0 ≡ k
  pub there : (k : ℕ) (it : Found) → IsAt found k it → state_of it ≢ NonExistent

-- each fits the disk of its directory
abbrev pub FitAll : List Found → State → Type 0
FitAll found s = (k : ℕ) (it : Found) → IsAt found k it → FitsFound it (disk_at s k)

-- ---- once nothing is under way

-- so many states, each at the place of its directory
pub record AreSettled (count : ℕ) (at : List Settled) : Type 0 where
  pub all : length at ≡ count
  pub placed : (k : ℕ) (it : Settled) → IsAt at k it → (dir_in it).0 ≡ k

-- each fits the disk of its directory, where the folder that served as current has VERSION
abbrev pub SettledFit : List Settled → State → State → Type 0
SettledFit at old new = (k : ℕ) (it : Settled) → IsAt at k it → HasServingVersion (disk_at old k) → FitsSettled it (disk_at new k)

abbrev pub AllRecovered : State → State → Type 0
AllRecovered old new = (j : ℕ) → j < old.count → WasRecovered j old new

-- at each moment of it each directory keeps its seat
abbrev pub EachKeepsSeat : Type 0 → State → State → Type 0
EachKeepsSeat told old new = Throughout told old new (EachDir (λ j d. j < old.count → KeepsSeat (disk_at old j) d.disk))

-- a call on this directory failed: those before it are recovered, and those behind it are as they were
pub record HasStoppedAt (i : ℕ) (old new : State) : Type 0 where
  pub before : (j : ℕ) → j < i → WasRecovered j old new
  pub behind : (j : ℕ) → i < j → disk_at new j ≡ disk_at old j

-- why not all are recovered, and what was done
abbrev pub HasStopped : Type 0 → BayFault → State → State → Type 0
HasStopped told (Failed i) old new = told → HasStoppedAt i.0 old new
HasStopped told Memory old new = new ≡ old

-- which counts rose, by the answer: that of the directory that failed, and else none
abbrev pub IsCountedBy : State → State → Result Bay BayFault → Type 0
IsCountedBy old new (Ok bay) = SameCounts old new
IsCountedBy old new (Err (Failed i)) = RoseAt i.0 old new
IsCountedBy old new (Err Memory) = SameCounts old new
