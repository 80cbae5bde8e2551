-- What each durable step on a directory keeps: from what it says of the one disk at each moment to what a run keeps of that disk.
use Rattle.std.specs.Prelude.{◌≡◌, ◌≢◌, ◌⊎◌, None, ℕ, ℤ, ◌<◌, ◌≤◌, ◌^◌, Bool, false, Option, is_some, Some, true, if◌then◌else◌}
use Rattle.nn_base.specs.Limits.{program_layout}
use Rattle.nn_base.specs.declared.sub.Sub.{Sub}
use Rattle.nn_base.specs.declared.file_name.FileName.{FileName}
use Rattle.nn_base.specs.declared.sub.Sub.TheVariants.{Current}
use Rattle.nn_host.specs.Disk.{Disk, Reads, Leaves, Settle, IsSound, certain, disk_after}
use Rattle.nn_host.specs.Moments.{State, disk_at}
use Rattle.nn_marks.specs.declared.version.Version.{Version}
use Rattle.nn_state.specs.declared.state.StorageState.TheVariants.{Normal}
use Rattle.nn_state.specs.Seat.{serving, saved}
use Rattle.nn_state.specs.Typed.{IsIn, FitsFresh}
use Rattle.nn_state.specs.Recovery.{KeepsSeat, WasRecovered}
use Rattle.nn_tree.specs.Namespace.{Namespace}
use Rattle.nn_chain.specs.Folder.{Folder, HasVersion, folder_at}
use Rattle.nn_chain.specs.Images.{IsIntact}
use Rattle.nn_segment_file.specs.Log.{Rests}
use Rattle.nn_segment_file.specs.Steps.{Logged}
use Rattle.nn_remake.specs.Clearing.{IsAtRest, IsGivingUp, IsClearing}
use Rattle.nn_remake.specs.Made.{IsMade, FreshOrMade}
use Rattle.nn_remake.specs.Published.{IsPublished, IsOnlyOf}
use Rattle.nn_remake.specs.Topping.{IsToppingUp, WasToppedUp}
use Rattle.nn_remake.specs.Rank.{IsRanked}
use Rattle.nn_remake.specs.Tidying.{IsTidying, WasTidied}
use Rattle.nn_kept.specs.Kept.{Shared, IsKept}
use Rattle.nn_kept.specs.Laws.{IsOutranked, EachLeft, IsKeptDisk}
use Rattle.nn_kept.specs.Ends.{EndsAt, EndsBetween, HasRoom}

-- ---- a directory that isn't formatted, or is being made

-- one that isn't formatted is kept
abbrev pub FreshIsKept : Type 0
FreshIsKept = (shared : Shared) (d : Disk) → FitsFresh d → IsKeptDisk shared false false d

-- At each moment of its making a directory is kept, where what is shared has its image's namespace at this id and room for it.
abbrev pub MakingKeeps : Type 0
MakingKeeps = (shared : Shared) (version : Version) (id : ℕ) (d : Disk) → HasRoom shared version false id id → FreshOrMade version id (shared.ns version.ctime id) d → IsKeptDisk shared false false d

-- Once it is made it ends at its image, without a previous, whatever others have saved.
abbrev pub MadeEnds : Type 0
MadeEnds = (version : Version) (id : ℕ) (list : ℕ → Namespace) (what : Option Namespace) (d : Disk) → version.layout ≡ program_layout → id < 2 ^ 62 → IsMade version id (list id) d → EndsBetween version false what list id id d

-- ---- a directory that was settled

-- What ends somewhere as it reads ends there once it was settled.
abbrev pub SettledEnds : Type 0
SettledEnds = (version : Version) (has : Bool) (what : Option Namespace) (list : ℕ → Namespace) (id : ℕ) (d : Disk) (r : Reads) → Leaves d r → EndsAt r version has what (record { last = id; ns = list id }) → EndsBetween version has what list id id (disk_after Settle r d)

-- the files of this folder are certain as they read
abbrev pub IsSure : Sub → ℕ → State → Type 0
IsSure sub i s = (n : FileName) → (disk_at s i).file sub n ≡ certain ((s.reads i).file sub n)

-- Those of the folder that serves are so in `current` once it was recovered.
abbrev pub RecoveredIsSure : Type 0
RecoveredIsSure = (i : ℕ) (sub : Sub) (old new : State) → serving (disk_at old i) ≡ Some sub → serving (old.reads i) ≡ Some sub → WasRecovered i old new → IsSure sub i old → IsSure Current i new

-- ---- a recovery, or what else keeps the seat

-- At each moment of a recovery a kept directory is kept, and counts as of the run and as a leader if it did before.
abbrev pub RecoveringKeeps : Type 0
RecoveringKeeps = (shared : Shared) (of_run leader : Bool) (old d : Disk) → IsKeptDisk shared of_run leader old → KeepsSeat old d → IsKeptDisk shared of_run leader d

-- One that the floor has left behind stays behind.
abbrev pub RecoveringLeavesBehind : Type 0
RecoveringLeavesBehind = (shared : Shared) (old d : Disk) → EachLeft old (IsKept shared) → EachLeft old (IsOutranked shared) → KeepsSeat old d → EachLeft d (IsOutranked shared)

-- One that ends somewhere ends there.
abbrev pub RecoveringEnds : Type 0
RecoveringEnds = (version : Version) (has : Bool) (what : Option Namespace) (list : ℕ → Namespace) (lo hi : ℕ) (old d : Disk) → EndsBetween version has what list lo hi old → KeepsSeat old d → EndsBetween version has what list lo hi d

-- ---- a directory that is cleared

-- At each moment of its clearing a kept directory is kept, if the floor has left it behind or it has nothing saved.
abbrev pub ClearingKeeps : Type 0
ClearingKeeps = (shared : Shared) (old d : Disk) → EachLeft old (IsKept shared) → EachLeft old (IsOutranked shared) ⊎ (saved old ≡ None) → IsClearing old d → IsKeptDisk shared false false d

-- ---- a directory that is topped up

-- it is kept, and the floor has left it behind
abbrev pub StaysBehind : Shared → Disk → Type 0
StaysBehind shared d = EachLeft d (λ c. IsKept shared c × IsOutranked shared c)

-- What is so as it reads is so once it was settled.
abbrev pub SettledStaysBehind : Type 0
SettledStaysBehind = (shared : Shared) (d : Disk) (r : Reads) → Leaves d r → IsKept shared r → IsOutranked shared r → StaysBehind shared (disk_after Settle r d)

-- It stays so while its previous is given up.
abbrev pub GivingUpKeeps : Type 0
GivingUpKeeps = (shared : Shared) (old d : Disk) → IsAtRest old → StaysBehind shared old → IsGivingUp old d → StaysBehind shared d

-- a directory left behind, of the floor's cTime and under this VERSION, that is to be brought up to the floor, its previous kept only where something is saved
pub record IsToTopUp (shared : Shared) (keep : Bool) (version : Version) (id : ℕ) (d : Disk) : Type 0 where
  pub normal : IsIn Normal d
  pub behind : StaysBehind shared d
  pub says : EachLeft d (λ c. HasVersion (folder_at c Current) version)
  pub ctime : version.ctime ≡ shared.floor.ctime
  pub last : shared.floor.last ≡ id
  pub saves : keep ≡ true → shared.saved version.ctime ≢ None

-- it ends at the floor
abbrev pub EndsAtFloor : Shared → Version → ℕ → Disk → Type 0
EndsAtFloor shared version id d = EndsBetween version (is_some (saved d)) (shared.saved version.ctime) (shared.ns version.ctime) id id d

-- At each moment of its topping up it stays behind, or it ends at the floor; and what is saved stays, if it is to.
abbrev pub ToppingUpKeeps : Type 0
ToppingUpKeeps = (shared : Shared) (keep : Bool) (version : Version) (id : ℕ) (old d : Disk) → IsToTopUp shared keep version id old → IsToppingUp keep version id (shared.ns version.ctime id) old d
    → (StaysBehind shared d ⊎ EndsAtFloor shared version id d) × (keep ≡ true → saved d ≡ saved old)

-- It ends at the floor beside its image; and what was saved stays if it is to, and is gone if it isn't.
pub record StandsAtFloor (shared : Shared) (keep : Bool) (version : Version) (id : ℕ) (old d : Disk) : Type 0 where
  pub ends : EndsAtFloor shared version id d
  pub intact : EachLeft d (λ c. IsIntact (folder_at c Current) version id (shared.ns version.ctime id))
  pub stays : saved d ≡ (if keep then saved old else None)

-- So it is once it was topped up, if its files were certain.
abbrev pub ToppedUpEnds : Type 0
ToppedUpEnds = (shared : Shared) (keep : Bool) (version : Version) (id : ℕ) (i : ℕ) (old new : State) → IsToTopUp shared keep version id (disk_at old i) → IsSure Current i old → WasToppedUp keep version id (shared.ns version.ctime id) i old new
    → StandsAtFloor shared keep version id (disk_at old i) (disk_at new i)

-- ---- a directory whose previous is given up

-- It ends where it ended, with its previous or without.
abbrev pub GivingUpEnds : Type 0
GivingUpEnds = (version : Version) (has : Bool) (what : Option Namespace) (list : ℕ → Namespace) (lo hi : ℕ) (old d : Disk) → IsAtRest old → EndsBetween version has what list lo hi old → IsGivingUp old d
    → EachLeft d (λ c. (n : ℕ) × (lo ≤ n) × (n ≤ hi) × EndsAt c version (is_some (saved c)) what (record { last = n; ns = list n }))

-- ---- an image that is published

-- At each moment of the publishing of the image at which its chain ends, a directory goes on to end there.
abbrev pub PublishingEnds : Type 0
PublishingEnds = (version : Version) (has : Bool) (what : Option Namespace) (list : ℕ → Namespace) (id : ℕ) (old d : Disk) → IsIn Normal old → EndsBetween version has what list id id old
    → IsRanked version (record { last = id; ns = list id }) old d → EndsBetween version has what list id id d

-- Once it is published, each fair stop leaves the image intact, if what was there before was certain.
abbrev pub PublishedIsIntact : Type 0
PublishedIsIntact = (version : Version) (id : ℕ) (ns : Namespace) (i : ℕ) (old new : State) → IsSure Current i old → IsOnlyOf version id ns i old → IsPublished version id ns i old new → EachLeft (disk_at new i) (λ c. IsIntact (folder_at c Current) version id ns)

-- Its files are certain then, if they were.
abbrev pub PublishedIsSure : Type 0
PublishedIsSure = (version : Version) (id : ℕ) (ns : Namespace) (i : ℕ) (old new : State) → IsSure Current i old → IsPublished version id ns i old new → IsSure Current i new

-- ---- a directory that is tidied

-- Beside an intact image at which its chain ends, at each moment of its tidying it goes on to end there, and the image stays.
abbrev pub TidyingEnds : Type 0
TidyingEnds = (folder : Folder) (version : Version) (has : Bool) (what : Option Namespace) (list : ℕ → Namespace) (id : ℕ) (old d : Disk) → IsIn Normal old → EndsBetween version has what list id id old
    → EachLeft old (λ c. IsIntact (folder_at c Current) version id (list id)) → IsTidying folder version.layout id old d
    → EachLeft d (λ c. ((n : ℕ) × (id ≤ n) × (n ≤ id) × EndsAt c version has what (record { last = n; ns = list n })) × IsIntact (folder_at c Current) version id (list id))

-- Once it is tidied its files are certain, if they were.
abbrev pub TidiedIsSure : Type 0
TidiedIsSure = (layout : ℤ) (id i : ℕ) (old new : State) → IsSure Current i old → WasTidied layout id i old new → IsSure Current i new

-- And it rests there: a segment can be begun behind it.
abbrev pub TidiedRests : Type 0
TidiedRests = (version : Version) (has : Bool) (what : Option Namespace) (list : ℕ → Namespace) (id i : ℕ) (old new : State) → IsSound (disk_at old i) → IsIn Normal (disk_at old i) → EndsBetween version has what list id id (disk_at old i)
    → EachLeft (disk_at old i) (λ c. IsIntact (folder_at c Current) version id (list id)) → IsSure Current i old → WasTidied version.layout id i old new → Rests version list id (disk_at new i)

-- ---- a directory whose segments are written to

-- At each moment at which records go behind a segment, or one is begun or ended, it ends at one of the ids that are in flight, where it ended no later before.
abbrev pub LoggingEnds : Type 0
LoggingEnds = (version : Version) (has : Bool) (what : Option Namespace) (list : ℕ → Namespace) (from to base lo hi : ℕ) (old d : Disk) → IsIn Normal old → EndsBetween version has what list from to old → to ≤ lo
    → Logged version list base lo hi old d → EndsBetween version has what list lo hi d
