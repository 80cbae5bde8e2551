-- A directory that stands, told by itself, and when it is kept.
use Rattle.std.specs.Prelude.{Option, ◌≡◌, ◌⊎◌, ℕ, ◌+◌, ◌<◌, ◌≤◌, Bool, true, false, Some, None, is_some, Contains, if◌then◌else◌}
use Rattle.nn_host.specs.Disk.{Disk, Reads}
use Rattle.nn_marks.specs.declared.version.Version.{Version}
use Rattle.nn_state.specs.Seat.{saved}
use Rattle.nn_tree.specs.Namespace.{Namespace}
use Rattle.nn_chain.specs.Folder.{Folder, HasSeen}
use Rattle.nn_chain.specs.Chain.{Reached, IsChain, EndsBare}
use Rattle.nn_pick.specs.declared.refusal.PreviousWhy.{PreviousWhy}
use Rattle.nn_pick.specs.Dirs.{ServesPrevious, ServesUnder}
use Rattle.nn_pick.specs.Refusing.{spent_from, IsWrong}
use Rattle.nn_pick.specs.Opening.{Book, IsSavedChain}
use Rattle.nn_pick.specs.Laws.{HoldsImage}
use Rattle.nn_kept.specs.Kept.{Rank, IsBelow, IsAtMost, Shared, IsOfWindow, end_at, HasState, IsOurs, IsKept, IsOfRun}
use Rattle.nn_kept.specs.Laws.{IsOutranked, EachLeft, IsKeptDisk}
use Rattle.nn_kept.specs.Onward.{IsOnward, HasSameSeat}

-- Its previous can be opened beside its current, and holds this; its chain ends at most at this id, before an id without a record.
pub record HoldsThere (c : Reads) (version : Version) (previous : Folder) (last : ℕ) (what : Option Namespace) : Type 0 where
  pub sound : (reason : PreviousWhy) → ¬ IsWrong reason version previous
  pub own : Version
  pub end : Reached
  pub chain : IsSavedChain c previous own end
  pub is : what ≡ Some end.ns
  pub low : end.last ≤ last
  pub bare : EndsBare previous own end

-- Its chain ends here, before an id without a record, and its seen_txid says at most the next id. It has a previous or not, as is told, and that holds this.
pub record EndsAt (c : Reads) (version : Version) (has : Bool) (what : Option Namespace) (end : Reached) : Type 0 where
  pub state : HasState c
  pub folder : Folder
  pub under : ServesUnder c version folder
  pub chain : IsChain folder version end
  pub bare : EndsBare folder version end
  pub seen : (id : ℕ) → HasSeen folder id → id ≤ end.last + 1
  pub previous : is_some (saved c) ≡ has
  pub holds : (previous : Folder) → ServesPrevious c previous → HoldsThere c version previous end.last what

-- it ends there as long as the seat stays
abbrev pub SameSeatEnds : Type 0
SameSeatEnds = (old new : Reads) (version : Version) (has : Bool) (what : Option Namespace) (end : Reached) → HasSameSeat old new → EndsAt old version has what end → EndsAt new version has what end

-- the Book that it alone opens to
abbrev pub book_of : Bool → Option Namespace → Namespace → Book
book_of has what ns = record { ns = ns; saved = if has then what else None }

-- Each thing that a fair stop leaves of this disk ends so, at an id from lo to hi, with the namespace that the list has there.
abbrev pub EndsBetween : Version → Bool → Option Namespace → (ℕ → Namespace) → ℕ → ℕ → Disk → Type 0
EndsBetween version has what list lo hi d = EachLeft d (λ c. (n : ℕ) × (lo ≤ n) × (n ≤ hi) × EndsAt c version has what (record { last = n; ns = list n }))

-- What is shared has room for such a disk: the window has each of these Books, with its saved part kept or emptied; kept, unless hi isn't above the lead.
pub record HasRoom (shared : Shared) (version : Version) (has : Bool) (lo hi : ℕ) : Type 0 where
  pub ours : IsOurs shared version
  pub room : hi < spent_from
  pub inside : (n : ℕ) → lo ≤ n → n ≤ hi → IsOfWindow shared.window (book_of has (shared.saved version.ctime) (shared.ns version.ctime n))
  pub led : IsAtMost (record { ctime = version.ctime; last = hi }) shared.lead ⊎ ((n : ℕ) → lo ≤ n → n ≤ hi → Contains shared.window (book_of has (shared.saved version.ctime) (shared.ns version.ctime n)))

-- It is kept then. It is of the run where lo isn't below the floor; and a leader, where it isn't below the lead either and each of the Books is there as it is.
abbrev pub BetweenIsKept : Type 0
BetweenIsKept = (shared : Shared) (version : Version) (has : Bool) (lo hi : ℕ) (d : Disk) (of_run leader : Bool) → EndsBetween version has (shared.saved version.ctime) (shared.ns version.ctime) lo hi d → HasRoom shared version has lo hi
    → (of_run ≡ true → IsAtMost shared.floor (record { ctime = version.ctime; last = lo }))
    → (leader ≡ true → IsAtMost shared.floor (record { ctime = version.ctime; last = lo }) × IsAtMost shared.lead (record { ctime = version.ctime; last = lo }) × ((n : ℕ) → lo ≤ n → n ≤ hi → Contains shared.window (book_of has (shared.saved version.ctime) (shared.ns version.ctime n))))
    → IsKeptDisk shared of_run leader d

-- And so does each kept directory of the run end: all that is asked of it but the window.
abbrev pub OfRunEnds : Type 0
OfRunEnds = (shared : Shared) (c : Reads) (rank : Rank) → IsKept shared c → (run : IsOfRun shared c rank) → EndsAt c run.version (is_some (saved c)) (shared.saved rank.ctime) (end_at shared rank)

-- A directory that holds one image and no record ends at it, without a previous, whatever others have saved.
abbrev pub HeldImageEnds : Type 0
HeldImageEnds = (c : Reads) (version : Version) (id : ℕ) (ns : Namespace) (what : Option Namespace) → HoldsImage c version id ns → EndsAt c version false what (record { last = id; ns = ns })

-- Once the floor is above hi it is left behind.
abbrev pub BetweenIsOutranked : Type 0
BetweenIsOutranked = (shared : Shared) (version : Version) (has : Bool) (what : Option Namespace) (list : ℕ → Namespace) (lo hi : ℕ) (d : Disk) → EndsBetween version has what list lo hi d
    → IsBelow (record { ctime = version.ctime; last = hi }) shared.floor → EachLeft d (IsOutranked shared)

-- A disk that was kept and is left behind stays kept, and no longer counts.
abbrev pub LeftBehindIsKept : Type 0
LeftBehindIsKept = (old new : Shared) (of_run leader : Bool) (d : Disk) → IsOnward old new → IsKeptDisk old of_run leader d → EachLeft d (IsOutranked new) → IsKeptDisk new false false d
