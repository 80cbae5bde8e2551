-- How directories stay kept from one moment to the next, and where one is left behind.
use Rattle.std.specs.Prelude.{◌≡◌, ◌≢◌, ◌⊎◌, ℕ, ◌≤◌, None, is_some}
use Rattle.nn_base.specs.declared.file_name.FileName.TheVariants as name
use Rattle.nn_host.specs.Disk.{Reads}
use Rattle.nn_marks.specs.declared.version.Version.{Version}
use Rattle.nn_state.specs.Seat.{serving, saved}
use Rattle.nn_chain.specs.Folder.{Folder}
use Rattle.nn_pick.specs.Dirs.{ServesCurrent, ServesPrevious, ServesUnder}
use Rattle.nn_kept.specs.Kept.{Rank, IsBelow, IsAtMost, Shared, HasState, IsBelowFloor, Stands, IsKept}
use Rattle.nn_kept.specs.Laws.{IsOutranked}

-- The floor rises or stays, and from its cTime on what is saved stays or is given up.
pub record IsOnward (old new : Shared) : Type 0 where
  pub ids : new.ids ≡ old.ids
  pub floor : IsAtMost old.floor new.floor
  pub saved : (ctime : ℕ) → new.floor.ctime ≤ ctime → (new.saved ctime ≡ old.saved ctime) ⊎ (new.saved ctime ≡ None)

-- A kept directory that the floor has left behind is kept, whatever has become of the window.
abbrev pub OutrankedIsKept : Type 0
OutrankedIsKept = (old new : Shared) (c : Reads) → IsOnward old new → IsKept old c → IsOutranked new c → IsKept new c

-- it is left behind where it ranked at most so high, and the floor is higher
abbrev pub HigherFloorOutranks : Type 0
HigherFloorOutranks = (old new : Shared) (c : Reads) (most : Rank) → IsKept old c → IsBelow old.floor new.floor → IsBelow most new.floor
    → ((version : Version) (folder : Folder) (rank : Rank) → ServesUnder c version folder → Stands old c version folder rank → IsAtMost rank most) → IsOutranked new c

-- the same folders serve in both, whatever their names
pub record HasSameSeat (old new : Reads) : Type 0 where
  pub state : HasState new
  pub unserved : serving old ≡ None → serving new ≡ None
  pub current : (folder : Folder) → ServesCurrent old folder → ServesCurrent new folder
  pub previous : (folder : Folder) → ServesPrevious new folder → ServesPrevious old folder
  pub there : is_some (saved new) ≡ is_some (saved old)

-- A recovery, and a renaming of folders that keeps the seat, keeps a directory.
abbrev pub SameSeatIsKept : Type 0
SameSeatIsKept = (shared : Shared) (old new : Reads) → HasSameSeat old new → IsKept shared old → IsKept shared new

-- what serves as current has the same VERSION and the same seen_txid, and the same serves as previous, unless that, or all, is gone
pub record IsCutFrom (old new : Reads) : Type 0 where
  pub state : HasState new
  pub current : (folder : Folder) → ServesCurrent new folder → (before : Folder) × ServesCurrent old before × (folder name.Version ≡ before name.Version) × (folder name.Seen ≡ before name.Seen)
  pub previous : (folder : Folder) → ServesPrevious new folder → ServesPrevious old folder

-- it ranks below the floor or stands at it, with a previous only where something is saved
abbrev pub IsUpToFloor : Shared → Reads → Type 0
IsUpToFloor shared c = (version : Version) (folder : Folder) → ServesUnder c version folder → IsBelowFloor shared version folder ⊎ (Stands shared c version folder shared.floor × (saved c ≢ None → shared.saved version.ctime ≢ None))

-- A directory that is left behind stays kept while it is topped up or cleared, as long as it stays behind or comes to stand at the floor.
abbrev pub CutIsKept : Type 0
CutIsKept = (shared : Shared) (old new : Reads) → IsCutFrom old new → IsKept shared old → IsOutranked shared old → IsUpToFloor shared new → IsKept shared new
