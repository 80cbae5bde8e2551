-- Several name directories as they read: which are formatted, what their VERSIONs say, and which chain each has.
use Rattle.std.specs.Prelude.{◌≡◌, ◌≢◌, ℕ, ◌<◌, ◌≤◌, Bool, ◌&&◌, nat_lt, List, Option, Some, None, is_some}
use Rattle.nn_base.specs.declared.sub.Sub.{Sub}
use Rattle.nn_base.specs.declared.file_name.FileName.TheVariants as name
use Rattle.nn_host.specs.Disk.{Reads}
use Rattle.nn_marks.specs.declared.version.Version.{Version}
use Rattle.nn_marks.specs.declared.fault.VersionFault.{VersionFault}
use Rattle.nn_marks.specs.declared.fault.VersionFault.TheVariants.{NoFile}
use Rattle.nn_marks.specs.VersionFaults.{fault_of}
use Rattle.nn_state.specs.Seat.{serving, saved}
use Rattle.nn_chain.specs.Folder.{Folder, folder_at, HasVersion, HasSeen}
use Rattle.nn_chain.specs.Chain.{Reached, IsChain}

-- the directories of a command, by their numbers
pub record Dirs : Type 0 where
  pub count : ℕ
  pub at : ℕ → Reads

-- the least number below n of which P holds
pub record IsLowest (n : ℕ) (P : ℕ → Type 0) (i : ℕ) : Type 0 where
  pub below : i < n
  pub holds : P i
  pub least : (j : ℕ) → j < i → ¬ P j

-- some folder serves as current
abbrev pub IsFormatted : Reads → Type 0
IsFormatted c = serving c ≢ None

-- which of the directories are formatted, and that some one is
abbrev pub formatted_in : Dirs → ℕ → Bool
formatted_in dirs i = nat_lt i dirs.count && is_some (serving (dirs.at i))

abbrev pub HasFormatted : Dirs → Type 0
HasFormatted dirs = (i : ℕ) × (i < dirs.count) × IsFormatted (dirs.at i)

-- the folder that serves as current, and the one that serves as previous
pub record ServesCurrent (c : Reads) (folder : Folder) : Type 0 where
  pub sub : Sub
  pub serves : serving c ≡ Some sub
  pub is : folder ≡ folder_at c sub

pub record ServesPrevious (c : Reads) (folder : Folder) : Type 0 where
  pub sub : Sub
  pub serves : saved c ≡ Some sub
  pub is : folder ≡ folder_at c sub

-- ---- VERSION

-- the fault of a VERSION of these bytes, if it has one
abbrev pub fault_in : Option (List ℕ) → Option VersionFault
fault_in None = Some NoFile
fault_in (Some bytes) = fault_of bytes

abbrev pub version_fault : Folder → Option VersionFault
version_fault folder = fault_in (folder name.Version)

-- the folder that serves as current, under what its VERSION says
pub record ServesUnder (c : Reads) (version : Version) (folder : Folder) : Type 0 where
  pub serves : ServesCurrent c folder
  pub says : HasVersion folder version

-- ---- rank: the pair of cTime and the last id of the chain, by the first and then by the second

-- no other directory has a greater cTime
pub record HasGreatestCtime (dirs : Dirs) (i : ℕ) (version : Version) (folder : Folder) : Type 0 where
  pub below : i < dirs.count
  pub under : ServesUnder (dirs.at i) version folder
  pub greatest : (j : ℕ) (other : Version) (its : Folder) → j < dirs.count → ServesUnder (dirs.at j) other its → other.ctime ≤ version.ctime

-- of greatest rank: of the greatest cTime, with a chain, and no chain of that cTime ends later
pub record IsChosen (dirs : Dirs) (i : ℕ) (version : Version) (folder : Folder) (end : Reached) : Type 0 where
  pub ahead : HasGreatestCtime dirs i version folder
  pub chain : IsChain folder version end
  pub greatest : (j : ℕ) (other : Version) (its : Folder) (theirs : Reached) → HasGreatestCtime dirs j other its → IsChain its other theirs → theirs.last ≤ end.last

abbrev pub IsAmongChosen : Dirs → ℕ → Type 0
IsAmongChosen dirs i = (version : Version) × (folder : Folder) × (end : Reached) × IsChosen dirs i version folder end

-- the greatest id that a seen_txid of the greatest cTime says
pub record IsGreatestSeen (dirs : Dirs) (seen : ℕ) : Type 0 where
  pub said : (i : ℕ) × (version : Version) × (folder : Folder) × HasGreatestCtime dirs i version folder × HasSeen folder seen
  pub greatest : (j : ℕ) (other : Version) (its : Folder) (id : ℕ) → HasGreatestCtime dirs j other its → HasSeen its id → id ≤ seen

-- ---- choices

-- so many of these directories, by their numbers
abbrev pub choice : (ℕ → Reads) → ℕ → (ℕ → ℕ) → Dirs
choice contents n numbers = record { count = n; at = λ k. contents (numbers k) }

-- P holds of each choice of the first `count` directories, whether or not it has some of them twice
abbrev pub EachChoice : ℕ → (ℕ → Reads) → (Dirs → Type 0) → Type 0
EachChoice count contents P = (n : ℕ) (numbers : ℕ → ℕ) → ((k : ℕ) → k < n → numbers k < count) → P (choice contents n numbers)
