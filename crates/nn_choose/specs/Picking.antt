-- What `pick` answers, and what it finds out on the way.
use Rattle.std.specs.Prelude.{◌≡◌, ◌≢◌, ◌⊎◌, ◌↔◌, ℕ, ◌+◌, ◌<◌, ◌≤◌, ◌^◌, Bool, true, List, slice_index_or, Option, Some, None}
use Rattle.nn_base.specs.DirSets.{has}
use Rattle.nn_base.specs.declared.ids.DirNo.{DirNo}
use Rattle.nn_base.specs.declared.sub.Sub.{Sub}
use Rattle.nn_host.specs.Disk.{Reads}
use Rattle.nn_marks.specs.declared.fault.VersionFault.{VersionFault}
use Rattle.nn_marks.specs.declared.version.Version.{Version}
use Rattle.nn_state.specs.declared.typed.Found.{Found}
use Rattle.nn_state.specs.Seat.{serving}
use Rattle.nn_state.specs.Bays.{IsAt}
use Rattle.nn_state.specs.Typed.{FitsFound}
use Rattle.nn_tree.specs.Imaged.{IsImaged}
use Rattle.nn_tree.specs.Namespace.{Namespace}
use Rattle.nn_image.specs.declared.fault.ImageFault.TheVariants as image_fault
use Rattle.nn_chain.specs.declared.why.ImageWhy.{ImageWhy}
use Rattle.nn_chain.specs.declared.why.ImageWhy.TheVariants.{Fault}
use Rattle.nn_chain.specs.Folder.{Folder, folder_at, HasSeen}
use Rattle.nn_chain.specs.Images.{HasIntact, HasNoImage}
use Rattle.nn_chain.specs.Chain.{Reached, IsChain}
use Rattle.nn_pick.specs.declared.fault.OpenFault.{OpenFault}
use Rattle.nn_pick.specs.declared.fault.OpenFault.TheVariants.{Refused, Failed, Memory}
use Rattle.nn_pick.specs.declared.intent.Intent.{Intent}
use Rattle.nn_pick.specs.declared.refusal.Refusal.{Refusal}
use Rattle.nn_pick.specs.declared.refusal.Refusal.TheVariants.{BadVersion, Gap, Spent}
use Rattle.nn_pick.specs.declared.refusal.Refusal.TheVariants as refusal
use Rattle.nn_choose.specs.declared.best.Best.{Best}
use Rattle.nn_choose.specs.declared.best.Best.TheVariants.{Chain, NoImage}
use Rattle.nn_choose.specs.declared.served.Lead.{Lead}
use Rattle.nn_choose.specs.declared.served.Served.{Served}
use Rattle.nn_pick.specs.Dirs.{Dirs, ServesCurrent, HasGreatestCtime, IsAmongChosen, version_fault}
use Rattle.nn_pick.specs.Refusing.{Applies, Refuses, IsUnrefused, test_of}
use Rattle.nn_pick.specs.Opening.{IsFirstChosen}
use Rattle.nn_choose.specs.Served.{AreServed}

-- ---- the answer

-- each directory is in the state that was found
pub record AreStates (dirs : Dirs) (found : List Found) : Type 0 where
  pub each : (k : ℕ) (it : Found) → IsAt found k it → FitsFound it (dirs.at k)

-- No refusal applies; the chosen are those of greatest rank, and the lowest of them gives the namespace, the last id and VERSION.
pub record Chooses (dirs : Dirs) (intent : Intent) (ns : Namespace) (last : ℕ) (version : Version) (chosen : ℕ → Bool) : Type 0 where
  pub unrefused : IsUnrefused dirs intent
  pub greatest : (i : ℕ) → IsAmongChosen dirs i ↔ (chosen i ≡ true)
  pub first : IsFirstChosen dirs version (record { last = last; ns = ns })

-- the same, and each directory is in the state that was found
pub record Picks (dirs : Dirs) (intent : Intent) (ns : Namespace) (last : ℕ) (version : Version) (chosen : ℕ → Bool) (found : List Found) : Type 0 where
  pub choice : Chooses dirs intent ns last version chosen
  pub states : AreStates dirs found

-- directory i is of the greatest cTime
abbrev pub IsAhead : Dirs → ℕ → Type 0
IsAhead dirs i = (version : Version) × (folder : Folder) × HasGreatestCtime dirs i version folder

-- A refusal is the one of these directories, the first of the tests that applies.
abbrev pub IsRefusedTruly : Dirs → Intent → OpenFault → Type 0
IsRefusedTruly dirs intent (Refused refusal) = Refuses dirs intent refusal
IsRefusedTruly dirs intent (Failed i) = Unit {0}
IsRefusedTruly dirs intent Memory = Unit {0}

-- Want of memory is never called a fault of an image.
abbrev pub NeverMemory : OpenFault → Type 0
NeverMemory fault = (i : DirNo) → fault ≢ Refused (refusal.NoImage i (Fault image_fault.Memory))

-- ---- on the way

-- none of the tests before this place applies, whatever the directories are opened for
abbrev pub NoneBefore : Dirs → ℕ → Type 0
NoneBefore dirs place = (intent : Intent) (earlier : Refusal) → test_of earlier < place → ¬ Applies dirs intent earlier

-- A refusal is the one of these directories, whatever they are opened for.
abbrev pub IsRefusedAnyway : Dirs → OpenFault → Type 0
IsRefusedAnyway dirs fault = (intent : Intent) → IsRefusedTruly dirs intent fault

-- the folder of each directory that serves as current
pub record AreServing (dirs : Dirs) (subs : List (Option Sub)) : Type 0 where
  pub each : (i : ℕ) → i < dirs.count → slice_index_or subs i None ≡ serving (dirs.at i)

-- A refusal says which fault VERSION of this folder, which serves in directory i, has.
abbrev pub IsBadVersion : DirNo → Folder → OpenFault → Type 0
IsBadVersion i folder (Refused refusal) = (fault : VersionFault) × (refusal ≡ BadVersion i fault) × (version_fault folder ≡ Some fault)
IsBadVersion i folder (Failed j) = Unit {0}
IsBadVersion i folder Memory = Unit {0}

-- the same of the folder that serves as current
abbrev pub IsBadVersionOf : DirNo → Reads → OpenFault → Type 0
IsBadVersionOf i c fault = (folder : Folder) × ServesCurrent c folder × IsBadVersion i folder fault

-- ---- VERSIONs as they were read

-- This is the refusal of directories that serve so, where no test before those on several VERSIONs applies.
abbrev pub IsClash : List (Option Served) → Refusal → Type 0
IsClash served refusal = (dirs : Dirs) (intent : Intent) → AreServed dirs served → NoneBefore dirs 4 → Refuses dirs intent refusal

-- no test on VERSIONs applies
abbrev pub NoClash : List (Option Served) → Type 0
NoClash served = (dirs : Dirs) → AreServed dirs served → NoneBefore dirs 4 → NoneBefore dirs 7

-- ---- the best chain so far

-- Among the directories below n no chain of the greatest cTime ends later than this one; those that end with it were noted, and it is of the lowest of them.
pub record IsBestChain (dirs : Dirs) (n : ℕ) (ns : Namespace) (last : ℕ) (version : Version) (noted : ℕ → Bool) : Type 0 where
  pub dir : ℕ
  pub folder : Folder
  pub ahead : HasGreatestCtime dirs dir version folder
  pub chain : IsChain folder version (record { last = last; ns = ns })
  pub its : noted dir ≡ true
  pub lowest : (j : ℕ) → noted j ≡ true → dir ≤ j
  pub below : (j : ℕ) → noted j ≡ true → j < n
  pub only : (j : ℕ) → noted j ≡ true → (other : Version) × (theirs : Folder) × (end : Reached) × HasGreatestCtime dirs j other theirs × IsChain theirs other end × (end.last ≡ last)
  pub all : (j : ℕ) (other : Version) (theirs : Folder) (end : Reached) → j < n → HasGreatestCtime dirs j other theirs → IsChain theirs other end → (end.last ≤ last) × (end.last ≡ last → noted j ≡ true)

-- Among the directories below n none of the greatest cTime has an intact image, for this reason the one that leads.
pub record HaveNoImage (dirs : Dirs) (n : ℕ) (lead : Lead) (why : ImageWhy) : Type 0 where
  pub none : (j : ℕ) (version : Version) (folder : Folder) (id : ℕ) → j < n → HasGreatestCtime dirs j version folder → ¬ HasIntact folder version id
  pub reason : HasNoImage (folder_at (dirs.at lead.dir.0) lead.served.sub) lead.served.version why

-- ---- what is loaded

-- a directory of the greatest cTime was loaded, whose chain is this, or which has no intact image
abbrev pub IsLoaded : {T : Type 0} → (T → Namespace) → Folder → Version → Best T → Type 0
IsLoaded meaning folder version (Chain it) = IsChain folder version (record { last = it.last; ns = meaning it.tree }) × (it.version ≡ version)
IsLoaded meaning folder version (NoImage why) = HasNoImage folder version why

-- Whether or not the host tells: its namespace can be saved, or there is no image for a reason that isn't want of memory.
abbrev pub IsSoundBest : {T : Type 0} → (T → Namespace) → Best T → Type 0
IsSoundBest meaning (Chain it) = IsImaged (meaning it.tree)
IsSoundBest meaning (NoImage why) = why ≢ Fault image_fault.Memory

-- directory i alone is noted
abbrev pub IsOfOne : {T : Type 0} → ℕ → Best T → Type 0
IsOfOne i (Chain it) = (has it.dirs i ≡ true) × ((j : ℕ) → has it.dirs j ≡ true → j ≡ i)
IsOfOne i (NoImage why) = Unit {0}

-- no directory is noted but those below n
abbrev pub IsOfFirst : {T : Type 0} → ℕ → Best T → Type 0
IsOfFirst n (Chain it) = (j : ℕ) → has it.dirs j ≡ true → j < n
IsOfFirst n (NoImage why) = Unit {0}

-- the best chain of the directories below n, or why none has an image
abbrev pub IsBest : {T : Type 0} → (T → Namespace) → Dirs → Lead → ℕ → Best T → Type 0
IsBest meaning dirs lead n (Chain it) = IsBestChain dirs n (meaning it.tree) it.last it.version (has it.dirs)
IsBest meaning dirs lead n (NoImage why) = HaveNoImage dirs n lead why

-- directory n is of the greatest cTime, and was loaded
abbrev pub IsNextLoaded : {T : Type 0} → (T → Namespace) → Dirs → ℕ → Best T → Type 0
IsNextLoaded meaning dirs n best = (version : Version) × (folder : Folder) × HasGreatestCtime dirs n version folder × IsLoaded meaning folder version best

-- ---- seen_txid

-- the id of a seen_txid as it was read, and no other
abbrev pub IsSeen : Folder → ℕ → Type 0
IsSeen folder seen = HasSeen folder seen × ((id : ℕ) → HasSeen folder id → id ≡ seen)

-- the greatest that directories of the greatest cTime say, of those below n
pub record IsGreatestBelow (dirs : Dirs) (n : ℕ) (seen : ℕ) : Type 0 where
  pub said : (i : ℕ) × (version : Version) × (folder : Folder) × HasGreatestCtime dirs i version folder × HasSeen folder seen
  pub greatest : (j : ℕ) (version : Version) (folder : Folder) (id : ℕ) → j < n → HasGreatestCtime dirs j version folder → HasSeen folder id → id ≤ seen

-- where the records end too early for what was seen, or leave no room
abbrev pub IsCut : ℕ → ℕ → Refusal → Type 0
IsCut last seen refusal = ((refusal ≡ Gap seen last) × (last + 1 < seen)) ⊎ ((refusal ≡ Spent last) × (seen ≤ last + 1) × (2 ^ 62 ≤ last))
