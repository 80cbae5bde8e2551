-- What the steps of a checkpoint keep of one directory.
use Rattle.std.specs.Prelude.{◌≡◌, ℕ, ◌≤◌, Bool, Option, None}
use Rattle.nn_base.specs.declared.sub.Sub.TheVariants.{Current}
use Rattle.nn_base.specs.declared.file_name.FileName.TheVariants.{Image}
use Rattle.nn_host.specs.Disk.{Disk, Reads, Leaves}
use Rattle.nn_host.specs.Moments.{State, disk_at}
use Rattle.nn_marks.specs.declared.version.Version.{Version}
use Rattle.nn_state.specs.declared.state.StorageState.TheVariants.{Normal}
use Rattle.nn_state.specs.Typed.{IsIn}
use Rattle.nn_tree.specs.Namespace.{Namespace}
use Rattle.nn_chain.specs.Folder.{folder_at}
use Rattle.nn_segment_file.specs.Log.{Shared, Rests, Beside, IsOfLog}
use Rattle.nn_segment_file.specs.Stages.{Stage, StandsAt, base_of, last_of}
use Rattle.nn_remake.specs.Publishing.{WasWritten}
use Rattle.nn_kept.specs.Laws.{EachLeft}
use Rattle.nn_kept.specs.Ends.{EndsBetween}
use Rattle.nn_ckpt.specs.Retention.{IsPurging, WasPurged, IsPruned}
use Rattle.nn_ckpt.specs.Checkpointed.{HasLastImage, HasTwoImages, IsCheckpointed, StaysTwoImages}

-- ---- an image that is published

-- Where its records end at this id, and it has no image as late, the directory rests there as before once the image of it was written; and its records lead to that from the image that was the last.
abbrev pub PublishedStands : Type 0
PublishedStands = (version : Version) (list : Shared) (id i : ℕ) (old new : State) → ((later : ℕ) → id ≤ later → (disk_at old i).file Current (Image later) ≡ None) → Rests version list id (disk_at old i)
    → (was : HasLastImage version list id (disk_at old i)) → WasWritten version id (list id) i old new → Rests version list id (disk_at new i) × HasTwoImages version list was.id id (disk_at new i)

-- ---- while segments are written to

-- The journal keeps the last image: it touches no image file.
abbrev pub LoggingKeepsImage : Type 0
LoggingKeepsImage = (version : Version) (list : Shared) (base last after : ℕ) (old d : Disk) → HasLastImage version list last old → last ≤ after → Beside (IsOfLog base) old d → HasLastImage version list after d

-- It keeps both: it touches no record up to the last one's id.
abbrev pub LoggingKeepsTwo : Type 0
LoggingKeepsTwo = (version : Version) (list : Shared) (older id base : ℕ) (old d : Disk) → HasTwoImages version list older id old → id ≤ base → Beside (IsOfLog base) old d → HasTwoImages version list older id d

-- What was pruned stays so behind its last image: no segment comes that ends before it.
abbrev pub LoggingKeepsPruned : Type 0
LoggingKeepsPruned = (version : Version) (list : Shared) (base last : ℕ) (old d : Disk) → (was : HasLastImage version list last old) → was.id ≤ base → Beside (IsOfLog base) old d → EachLeft old (λ c. IsPruned (folder_at c Current)) → EachLeft d (λ c. IsPruned (folder_at c Current))

-- A segment in progress begins behind the last image.
abbrev pub ImagesAreBefore : Type 0
ImagesAreBefore = (version : Version) (list : Shared) (stage : Stage) (last : ℕ) (d : Disk) → (was : HasLastImage version list last d) → StandsAt version list stage d → was.id ≤ base_of stage

-- ---- while a directory is purged

-- At each moment it ends where it ended: no record behind the older image goes, and the last image stays.
abbrev pub PurgingEnds : Type 0
PurgingEnds = (version : Version) (has : Bool) (what : Option Namespace) (list : Shared) (last : ℕ) (r : Reads) (old d : Disk) → IsIn Normal old → Leaves old r → HasLastImage version list last old → EndsBetween version has what list last last old
    → IsPurging (folder_at r Current) old d → EndsBetween version has what list last last d × HasLastImage version list last d

-- It stands where it stood.
abbrev pub PurgingStands : Type 0
PurgingStands = (version : Version) (list : Shared) (stage : Stage) (last : ℕ) (r : Reads) (old d : Disk) → Leaves old r → HasLastImage version list last old → StandsAt version list stage old → IsPurging (folder_at r Current) old d → StandsAt version list stage d

-- And the older image stays, with the records that lead from it to the last one.
abbrev pub PurgingKeepsTwo : Type 0
PurgingKeepsTwo = (version : Version) (list : Shared) (r : Reads) (old d : Disk) → Leaves old r → IsPurging (folder_at r Current) old d → StaysTwoImages version list old d

-- ---- once it was purged

-- What reads as pruned is so after each stop.
abbrev pub PurgedIsPruned : Type 0
PurgedIsPruned = (i : ℕ) (old new : State) → Leaves (disk_at old i) (old.reads i) → WasPurged i old new → (c : Reads) → Leaves (disk_at new i) c → IsPruned (folder_at c Current)

-- A pruned directory with two images, of one namespace with all behind the last one, is checkpointed.
abbrev pub TwoAreCheckpointed : Type 0
TwoAreCheckpointed = (version : Version) (list : Shared) (stage : Stage) (older id : ℕ) (ns : Namespace) (d : Disk) → StandsAt version list stage d → HasTwoImages version list older id d → list id ≡ ns → list (last_of stage) ≡ ns
    → EachLeft d (λ c. IsPruned (folder_at c Current)) → EachLeft d (λ c. IsCheckpointed version id (last_of stage) ns (folder_at c Current))
