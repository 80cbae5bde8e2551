-- All directories of a start, once they were brought to one namespace.
use Rattle.std.specs.Prelude.{◌≡◌, ◌≢◌, ◌↔◌, ℕ, ◌<◌, true, None, is_some}
use Rattle.nn_base.specs.declared.sub.Sub.TheVariants.{Current}
use Rattle.nn_base.specs.declared.file_name.FileName.{FileName}
use Rattle.nn_base.specs.declared.file_name.FileName.TheVariants.{Image, InProgress}
use Rattle.nn_host.specs.Disk.{Disk}
use Rattle.nn_host.specs.Moments.{State, disk_at}
use Rattle.nn_marks.specs.declared.version.Version.{Version}
use Rattle.nn_state.specs.Seat.{saved}
use Rattle.nn_tree.specs.Namespace.{Namespace}
use Rattle.nn_remake.specs.Tidying.{is_unnamed}
use Rattle.nn_pick.specs.Refusing.{HasServingPrevious}
use Rattle.nn_choose.specs.Looking.{dirs_read}
use Rattle.nn_choose.specs.Picking.{IsAhead}
use Rattle.nn_kept.specs.Kept.{Shared}
use Rattle.nn_segment_file.specs.Log.{Rests}
use Rattle.nn_start.specs.Bringing.{IsAimedAt, IsBrought}

-- Each of the directories at the beginning is NORMAL, and its chain ends at the floor after each fair stop, beside the image of this namespace, intact.
pub record AreTogether (shared : Shared) (version : Version) (id : ℕ) (ns : Namespace) (old new : State) : Type 0 where
  pub aim : IsAimedAt shared version id ns
  pub each : (i : ℕ) → i < old.count → IsBrought shared version id i new
  -- where the Book has something saved, it is in those of the greatest cTime that had it at entry
  pub saves : shared.saved version.ctime ≢ None → (i : ℕ) → i < old.count → (is_some (saved (disk_at new i)) ≡ true) ↔ (IsAhead (dirs_read old) i × HasServingPrevious (dirs_read old) i)

-- each of these directories is so
abbrev pub AllBrought : Shared → Version → ℕ → State → Type 0
AllBrought shared version id s = (i : ℕ) → i < s.count → IsBrought shared version id i s

-- No image of a later id is there, no file that never got its name, and no segment is in progress.
pub record IsClean (id : ℕ) (d : Disk) : Type 0 where
  pub images : (later : ℕ) → id < later → d.file Current (Image later) ≡ None
  pub named : (n : FileName) → is_unnamed n ≡ true → d.file Current n ≡ None
  pub ended : (first : ℕ) → d.file Current (InProgress first) ≡ None

-- and nothing is left in it that doesn't count: a segment can be begun behind it
pub record IsAtRest (shared : Shared) (version : Version) (id : ℕ) (i : ℕ) (s : State) : Type 0 where
  pub brought : IsBrought shared version id i s
  pub rests : Rests version (shared.ns version.ctime) id (disk_at s i)
  pub clean : IsClean id (disk_at s i)
