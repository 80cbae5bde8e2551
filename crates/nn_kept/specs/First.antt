-- Where a run begins, and where a rollback does: sound directories are kept.
use Rattle.std.specs.Prelude.{◌≡◌, ◌⊎◌, ℕ, ◌<◌, Bool, true, Some, None, Contains}
use Rattle.nn_host.specs.Disk.{Disk, Reads, Leaves, Settle, disk_after}
use Rattle.nn_tree.specs.Namespace.{Namespace}
use Rattle.nn_chain.specs.Folder.{Folder}
use Rattle.nn_pick.specs.declared.intent.Intent.{Intent}
use Rattle.nn_pick.specs.declared.intent.Intent.TheVariants.{Start, Rollback}
use Rattle.nn_pick.specs.declared.refusal.Refusal.TheVariants.{NoPrevious}
use Rattle.nn_pick.specs.Dirs.{Dirs, ServesUnder, IsAmongChosen}
use Rattle.nn_pick.specs.Refusing.{HasServingPrevious, Refuses}
use Rattle.nn_pick.specs.Opening.{Book, Opens, AreSound}
use Rattle.nn_kept.specs.Kept.{Rank, Shared, IsKept, IsOfRun, IsLedOfRun}
use Rattle.nn_kept.specs.Laws.{IsOutranked, IsKeptDisk}

-- ---- where a run begins

-- What is shared where directories are sound: their Book is in the window, and the floor and the lead are the rank of those chosen.
pub record IsFirst (shared : Shared) (dirs : Dirs) (intent : Intent) (sound : AreSound dirs intent) : Type 0 where
  pub ids : (i : ℕ) × (folder : Folder) × (i < dirs.count) × ServesUnder (dirs.at i) shared.ids folder
  pub floor : shared.floor ≡ record { ctime = sound.opens.version.ctime; last = sound.opened.last }
  pub lead : shared.lead ≡ shared.floor
  pub ns : shared.ns shared.floor.ctime shared.floor.last ≡ sound.opened.book.ns
  pub saved : shared.saved shared.floor.ctime ≡ sound.opened.book.saved
  pub there : Contains shared.window sound.opened.book

-- Each is kept. Those chosen are of the run; and leaders, if they have a previous or nothing is saved. The floor has left the others behind.
pub record AreKeptFirst (shared : Shared) (dirs : Dirs) (book : Book) : Type 0 where
  pub kept : (i : ℕ) → i < dirs.count → IsKept shared (dirs.at i)
  pub run : (i : ℕ) → IsAmongChosen dirs i → IsOfRun shared (dirs.at i) shared.floor
  pub led : (i : ℕ) → IsAmongChosen dirs i → HasServingPrevious dirs i ⊎ (book.saved ≡ None) → IsLedOfRun shared (dirs.at i)
  pub behind : (i : ℕ) → i < dirs.count → ¬ IsAmongChosen dirs i → IsOutranked shared (dirs.at i)

-- sound directories are kept
abbrev pub SoundIsKept : Type 0
SoundIsKept = (shared : Shared) (dirs : Dirs) (intent : Intent) (sound : AreSound dirs intent) → IsFirst shared dirs intent sound → AreKeptFirst shared dirs sound.opened.book

-- So is the disk of such a directory once it was settled: a stop leaves of it what reads.
abbrev pub SettledIsKept : Type 0
SettledIsKept = (shared : Shared) (of_run leader : Bool) (d : Disk) (r : Reads) → Leaves d r → IsKept shared r → (of_run ≡ true → (rank : Rank) × IsOfRun shared r rank) → (leader ≡ true → IsLedOfRun shared r)
    → IsKeptDisk shared of_run leader (disk_after Settle r d)

-- ---- where a rollback begins

-- sound directories whose Book has a saved namespace open so for a rollback too, and are sound for it; those whose Book has none are refused
pub record RollsBack (dirs : Dirs) (sound : AreSound dirs Start) : Type 0 where
  pub opens : (what : Namespace) → sound.opened.book.saved ≡ Some what → Opens dirs Rollback sound.opened
  pub sound_too : (what : Namespace) → sound.opened.book.saved ≡ Some what → AreSound dirs Rollback
  pub refused : sound.opened.book.saved ≡ None → Refuses dirs Rollback NoPrevious

abbrev pub SoundRollsBack : Type 0
SoundRollsBack = (dirs : Dirs) (sound : AreSound dirs Start) → RollsBack dirs sound
