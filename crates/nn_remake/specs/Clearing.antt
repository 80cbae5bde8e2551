-- A directory while what serves in it is given up.
use Rattle.std.specs.Prelude.{◌≡◌, ◌≢◌, ◌⊎◌, ℕ, true, false, None}
use Rattle.nn_base.specs.declared.sub.Sub.{Sub}
use Rattle.nn_base.specs.declared.sub.Sub.TheVariants.{Previous, FinalizedTmp}
use Rattle.nn_base.specs.declared.file_name.FileName.{FileName}
use Rattle.nn_host.specs.Disk.{Held}
use Rattle.nn_host.specs.Moments.{State, disk_at}
use Rattle.nn_state.specs.declared.state.StorageState.TheVariants.{Normal, NotFormatted, CompleteFinalize}
use Rattle.nn_state.specs.Seat.{serving, saved}
use Rattle.nn_state.specs.Typed.{IsIn, FitsFresh}
use Rattle.nn_state.specs.Recovery.{SameFolder, HasNoTmp}

-- ---- the saved state

-- a root, and no temporary folder
pub record IsIdle {A : Type 0} (d : Held A) : Type 0 where
  pub root : d.root ≡ true
  pub no_tmp : HasNoTmp d

-- the same, and the table has a state for it: nothing is under way
abbrev pub IsAtRest : {A : Type 0} → Held A → Type 0
IsAtRest d = IsIn Normal d ⊎ IsIn NotFormatted d

-- all but `previous` and the name that it has on the way is as it was, and `previous` is there as it was, or gone
pub record IsGivingUp {A : Type 0} (old d : Held A) : Type 0 where
  pub root : d.root ≡ old.root
  pub subs : (s : Sub) → s ≢ Previous → s ≢ FinalizedTmp → d.has s ≡ old.has s
  pub files : (s : Sub) (n : FileName) → s ≢ Previous → s ≢ FinalizedTmp → d.file s n ≡ old.file s n
  pub previous : (d ≡ old) ⊎ (d.has Previous ≡ false)

-- it is gone, under either name
pub record IsGivenUp {A : Type 0} (old d : Held A) : Type 0 where
  pub giving : IsGivingUp old d
  pub previous : d.has Previous ≡ false
  pub tmp : d.has FinalizedTmp ≡ false

-- on the disk of this directory, and as it reads
pub record WasGivenUp (i : ℕ) (old new : State) : Type 0 where
  pub disk : IsGivenUp (disk_at old i) (disk_at new i)
  pub reads : IsGivenUp (old.reads i) (new.reads i)

-- ---- all of it

-- Nothing is under way but that a saved state is finalized. What serves as current is as it was, and what serves as previous too, unless nothing does any more.
pub record KeepsCurrent {A : Type 0} (old d : Held A) : Type 0 where
  pub root : d.root ≡ true
  pub state : IsAtRest d ⊎ IsIn CompleteFinalize d
  pub current : SameFolder (serving old) (serving d) old d
  pub previous : SameFolder (saved old) (saved d) old d ⊎ (saved d ≡ None)

abbrev pub IsClearing : {A : Type 0} → Held A → Held A → Type 0
IsClearing old d = FitsFresh d ⊎ KeepsCurrent old d
