-- Chosen directories before the image at which their chains end is published into them.
use Rattle.std.specs.Prelude.{◌≡◌, ◌≢◌, ℕ, ◌<◌, Bool, true, false, None, is_some}
use Rattle.nn_base.specs.declared.sub.Sub.TheVariants.{Current}
use Rattle.nn_host.specs.Moments.{Dir, State, disk_at}
use Rattle.nn_marks.specs.declared.version.Version.{Version}
use Rattle.nn_state.specs.Seat.{saved}
use Rattle.nn_tree.specs.Namespace.{Namespace}
use Rattle.nn_remake.specs.Published.{IsOnlyOf}
use Rattle.nn_kept.specs.Kept.{Shared}
use Rattle.nn_steps.specs.Steps.{IsSure}
use Rattle.nn_pick.specs.Dirs.{Dirs}
use Rattle.nn_pick.specs.Opening.{Book}
use Rattle.nn_start.specs.Entry.{CountChosen}
use Rattle.nn_start.specs.Bringing.{IsAimedAt, StandsThere, IsBrought, AreReady, CountStanding}

-- It stands there, its files are certain, and an image of this id, if it has one that is intact, is of this namespace.
pub record IsToPublish (shared : Shared) (version : Version) (id : ℕ) (ns : Namespace) (i : ℕ) (s : State) : Type 0 where
  pub stands : StandsThere shared version id (disk_at s i)
  pub sure : IsSure Current i s
  pub only : IsOnlyOf version id ns i s

-- What an opening leaves of sound directories: those that were chosen stand there, and the others lag behind.
pub record AreOpened (dirs : Dirs) (book : Book) (shared : Shared) (chosen level : ℕ → Bool) (keep : Bool) (version : Version) (id : ℕ) (ns : Namespace) (s : State) : Type 0 where
  pub aim : IsAimedAt shared version id ns
  pub ready : AreReady shared chosen level keep version id s
  pub to_publish : (i : ℕ) → i < s.count → chosen i ≡ true → IsToPublish shared version id ns i s
  -- those that count of what was at entry count of what stands there
  pub counts : (run leaders : ℕ → Dir → Bool) → CountChosen dirs book run leaders → CountStanding shared version chosen s run leaders
  -- something is saved in each where that was so at entry, and where the Book has something saved, a chosen one has
  pub saves : (i : ℕ) → i < s.count → is_some (saved (disk_at s i)) ≡ is_some (saved (dirs.at i))
  pub keeps : shared.saved version.ctime ≢ None → keep ≡ true

-- each chosen directory is to be published into, and the others have the image already
pub record AreToPublish (shared : Shared) (chosen : ℕ → Bool) (version : Version) (id : ℕ) (ns : Namespace) (s : State) : Type 0 where
  pub chosen_ones : (i : ℕ) → i < s.count → chosen i ≡ true → IsToPublish shared version id ns i s
  pub others : (i : ℕ) → i < s.count → chosen i ≡ false → IsBrought shared version id i s
