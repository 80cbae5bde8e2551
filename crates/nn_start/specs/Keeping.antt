-- What a start leaves of what served in a directory.
use Rattle.std.specs.Prelude.{◌≡◌, ℕ, ◌<◌, nat_lt, Bool, true, false, Some, None}
use Rattle.nn_base.specs.declared.sub.Sub.{Sub}
use Rattle.nn_base.specs.declared.sub.Sub.TheVariants.{Current, Previous}
use Rattle.nn_base.specs.declared.file_name.FileName.{FileName}
use Rattle.nn_base.specs.declared.file_name.FileName.TheVariants as name
use Rattle.nn_host.specs.Disk.{Disk}
use Rattle.nn_host.specs.Moments.{State, disk_at}
use Rattle.nn_state.specs.Seat.{serving, saved}
use Rattle.nn_state.specs.Recovery.{IsFrom}
use Rattle.nn_open.specs.Answers.{settled_disk}

-- VERSION, and an image of an id before this one, with its MD5 file
abbrev pub is_older : ℕ → FileName → Bool
is_older id name.Version = true
is_older id (name.Image other) = nat_lt other id
is_older id (name.Md5 other) = nat_lt other id
is_older id name.VersionTmp = false
is_older id name.Seen = false
is_older id name.SeenTmp = false
is_older id (name.Md5Tmp other) = false
is_older id (name.Ckpt other) = false
is_older id (name.Edits span) = false
is_older id (name.InProgress first) = false

-- any other file
abbrev pub IsYounger : ℕ → FileName → Type 0
IsYounger id n = is_older id n ≡ false

-- VERSION and the earlier images of the folder that served are in `current`, and the folder that served as previous is `previous`, where one did.
pub record KeepsOwn (id : ℕ) (old d : Disk) : Type 0 where
  pub current : (s : Sub) → serving old ≡ Some s → (n : FileName) → is_older id n ≡ true → d.file Current n ≡ old.file s n
  pub previous : (s : Sub) → saved old ≡ Some s → IsFrom s Previous old d
  pub unsaved : saved old ≡ None → d.has Previous ≡ false

-- Each that was chosen has its own, as it was once it was settled.
abbrev pub ChosenKeepOwn : (ℕ → Bool) → ℕ → State → State → Type 0
ChosenKeepOwn chosen id old new = (i : ℕ) → i < old.count → chosen i ≡ true → KeepsOwn id (settled_disk old i) (disk_at new i)
