-- A folder that takes the name of another one, which goes first.
use Rattle.std.specs.Prelude.{◌≡◌, ◌⊎◌, ℕ, true, false, None}
use Rattle.nn_base.specs.declared.sub.Sub.{Sub}
use Rattle.nn_host.specs.Disk.{Held, Disk, PartOf, with_sub}
use Rattle.nn_host.specs.Moments.{State, disk_at}

-- the folder `from` has the name `to`, and what had that name is gone
abbrev pub put_under : {A : Type 0} → Sub → Sub → Held A → Held A
put_under from to d = with_sub (with_sub d from false (λ _. None)) to true (d.file from)

-- at each moment: nothing has changed, or any part of the folder `to` is left, or `from` has its name
abbrev pub IsPutting : Sub → Sub → Disk → Disk → Type 0
IsPutting from to old d = (d ≡ old) ⊎ PartOf to old d ⊎ (d ≡ put_under from to old)

-- on the disk of this directory, and as it reads
pub record WasPut (from to : Sub) (i : ℕ) (old new : State) : Type 0 where
  pub disk : disk_at new i ≡ put_under from to (disk_at old i)
  pub reads : new.reads i ≡ put_under from to (old.reads i)
