-- A small file while it is written, and once it is.
use Rattle.std.specs.Prelude.{◌≡◌, ◌≢◌, ◌⊎◌, ℕ, List, Option, Some, None}
use Rattle.nn_base.specs.declared.sub.Sub.{Sub}
use Rattle.nn_base.specs.declared.file_name.FileName.{FileName}
use Rattle.nn_host.specs.Disk.{Held, Disk, certain, with_file}
use Rattle.nn_host.specs.Moments.{State, disk_at}

-- the file is the old one, or has exactly these bytes, synced, and its .tmp is gone; all but these two is as it was
pub record OldOrNew (sub : Sub) (tmp name : FileName) (bytes : List ℕ) (old d : Disk) : Type 0 where
  pub root : d.root ≡ old.root
  pub subs : (s : Sub) → d.has s ≡ old.has s
  pub other_subs : (s : Sub) (n : FileName) → s ≢ sub → d.file s n ≡ old.file s n
  pub other_files : (n : FileName) → n ≢ tmp → n ≢ name → d.file sub n ≡ old.file sub n
  pub file : (d.file sub name ≡ old.file sub name) ⊎ ((d.file sub name ≡ certain (Some bytes)) × (d.file sub tmp ≡ None))

-- the same, but that the .tmp is gone and this stands under the name
abbrev pub replaced : {A : Type 0} → Held A → Sub → FileName → FileName → Option A → Held A
replaced d sub tmp name v = with_file (with_file d sub tmp None) sub name v

-- the file has exactly these bytes, synced, and its .tmp is gone; all else stands and reads as before
pub record Written (i : ℕ) (sub : Sub) (tmp name : FileName) (bytes : List ℕ) (old new : State) : Type 0 where
  pub disk : disk_at new i ≡ replaced (disk_at old i) sub tmp name (certain (Some bytes))
  pub reads : new.reads i ≡ replaced (old.reads i) sub tmp name (Some bytes)
