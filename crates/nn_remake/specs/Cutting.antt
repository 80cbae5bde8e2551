-- Segments and later images that are removed from `current`.
use Rattle.std.specs.Prelude.{◌≡◌, ◌≢◌, ◌⊎◌, ℕ, true, false, None}
use Rattle.nn_base.specs.declared.sub.Sub.{Sub}
use Rattle.nn_base.specs.declared.sub.Sub.TheVariants.{Current}
use Rattle.nn_base.specs.declared.file_name.FileName.{FileName}
use Rattle.nn_host.specs.Disk.{Held}
use Rattle.nn_host.specs.Listing.{IsBefore}
use Rattle.nn_host.specs.Moments.{State, disk_at}
use Rattle.nn_remake.specs.Removing.{is_segment, is_later_image}

-- Each file of `current` is as it was, or gone, and only segments and later images go. A segment goes once each one behind it, in byte order of names, is gone, and an image once no segment is left.
pub record IsCutting {A : Type 0} (id : ℕ) (old d : Held A) : Type 0 where
  pub root : d.root ≡ old.root
  pub subs : (s : Sub) → d.has s ≡ old.has s
  pub other_subs : (s : Sub) (n : FileName) → s ≢ Current → d.file s n ≡ old.file s n
  pub files : (n : FileName) → (d.file Current n ≡ old.file Current n) ⊎ (d.file Current n ≡ None)
  pub others : (n : FileName) → is_segment n ≡ false → is_later_image id n ≡ false → d.file Current n ≡ old.file Current n
  pub falling : (n m : FileName) → is_segment n ≡ true → is_segment m ≡ true → IsBefore n m → (d.file Current n ≡ old.file Current n) ⊎ (d.file Current m ≡ None)
  pub images : ((n : FileName) → is_segment n ≡ false → d.file Current n ≡ old.file Current n) ⊎ ((n : FileName) → is_segment n ≡ true → d.file Current n ≡ None)

-- no segment is left, and no later image
pub record IsCutDown {A : Type 0} (id : ℕ) (old d : Held A) : Type 0 where
  pub cutting : IsCutting id old d
  pub segments : (n : FileName) → is_segment n ≡ true → d.file Current n ≡ None
  pub images : (n : FileName) → is_later_image id n ≡ true → d.file Current n ≡ None

-- on the disk of this directory, and as it reads
pub record WasCutDown (id : ℕ) (i : ℕ) (old new : State) : Type 0 where
  pub disk : IsCutDown id (disk_at old i) (disk_at new i)
  pub reads : IsCutDown id (old.reads i) (new.reads i)
