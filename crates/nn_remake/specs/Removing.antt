-- Files of `current` that are removed one after the other, and which of its files those are.
use Rattle.std.specs.Prelude.{◌≡◌, ◌≢◌, ℕ, nat_lt, Bool, false, List, ◌++◌, Contains, is_some, None}
use Rattle.nn_base.specs.declared.sub.Sub.{Sub}
use Rattle.nn_base.specs.declared.sub.Sub.TheVariants.{Current}
use Rattle.nn_base.specs.declared.file_name.FileName.{FileName}
use Rattle.nn_base.specs.declared.file_name.FileName.TheVariants as name
use Rattle.nn_host.specs.Disk.{Held}
use Rattle.nn_host.specs.Moments.{State, disk_at}
use Rattle.nn_chain.specs.Records.{first_in}

-- ---- which files

abbrev pub is_segment : FileName → Bool
is_segment name = is_some (first_in name)

-- an image of a later id
abbrev pub is_later_image : ℕ → FileName → Bool
is_later_image id (name.Image other) = nat_lt id other
is_later_image id name.Version = false
is_later_image id name.VersionTmp = false
is_later_image id name.Seen = false
is_later_image id name.SeenTmp = false
is_later_image id (name.Md5 other) = false
is_later_image id (name.Md5Tmp other) = false
is_later_image id (name.Ckpt other) = false
is_later_image id (name.Edits span) = false
is_later_image id (name.InProgress first) = false

-- ---- while they go

-- these files of `current` are gone, and all else is as it was
pub record IsWithout {A : Type 0} (gone : List FileName) (old d : Held A) : Type 0 where
  pub root : d.root ≡ old.root
  pub subs : (s : Sub) → d.has s ≡ old.has s
  pub other_subs : (s : Sub) (n : FileName) → s ≢ Current → d.file s n ≡ old.file s n
  pub removed : (n : FileName) → Contains gone n → d.file Current n ≡ None
  pub kept : (n : FileName) → ¬ Contains gone n → d.file Current n ≡ old.file Current n

-- the last of these names are gone
pub record IsCutBack {A : Type 0} (names : List FileName) (old d : Held A) : Type 0 where
  pub left : List FileName
  pub gone : List FileName
  pub split : names ≡ left ++ gone
  pub without : IsWithout gone old d

-- all of them are gone, on the disk of this directory and as it reads
pub record WasWithout (gone : List FileName) (i : ℕ) (old new : State) : Type 0 where
  pub disk : IsWithout gone (disk_at old i) (disk_at new i)
  pub reads : IsWithout gone (old.reads i) (new.reads i)
