-- A directory while what no longer counts beside the image of an id is tidied away from its `current`, and once it is.
use Rattle.std.specs.Prelude.{◌≡◌, ◌≢◌, ◌⊎◌, ℕ, ℤ, ◌<◌, ◌≤◌, Bool, true, false, Some, None}
use Rattle.nn_base.specs.declared.sub.Sub.{Sub}
use Rattle.nn_base.specs.declared.sub.Sub.TheVariants.{Current}
use Rattle.nn_base.specs.declared.file_name.FileName.{FileName}
use Rattle.nn_base.specs.declared.file_name.FileName.TheVariants as name
use Rattle.nn_host.specs.Disk.{Held}
use Rattle.nn_host.specs.Listing.{IsBefore}
use Rattle.nn_host.specs.Moments.{State, disk_at}
use Rattle.nn_record.specs.declared.transaction.Record.{Record}
use Rattle.nn_chain.specs.Folder.{Folder, folder_at}
use Rattle.nn_chain.specs.Records.{first_in, HoldsRecord, HasNoneAfter}
use Rattle.nn_remake.specs.Removing.{is_later_image}

-- ---- what no longer counts

-- a file that never got its name: a `.tmp`, or an image on the way
abbrev pub is_unnamed : FileName → Bool
is_unnamed name.Version = false
is_unnamed name.VersionTmp = true
is_unnamed name.Seen = false
is_unnamed name.SeenTmp = true
is_unnamed (name.Image other) = false
is_unnamed (name.Md5 other) = false
is_unnamed (name.Md5Tmp other) = true
is_unnamed (name.Ckpt other) = true
is_unnamed (name.Edits span) = false
is_unnamed (name.InProgress first) = false

-- The segment begins after this id, or its intact run has a later one.
abbrev pub IsBeyond : Folder → ℤ → ℕ → FileName → Type 0
IsBeyond folder layout id n = ((first : ℕ) × (first_in n ≡ Some first) × (id < first)) ⊎ ((r : Record) × (id < r.id) × HoldsRecord folder layout n r)

-- The intact run of the segment in progress that begins with `first` ends with `last`.
pub record RunEnds (folder : Folder) (layout : ℤ) (first last : ℕ) : Type 0 where
  pub final : Record
  pub id_is : final.id ≡ last
  pub holds : HoldsRecord folder layout (name.InProgress first) final
  pub none : (r : Record) → last < r.id → ¬ HoldsRecord folder layout (name.InProgress first) r

-- It gets the name of one that was ended there, where that is no later than this id and the name is free.
pub record GetsName (folder : Folder) (layout : ℤ) (id first last : ℕ) : Type 0 where
  pub ends : RunEnds folder layout first last
  pub most : last ≤ id
  pub free : folder (name.Edits (first, last)) ≡ None

-- a segment in progress that gets no such name
abbrev pub GetsNone : Folder → ℤ → ℕ → FileName → Type 0
GetsNone folder layout id n = (first : ℕ) × (n ≡ name.InProgress first) × ((last : ℕ) → ¬ GetsName folder layout id first last)

-- This file goes.
abbrev pub Goes : Folder → ℤ → ℕ → FileName → Type 0
Goes folder layout id n = (is_unnamed n ≡ true) ⊎ (is_later_image id n ≡ true) ⊎ IsBeyond folder layout id n ⊎ GetsNone folder layout id n

-- ---- at each moment

-- A segment in progress has got its other name, with all that it held, and one of the two is the name of this file.
pub record IsRenamed {A : Type 0} (folder : Folder) (layout : ℤ) (id : ℕ) (old d : Held A) (n : FileName) : Type 0 where
  pub first : ℕ
  pub last : ℕ
  pub gets : GetsName folder layout id first last
  pub from : d.file Current (name.InProgress first) ≡ None
  pub to : d.file Current (name.Edits (first, last)) ≡ old.file Current (name.InProgress first)
  pub either : (n ≡ name.InProgress first) ⊎ (n ≡ name.Edits (first, last))

-- Of a directory whose `current` read so, each file there is as it was, or gone if it goes, or has changed its name. Of the segments beyond the id one goes once each behind it, in byte order of names, is gone.
pub record IsTidying {A : Type 0} (folder : Folder) (layout : ℤ) (id : ℕ) (old d : Held A) : Type 0 where
  pub root : d.root ≡ old.root
  pub subs : (s : Sub) → d.has s ≡ old.has s
  pub other_subs : (s : Sub) (n : FileName) → s ≢ Current → d.file s n ≡ old.file s n
  pub files : (n : FileName) → (d.file Current n ≡ old.file Current n) ⊎ (Goes folder layout id n × (d.file Current n ≡ None)) ⊎ IsRenamed folder layout id old d n
  pub falling : (n m : FileName) → IsBeyond folder layout id n → IsBeyond folder layout id m → IsBefore n m → (d.file Current n ≡ old.file Current n) ⊎ (d.file Current m ≡ None)

-- ---- afterwards

-- Each file that goes is gone, and each segment in progress that gets another name has it.
pub record IsTidied {A : Type 0} (folder : Folder) (layout : ℤ) (id : ℕ) (old d : Held A) : Type 0 where
  pub tidying : IsTidying folder layout id old d
  pub gone : (n : FileName) → Goes folder layout id n → d.file Current n ≡ None
  pub renamed : (first last : ℕ) → GetsName folder layout id first last → d.file Current (name.Edits (first, last)) ≡ old.file Current (name.InProgress first)
  pub ended : (first : ℕ) → d.file Current (name.InProgress first) ≡ None

-- on the disk of this directory, and as it reads
pub record WasTidied (layout : ℤ) (id : ℕ) (i : ℕ) (old new : State) : Type 0 where
  pub disk : IsTidied (folder_at (old.reads i) Current) layout id (disk_at old i) (disk_at new i)
  pub reads : IsTidied (folder_at (old.reads i) Current) layout id (old.reads i) (new.reads i)

-- Nothing is left in the folder that doesn't count beside the image of this id: no later image, no file that never got its name, no segment in progress, none that begins after the id, and no record of a later one.
pub record IsTidy (folder : Folder) (layout : ℤ) (id : ℕ) : Type 0 where
  pub images : (later : ℕ) → id < later → folder (name.Image later) ≡ None
  pub named : (n : FileName) → is_unnamed n ≡ true → folder n ≡ None
  pub ended : (first : ℕ) → folder (name.InProgress first) ≡ None
  pub begins : (n : FileName) (first : ℕ) → first_in n ≡ Some first → id < first → folder n ≡ None
  pub none : HasNoneAfter folder layout id
