-- One name directory as a disk: what it holds for sure, how it reads, what each call does to it and what a stop may leave of it.
use Rattle.std.specs.Prelude.{◌≡◌, ◌≢◌, ◌⊎◌, ◌≤◌, ◌&&◌, not, ℕ, Bool, true, false, List, [], ◌++◌, length, Option, Some, None, is_some, if◌then◌else◌}
use Rattle.nn_base.specs.declared.sub.Sub.{Sub}
use Rattle.nn_base.specs.declared.file_name.FileName.{FileName}
use Rattle.nn_base.specs.Names.{sub_eq, file_eq}

-- what a directory holds: a usable root or none, which subfolders, and what stands under each name in them
pub record Held (A : Type 0) : Type 0 where
  pub root : Bool
  pub has : Sub → Bool
  pub file : Sub → FileName → Option A

-- a file: the bytes that a stop keeps, and those handed over since
pub record File : Type 0 where
  pub synced : List ℕ
  pub pending : List ℕ

abbrev pub Disk : Type 0
Disk = Held File

-- the contents as they read
abbrev pub Reads : Type 0
Reads = Held (List ℕ)

-- what can be asked of a directory
pub data Call : Type 0 where
  Look : Call
  MakeSub : Sub → Call
  MakeFile : Sub → FileName → Call
  Append : Sub → FileName → List ℕ → Call
  Sync : Sub → FileName → Call
  RenameFile : Sub → FileName → FileName → Call
  RenameSub : Sub → Sub → Call
  RemoveFile : Sub → FileName → Call
  RemoveSub : Sub → Call
  Settle : Call

module _ {A : Type 0} where
  -- the same, but for this file
  abbrev pub with_file : Held A → Sub → FileName → Option A → Held A
  with_file d s n v = record d { file = λ q m. if sub_eq q s && file_eq m n then v else d.file q m }

  -- the same, but for this subfolder and all its files
  abbrev pub with_sub : Held A → Sub → Bool → (FileName → Option A) → Held A
  with_sub d s there files = record d { has = λ q. if sub_eq q s then there else d.has q; file = λ q m. if sub_eq q s then files m else d.file q m }

  -- bytes behind a file, if it is there
  abbrev pub added : (A → List ℕ → A) → List ℕ → Option A → Option A
  added add bytes None = None
  added add bytes (Some a) = Some (add a bytes)

-- what a call that returns has done, where a new file is `fresh` and bytes come behind one by `add`; nothing where it finds no such name
abbrev pub after : {A : Type 0} → A → (A → List ℕ → A) → Call → Held A → Held A
after fresh add Look d = d
after fresh add (MakeSub s) d = if d.root && not (d.has s) then with_sub d s true (λ _. None) else d
after fresh add (MakeFile s n) d = if d.has s then with_file d s n (Some fresh) else d
after fresh add (Append s n bytes) d = with_file d s n (added add bytes (d.file s n))
after fresh add (Sync s n) d = d
after fresh add (RenameFile s a b) d = if is_some (d.file s a) then with_file (with_file d s a None) s b (d.file s a) else d
after fresh add (RenameSub a b) d = if d.has a && not (d.has b) then with_sub (with_sub d a false (λ _. None)) b true (d.file a) else d
after fresh add (RemoveFile s n) d = with_file d s n None
after fresh add (RemoveSub s) d = with_sub d s false (λ _. None)
after fresh add Settle d = d

abbrev pub reads_after : Call → Reads → Reads
reads_after call r = after [] (λ old bytes. old ++ bytes) call r

abbrev pub fresh_file : File
fresh_file = record { synced = []; pending = [] }

abbrev pub add_pending : File → List ℕ → File
add_pending f bytes = record f { pending = f.pending ++ bytes }

-- a file whose bytes, as they read, a stop keeps
abbrev pub certain : Option (List ℕ) → Option File
certain None = None
certain (Some bytes) = Some (record { synced = bytes; pending = [] })

-- a disk on which the call was carried out; new bytes are pending
abbrev pub carried_out : Call → Disk → Disk
carried_out call d = after fresh_file add_pending call d

-- the disk after a call that returned; a sync and a settling make certain what reads
abbrev pub disk_after : Call → Reads → Disk → Disk
disk_after (Sync s n) r d = with_file d s n (certain (r.file s n))
disk_after Settle r d = record d { file = λ q m. certain (r.file q m) }
disk_after Look r d = d
disk_after (MakeSub s) r d = carried_out (MakeSub s) d
disk_after (MakeFile s n) r d = carried_out (MakeFile s n) d
disk_after (Append s n bytes) r d = carried_out (Append s n bytes) d
disk_after (RenameFile s a b) r d = carried_out (RenameFile s a b) d
disk_after (RenameSub a b) r d = carried_out (RenameSub a b) d
disk_after (RemoveFile s n) r d = carried_out (RemoveFile s n) d
disk_after (RemoveSub s) r d = carried_out (RemoveSub s) d

-- no subfolder without the root, and no file without its subfolder
pub record IsSound (d : Disk) : Type 0 where
  pub subs : (s : Sub) → d.root ≡ false → d.has s ≡ false
  pub files : (s : Sub) (n : FileName) → d.has s ≡ false → d.file s n ≡ None

-- any part of this subfolder is left, and all of the others
pub record PartOf (s : Sub) (d part : Disk) : Type 0 where
  pub root : part.root ≡ d.root
  pub other_subs : (q : Sub) → q ≢ s → part.has q ≡ d.has q
  pub other_files : (q : Sub) (n : FileName) → q ≢ s → part.file q n ≡ d.file q n
  pub sub : (part.has s ≡ false) ⊎ (part.has s ≡ d.has s)
  pub files : (n : FileName) → (part.file s n ≡ None) ⊎ (part.file s n ≡ d.file s n)
  pub gone : (n : FileName) → part.has s ≡ false → part.file s n ≡ None

-- a disk that a stop inside the call may find, besides the one before it: a name in the making, a rename, a removal is done
abbrev pub InFlight : Call → Disk → Disk → Type 0
InFlight Look d part = ⊥
InFlight (Sync s n) d part = ⊥
InFlight Settle d part = ⊥
InFlight (RemoveSub s) d part = PartOf s d part
InFlight (MakeSub s) d part = part ≡ carried_out (MakeSub s) d
InFlight (MakeFile s n) d part = part ≡ carried_out (MakeFile s n) d
InFlight (Append s n bytes) d part = part ≡ carried_out (Append s n bytes) d
InFlight (RenameFile s a b) d part = part ≡ carried_out (RenameFile s a b) d
InFlight (RenameSub a b) d part = part ≡ carried_out (RenameSub a b) d
InFlight (RemoveFile s n) d part = part ≡ carried_out (RemoveFile s n) d

-- the disk after a call that failed: done, or not, or in part. Bytes handed to an append are pending, whether or not any were written.
abbrev pub Broken : Call → Reads → Disk → Disk → Type 0
Broken (Append s n bytes) r d part = part ≡ carried_out (Append s n bytes) d
Broken (RemoveSub s) r d part = PartOf s d part
Broken call r d part = (part ≡ d) ⊎ (part ≡ disk_after call r d)

-- the synced bytes, and behind them any bytes up to the length that was written
pub record Torn (f : File) (bytes : List ℕ) : Type 0 where
  pub tail : List ℕ
  pub split : bytes ≡ f.synced ++ tail
  pub short : length tail ≤ length f.pending

abbrev pub LeavesFile : Option File → Option (List ℕ) → Type 0
LeavesFile None None = Unit {0}
LeavesFile None (Some bytes) = ⊥
LeavesFile (Some f) None = ⊥
LeavesFile (Some f) (Some bytes) = Torn f bytes

-- what a stop may leave of this disk
pub record Leaves (d : Disk) (c : Reads) : Type 0 where
  pub root : c.root ≡ d.root
  pub subs : (s : Sub) → c.has s ≡ d.has s
  pub files : (s : Sub) (n : FileName) → LeavesFile (d.file s n) (c.file s n)
