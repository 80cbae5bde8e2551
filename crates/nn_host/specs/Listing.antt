-- What a listing of a folder and a read of a file answer.
use Rattle.std.specs.Prelude.{◌≡◌, ◌-◌, min, ℕ, true, List, [], length, take, drop, Option, Some, None, is_some, Contains, AllPairs, Result, Ok, Err}
use Rattle.std.specs.Ordering.{nat_cmp}
use Rattle.std.specs.Cmp.Lexicographic.{slice_cmp}
use Rattle.std.specs.declared.cmp.Ordering.TheVariants.{Less}
use Rattle.nn_base.specs.declared.sub.Sub.{Sub}
use Rattle.nn_base.specs.declared.file_name.FileName.{FileName}
use Rattle.nn_base.specs.FileText.{text_of}
use Rattle.nn_host.specs.declared.host.ListFault.{ListFault}
use Rattle.nn_host.specs.declared.host.ListFault.TheVariants as fault
use Rattle.nn_host.specs.Disk.{Reads}

-- its text stands before the other's, byte by byte
abbrev pub IsBefore : FileName → FileName → Type 0
IsBefore a b = slice_cmp nat_cmp (text_of a) (text_of b) ≡ Less

-- these are just the names of the folder's files, in the order of their texts
pub record IsListing (r : Reads) (s : Sub) (names : List FileName) : Type 0 where
  pub all : (n : FileName) → is_some (r.file s n) ≡ true → Contains names n
  pub only : (n : FileName) → Contains names n → is_some (r.file s n) ≡ true
  pub ascending : AllPairs IsBefore names

-- each of these is the name of a file of the folder
pub record AreNames (r : Reads) (s : Sub) (names : List FileName) : Type 0 where
  pub only : (n : FileName) → Contains names n → is_some (r.file s n) ≡ true

-- what the host answered of a listing: want of memory for the names is no fault of it
abbrev pub host_part : Result (Unit {0}) ListFault → Result (Unit {0}) (Unit {0})
host_part (Ok v) = Ok tt
host_part (Err fault.Failed) = Err tt
host_part (Err fault.Memory) = Ok tt

-- the bytes of a file; none where it isn't there
abbrev pub bytes_of : Option (List ℕ) → List ℕ
bytes_of None = []
bytes_of (Some bytes) = bytes

-- n bytes of the file from `at` on stand at the front of the buffer; fewer than it takes only at the file's end
pub record IsRead (file : Option (List ℕ)) (at n : ℕ) (old new : List ℕ) : Type 0 where
  pub count : n ≡ min (length old) (length (bytes_of file) - at)
  pub front : take n new ≡ take n (drop at (bytes_of file))
  pub rest : drop n new ≡ drop n old
