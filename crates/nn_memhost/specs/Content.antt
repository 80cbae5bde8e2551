-- The content of a file as a host in memory keeps it, and what calls make of it.
use Rattle.std.specs.Prelude.{ℕ, List, [], ◌++◌, take, Option, Some, None}
use Rattle.nn_host.specs.Disk.{File}

-- the bytes as they read, those that are synced, and all that were handed over since
pub record Content : Type 0 where
  pub bytes : List ℕ
  pub synced : List ℕ
  pub pending : List ℕ

abbrev pub fresh_content : Content
fresh_content = record { bytes = []; synced = []; pending = [] }

-- these bytes were handed over, and the first of them written
abbrev pub grown : ℕ → List ℕ → Content → Content
grown written bytes c = record { bytes = c.bytes ++ take written bytes; synced = c.synced; pending = c.pending ++ bytes }

-- all bytes that read are synced
abbrev pub synced_content : Content → Content
synced_content c = record { bytes = c.bytes; synced = c.bytes; pending = [] }

-- the file as the disk has it
abbrev pub file_of : Content → File
file_of c = record { synced = c.synced; pending = c.pending }

-- the bytes of a file as they read; none where it isn't there
abbrev pub shown_of : Option Content → List ℕ
shown_of None = []
shown_of (Some c) = c.bytes
