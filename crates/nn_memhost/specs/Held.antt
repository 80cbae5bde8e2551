-- A directory that is kept in memory as a whole: what it holds, how it reads, and what each call makes of it.
use Rattle.std.specs.Prelude.{ℕ, Bool, true, false, List, [], length, Option, Some, None, option_map, if◌then◌else◌}
use Rattle.nn_base.specs.declared.sub.Sub.{Sub}
use Rattle.nn_base.specs.declared.file_name.FileName.{FileName}
use Rattle.nn_base.specs.Names.{sub_eq}
use Rattle.nn_host.specs.Disk.{Held, Disk, Reads, Call, Look, MakeSub, MakeFile, Append, Sync, RenameFile, RenameSub, RemoveFile, RemoveSub, Settle, after, with_file}
use Rattle.nn_memhost.specs.declared.kept.KeptDir.{KeptDir}
use Rattle.nn_memhost.specs.declared.past.Part.{Part}
use Rattle.nn_memhost.specs.declared.past.Part.TheVariants.{Nothing, Half, All}
use Rattle.nn_memhost.specs.Content.{Content, fresh_content, synced_content, grown, file_of}
use Rattle.nn_memhost.specs.Kept.{content_at, has_flag}
use Rattle.nn_memhost.specs.Part.{taken_of}

-- what a directory holds
abbrev pub held_of : KeptDir → Held Content
held_of d = record { root = d.root; has = λ s. has_flag d.subs s; file = λ s n. content_at d.files.items s n }

-- each file seen otherwise
abbrev pub map_held : {A B : Type 0} → (A → B) → Held A → Held B
map_held f h = record { root = h.root; has = h.has; file = λ s n. option_map f (h.file s n) }

-- the disk that it is, and how it reads
abbrev pub disk_of : Held Content → Disk
disk_of h = map_held file_of h

abbrev pub reads_of : Held Content → Reads
reads_of h = map_held (λ (c : Content). c.bytes) h

-- a root, and nothing in it
abbrev pub bare : Held Content
bare = record { root = true; has = λ s. false; file = λ s n. None }

-- no root, and so nothing else
abbrev pub rootless : Held Content
rootless = record { root = false; has = λ s. false; file = λ s n. None }

abbrev pub settled : Held Content → Held Content
settled h = map_held synced_content h

-- the file of this name has these bytes; its root and its subfolder are there
abbrev pub given : Sub → FileName → List ℕ → Held Content → Held Content
given s n bytes h = record {
  root = true;
  has = λ q. if sub_eq q s then true else h.has q;
  file = (with_file h s n (Some (record { bytes = bytes; synced = bytes; pending = [] }))).file;
}

abbrev pub add_content : Content → List ℕ → Content
add_content c bytes = grown (length bytes) bytes c

-- what a call that returns makes of it
abbrev pub kept_after : Call → Held Content → Held Content
kept_after (Sync s n) h = with_file h s n (option_map synced_content (h.file s n))
kept_after Settle h = settled h
kept_after Look h = h
kept_after (MakeSub s) h = after fresh_content add_content (MakeSub s) h
kept_after (MakeFile s n) h = after fresh_content add_content (MakeFile s n) h
kept_after (Append s n bytes) h = after fresh_content add_content (Append s n bytes) h
kept_after (RenameFile s a b) h = after fresh_content add_content (RenameFile s a b) h
kept_after (RenameSub a b) h = after fresh_content add_content (RenameSub a b) h
kept_after (RemoveFile s n) h = after fresh_content add_content (RemoveFile s n) h
kept_after (RemoveSub s) h = after fresh_content add_content (RemoveSub s) h

-- bytes that were handed over, of which so many were written
abbrev pub written : ℕ → Sub → FileName → List ℕ → Held Content → Held Content
written count s n bytes h = with_file h s n (option_map (grown count bytes) (h.file s n))

-- what a call that fails makes of it where it isn't done: bytes of an append are handed over
abbrev pub kept_part : Part → Call → Held Content → Held Content
kept_part part (Append s n bytes) h = written (taken_of (Some part) bytes) s n bytes h
kept_part part call h = h

-- the call was done, whether or not it failed
abbrev pub is_done : Option Part → Bool
is_done None = true
is_done (Some All) = true
is_done (Some Half) = false
is_done (Some Nothing) = false

-- what a call leaves, by what the list says of it
abbrev pub kept_left : Option Part → Call → Held Content → Held Content
kept_left None call h = kept_after call h
kept_left (Some All) call h = kept_after call h
kept_left (Some Half) call h = kept_part Half call h
kept_left (Some Nothing) call h = kept_part Nothing call h
