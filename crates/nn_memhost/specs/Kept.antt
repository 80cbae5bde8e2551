-- The files and the subfolders of a directory that is kept in memory.
use Rattle.std.specs.Prelude.{Bool, false, List, [], ◌∷◌, ◌&&◌, Option, Some, None, if◌then◌else◌, map, take, slice_index_or}
use Rattle.nn_base.specs.declared.sub.Sub.{Sub}
use Rattle.nn_base.specs.declared.file_name.FileName.{FileName}
use Rattle.nn_base.specs.Names.{sub_eq, sub_code, file_eq}
use Rattle.nn_memhost.specs.declared.kept.file.KeptFile.{KeptFile}
use Rattle.nn_memhost.specs.Content.{Content}

abbrev pub content_of : KeptFile → Content
content_of f = record { bytes = f.bytes.items; synced = take f.synced f.bytes.items; pending = f.pending.items }

-- a file: its subfolder, its name and its content
pub record Placed : Type 0 where
  pub sub : Sub
  pub name : FileName
  pub content : Content

abbrev pub placed_of : KeptFile → Placed
placed_of f = record { sub = f.sub; name = f.name; content = content_of f }

-- it is the file of this name
abbrev pub fits : Sub → FileName → Placed → Bool
fits s n p = sub_eq s p.sub && file_eq n p.name

-- the content of the file of this name; the first that fits counts
abbrev pub find_in : List Placed → Sub → FileName → Option Content
find_in [] s n = None
find_in (p ∷ ps) s n = if fits s n p then Some p.content else find_in ps s n

abbrev pub content_at : List KeptFile → Sub → FileName → Option Content
content_at files s n = find_in (map placed_of files) s n

-- the flag of this subfolder
abbrev pub has_flag : List Bool → Sub → Bool
has_flag flags s = slice_index_or flags (sub_code s) false
