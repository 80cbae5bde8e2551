-- A folder of a name directory as it reads: its files by their names, and what its marks say.
use Rattle.std.specs.Prelude.{◌≡◌, ◌⊎◌, ℕ, List, Option, Some}
use Rattle.nn_base.specs.declared.sub.Sub.{Sub}
use Rattle.nn_base.specs.declared.file_name.FileName.{FileName}
use Rattle.nn_base.specs.declared.file_name.FileName.TheVariants as name
use Rattle.nn_host.specs.Disk.{Reads}
use Rattle.nn_marks.specs.declared.version.Version.{Version}
use Rattle.nn_marks.specs.Seen.{IsSeenText}
use Rattle.nn_marks.specs.VersionText.{IsVersionText}

abbrev pub Folder : Type 0
Folder = FileName → Option (List ℕ)

-- this subfolder of a name directory that reads so
abbrev pub folder_at : Reads → Sub → Folder
folder_at c sub = c.file sub

-- its VERSION says this
abbrev pub HasVersion : Folder → Version → Type 0
HasVersion folder version = (text : List ℕ) × (folder name.Version ≡ Some text) × IsVersionText text version

-- its seen_txid says this id
abbrev pub SaysSeen : Folder → ℕ → Type 0
SaysSeen folder id = (text : List ℕ) × (folder name.Seen ≡ Some text) × IsSeenText text id

-- This is the id of its seen_txid. A file that is absent or doesn't read counts as 0.
abbrev pub HasSeen : Folder → ℕ → Type 0
HasSeen folder id = SaysSeen folder id ⊎ ((id ≡ 0) × ((said : ℕ) → ¬ SaysSeen folder said))
