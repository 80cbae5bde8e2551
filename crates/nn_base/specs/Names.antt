-- Which two subfolders and which two file names are the same, as tests that compute on names that are written out.
use Rattle.std.specs.Prelude.{ℕ, Bool, ◌==◌, ◌&&◌}
use Rattle.nn_base.specs.declared.sub.Sub.{Sub}
use Rattle.nn_base.specs.declared.sub.Sub.TheVariants.{Current, Previous, PreviousTmp, RemovedTmp, FinalizedTmp, LastCheckpointTmp, PreviousCheckpoint}
use Rattle.nn_base.specs.declared.file_name.FileName.{FileName}
use Rattle.nn_base.specs.declared.file_name.FileName.TheVariants.{Version, VersionTmp, Seen, SeenTmp, Image, Md5, Md5Tmp, Ckpt, Edits, InProgress}

-- a number of its own for each subfolder
abbrev pub sub_code : Sub → ℕ
sub_code Current = 0
sub_code Previous = 1
sub_code PreviousTmp = 2
sub_code RemovedTmp = 3
sub_code FinalizedTmp = 4
sub_code LastCheckpointTmp = 5
sub_code PreviousCheckpoint = 6

abbrev pub sub_eq : Sub → Sub → Bool
sub_eq a b = sub_code a == sub_code b

-- a number of its own for each form of a file name
abbrev pub form_of : FileName → ℕ
form_of Version = 0
form_of VersionTmp = 1
form_of Seen = 2
form_of SeenTmp = 3
form_of (Image id) = 4
form_of (Md5 id) = 5
form_of (Md5Tmp id) = 6
form_of (Ckpt id) = 7
form_of (Edits span) = 8
form_of (InProgress first) = 9

-- the ids that stand in a file name, with 0 where there is none
abbrev pub first_id : FileName → ℕ
first_id Version = 0
first_id VersionTmp = 0
first_id Seen = 0
first_id SeenTmp = 0
first_id (Image id) = id
first_id (Md5 id) = id
first_id (Md5Tmp id) = id
first_id (Ckpt id) = id
first_id (Edits span) = span.0
first_id (InProgress first) = first

abbrev pub last_id : FileName → ℕ
last_id Version = 0
last_id VersionTmp = 0
last_id Seen = 0
last_id SeenTmp = 0
last_id (Image id) = 0
last_id (Md5 id) = 0
last_id (Md5Tmp id) = 0
last_id (Ckpt id) = 0
last_id (Edits span) = span.1
last_id (InProgress first) = 0

abbrev pub file_eq : FileName → FileName → Bool
file_eq a b = form_of a == form_of b && (first_id a == first_id b && last_id a == last_id b)
