-- The texts of file names: which ids a name may hold, and how it is written.
use Rattle.std.specs.Prelude.{◌≡◌, ℕ, ◌^◌, ◌<◌, ◌≤◌, List, ◌++◌, codes, Option, Some, IfSome}
use Rattle.nn_base.specs.declared.file_name.FileName.{FileName}
use Rattle.nn_base.specs.declared.file_name.FileName.TheVariants.{Version, VersionTmp, Seen, SeenTmp, Image, Md5, Md5Tmp, Ckpt, Edits, InProgress}
use Rattle.nn_base.specs.Decimal.{last_digits}

-- an id with its 19 digits, which is room for each number below 2^63
abbrev pub id_text : ℕ → List ℕ
id_text id = last_digits 19 id

abbrev pub text_of : FileName → List ℕ
text_of Version = codes "VERSION"
text_of VersionTmp = codes "VERSION.tmp"
text_of Seen = codes "seen_txid"
text_of SeenTmp = codes "seen_txid.tmp"
text_of (Image id) = codes "fsimage_" ++ id_text id
text_of (Md5 id) = codes "fsimage_" ++ (id_text id ++ codes ".md5")
text_of (Md5Tmp id) = codes "fsimage_" ++ (id_text id ++ codes ".md5.tmp")
text_of (Ckpt id) = codes "fsimage.ckpt_" ++ id_text id
text_of (Edits span) = codes "edits_" ++ (id_text span.0 ++ (codes "-" ++ id_text span.1))
text_of (InProgress first) = codes "edits_inprogress_" ++ id_text first

-- ids are below 2^63; a segment begins at 1 or later and doesn't end before it begins
abbrev pub IsInRange : FileName → Type 0
IsInRange Version = Unit {0}
IsInRange VersionTmp = Unit {0}
IsInRange Seen = Unit {0}
IsInRange SeenTmp = Unit {0}
IsInRange (Image id) = id < 2 ^ 63
IsInRange (Md5 id) = id < 2 ^ 63
IsInRange (Md5Tmp id) = id < 2 ^ 63
IsInRange (Ckpt id) = id < 2 ^ 63
IsInRange (Edits span) = (1 ≤ span.0) × (span.0 ≤ span.1) × (span.1 < 2 ^ 63)
IsInRange (InProgress first) = (1 ≤ first) × (first < 2 ^ 63)

-- the name that a text is the text of, where there is one
pub record IsReading (text : List ℕ) (result : Option FileName) : Type 0 where
  pub found : IfSome result (λ name. IsInRange name × (text_of name ≡ text))
  pub only : (name : FileName) → IsInRange name → text_of name ≡ text → result ≡ Some name
