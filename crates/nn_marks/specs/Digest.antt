-- The MD5 file of an image: the digest, and the name of the file that it is of.
use Rattle.std.specs.Prelude.{ℕ, List, ◌++◌, codes}
use Rattle.hex.specs.Hex.{encode_lower}
use Rattle.nn_base.specs.declared.file_name.FileName.TheVariants.{Image}
use Rattle.nn_base.specs.FileText.{text_of}

-- its one text
abbrev pub md5_text_of : List ℕ → ℕ → List ℕ
md5_text_of digest id = encode_lower digest ++ (codes " *" ++ (text_of (Image id) ++ codes "\n"))
