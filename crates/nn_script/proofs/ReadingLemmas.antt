-- Steps of reading, one after another.
use Rattle.std.proofs.Common.{◌≡◌, None, Result, Ok, Err, sym, ap, ◌∙◌, refl}
use Rattle.nn_base.specs.Paths.{Bytes, Names, IsPath, text_of}
use Rattle.nn_base.specs.PathText.{fault_of, parts_of}
use Rattle.nn_base.proofs.PathTextLemmas.{parts_of-text_of}
use Rattle.nn_script.specs.declared.syntax.Syntax.{Syntax}
use Rattle.nn_script.specs.Arguments.{◌>>=◌, path_of}

-- a text without a fault reads as the path whose text it is
pub path_read : (text : Bytes) (path : Names) → IsPath path → text_of path ≡ text → fault_of text ≡ None → path_of text ≡ Ok path
path_read text path is e none = rw none (ap Ok (ap parts_of (sym e) ∙ parts_of-text_of path is))

pub step_ok : {A B : Type 0} (read : Result A Syntax) (x : A) (next : A → Result B Syntax) → read ≡ Ok x → (read >>= next) ≡ next x
step_ok read x next e = rw e refl

pub step_err : {A B : Type 0} (read : Result A Syntax) (fault : Syntax) (next : A → Result B Syntax) → read ≡ Err fault → (read >>= next) ≡ Err fault
step_err read fault next e = rw e refl
