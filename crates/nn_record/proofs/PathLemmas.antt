-- The texts of paths: a text has at most one path.
use Rattle.std.proofs.Common.{◌≡◌, ℕ, ◌≤◌, List, [], ◌∷◌, length, Some, None, ap, ◌∙◌, sym, arith}
use Rattle.nn_base.specs.declared.path.fault.PathFault.{PathFault}
use Rattle.nn_base.specs.Limits.{most_path}
use Rattle.nn_base.specs.Paths.{Names, IsPath, text_of}
use Rattle.nn_base.specs.PathText.{parts_of, fault_of}
use Rattle.nn_base.proofs.PathTextLemmas.{parts_of-text_of, fault_of-text_of}
use Rattle.nn_record.specs.Reading.{unless, path_in}

pub text_small : (names : Names) → IsPath names → length (text_of names) ≤ most_path
text_small [] is = omega arith
text_small (name ∷ rest) is = is.size

pub path_in_again : (names : Names) → IsPath names → path_in (text_of names) ≡ Some names
unfolding path_in
path_in_again names is = ap (λ fault. unless fault (parts_of (text_of names))) (fault_of-text_of names is) ∙ ap (λ (p : Names). Some p) (parts_of-text_of names is)

pub path_in_found : (text : List ℕ) (names : Names) → IsPath names → text_of names ≡ text → path_in text ≡ Some names
path_in_found text names is e = ap path_in (sym e) ∙ path_in_again names is

pub path_in_none : (text : List ℕ) (fault : PathFault) → fault_of text ≡ Some fault → path_in text ≡ None
unfolding path_in
path_in_none text fault e = ap (λ f. unless f (parts_of text)) e
