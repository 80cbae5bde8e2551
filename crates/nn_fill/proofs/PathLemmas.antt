-- How the paths of generated files read.
use Rattle.std.proofs.Common.{◌≡◌, ℕ, ◌≤◌, true, false, ◌&&◌, ◌||◌, ◌==◌, [], ◌∷◌, ◌++◌, length, refl, ◌∙◌, ap, subst, arith, append-nil, length-append, le-ltb}
use Rattle.std.specs.Prelude.{codes, nat_lt, Ok, None}
use Rattle.std.specs.List.{list_all, list_any}
use Rattle.std.specs.Char.{is_ascii_digit}
use Rattle.std.proofs.lemmas.Bool.Decides.{nat_tests}
use Rattle.std.proofs.lemmas.List.Elements.{All-cons, All-nil}
use Rattle.std.proofs.lemmas.List.Folds.{list_any-append}
use Rattle.nn_base.specs.Limits.{most_name}
use Rattle.nn_base.specs.Paths.{Bytes, Names, IsPath, is_name, is_dots, text_of}
use Rattle.nn_base.specs.PathText.{fault_of}
use Rattle.nn_base.proofs.PathTextLemmas.{fault_of-text_of, some_bytes}
use Rattle.nn_script.specs.Arguments.{path_at, path_of}
use Rattle.nn_script.proofs.EscapeLemmas.{as_it_is}
use Rattle.nn_script.proofs.ReadingLemmas.{path_read}
use Rattle.nn_generate.specs.Generated.{dir_by, path_by}
use Rattle.nn_fill.proofs.LineLemmas.{none_pass, digit_is_no}

abbrev pub AreDigits : Bytes → Type 0
AreDigits digits = (list_all is_ascii_digit digits ≡ true) × (length digits ≤ 10)

-- ---- names: a letter and digits

module _ (letter : ℕ) (digits : Bytes) (are : AreDigits digits) (no_dot : (letter == 46) ≡ false) (plain : ((letter == 0) || (letter == 58)) ≡ false) (no_slash : (letter == 47) ≡ false) where
  not_dots : (digits : Bytes) → is_dots (letter ∷ digits) ≡ false
  not_dots [] = no_dot
  not_dots (b ∷ []) = ap (λ x. x && (b == 46)) no_dot
  not_dots (b ∷ c ∷ rest) = refl

  digit_unbarred : (b : ℕ) → is_ascii_digit b ≡ true → ((b == 0) || (b == 58)) ≡ false
  digit_unbarred b e = grind (arith, nat_tests, e)

  is_good : is_name (letter ∷ digits) ≡ true
  is_good =
      let dots = not_dots digits in
      let rest = none_pass (λ b. (b == 0) || (b == 58)) digit_unbarred digits are.0 in
      let whole = none_pass (λ b. b == 47) (λ b e. digit_is_no 47 b (omega arith) e) digits are.0 in
      let some = some_bytes letter digits in
      let short : nat_lt most_name (length (letter ∷ digits)) ≡ false = le-ltb _ _ (omega (arith, are.1)) in
      rw (some, dots, plain, rest, short, no_slash, whole) refl

-- ---- paths

abbrev pub dir_names : Bytes → Names
dir_names dir = (103 ∷ dir) ∷ []

abbrev pub file_names : Bytes → Bytes → Names
file_names dir file = (103 ∷ dir) ∷ (102 ∷ file) ∷ []

module _ (dir : Bytes) (digits : AreDigits dir) where
  dir_good : is_name (103 ∷ dir) ≡ true
  dir_good = is_good 103 dir digits refl refl refl

  dir_is_path : IsPath (dir_names dir)
  dir_is_path = record {
    named = All-cons (λ name. is_name name ≡ true) (103 ∷ dir) [] dir_good (All-nil (λ name. is_name name ≡ true));
    levels = omega arith;
    size = omega (arith, digits.1, length-append (103 ∷ dir) []);
  }

  dir_text : text_of (dir_names dir) ≡ dir_by dir
  dir_text = ap (λ rest. 47 ∷ rest) (append-nil (103 ∷ dir))

  -- the path of a directory reads as its names
  pub dir_reads : path_at (dir_by dir) ≡ Ok (dir_names dir)
  dir_reads =
      as_it_is (λ r. r ≡ Ok (dir_names dir)) (dir_by dir) path_of (none_pass (λ b. b == 37) (λ b e. digit_is_no 37 b (omega arith) e) dir digits.0)
      (path_read (dir_by dir) (dir_names dir) dir_is_path dir_text (subst (λ t. fault_of t ≡ None) dir_text (fault_of-text_of (dir_names dir) dir_is_path)))

  module _ (file : Bytes) (more : AreDigits file) where
    file_is_path : IsPath (file_names dir file)
    file_is_path = record {
      named = All-cons (λ name. is_name name ≡ true) (103 ∷ dir) ((102 ∷ file) ∷ []) dir_good
          (All-cons (λ name. is_name name ≡ true) (102 ∷ file) [] (is_good 102 file more refl refl refl) (All-nil (λ name. is_name name ≡ true)));
      levels = omega arith;
      size = omega (arith, digits.1, more.1, length-append (103 ∷ dir) (47 ∷ (102 ∷ file) ++ []), length-append (102 ∷ file) []);
    }

    file_text : text_of (file_names dir file) ≡ path_by dir file
    file_text = ap (λ rest. 47 ∷ ((103 ∷ dir) ++ (47 ∷ rest))) (append-nil (102 ∷ file))

    plain : list_any (λ b. b == 37) (path_by dir file) ≡ false
    plain =
        let first = none_pass (λ b. b == 37) (λ b e. digit_is_no 37 b (omega arith) e) dir digits.0 in
        let last = none_pass (λ b. b == 37) (λ b e. digit_is_no 37 b (omega arith) e) file more.0 in
        list_any-append (λ b. b == 37) (dir_by dir) (codes "/f" ++ file) ∙ rw (first, last) refl

    pub no_space : list_any (λ b. b == 32) (path_by dir file) ≡ false
    no_space =
        let first = none_pass (λ b. b == 32) (λ b e. digit_is_no 32 b (omega arith) e) dir digits.0 in
        let last = none_pass (λ b. b == 32) (λ b e. digit_is_no 32 b (omega arith) e) file more.0 in
        list_any-append (λ b. b == 32) (dir_by dir) (codes "/f" ++ file) ∙ rw (first, last) refl

    -- and that of a file as its own
    pub file_reads : path_at (path_by dir file) ≡ Ok (file_names dir file)
    file_reads =
        as_it_is (λ r. r ≡ Ok (file_names dir file)) (path_by dir file) path_of plain
        (path_read (path_by dir file) (file_names dir file) file_is_path file_text (subst (λ t. fault_of t ≡ None) file_text (fault_of-text_of (file_names dir file) file_is_path)))
