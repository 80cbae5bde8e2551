-- The lines of generated files: each of them is a change of the namespace.
use Rattle.std.proofs.Common.{◌≡◌, ℕ, ◌-◌, ◌/◌, ◌%◌, ◌^◌, ◌<◌, ◌≤◌, Bool, true, false, ◌&&◌, ◌==◌, if◌then◌else◌, List, [], ◌∷◌, ◌++◌, length, refl, sym, ◌∙◌, ap, arith, lit<, append_assoc, append-nil, length-append}
use Rattle.std.specs.Prelude.{All, codes, Ok, slice_index}
use Rattle.std.specs.Fmt.{decimal}
use Rattle.std.specs.List.{list_all, list_any, join_with_byte}
use Rattle.std.specs.Str.Lines.{strip_carriage_return}
use Rattle.std.proofs.lemmas.Bool.{ne_eqb}
use Rattle.std.proofs.lemmas.Bool.Decides.{nat_tests}
use Rattle.std.proofs.lemmas.Fmt.{length-decimal-le, decimal_nonempty}
use Rattle.std.proofs.lemmas.List.Elements.{All-append, All-cons, All-nil, All-head, All-tail}
use Rattle.std.proofs.lemmas.List.Folds.{list_all-append}
use Rattle.std.proofs.lemmas.List.Sums.{AllPass-from_list_all}
use Rattle.nn_base.specs.Paths.{Bytes}
use Rattle.nn_base.proofs.PathTextLemmas.{some_bytes}
use Rattle.nn_marks.proofs.LinesLemmas.{is_newline, lines-append}
use Rattle.nn_marks.proofs.SeenLemmas.{number_in-decimal}
use Rattle.nn_ops.specs.declared.command.Command.TheVariants as command
use Rattle.nn_script.specs.declared.command.ScriptCommand.TheVariants.{Namespace as Change}
use Rattle.nn_script.specs.Arguments.{path_at, number_at}
use Rattle.nn_script.specs.Lines.{lines_of}
use Rattle.nn_script.specs.Reading.{command_in}
use Rattle.nn_script.specs.Spelling.{line_of}
use Rattle.nn_script.specs.Verbs.{verb_of}
use Rattle.nn_script.specs.Words.{words, is_line_byte}
use Rattle.nn_generate.specs.Generated.{dir_by, dir_of, path_of, length_of, file_lines}
use Rattle.nn_fill.specs.Filled.{IsGood, with_newlines}
use Rattle.nn_fill.proofs.LineLemmas.{digits_of, all_pass, none_pass, digit_prints, digit_is_no, word_first, word_last, reads_as}
use Rattle.nn_fill.proofs.PathLemmas.{AreDigits, dir_names, file_names, dir_reads, file_reads, no_space}

-- ---- lines

is_no_newline : (b : ℕ) → is_line_byte b ≡ true → (b == 10) ≡ false
is_no_newline b e = grind (arith, nat_tests, e)

is_no_return : (b : ℕ) → is_line_byte b ≡ true → (b == 13) ≡ false
is_no_return b e = grind (arith, nat_tests, e)

pub no_newline : (text : Bytes) → list_all is_line_byte text ≡ true → All (λ byte. is_newline byte ≡ false) text
no_newline text prints k d below = is_no_newline _ (AllPass-from_list_all is_line_byte text prints k d below)

not_stripped : (text : Bytes) → list_all is_line_byte text ≡ true → strip_carriage_return text ≡ text
not_stripped [] prints = refl
not_stripped (b ∷ text) prints =
    let last : (slice_index (b ∷ text) (length (b ∷ text) - 1) == 13) ≡ false =
    is_no_return (slice_index (b ∷ text) (length (b ∷ text) - 1)) (AllPass-from_list_all is_line_byte (b ∷ text) prints (length (b ∷ text) - 1) 0 (omega arith)) in
    rw last refl

pub lines_are : (texts : List Bytes) → All IsGood texts → lines_of (with_newlines texts) ≡ texts
lines_are [] good = refl
lines_are (text ∷ texts) good =
    let here = All-head IsGood text texts good in
    lines-append text (with_newlines texts) (no_newline text here.prints) ∙ ap (λ t. t ∷ lines_of (with_newlines texts)) (not_stripped text here.prints)
    ∙ ap (λ ts. text ∷ ts) (lines_are texts (All-tail IsGood text texts good))

pub newlines_append : (first later : List Bytes) → with_newlines (first ++ later) ≡ with_newlines first ++ with_newlines later
newlines_append [] later = refl
newlines_append (text ∷ first) later = ap (λ rest. text ++ 10 ∷ rest) (newlines_append first later) ∙ sym (append_assoc text (10 ∷ with_newlines first) (with_newlines later))

-- ---- how each kind of line reads

mkdir_in : (path : Bytes) (names : List Bytes) → path_at path ≡ Ok names → command_in (codes "mkdir" ∷ path ∷ []) ≡ Ok (Change (command.Mkdir names))
unfolding verb_of
mkdir_in path names e = rw e refl

create_in : (path : Bytes) (names : List Bytes) → path_at path ≡ Ok names → command_in (codes "create" ∷ path ∷ codes "3" ∷ []) ≡ Ok (Change (command.Create names 3))
unfolding verb_of
create_in path names e = rw e refl

block_in : (path number : Bytes) (names : List Bytes) (n : ℕ) → path_at path ≡ Ok names → number_at number ≡ Ok n → command_in (codes "block" ∷ path ∷ number ∷ []) ≡ Ok (Change (command.AddBlock names n))
unfolding verb_of
block_in path number names n e f = rw (e, f) refl

close_in : (path : Bytes) (names : List Bytes) → path_at path ≡ Ok names → command_in (codes "close" ∷ path ∷ []) ≡ Ok (Change (command.Close names))
unfolding verb_of
close_in path names e = rw e refl

-- ---- the lines of file k

module _ (k : ℕ) (few : k < 2 ^ 32) where
  abbrev dir : Bytes
  dir = decimal (k / 100)

  abbrev file : Bytes
  file = decimal k

  abbrev size : Bytes
  size = decimal (length_of k)

  dir_digits : AreDigits dir
  dir_digits = (digits_of (k / 100) (omega (arith, few)), length-decimal-le 10 (k / 100) (lit< tt) (omega (arith, few)) (omega (arith, few)))

  file_digits : AreDigits file
  file_digits = (digits_of k (omega (arith, few)), length-decimal-le 10 k (lit< tt) (omega (arith, few)) (omega (arith, few)))

  size_digits : AreDigits size
  size_digits = (digits_of (length_of k) (omega arith), length-decimal-le 10 (length_of k) (lit< tt) (omega arith) (omega arith))

  size_reads : number_at size ≡ Ok (length_of k)
  size_reads = rw (number_in-decimal (length_of k) (omega arith)) refl

  printing : (digits : Bytes) → AreDigits digits → list_all is_line_byte digits ≡ true
  printing digits are = all_pass is_line_byte digit_prints digits are.0

  -- the path of the file, and what is behind it
  path_prints : (rest : Bytes) → list_all is_line_byte rest ≡ true → list_all is_line_byte (path_of k ++ rest) ≡ true
  path_prints rest prints =
      let first = printing dir dir_digits in
      let last = printing file file_digits in
      list_all-append is_line_byte (path_of k) rest ∙ ap (λ b. b && list_all is_line_byte rest) (list_all-append is_line_byte (dir_by dir) (codes "/f" ++ file)) ∙ rw (first, last, prints) refl

  path_long : length (path_of k) ≤ 24
  path_long = omega (arith, length-append (dir_by dir) (codes "/f" ++ file), dir_digits.1, file_digits.1)

  mkdir_good : IsGood (join_with_byte 32 (codes "mkdir" ∷ dir_of k ∷ []))
  mkdir_good = record {
    prints = printing dir dir_digits;
    changes = (
      command.Mkdir (dir_names dir),
      reads_as (codes "mkdir" ++ 32 ∷ dir_of k) (codes "mkdir" ∷ dir_of k ∷ []) (Change (command.Mkdir (dir_names dir))) refl (omega (arith, dir_digits.1)) (printing dir dir_digits)
          (word_first (codes "mkdir") (dir_of k) refl ∙ ap (λ ws. codes "mkdir" ∷ ws) (word_last (dir_of k) (none_pass (λ b. b == 32) (λ b e. digit_is_no 32 b (omega arith) e) dir dir_digits.0)))
          (rw (some_bytes 47 (103 ∷ dir)) refl) (mkdir_in (dir_of k) (dir_names dir) (dir_reads dir dir_digits)),
    );
  }

  -- a word, the path and one word more
  three_words : (word last : Bytes) → list_any (λ b. b == 32) word ≡ false → list_any (λ b. b == 32) last ≡ false → words (word ++ 32 ∷ (path_of k ++ 32 ∷ last)) ≡ word ∷ path_of k ∷ last ∷ []
  three_words word last one two =
      word_first word (path_of k ++ 32 ∷ last) one ∙ ap (λ ws. word ∷ ws) (word_first (path_of k) last (no_space dir dir_digits file file_digits) ∙ ap (λ ws. path_of k ∷ ws) (word_last last two))

  create_good : IsGood (join_with_byte 32 (codes "create" ∷ path_of k ∷ codes "3" ∷ []))
  create_good =
      let prints = path_prints (codes " 3") refl in record {
        prints = prints;
        changes = (
          command.Create (file_names dir file) 3,
          reads_as (codes "create" ++ 32 ∷ (path_of k ++ codes " 3")) (codes "create" ∷ path_of k ∷ codes "3" ∷ []) (Change (command.Create (file_names dir file) 3)) refl
              (omega (arith, path_long, length-append (path_of k) (codes " 3"))) prints (three_words (codes "create") (codes "3") refl refl) (rw (some_bytes 47 (103 ∷ (dir ++ (codes "/f" ++ file)))) refl)
              (create_in (path_of k) (file_names dir file) (file_reads dir dir_digits file file_digits)),
        );
      }

  block_good : IsGood (join_with_byte 32 (codes "block" ∷ path_of k ∷ size ∷ []))
  block_good =
      let prints = path_prints (32 ∷ size) (printing size size_digits) in record {
        prints = prints;
        changes = (
          command.AddBlock (file_names dir file) (length_of k),
          reads_as (codes "block" ++ 32 ∷ (path_of k ++ 32 ∷ size)) (codes "block" ∷ path_of k ∷ size ∷ []) (Change (command.AddBlock (file_names dir file) (length_of k))) refl
              (omega (arith, path_long, size_digits.1, length-append (path_of k) (32 ∷ size))) prints
              (three_words (codes "block") size refl (none_pass (λ b. b == 32) (λ b e. digit_is_no 32 b (omega arith) e) size size_digits.0))
              (let some : (length size == 0) ≡ false = ne_eqb (length size) 0 (λ e. omega (arith, e, decimal_nonempty (length_of k) (omega arith))) in rw (some_bytes 47 (103 ∷ (dir ++ (codes "/f" ++ file))), some) refl)
              (block_in (path_of k) size (file_names dir file) (length_of k) (file_reads dir dir_digits file file_digits) size_reads),
        );
      }

  close_good : IsGood (join_with_byte 32 (codes "close" ∷ path_of k ∷ []))
  close_good =
      let prints : list_all is_line_byte (path_of k) ≡ true = ap (list_all is_line_byte) (sym (append-nil (path_of k))) ∙ path_prints [] refl in record {
        prints = prints;
        changes = (
          command.Close (file_names dir file),
          reads_as (codes "close" ++ 32 ∷ path_of k) (codes "close" ∷ path_of k ∷ []) (Change (command.Close (file_names dir file))) refl (omega (arith, path_long)) prints
              (word_first (codes "close") (path_of k) refl ∙ ap (λ ws. codes "close" ∷ ws) (word_last (path_of k) (no_space dir dir_digits file file_digits)))
              (rw (some_bytes 47 (103 ∷ (dir ++ (codes "/f" ++ file)))) refl) (close_in (path_of k) (file_names dir file) (file_reads dir dir_digits file file_digits)),
        );
      }

  -- ---- all of them

  -- the line of its directory, if it is the first one there
  abbrev pub dir_texts : List Bytes
  dir_texts = if k % 100 == 0 then join_with_byte 32 (codes "mkdir" ∷ dir_of k ∷ []) ∷ [] else []

  abbrev pub own_texts : List Bytes
  own_texts = join_with_byte 32 (codes "create" ∷ path_of k ∷ codes "3" ∷ []) ∷ join_with_byte 32 (codes "block" ∷ path_of k ∷ size ∷ []) ∷ join_with_byte 32 (codes "close" ∷ path_of k ∷ []) ∷ []

  abbrev pub file_texts : List Bytes
  file_texts = dir_texts ++ own_texts

  dir_good : (first : Bool) → All IsGood (if first then join_with_byte 32 (codes "mkdir" ∷ dir_of k ∷ []) ∷ [] else [])
  dir_good true = All-cons IsGood (join_with_byte 32 (codes "mkdir" ∷ dir_of k ∷ [])) [] mkdir_good (All-nil IsGood)
  dir_good false = All-nil IsGood

  own_good : All IsGood own_texts
  own_good =
      let close = All-cons IsGood (join_with_byte 32 (codes "close" ∷ path_of k ∷ [])) [] close_good (All-nil IsGood) in
      let block = All-cons IsGood (join_with_byte 32 (codes "block" ∷ path_of k ∷ size ∷ [])) (join_with_byte 32 (codes "close" ∷ path_of k ∷ []) ∷ []) block_good close in
      All-cons IsGood (join_with_byte 32 (codes "create" ∷ path_of k ∷ codes "3" ∷ [])) (join_with_byte 32 (codes "block" ∷ path_of k ∷ size ∷ []) ∷ join_with_byte 32 (codes "close" ∷ path_of k ∷ []) ∷ []) create_good block

  pub file_good : All IsGood file_texts
  file_good = All-append IsGood dir_texts own_texts (dir_good (k % 100 == 0)) own_good

  dir_lines_are : (first : Bool) → (if first then line_of (codes "mkdir" ∷ dir_of k ∷ []) else []) ≡ with_newlines (if first then join_with_byte 32 (codes "mkdir" ∷ dir_of k ∷ []) ∷ [] else [])
  dir_lines_are true = refl
  dir_lines_are false = refl

  own_lines_are : line_of (codes "create" ∷ path_of k ∷ codes "3" ∷ []) ++ (line_of (codes "block" ∷ path_of k ∷ size ∷ []) ++ line_of (codes "close" ∷ path_of k ∷ [])) ≡ with_newlines own_texts
  own_lines_are =
      append_assoc (join_with_byte 32 (codes "create" ∷ path_of k ∷ codes "3" ∷ [])) (codes "\n") (line_of (codes "block" ∷ path_of k ∷ size ∷ []) ++ line_of (codes "close" ∷ path_of k ∷ []))
      ∙ ap (λ rest. join_with_byte 32 (codes "create" ∷ path_of k ∷ codes "3" ∷ []) ++ 10 ∷ rest) (append_assoc (join_with_byte 32 (codes "block" ∷ path_of k ∷ size ∷ [])) (codes "\n") (line_of (codes "close" ∷ path_of k ∷ [])))

  pub file_lines_are : file_lines k ≡ with_newlines file_texts
  file_lines_are = ap (λ first. first ++ (line_of (codes "create" ∷ path_of k ∷ codes "3" ∷ []) ++ (line_of (codes "block" ∷ path_of k ∷ size ∷ []) ++ line_of (codes "close" ∷ path_of k ∷ [])))) (dir_lines_are (k % 100 == 0))
      ∙ ap (λ rest. with_newlines dir_texts ++ rest) own_lines_are ∙ sym (newlines_append dir_texts own_texts)
