-- The lines of a generated script, file by file, and one after another.
use Rattle.std.proofs.Common.{◌≡◌, inl, inr, ℕ, zero, suc, ◌+◌, ◌%◌, ◌^◌, ◌<◌, ◌≤◌, Bool, true, false, ◌==◌, if◌then◌else◌, List, [], ◌∷◌, ◌++◌, length, take, drop, refl, sym, ◌∙◌, ap, subst, arith, lt-ltb, append_assoc, append-nil, length-append}
use Rattle.std.specs.Prelude.{All, Some, None, codes}
use Rattle.std.specs.List.{list_all, position, position_or_len, join_with_byte}
use Rattle.std.proofs.Math.Seq.{take-append_seam, drop-append_seam, get_or-append_seam}
use Rattle.std.proofs.lemmas.Bool.{cases_lt}
use Rattle.std.proofs.lemmas.List.{get_or_append_left}
use Rattle.std.proofs.lemmas.List.Sums.{position_or_len_is}
use Rattle.std.proofs.lemmas.List.Elements.{All-append, All-nil, All-head, All-tail}
use Rattle.nn_base.specs.Paths.{Bytes}
use Rattle.nn_base.proofs.MarkLemmas.{is_mark}
use Rattle.nn_script.specs.Lines.{lines_of}
use Rattle.nn_script.specs.Words.{is_line_byte}
use Rattle.nn_generate.specs.Generated.{dir_of, file_lines, script_of}
use Rattle.nn_fill.specs.Filled.{IsChangeLine, IsGood, AreGood, with_newlines, GeneratedAreChanges}
use Rattle.nn_fill.proofs.GeneratedLemmas.{own_texts, file_texts, file_good, file_lines_are, lines_are, newlines_append, no_newline}

-- ---- the lines of all files

-- the first files have these lines
pub record AreTexts (files : ℕ) (texts : List Bytes) : Type 0 where
  pub good : All IsGood texts
  pub are : script_of files ≡ with_newlines texts

pub no_texts : AreTexts 0 []
no_texts = record { good = All-nil IsGood; are = refl }

pub more_texts : (k : ℕ) (few : k < 2 ^ 32) (texts : List Bytes) → AreTexts k texts → AreTexts (suc k) (texts ++ file_texts k few)
more_texts k few texts so = record {
  good = All-append IsGood texts (file_texts k few) so.good (file_good k few);
  are = ap (λ t. t ++ file_lines k) so.are ∙ ap (λ t. with_newlines texts ++ t) (file_lines_are k few) ∙ sym (newlines_append texts (file_texts k few));
}

all_texts : (files : ℕ) → files ≤ 2 ^ 32 → (texts : List Bytes) × AreTexts files texts
all_texts zero few = ([], no_texts)
all_texts (suc k) few =
    let before = all_texts k (omega (arith, few)) in
    let below : k < 2 ^ 32 = omega (arith, few) in
    (before.0 ++ file_texts k below, more_texts k below before.0 before.1)

pub generated_are_changes : GeneratedAreChanges
generated_are_changes files few =
    let so = all_texts files few in
    let changes : All IsChangeLine so.0 = λ k d below. (so.1.good k d below).changes in
    subst (All IsChangeLine) (sym (ap lines_of so.1.are ∙ lines_are so.0 so.1.good)) changes

-- ---- file by file

good_text : (text : Bytes) (texts : List Bytes) → text ≡ with_newlines texts → All IsGood texts → (lines_of text ≡ texts) × AreGood text
good_text text texts is good =
    let lines : lines_of text ≡ texts = ap lines_of is ∙ lines_are texts good in
    (lines, record { whole = is ∙ ap with_newlines (sym lines); each = subst (All IsGood) (sym lines) good })

-- the lines of a file are few and good
pub file_is_good : (k : ℕ) → k < 2 ^ 32 → AreGood (file_lines k)
file_is_good k few = (good_text (file_lines k) (file_texts k few) (file_lines_are k few) (file_good k few)).1

few_more : (first : Bool) (text : Bytes) (texts : List Bytes) → length ((if first then text ∷ [] else []) ++ texts) ≤ 1 + length texts
few_more true text texts = omega arith
few_more false text texts = omega arith

pub file_is_short : (k : ℕ) → k < 2 ^ 32 → length (lines_of (file_lines k)) ≤ 4
file_is_short k few =
    let texts = (good_text (file_lines k) (file_texts k few) (file_lines_are k few) (file_good k few)).0 in
    omega (arith, ap length texts, few_more (k % 100 == 0) (join_with_byte 32 (codes "mkdir" ∷ dir_of k ∷ [])) (own_texts k few))

grows : (k : ℕ) → k < 2 ^ 32 → lines_of (script_of (suc k)) ≡ lines_of (script_of k) ++ lines_of (file_lines k)
grows k few =
    let before = all_texts k (omega (arith, few)) in
    let more = more_texts k few before.0 before.1 in
    let all = (good_text (script_of (suc k)) (before.0 ++ file_texts k few) more.are more.good).0 in
    let front = (good_text (script_of k) before.0 before.1.are before.1.good).0 in
    let own = (good_text (file_lines k) (file_texts k few) (file_lines_are k few) (file_good k few)).0 in
    all ∙ sym (ap (λ ls. ls ++ lines_of (file_lines k)) front ∙ ap (λ ls. before.0 ++ ls) own)

-- what is behind the first files
behind : (k files : ℕ) → k ≤ files → files ≤ 2 ^ 32 → (later : List Bytes) × (lines_of (script_of files) ≡ lines_of (script_of k) ++ later)
behind k zero low few = let same : 0 ≡ k = omega (arith, low) in ([], ap (λ n. lines_of (script_of n)) same ∙ sym (append-nil (lines_of (script_of k))))
behind k (suc m) low few = elim (cases_lt k (suc m)) [
  | inl less ↦
      let before = behind k m (omega (arith, less)) (omega (arith, few)) in
      (before.0 ++ lines_of (file_lines m), grows m (omega (arith, few)) ∙ ap (λ ls. ls ++ lines_of (file_lines m)) before.1 ∙ append_assoc (lines_of (script_of k)) before.0 (lines_of (file_lines m)))
  | inr past ↦ let same : suc m ≡ k = omega (arith, low, past) in ([], ap (λ n. lines_of (script_of n)) same ∙ sym (append-nil (lines_of (script_of k))))
]

-- behind the lines of the files before it come those of a file, and those of the others
pub record Stands (k files : ℕ) : Type 0 where
  pub later : List Bytes
  pub grown : lines_of (script_of (suc k)) ≡ lines_of (script_of k) ++ lines_of (file_lines k)
  pub are : lines_of (script_of files) ≡ lines_of (script_of k) ++ (lines_of (file_lines k) ++ later)

pub stands : (k files : ℕ) → k < files → files ≤ 2 ^ 32 → Stands k files
stands k files below few =
    let grown = grows k (omega (arith, below, few)) in
    let rest = behind (suc k) files (omega (arith, below)) few in
    record { later = rest.0; grown = grown; are = rest.1 ∙ ap (λ ls. ls ++ rest.0) grown ∙ append_assoc (lines_of (script_of k)) (lines_of (file_lines k)) rest.0 }

-- ---- line by line

position_within : (p : ℕ → Bool) (text : Bytes) → position_or_len p text < length text → Some (position_or_len p text) ≡ position p text
position_within p text below = rw (lt-ltb _ _ below) refl

newline_at : (line : Bytes) (rest : Bytes) → list_all is_line_byte line ≡ true → position (is_mark 10) (line ++ 10 ∷ rest) ≡ Some (length line)
newline_at line rest prints =
    let long : length line < length (line ++ 10 ∷ rest) = omega (arith, length-append line (10 ∷ rest)) in
    let first : position_or_len (is_mark 10) (line ++ 10 ∷ rest) ≡ length line = position_or_len_is (is_mark 10) (line ++ 10 ∷ rest) (length line) 0 (omega (arith, long))
    (λ k below. ap (is_mark 10) (get_or_append_left line (10 ∷ rest) 0 k below) ∙ no_newline line prints k 0 below) (λ below. ap (is_mark 10) (get_or-append_seam line 10 rest 0)) in
    sym (position_within (is_mark 10) (line ++ 10 ∷ rest) (omega (arith, first, long))) ∙ ap Some first

-- the first line of a good text, and the lines behind it
pub record NextLine (text : Bytes) (end : ℕ) : Type 0 where
  pub split : lines_of text ≡ take end text ∷ lines_of (drop (end + 1) text)
  pub line : IsGood (take end text)
  pub rest : AreGood (drop (end + 1) text)

pub next_line : (text : Bytes) (end : ℕ) → AreGood text → position (is_mark 10) text ≡ Some end → NextLine text end
next_line text end good found = by (lines_of text) good.whole good.each
  where
    by : (texts : List Bytes) → text ≡ with_newlines texts → All IsGood texts → NextLine text end
    by [] is each = absurd (let none = sym (ap (position (is_mark 10)) is) ∙ found in cc)
    by (line ∷ texts) is each =
        let here = All-head IsGood line texts each in
        let later = All-tail IsGood line texts each in
        let rest = with_newlines texts in
        let at : Some (length line) ≡ Some end = sym (newline_at line rest here.prints) ∙ sym (ap (position (is_mark 10)) is) ∙ found in
        let place : length line ≡ end = cc at in
        let one : length (line ++ 10 ∷ []) ≡ end + 1 = omega (arith, length-append line (10 ∷ []), place) in
        let front : take end text ≡ line = ap (λ n. take n text) (sym place) ∙ ap (take (length line)) is ∙ take-append_seam line (10 ∷ rest) in
        let back : drop (end + 1) text ≡ rest = ap (λ n. drop n text) (sym one) ∙ ap (drop (length (line ++ 10 ∷ []))) (is ∙ sym (append_assoc line (10 ∷ []) rest)) ∙ drop-append_seam (line ++ 10 ∷ []) rest in
        let behind_it = good_text (drop (end + 1) text) texts back later in record {
          split = (good_text text (line ∷ texts) is each).0 ∙ (λ i. sym front i ∷ sym behind_it.0 i);
          line = subst IsGood (sym front) here;
          rest = behind_it.1;
        }

-- a good text without a newline has no line
pub no_line : (text : Bytes) → AreGood text → position (is_mark 10) text ≡ None → lines_of text ≡ []
no_line text good none = by (lines_of text) good.whole good.each
  where
    by : (texts : List Bytes) → text ≡ with_newlines texts → All IsGood texts → texts ≡ []
    by [] is each = refl
    by (line ∷ texts) is each = absurd (let some = sym none ∙ ap (position (is_mark 10)) is ∙ newline_at line (with_newlines texts) (All-head IsGood line texts each).prints in cc)
