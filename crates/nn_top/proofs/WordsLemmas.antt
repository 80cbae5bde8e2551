-- Lemmas on directories and on plain words, as texts.
use Rattle.std.proofs.Common.{◌≡◌, ◌≢◌, ◌<◌, ◌≤◌, ◌==◌, ◌+◌, ◌++◌, ℕ, nat_le, Bool, true, false, not, ◌&&◌, ◌||◌, take, drop, List, [], ◌∷◌, length, get_or, String, refl, sym, ap, ◌∙◌, arith}
use Rattle.std.specs.List.{list_all, list_any, prefix_len}
use Rattle.std.specs.Str.{bytes_eq}
use Rattle.std.specs.String.{string_bytes}
use Rattle.std.proofs.lemmas.List.{drop_more, get_or-take, length-drop, length-take, map-append, take-append-drop}
use Rattle.std.proofs.lemmas.Bool.{and_left, and_right, le-leb, true≢false}
use Rattle.std.proofs.lemmas.List.Folds.{list_all-map}
use Rattle.std.proofs.lemmas.List.Sums.{list_all-from_AllPass, prefix_len_passes, prefix_len_stops}
use Rattle.nn_base.specs.Limits.{most_dirs}
use Rattle.nn_top.specs.Words.{Word, texts, is_plain, is_named, are_distinct, are_dirs}
use Rattle.nn_top.specs.Parts.{parts_of, is_dir}
use Rattle.nn_top.specs.Begins.{begins}
use Rattle.nn_top.proofs.PartsLemmas.{unplain_first}

list_any-map : {Z : Type 0} (test : Word → Bool) (words : List (String Z)) → list_any test (texts words) ≡ list_any (λ word. test (string_bytes word)) words
list_any-map test [] = refl
list_any-map test (word ∷ words) = ap (λ b. test (string_bytes word) || b) (list_any-map test words)

-- whether directories are distinct, by the first of them
pub distinct_first : {Z : Type 0} (dirs later : List (String Z)) (first : String Z) (text : Word) → dirs ≡ first ∷ later → text ≡ string_bytes first
    → are_distinct (texts dirs) ≡ (not (list_any (λ other. bytes_eq text (string_bytes other)) later) && are_distinct (texts later))
distinct_first dirs later first text split is =
    rw split (rw is (ap (λ among. not among && are_distinct (texts later)) (list_any-map (λ other. bytes_eq (string_bytes first) other) later)))

pub named_texts : {Z : Type 0} (dirs : List (String Z)) → list_all is_named (texts dirs) ≡ list_all (λ dir. is_named (string_bytes dir)) dirs
named_texts dirs = list_all-map is_named string_bytes dirs

abbrev pub is_plain_text : {Z : Type 0} → String Z → Bool
is_plain_text word = is_plain (string_bytes word)

-- the plain words that words begin with, and the word behind them
pub plain_front : {Z : Type 0} (words : List (String Z)) → list_all is_plain (texts (take (prefix_len is_plain_text words) words)) ≡ true
plain_front words =
    let count = prefix_len is_plain_text words in
    list_all-map is_plain string_bytes (take count words)
    ∙ list_all-from_AllPass is_plain_text (take count words) (λ k d below.
    let inside : k < count = omega (arith, below, length-take count words) in
    ap is_plain_text (get_or-take count words k d inside) ∙ prefix_len_passes is_plain_text words k d inside)

pub unplain_rest : {Z : Type 0} (names : List Word) (words : List (String Z)) → begins is_dir (parts_of names (texts (drop (prefix_len is_plain_text words) words))) ≡ false
unplain_rest {Z} names words = by (drop (prefix_len is_plain_text words) words) refl
  where
    by : (rest : List (String Z)) → drop (prefix_len is_plain_text words) words ≡ rest → begins is_dir (parts_of names (texts rest)) ≡ false
    by [] is = refl
    by (word ∷ rest) is =
        let count = prefix_len is_plain_text words in
        let inside : count < length words = omega (arith, ap length is, length-drop count words) in
        let same : get_or words count word ≡ word = let more : get_or words count word ∷ drop (count + 1) words ≡ word ∷ rest = sym (drop_more words count word inside) ∙ is in cc in
        unplain_first names (string_bytes word) (texts rest) (ap is_plain_text (sym same) ∙ prefix_len_stops is_plain_text words word inside)

pub split_texts : {Z : Type 0} (words front back : List (String Z)) (count : ℕ) → front ≡ take count words → back ≡ drop count words → texts words ≡ texts front ++ texts back
split_texts words front back count is_front is_back =
    rw is_front (rw is_back (ap texts (sym (take-append-drop count words)) ∙ map-append string_bytes (take count words) (drop count words)))

-- the tests of directories, one after another
pub unnamed_dirs : (dirs : List Word) → list_all is_named dirs ≡ false → are_dirs dirs ≡ false
unnamed_dirs dirs unnamed =
    and_right (nat_le 1 (length dirs)) _ (and_right (nat_le (length dirs) most_dirs) _ (and_left (list_all is_named dirs) (are_distinct dirs) unnamed))

pub named_dirs : (dirs : List Word) → 1 ≤ length dirs → length dirs ≤ 8 → list_all is_named dirs ≡ true → are_dirs dirs ≡ are_distinct dirs
named_dirs dirs some few named = rw (le-leb 1 (length dirs) some) (rw (le-leb (length dirs) 8 few) (rw named refl))

pub some_texts : {Z : Type 0} (dirs : List (String Z)) → (length dirs == 0) ≡ false → texts dirs ≢ []
some_texts [] some none = true≢false some
some_texts (dir ∷ dirs) some none = cc
