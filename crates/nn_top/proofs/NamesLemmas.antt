-- Lemmas on the options that stand first in words, by their names.
use Rattle.std.proofs.Common.{◌≡◌, ◌⊎◌, true, false, List, [], ◌∷◌, ◌++◌, codes, Option, Some, None, MatchOption, inl, inr, ⊎_elim, refl, sym, ap, ◌∙◌, subst}
use Rattle.std.specs.Str.{bytes_eq}
use Rattle.std.proofs.lemmas.Bool.{true≢false, false≢true, or_cases, or_left, or_right, or_from}
use Rattle.std.proofs.lemmas.Slice.Eq.{bytes_eq-Decides}
use Rattle.nn_top.specs.declared.words.options.OptionName.{OptionName}
use Rattle.nn_top.specs.declared.words.options.OptionName.TheVariants.{Cluster, Namespace, At, Generate}
use Rattle.nn_top.specs.Words.{Word, is_plain, is_among}
use Rattle.nn_top.specs.Parts.{Given, behind, joined_in, parts_of}
use Rattle.nn_top.specs.Begins.{BeginWith, is_given, begins}
use Rattle.nn_top.specs.Options.{text_of, texts_of, IsTaken, BeginWithNone}
use Rattle.nn_top.proofs.PartsLemmas.{First, a_dir, a_mark, an_option, a_stray, first_of, is_itself}

-- an option, `=` and its value
abbrev pub joined : OptionName → Word → Word
joined name value = text_of name ++ codes "=" ++ value

-- of two options, they are the same, or no value stands behind the one in a word of the other
by_name : (n name : OptionName) (value : Word)
    → ((bytes_eq (text_of name) (text_of n) ≡ true) × (behind (text_of n ++ codes "=") (joined name value) ≡ Some value) × (text_of n ≡ text_of name))
    ⊎ ((bytes_eq (text_of name) (text_of n) ≡ false) × (behind (text_of n ++ codes "=") (joined name value) ≡ None))
by_name Cluster Cluster value = inl (refl, refl, refl)
by_name Cluster Namespace value = inr (refl, refl)
by_name Cluster At value = inr (refl, refl)
by_name Cluster Generate value = inr (refl, refl)
by_name Namespace Cluster value = inr (refl, refl)
by_name Namespace Namespace value = inl (refl, refl, refl)
by_name Namespace At value = inr (refl, refl)
by_name Namespace Generate value = inr (refl, refl)
by_name At Cluster value = inr (refl, refl)
by_name At Namespace value = inr (refl, refl)
by_name At At value = inl (refl, refl, refl)
by_name At Generate value = inr (refl, refl)
by_name Generate Cluster value = inr (refl, refl)
by_name Generate Namespace value = inr (refl, refl)
by_name Generate At value = inr (refl, refl)
by_name Generate Generate value = inl (refl, refl, refl)

-- a word with a value is no option by itself
no_name : (n name : OptionName) (value : Word) → bytes_eq (joined name value) (text_of n) ≡ false
no_name Cluster Cluster value = refl
no_name Cluster Namespace value = refl
no_name Cluster At value = refl
no_name Cluster Generate value = refl
no_name Namespace Cluster value = refl
no_name Namespace Namespace value = refl
no_name Namespace At value = refl
no_name Namespace Generate value = refl
no_name At Cluster value = refl
no_name At Namespace value = refl
no_name At At value = refl
no_name At Generate value = refl
no_name Generate Cluster value = refl
no_name Generate Namespace value = refl
no_name Generate At value = refl
no_name Generate Generate value = refl

none_among : (names : List OptionName) (name : OptionName) (value : Word) → is_among (texts_of names) (joined name value) ≡ false
none_among [] name value = refl
none_among (n ∷ names) name value = or_from (bytes_eq (joined name value) (text_of n)) (is_among (texts_of names) (joined name value)) (no_name n name value) (none_among names name value)

-- nor a directory, nor `--`
joined_unplain : (name : OptionName) (value : Word) → is_plain (joined name value) ≡ false
joined_unplain Cluster value = refl
joined_unplain Namespace value = refl
joined_unplain At value = refl
joined_unplain Generate value = refl

joined_unmarked : (name : OptionName) (value : Word) → bytes_eq (joined name value) (codes "--") ≡ false
joined_unmarked Cluster value = refl
joined_unmarked Namespace value = refl
joined_unmarked At value = refl
joined_unmarked Generate value = refl

alone_unplain : (name : OptionName) → is_plain (text_of name) ≡ false
alone_unplain Cluster = refl
alone_unplain Namespace = refl
alone_unplain At = refl
alone_unplain Generate = refl

alone_unmarked : (name : OptionName) → bytes_eq (text_of name) (codes "--") ≡ false
alone_unmarked Cluster = refl
alone_unmarked Namespace = refl
alone_unmarked At = refl
alone_unmarked Generate = refl

joined_taken : (names : List OptionName) (name : OptionName) (value : Word) → IsTaken names name → joined_in (texts_of names) (joined name value) ≡ Given (text_of name) value
joined_taken [] name value taken = absurd (false≢true taken)
joined_taken (n ∷ names) name value taken = ⊎_elim
    (λ (hit : (bytes_eq (text_of name) (text_of n) ≡ true) × (behind (text_of n ++ codes "=") (joined name value) ≡ Some value) × (text_of n ≡ text_of name)).
    rw hit.1 (ap (λ w. Given w value) hit.2))
    (λ (miss : (bytes_eq (text_of name) (text_of n) ≡ false) × (behind (text_of n ++ codes "=") (joined name value) ≡ None)).
    rw miss.1 (joined_taken names name value
    (⊎_elim (λ y. absurd (true≢false (sym y ∙ miss.0))) (λ later. later) (or_cases (bytes_eq (text_of name) (text_of n)) (is_among (texts_of names) (text_of name)) taken))))
    (by_name n name value)

-- the parts of words that begin with an option
pub begins_option : (names : List OptionName) (name : OptionName) (words : List Word) (value : Word) (rest : List Word) → IsTaken names name → BeginWith words (text_of name) value rest
    → parts_of (texts_of names) words ≡ Given (text_of name) value ∷ parts_of (texts_of names) rest
begins_option names name words value [] taken (inl is) =
    rw is (rw (joined_unplain name value) (rw (joined_unmarked name value) (ap (λ p. p ∷ []) (joined_taken names name value taken))))
begins_option names name words value (next ∷ rest) taken (inl is) =
    rw is (rw (joined_unplain name value) (rw (joined_unmarked name value) (rw (none_among names name value) (ap (λ p. p ∷ parts_of (texts_of names) (next ∷ rest)) (joined_taken names name value taken)))))
begins_option names name words value rest taken (inr (is, apart)) = rw is (rw (alone_unplain name) (rw (alone_unmarked name) (rw taken (rw apart refl))))

-- a word among the options is one of them
pub among_names : (names : List OptionName) (word : Word) → is_among (texts_of names) word ≡ true → (name : OptionName) × (word ≡ text_of name) × IsTaken names name
among_names [] word among = absurd (false≢true among)
among_names (n ∷ names) word among = ⊎_elim
    (λ (y : bytes_eq word (text_of n) ≡ true). (n, (bytes_eq-Decides word (text_of n)).0 y, or_left (bytes_eq (text_of n) (text_of n)) (is_among (texts_of names) (text_of n)) (is_itself (text_of n))))
    (λ (later : is_among (texts_of names) word ≡ true).
    let found = among_names names word later in
    (found.0, found.1, or_right (bytes_eq (text_of found.0) (text_of n)) (is_among (texts_of names) (text_of found.0)) found.2))
    (or_cases (bytes_eq word (text_of n)) (is_among (texts_of names) word) among)

-- where none of them stands first, no option does
pub none_first : (names : List OptionName) (words : List Word) → BeginWithNone names words → begins is_given (parts_of (texts_of names) words) ≡ false
none_first names [] none = refl
none_first names (word ∷ words) none = by (first_of (texts_of names) word words)
  where
    by : First (texts_of names) word words → begins is_given (parts_of (texts_of names) (word ∷ words)) ≡ false
    by (a_dir plain e) = rw e refl
    by (a_mark is e) = rw e refl
    by (a_stray e) = rw e refl
    by (an_option option value rest among begin e) =
        let found = among_names names option among in
        absurd (none found.0 value rest found.2 (subst (λ w. BeginWith (word ∷ words) w value rest) found.1 begin))

-- ---- looking for one of them

pub no_names : (words : List Word) → BeginWithNone [] words
no_names words = λ name value rest taken begin. false≢true taken

-- the first of them doesn't stand there, and of the others one does or none
abbrev pub FirstOf : {P : Type 0} → List OptionName → List Word → (P → OptionName) → (P → Word) → (P → List Word) → Option P → Type 0
FirstOf names words name_in value_in rest_in found = MatchOption found (BeginWithNone names words) (λ f. IsTaken names (name_in f) × BeginWith words (text_of (name_in f)) (value_in f) (rest_in f))

pub later_first : {P : Type 0} (n : OptionName) (names : List OptionName) (words : List Word) (name_in : P → OptionName) (value_in : P → Word) (rest_in : P → List Word) (found : Option P)
    → ((value : Word) (rest : List Word) → BeginWith words (text_of n) value rest → ⊥) → FirstOf names words name_in value_in rest_in found → FirstOf (n ∷ names) words name_in value_in rest_in found
later_first n names words name_in value_in rest_in None here none = λ name value rest taken begin. ⊎_elim
    (λ (y : bytes_eq (text_of name) (text_of n) ≡ true). here value rest (subst (λ w. BeginWith words w value rest) ((bytes_eq-Decides (text_of name) (text_of n)).0 y) begin))
    (λ (later : is_among (texts_of names) (text_of name) ≡ true). none name value rest later begin)
    (or_cases (bytes_eq (text_of name) (text_of n)) (is_among (texts_of names) (text_of name)) taken)
later_first n names words name_in value_in rest_in (Some f) here found =
    (or_right (bytes_eq (text_of (name_in f)) (text_of n)) (is_among (texts_of names) (text_of (name_in f))) found.0, found.1)

pub here_first : (n : OptionName) (names : List OptionName) → IsTaken (n ∷ names) n
here_first n names = or_left (bytes_eq (text_of n) (text_of n)) (is_among (texts_of names) (text_of n)) (is_itself (text_of n))
