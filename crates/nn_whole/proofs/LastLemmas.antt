-- A last line is no answer: it differs from each in its first letters.
use Rattle.std.proofs.Common.{◌≡◌, ◌⊎◌, inl, inr, ℕ, suc, zero, Bool, true, false, ◌&&◌, ◌==◌, if◌then◌else◌, List, [], ◌∷◌, ◌++◌, length, take, refl, sym, ap, subst, arith}
use Rattle.std.specs.Prelude.{codes, Contains}
use Rattle.nn_base.specs.Paths.{Bytes}
use Rattle.std.specs.Str.{bytes_eq}
use Rattle.nn_pick.specs.declared.refusal.Refusal.{Refusal}
use Rattle.nn_pick.specs.declared.refusal.Refusal.TheVariants as refused
use Rattle.nn_pick.specs.Lines.{refusal_line}
use Rattle.nn_pick.specs.Opening.{Opening}
use Rattle.nn_script.specs.Lines.{has_no_answer}
use Rattle.nn_run.specs.Running.{Running, Asked, reply_at, back_at}
use Rattle.nn_run.specs.Window.{Answered, commands_of, whole_in, begins_with, text_of}
use Rattle.nn_run.specs.Course.{RunAsked, opening_of, begun_book}
use Rattle.nn_run.proofs.WindowLemmas.{not_whole}
use Rattle.nn_whole.proofs.AnswerLemmas.{BeginsWith, IsAnswer, read_so}
use Rattle.nn_whole.proofs.OpenedLemmas.{upgrading, says_upgraded, says_started}
use Rattle.nn_whole.specs.Closed.{closing_lines, IsEarlyLine, ClosingAnswersNone, EarlyAnswersNone}

-- a text with another first byte, or with an `s` and another second byte, doesn't begin with an answer
abbrev AreApart : Bytes → Type 0
AreApart last = (text : Bytes) (n : ℕ) → IsAnswer text → begins_with text (take n last) ≡ false

other_first : (b c : ℕ) (text rest : Bytes) (n : ℕ) → text ≡ b ∷ rest → (c == b) ≡ false → (more : Bytes) → begins_with text (take n (c ∷ more)) ≡ false
other_first b c text rest zero is apart more = subst (λ t. begins_with t [] ≡ false) (sym is) refl
other_first b c text rest (suc n) is apart more = subst (λ t. begins_with t (c ∷ take n more) ≡ false) (sym is) (ap (λ x. x && bytes_eq (take (length rest) (take n more)) rest) apart)

other_second : (c : ℕ) (text rest : Bytes) (n : ℕ) → text ≡ 115 ∷ 121 ∷ rest → (c == 121) ≡ false → (more : Bytes) → begins_with text (take n (115 ∷ c ∷ more)) ≡ false
other_second c text rest zero is apart more = subst (λ t. begins_with t [] ≡ false) (sym is) refl
other_second c text rest (suc zero) is apart more = subst (λ t. begins_with t (115 ∷ []) ≡ false) (sym is) refl
other_second c text rest (suc (suc n)) is apart more = subst (λ t. begins_with t (115 ∷ c ∷ take n more) ≡ false) (sym is) (ap (λ x. x && bytes_eq (take (length rest) (take n more)) rest) apart)

apart_s : (c : ℕ) (more : Bytes) → (c == 121) ≡ false → AreApart (115 ∷ c ∷ more)
apart_s c more apart text n it = elim it [
  | inl o ↦ other_first 111 115 text o.rest n o.is refl (c ∷ more)
  | inr others ↦ elim others [
    | inl r ↦ other_first 114 115 text r.rest n r.is refl (c ∷ more)
    | inr more_others ↦ elim more_others [
      | inl d ↦ other_first 100 115 text d.rest n d.is refl (c ∷ more)
      | inr last ↦ elim last [
        | inl f ↦ other_first 102 115 text f.rest n f.is refl (c ∷ more)
        | inr sy ↦ other_second c text sy.rest n sy.is apart more
      ]
    ]
  ]
]

apart_n : (more : Bytes) → AreApart (110 ∷ more)
apart_n more text n it = elim it [
  | inl o ↦ other_first 111 110 text o.rest n o.is refl more
  | inr others ↦ elim others [
    | inl r ↦ other_first 114 110 text r.rest n r.is refl more
    | inr more_others ↦ elim more_others [
      | inl d ↦ other_first 100 110 text d.rest n d.is refl more
      | inr last ↦ elim last [
        | inl f ↦ other_first 102 110 text f.rest n f.is refl more
        | inr sy ↦ other_first 115 110 text (121 ∷ sy.rest) n sy.is refl more
      ]
    ]
  ]
]

-- which of the closing lines this is
one_of : (P : Bytes → Type 0) → P (codes "stopped\n") → P (codes "none left\n") → P (codes "source fault\n") → P (codes "script too long\n") → P (codes "no memory\n") → (text : Bytes) → Contains closing_lines text → P text
one_of P a b c d e text (zero, below, is) = subst P is a
one_of P a b c d e text (suc zero, below, is) = subst P is b
one_of P a b c d e text (suc (suc zero), below, is) = subst P is c
one_of P a b c d e text (suc (suc (suc zero)), below, is) = subst P is d
one_of P a b c d e text (suc (suc (suc (suc zero))), below, is) = subst P is e
one_of P a b c d e text (suc (suc (suc (suc (suc k)))), below, is) = absurd (omega (arith, below))

closing_apart : (last : Bytes) → Contains closing_lines last → AreApart last
closing_apart last there = one_of AreApart (apart_s 116 _ refl) (apart_n _) (apart_s 111 _ refl) (apart_s 99 _ refl) (apart_n _) last there

whole_by : (count : ℕ) (run : Running) (asked : Asked) (lines : List Asked) (last : Bytes) (n : ℕ) → AreApart last → (none : Bool) → has_no_answer asked.line ≡ none → ((r : Running) → whole_in (commands_of count r lines) (take n last) ≡ 0)
    → whole_in (if none then commands_of count run lines else record { text = (reply_at count run asked).text; book = (reply_at count run asked).after.book; back = back_at count asked } ∷ commands_of count (reply_at count run asked).after lines) (take n last) ≡ 0
whole_by count run asked lines last n apart true e rest = rest run
whole_by count run asked lines last n apart false e rest =
    not_whole (record { text = (reply_at count run asked).text; book = (reply_at count run asked).after.book; back = back_at count asked }) (commands_of count (reply_at count run asked).after lines) (take n last)
    (apart (reply_at count run asked).text n (read_so count run asked.sight asked.line e))

none_whole_in : (count : ℕ) (run : Running) (lines : List Asked) (last : Bytes) (n : ℕ) → AreApart last → whole_in (commands_of count run lines) (take n last) ≡ 0
none_whole_in count run [] last n apart = refl
none_whole_in count run (asked ∷ lines) last n apart = whole_by count run asked lines last n apart (has_no_answer asked.line) refl (λ r. none_whole_in count r lines last n apart)

pub closing_answers_none : ClosingAnswersNone
closing_answers_none count run lines text n there = none_whole_in count run lines text n (closing_apart text there)

-- ---- nor as an opening does

-- with `sta` or with `u`
pub record BeginsSta (text : Bytes) : Type 0 where
  pub rest : Bytes
  pub is : text ≡ 115 ∷ 116 ∷ 97 ∷ rest

abbrev pub Opens : Bytes → Type 0
Opens text = BeginsSta text ⊎ BeginsWith 117 text

abbrev pub AreEarly : Bytes → Type 0
AreEarly last = (text : Bytes) (n : ℕ) → Opens text → begins_with text (take n last) ≡ false

other_early : (c : ℕ) (more : Bytes) → (c == 115) ≡ false → (c == 117) ≡ false → AreEarly (c ∷ more)
other_early c more not_s not_u text n it = elim it [
  | inl sta ↦ other_first 115 c text (116 ∷ 97 ∷ sta.rest) n sta.is not_s more
  | inr u ↦ other_first 117 c text u.rest n u.is not_u more
]

early_second : (c : ℕ) (more : Bytes) → (c == 116) ≡ false → AreEarly (115 ∷ c ∷ more)
early_second c more apart text n it = elim it [
  | inl sta ↦ by_length sta.rest sta.is n
  | inr u ↦ other_first 117 115 text u.rest n u.is refl (c ∷ more)
]
  where
    by_length : (rest : Bytes) → text ≡ 115 ∷ 116 ∷ 97 ∷ rest → (n : ℕ) → begins_with text (take n (115 ∷ c ∷ more)) ≡ false
    by_length rest is zero = subst (λ t. begins_with t [] ≡ false) (sym is) refl
    by_length rest is (suc zero) = subst (λ t. begins_with t (115 ∷ []) ≡ false) (sym is) refl
    by_length rest is (suc (suc n)) = subst (λ t. begins_with t (115 ∷ c ∷ take n more) ≡ false) (sym is) (ap (λ x. x && bytes_eq (take (suc (length rest)) (take n more)) (97 ∷ rest)) apart)

early_third : (c : ℕ) (more : Bytes) → (c == 97) ≡ false → AreEarly (115 ∷ 116 ∷ c ∷ more)
early_third c more apart text n it = elim it [
  | inl sta ↦ by_length sta.rest sta.is n
  | inr u ↦ other_first 117 115 text u.rest n u.is refl (116 ∷ c ∷ more)
]
  where
    by_length : (rest : Bytes) → text ≡ 115 ∷ 116 ∷ 97 ∷ rest → (n : ℕ) → begins_with text (take n (115 ∷ 116 ∷ c ∷ more)) ≡ false
    by_length rest is zero = subst (λ t. begins_with t [] ≡ false) (sym is) refl
    by_length rest is (suc zero) = subst (λ t. begins_with t (115 ∷ []) ≡ false) (sym is) refl
    by_length rest is (suc (suc zero)) = subst (λ t. begins_with t (115 ∷ 116 ∷ []) ≡ false) (sym is) refl
    by_length rest is (suc (suc (suc n))) = subst (λ t. begins_with t (115 ∷ 116 ∷ c ∷ take n more) ≡ false) (sym is) (ap (λ x. x && bytes_eq (take (length rest) (take n more)) rest) apart)

refusal_early : (refusal : Refusal) → AreEarly (refusal_line refusal)
refusal_early (refused.Missing i) = other_early 114 _ refl refl
refusal_early (refused.Inconsistent i why) = other_early 114 _ refl refl
refusal_early (refused.Formatted i) = other_early 114 _ refl refl
refusal_early refused.NotFormatted = other_early 114 _ refl refl
refusal_early (refused.BadVersion i fault) = other_early 114 _ refl refl
refusal_early (refused.Mismatch first dir key) = other_early 114 _ refl refl
refusal_early (refused.FutureLayout i found) = other_early 114 _ refl refl
refusal_early (refused.ForeignLayout i found) = other_early 114 _ refl refl
refusal_early (refused.NoImage i why) = other_early 114 _ refl refl
refusal_early (refused.Gap seen last) = other_early 114 _ refl refl
refusal_early (refused.Spent last) = other_early 114 _ refl refl
refusal_early (refused.PreviousExists i) = other_early 114 _ refl refl
refusal_early (refused.CtimeSpent old) = other_early 114 _ refl refl
refusal_early refused.NoPrevious = other_early 114 _ refl refl
refusal_early (refused.BadPrevious i why) = other_early 114 _ refl refl

pub early_apart : (last : Bytes) → IsEarlyLine last → AreEarly last
early_apart last it = elim it [
  | inl refusal ↦ subst AreEarly (sym refusal.1) (refusal_early refusal.0)
  | inr others ↦ elim others [
    | inl fault ↦ subst AreEarly (sym fault.1) (other_early 102 _ refl refl)
    | inr there ↦ one_of AreEarly (early_third 111 _ refl) (other_early 110 _ refl refl) (early_second 111 _ refl) (early_second 99 _ refl) (other_early 110 _ refl refl) last there
  ]
]

-- how an opening begins
opening_so : (asked : RunAsked) (ctime : ℕ) (opened : Opening) (upgrade : Bool) → (first : Answered) × (others : List Answered) × (opening_of (upgrading asked upgrade) ctime opened ≡ first ∷ others) × Opens first.text
opening_so asked ctime opened true = (says_upgraded asked ctime (begun_book (upgrading asked true) opened.book), says_started opened (begun_book (upgrading asked true) opened.book) ∷ [], refl, inr (record { rest = _; is = refl }))
opening_so asked ctime opened false = (says_started opened opened.book, [], refl, inl (record { rest = _; is = refl }))

pub early_answers_none : EarlyAnswersNone
early_answers_none asked ctime opened later text n it =
    let so = opening_so asked ctime opened asked.upgrade in
    subst (λ o. whole_in (o ++ later) (take n text) ≡ 0) (sym so.2) (not_whole so.0 (so.1 ++ later) (take n text) (early_apart text it so.0.text n so.3))

-- nor does all of an opening begin it
pub early_not_started : (asked : RunAsked) (ctime : ℕ) (opened : Opening) (text : Bytes) (n : ℕ) → IsEarlyLine text → begins_with (text_of (opening_of asked ctime opened)) (take n text) ≡ false
early_not_started asked ctime opened text n it =
    let so = opening_so asked ctime opened asked.upgrade in
    subst (λ o. begins_with (text_of o) (take n text) ≡ false) (sym so.2) (early_apart text it (so.0.text ++ text_of so.1) n (more_opens so.0.text (text_of so.1) so.3))
  where
    more_opens : (text more : Bytes) → Opens text → Opens (text ++ more)
    more_opens text more it = elim it [
      | inl sta ↦ inl (record { rest = sta.rest ++ more; is = ap (λ t. t ++ more) sta.is })
      | inr u ↦ inr (record { rest = u.rest ++ more; is = ap (λ t. t ++ more) u.is })
    ]
