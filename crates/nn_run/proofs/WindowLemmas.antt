-- How the windows of steps make that of a run.
use Rattle.std.proofs.Common.{◌≡◌, ◌≢◌, inl, inr, ℕ, suc, zero, ◌<◌, Bool, true, false, if◌then◌else◌, List, [], ◌∷◌, ◌++◌, length, take, drop, map, refl, sym, ◌∙◌, ap, subst, arith, append_assoc}
use Rattle.std.specs.Prelude.{All, Contains}
use Rattle.std.proofs.Math.Seq.{drop-append_seam, take-append_seam}
use Rattle.std.proofs.lemmas.List.{length-drop, length-take}
use Rattle.std.proofs.lemmas.List.Elements.{Contains-append_left, Contains-append_right, All-head}
use Rattle.std.proofs.lemmas.Bool.{cases_Bool}
use Rattle.std.proofs.lemmas.Slice.Eq.{bytes_eq-Decides}
use Rattle.nn_base.specs.Paths.{Bytes}
use Rattle.nn_pick.specs.Opening.{Book}
use Rattle.nn_kept.specs.Laws.{IsPartOf}
use Rattle.nn_run.specs.Window.{Answered, text_of, begins_with, whole_in, books, window, WindowIsBehind, StepIsInWindow, AfterIsInWindow}

pub if_true : {A : Type 0} (b : Bool) (x y : A) → b ≡ true → (if b then x else y) ≡ x
if_true true x y e = refl
if_true false x y e = absurd (cc e)

pub if_false : {A : Type 0} (b : Bool) (x y : A) → b ≡ false → (if b then x else y) ≡ y
if_false true x y e = absurd (cc e)
if_false false x y e = refl

pub nil_of : (xs : Bytes) → length xs ≡ 0 → xs ≡ []
nil_of [] e = refl
nil_of (x ∷ xs) e = absurd (omega (arith, e))

begins_so : (text bytes : Bytes) → take (length text) bytes ≡ text → begins_with text bytes ≡ true
begins_so text bytes e = (bytes_eq-Decides (take (length text) bytes) text).1 e

pub one_whole : (a : Answered) (later : List Answered) (bytes : Bytes) → begins_with a.text bytes ≡ true → whole_in (a ∷ later) bytes ≡ suc (whole_in later (drop (length a.text) bytes))
one_whole a later bytes e = if_true (begins_with a.text bytes) (suc (whole_in later (drop (length a.text) bytes))) 0 e

pub not_whole : (a : Answered) (later : List Answered) (bytes : Bytes) → begins_with a.text bytes ≡ false → whole_in (a ∷ later) bytes ≡ 0
not_whole a later bytes e = if_false (begins_with a.text bytes) (suc (whole_in later (drop (length a.text) bytes))) 0 e

pub whole_behind : (a : Answered) (later : List Answered) (bytes : Bytes) → whole_in (a ∷ later) (a.text ++ bytes) ≡ suc (whole_in later bytes)
whole_behind a later bytes = one_whole a later (a.text ++ bytes) (begins_so a.text (a.text ++ bytes) (take-append_seam a.text bytes)) ∙ ap (λ b. suc (whole_in later b)) (drop-append_seam a.text bytes)

pub window_behind : WindowIsBehind
window_behind batch book [] later bytes = refl
window_behind batch book (a ∷ first) later bytes =
    let whole : whole_in (a ∷ (first ++ later)) (text_of (a ∷ first) ++ bytes) ≡ suc (whole_in (first ++ later) (text_of first ++ bytes)) =
    ap (whole_in (a ∷ (first ++ later))) (append_assoc a.text (text_of first) bytes) ∙ whole_behind a (first ++ later) (text_of first ++ bytes) in
    ap (λ k. take (suc batch) (drop k (books book (a ∷ (first ++ later))))) whole ∙ window_behind batch a.book first later bytes

pub some_length : (text : Bytes) → text ≢ [] → 0 < length text
some_length [] some = absurd (some refl)
some_length (byte ∷ text) some = omega arith

pub not_begun : (text : Bytes) → text ≢ [] → begins_with text [] ≡ false
not_begun [] some = absurd (some refl)
not_begun (byte ∷ text) some = refl

pub none_whole : (later : List Answered) → All (λ other. other.text ≢ []) later → whole_in later [] ≡ 0
none_whole [] all = refl
none_whole (a ∷ later) all = not_whole a later [] (not_begun a.text (All-head (λ other. other.text ≢ []) a later all))

-- the Book before the first is in the window as long as nothing is said
pub entry_in_window : (batch : ℕ) (book : Book) (later : List Answered) → All (λ other. other.text ≢ []) later → IsPartOf (book ∷ []) (window batch book later [])
entry_in_window batch book later all = λ b there. subst (λ k. Contains (take (suc batch) (drop k (books book later))) b) (sym (none_whole later all)) (Contains-append_left (book ∷ []) (take batch (map (λ a. a.book) later)) b there)

-- behind a front of a text nothing is left
pub past_front : (n : ℕ) (text : Bytes) → drop (length text) (take n text) ≡ []
past_front n text = nil_of (drop (length text) (take n text)) (omega (arith, length-drop (length text) (take n text), length-take n text))

pub step_in_window : StepIsInWindow
step_in_window zero book a later n all least = absurd (omega (arith, least))
step_in_window (suc k) book a later n all least = λ b there. elim (cases_Bool (begins_with a.text (take n a.text))) [
  | inl whole ↦
      let one : Contains (a.book ∷ []) b = subst (λ j. Contains (take 2 (drop j (books book (a ∷ [])))) b) (one_whole a [] (take n a.text) whole) there in
      let past : whole_in (a ∷ later) (take n a.text) ≡ 1 = one_whole a later (take n a.text) whole ∙ ap (λ x. suc (whole_in later x)) (past_front n a.text) ∙ ap suc (none_whole later all) in
      subst (λ j. Contains (take (suc (suc k)) (drop j (books book (a ∷ later)))) b) (sym past) (Contains-append_left (a.book ∷ []) (take (suc k) (map (λ x. x.book) later)) b one)
  | inr part ↦
      let both : Contains (book ∷ a.book ∷ []) b = subst (λ j. Contains (take 2 (drop j (books book (a ∷ [])))) b) (not_whole a [] (take n a.text) part) there in
      subst (λ j. Contains (take (suc (suc k)) (drop j (books book (a ∷ later)))) b) (sym (not_whole a later (take n a.text) part)) (Contains-append_left (book ∷ a.book ∷ []) (take k (map (λ x. x.book) later)) b both)
]

pub after_in_window : AfterIsInWindow
after_in_window book a n = λ b there. elim (cases_Bool (begins_with a.text (take n a.text))) [
  | inl whole ↦ subst (λ j. Contains (take 2 (drop j (books book (a ∷ [])))) b) (sym (one_whole a [] (take n a.text) whole)) there
  | inr part ↦ subst (λ j. Contains (take 2 (drop j (books book (a ∷ [])))) b) (sym (not_whole a [] (take n a.text) part)) (Contains-append_right (book ∷ []) (a.book ∷ []) b there)
]

-- as long as nothing is said, so is the Book before it
pub both_in_window : (book : Book) (a : Answered) → a.text ≢ [] → IsPartOf (book ∷ a.book ∷ []) (window 1 book (a ∷ []) [])
both_in_window book a some b there = subst (λ j. Contains (take 2 (drop j (books book (a ∷ [])))) b) (sym (not_whole a [] [] (not_begun a.text some))) there
