-- Digits with a newline behind them, and without.
use Rattle.std.proofs.Common.{◌≡◌, ◌≢◌, ◌⊎◌, ℕ, ◌+◌, ◌^◌, ◌<◌, ◌≤◌, true, List, ◌++◌, length, take, drop, set, Option, Some, None, sym, ap, ◌∙◌, refl, inl, inr, arith, lit<, length-append}
use Rattle.std.specs.Prelude.{codes, IfSome}
use Rattle.std.specs.Fmt.{decimal}
use Rattle.std.specs.List.{list_all}
use Rattle.std.specs.Char.{is_ascii_digit}
use Rattle.std.proofs.lemmas.List.{append_cancel_right, take_more_set, take_at, length-drop}
use Rattle.std.proofs.lemmas.List.Folds.{list_all-append}
use Rattle.std.proofs.lemmas.Fmt.{digits_decimal, digits_value-decimal, length-decimal-le, decimal_nonempty}
use Rattle.nn_base.specs.Decimal.{number_in}
use Rattle.std.proofs.lemmas.Bool.{and_parts}
use Rattle.nn_base.proofs.DecimalLemmas.{numerals, writes_from_number_in, number_in_writes}
use Rattle.nn_marks.specs.Seen.{IsSeenText, seen_text_of}

pub number_in-decimal : (n : ℕ) → n < 2 ^ 63 → number_in (decimal n) ≡ Some n
number_in-decimal n small =
    let wide : n < 2 ^ 64 = omega arith in
    number_in_writes (decimal n) n (record {
      some = decimal_nonempty n wide;
      few = length-decimal-le 19 n (lit< tt) (omega arith) wide;
      digits = digits_decimal numerals n wide;
      value = digits_value-decimal numerals n wide;
      small = small;
    })

-- a number has no newline at its end
no_newline : (digits front : List ℕ) (n : ℕ) → number_in digits ≡ Some n → digits ≡ front ++ codes "\n" → ⊥
no_newline digits front n e f =
    let all : list_all is_ascii_digit (front ++ codes "\n") ≡ true = ap (list_all is_ascii_digit) (sym f) ∙ (writes_from_number_in digits n e).digits in
    let last = (and_parts (list_all is_ascii_digit front) _ (sym (list_all-append is_ascii_digit front (codes "\n")) ∙ all)).1 in
    cc

-- what is left of a text without its newline decides
abbrev pub Cut : List ℕ → List ℕ → Type 0
Cut text rest = (text ≡ rest ++ codes "\n") ⊎ ((text ≡ rest) × ((front : List ℕ) → text ≢ front ++ codes "\n"))

pub seen_found : (text rest : List ℕ) (id : ℕ) → Cut text rest → number_in rest ≡ Some id → IsSeenText text id
seen_found text rest id cut e = elim cut [ inl with_newline ↦ (rest, e, inr with_newline) | inr bare ↦ (rest, e, inl bare.0) ]

pub seen_only : (text rest : List ℕ) (id : ℕ) → Cut text rest → IsSeenText text id → number_in rest ≡ Some id
seen_only text rest id cut seen = elim cut [
  | inl with_newline ↦ elim seen.2 [
    | inl bare ↦ absurd (no_newline seen.0 rest id seen.1 (sym bare ∙ with_newline))
    | inr ended ↦ ap number_in (append_cancel_right rest seen.0 (codes "\n") (sym with_newline ∙ ended)) ∙ seen.1
  ]
  | inr bare ↦ elim seen.2 [
    | inl same ↦ ap number_in (sym bare.0 ∙ same) ∙ seen.1
    | inr ended ↦ absurd (bare.1 seen.0 ended)
  ]
]

-- an id has at most 19 digits
pub length-decimal_id : (id : ℕ) → id < 2 ^ 63 → length (decimal id) ≤ 19
length-decimal_id id small = length-decimal-le 19 id (lit< tt) (omega arith) (omega arith)

-- a buffer after digits were copied to its front, and a newline put behind them
pub newline_put : (digits new out : List ℕ) → new ≡ digits → length digits < length out → take (length digits + 1) (set (new ++ drop (length digits) out) (length digits) 10) ≡ digits ++ codes "\n"
newline_put digits new out e room =
    let within : length digits < length (new ++ drop (length digits) out) = omega (arith, length-append new (drop (length digits) out), length-drop {A = ℕ} (length digits) out, ap length e) in
    take_more_set (new ++ drop (length digits) out) (length digits) 10 within
    ∙ ap (λ front. front ++ codes "\n") (take_at new (drop (length digits) out) (length digits) (ap length e) ∙ e)

pub seen_text_reads : (text : List ℕ) (id : ℕ) → id < 2 ^ 63 → text ≡ seen_text_of id → IsSeenText text id
seen_text_reads text id small e = (decimal id, number_in-decimal id small, inr e)

-- a clause on the value that is found
pub if_found : {X : Type 0} (r : Option X) (P : X → Type 0) → ((x : X) → r ≡ Some x → P x) → IfSome r P
if_found None P h = tt
if_found (Some x) P h = h x refl
