-- Newlines in bytes, and what is kept of a line.
use Rattle.std.proofs.Common.{◌≡◌, ℕ, ◌+◌, ◌-◌, ◌≤◌, min, Bool, List, ◌++◌, length, take, drop, sym, ap, ◌∙◌, arith, inl, inr}
use Rattle.std.specs.List.{slice_range}
use Rattle.std.proofs.Math.Seq.{take-append-add}
use Rattle.std.proofs.lemmas.List.{take-append-le, take_all, take_min, drop-drop, drop-take, length-take-le}
use Rattle.std.proofs.lemmas.Bool.{cases_lt}
use Rattle.nn_base.proofs.MarkLemmas.{is_mark}

abbrev pub is_newline : ℕ → Bool
is_newline byte = is_mark 10 byte

-- ---- parts of a buffer

-- what is behind the first bytes of a part of a buffer
pub range_rest : (bytes : List ℕ) (from to n : ℕ) → from + n ≤ to → drop n (slice_range bytes from to) ≡ slice_range bytes (from + n) to
range_rest bytes from to n le =
    let e : to - from ≡ n + (to - (from + n)) = omega arith in
    ap (λ k. drop n (take k (drop from bytes))) e ∙ drop-take n (to - (from + n)) (drop from bytes) ∙ ap (take (to - (from + n))) (drop-drop n from bytes)

-- ---- what is kept

pub front_more : (n : ℕ) (line part : List ℕ) → length line ≤ n → line ++ take (min (n - length line) (length part)) part ≡ take n (line ++ part)
front_more n line part le =
    let e : n ≡ length line + (n - length line) = omega arith in
    ap (λ back. line ++ back) (take_min (n - length line) part) ∙ sym (take-append-add line part (n - length line)) ∙ ap (λ k. take k (line ++ part)) (sym e)

pub front_front : (n : ℕ) (line part : List ℕ) → take n (take n line ++ part) ≡ take n (line ++ part)
front_front n line part = elim (cases_lt (length line) n) [
  | inl below ↦ ap (λ front. take n (front ++ part)) (take_all n line (omega arith))
  | inr past ↦ take-append-le n (take n line) part (omega (arith, length-take-le n line past)) ∙ take_all n (take n line) (omega (arith, length-take-le n line past)) ∙ sym (take-append-le n line part past)
]
