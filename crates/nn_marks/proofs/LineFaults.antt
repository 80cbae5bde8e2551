-- A walk over the lines finds the first fault, and marks the keys that were given.
use Rattle.std.proofs.Common.{◌≡◌, ℕ, ◌+◌, ◌<◌, true, false, List, [], ◌∷◌, ◌++◌, length, take, drop, map, get_or, Option, Some, None, sym, ap, ◌∙◌, refl, arith}
use Rattle.std.specs.List.{enumerate_from}
use Rattle.std.proofs.lemmas.List.{take_more, drop_more, length-drop, length-take-le}
use Rattle.nn_marks.specs.declared.key.Key.{Key}
use Rattle.nn_marks.specs.declared.fault.VersionFault.{VersionFault}
use Rattle.nn_marks.specs.declared.fault.VersionFault.TheVariants.{BadLine, Twice}
use Rattle.nn_base.specs.First.{first_of}
use Rattle.nn_base.proofs.FirstLemmas.{first_behind, first_here}
use Rattle.nn_marks.specs.Version.{Line}
use Rattle.nn_marks.specs.VersionFaults.{line_fault, line_faults, is_bad, twice_key}

-- the first fault from line n on
unfoldable pub faults_from : List Line → ℕ → Option VersionFault
faults_from lines n = first_of (map (λ (place : ℕ × Line). line_fault (take place.0 lines) place.1) (enumerate_from n (drop n lines)))

pub faults_from_none : (lines : List Line) → faults_from lines 0 ≡ first_of (line_faults lines)
unfolding faults_from
faults_from_none lines = refl

-- the line at n, with what stands before and behind it
pub record LineAt (lines : List Line) (n : ℕ) (line : Line) (after : List Line) : Type 0 where
  pub within : n < length lines
  pub counted : length (take n lines) ≡ n
  pub before : take (n + 1) lines ≡ take n lines ++ line ∷ []
  pub behind : drop (n + 1) lines ≡ after

cons_length : (xs : List Line) (n : ℕ) (line : Line) (after : List Line) → drop n xs ≡ line ∷ after → n < length xs
cons_length xs n line after e = omega (arith, length-drop {A = Line} n xs, ap length e)

pub line_at : (lines : List Line) (n : ℕ) (line : Line) (after : List Line) → drop n lines ≡ line ∷ after → LineAt lines n line after
line_at lines n line after e =
    let within = cons_length lines n line after e in
    let both : get_or lines n line ∷ drop (n + 1) lines ≡ line ∷ after = sym (drop_more lines n line within) ∙ e in
    let here : get_or lines n line ≡ line = cc in
    record {
      within = within;
      counted = length-take-le n lines (omega (arith, within));
      before = take_more lines n line within ∙ ap (λ x. take n lines ++ x ∷ []) here;
      behind = cc;
    }

-- a line without a fault is passed over, and one with a fault ends the walk
pub faults_pass : (lines : List Line) (n : ℕ) (line : Line) (after : List Line) → drop n lines ≡ line ∷ after → line_fault (take n lines) line ≡ None
    → faults_from lines n ≡ faults_from lines (n + 1)
unfolding faults_from
faults_pass lines n line after e none =
    let F : ℕ × Line → Option VersionFault = λ place. line_fault (take place.0 lines) place.1 in
    ap (λ rest. first_of (map F (enumerate_from n rest))) e
    ∙ first_behind (line_fault (take n lines) line) (map F (enumerate_from (n + 1) after)) none
    ∙ ap (λ rest. first_of (map F (enumerate_from (n + 1) rest))) (sym (line_at lines n line after e).behind)

pub faults_stop : (lines : List Line) (n : ℕ) (line : Line) (after : List Line) (fault : VersionFault) → drop n lines ≡ line ∷ after → line_fault (take n lines) line ≡ Some fault
    → faults_from lines n ≡ Some fault
unfolding faults_from
faults_stop lines n line after fault e some =
    let F : ℕ × Line → Option VersionFault = λ place. line_fault (take place.0 lines) place.1 in
    ap (λ rest. first_of (map F (enumerate_from n rest))) e
    ∙ first_here (line_fault (take n lines) line) (map F (enumerate_from (n + 1) after)) fault some

pub faults_end : (lines : List Line) (n : ℕ) → drop n lines ≡ [] → faults_from lines n ≡ None
unfolding faults_from
faults_end lines n e = ap (λ rest. first_of (map (λ (place : ℕ × Line). line_fault (take place.0 lines) place.1) (enumerate_from n rest))) e

-- the fault of a line, by the tests that are made of it
pub bad_line : (before : List Line) (line : Line) (n : ℕ) → true ≡ is_bad line → length before ≡ n → line_fault before line ≡ Some (BadLine (n + 1))
bad_line before line n bad counted = rw (← bad, counted) refl

pub twice_line : (before : List Line) (line : Line) (key : Key) → false ≡ is_bad line → Some key ≡ twice_key before line → line_fault before line ≡ Some (Twice key)
twice_line before line key fine twice = rw (← fine, ← twice) refl

pub fine_line : (before : List Line) (line : Line) → false ≡ is_bad line → None ≡ twice_key before line → line_fault before line ≡ None
fine_line before line fine once = rw (← fine, ← once) refl
