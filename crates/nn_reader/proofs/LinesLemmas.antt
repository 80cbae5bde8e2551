-- The lines of a script of which a front is whole lines.
use Rattle.std.proofs.Common.{◌≡◌, ◌≢◌, ℕ, ◌+◌, ◌-◌, ◌<◌, ◌≤◌, true, false, nat_le, if◌then◌else◌, List, [], ◌∷◌, ◌++◌, length, take, map, length-append, append_assoc, sym, ap, ◌∙◌, refl, inl, inr, arith}
use Rattle.std.specs.List.{slice_split}
use Rattle.std.specs.Str.Lines.{lines_of_parts, strip_carriage_return}
use Rattle.std.proofs.Math.Seq.{take-append-add}
use Rattle.std.proofs.lemmas.List.{map-append}
use Rattle.std.proofs.lemmas.List.Splits.{slice_split_none, slice_split_at, length-slice_split}
use Rattle.std.proofs.lemmas.Bool.{cases_lt}
use Rattle.std.proofs.lemmas.Bool.Decides.{nat_tests}
use Rattle.nn_base.specs.Paths.{Bytes}
use Rattle.nn_script.specs.Lines.{lines_of, ended_lines, all_but_last}
use Rattle.nn_reader.specs.Reading.{IsUnended}
use Rattle.nn_base.specs.Limits.{most_script}
use Rattle.nn_reader.specs.Script.{due_lines}
use Rattle.nn_reader.proofs.BytesLemmas.{is_newline}

-- these bytes are whole lines, so the parts of what follows are added to theirs
pub record Ended (done : Bytes) (parts : List Bytes) : Type 0 where
  pub split : (rest : Bytes) → slice_split is_newline (done ++ rest) ≡ parts ++ slice_split is_newline rest

abbrev pub stripped : List Bytes → List Bytes
stripped parts = map strip_carriage_return parts

pub ended_nothing : Ended [] []
ended_nothing = record { split = λ rest. refl }

pub ended_more : {done : Bytes} {parts : List Bytes} (body : Bytes) → Ended done parts → IsUnended body → Ended (done ++ (body ++ 10 ∷ [])) (parts ++ body ∷ [])
ended_more {done} {parts} body ended unended = record {
  split = λ rest. ap (slice_split is_newline) (append_assoc done (body ++ 10 ∷ []) rest ∙ ap (λ x. done ++ x) (append_assoc body (10 ∷ []) rest))
      ∙ ended.split (body ++ 10 ∷ rest) ∙ ap (λ x. parts ++ x) (slice_split_at is_newline body 10 rest unended refl) ∙ sym (append_assoc parts (body ∷ []) (slice_split is_newline rest));
}

-- ---- lines behind whole lines

lines_parts : (parts : List Bytes) (first : Bytes) (more : List Bytes) → lines_of_parts (parts ++ first ∷ more) ≡ stripped parts ++ lines_of_parts (first ∷ more)
lines_parts [] first more = refl
lines_parts (part ∷ []) first more = refl
lines_parts (part ∷ next ∷ parts) first more = ap (λ x. strip_carriage_return part ∷ x) (lines_parts (next ∷ parts) first more)

lines_append : (parts more : List Bytes) → 0 < length more → lines_of_parts (parts ++ more) ≡ stripped parts ++ lines_of_parts more
lines_append parts [] some = absurd (omega (arith, some))
lines_append parts (first ∷ more) some = lines_parts parts first more

some_part : (rest : Bytes) → 0 < length (slice_split is_newline rest)
some_part rest = omega (arith, length-slice_split is_newline rest)

pub lines_done : {done : Bytes} {parts : List Bytes} (rest : Bytes) → Ended done parts → lines_of (done ++ rest) ≡ stripped parts ++ lines_of rest
lines_done {done} {parts} rest ended = ap lines_of_parts (ended.split rest) ∙ lines_append parts (slice_split is_newline rest) (some_part rest)

front_append : (parts more : List Bytes) → 0 < length more → all_but_last (parts ++ more) ≡ parts ++ all_but_last more
front_append parts more some =
    let e : length (parts ++ more) - 1 ≡ length parts + (length more - 1) = omega (arith, length-append parts more, some) in
    ap (λ k. take k (parts ++ more)) e ∙ take-append-add parts more (length more - 1)

pub ended_done : {done : Bytes} {parts : List Bytes} (rest : Bytes) → Ended done parts → ended_lines (done ++ rest) ≡ stripped parts ++ ended_lines rest
ended_done {done} {parts} rest ended =
    ap (λ x. stripped (all_but_last x)) (ended.split rest) ∙ ap stripped (front_append parts (slice_split is_newline rest) (some_part rest))
    ∙ map-append strip_carriage_return parts (all_but_last (slice_split is_newline rest))

pub ended_unended : (body : Bytes) → IsUnended body → ended_lines body ≡ []
ended_unended body unended = ap (λ x. stripped (all_but_last x)) (slice_split_none is_newline body unended)

one_part : (body : Bytes) → body ≢ [] → lines_of_parts (body ∷ []) ≡ body ∷ []
one_part [] some = absurd (some refl)
one_part (byte ∷ body) some = grind (arith, nat_tests)

pub lines_unended : (body : Bytes) → IsUnended body → body ≢ [] → lines_of body ≡ body ∷ []
lines_unended body unended some = ap lines_of_parts (slice_split_none is_newline body unended) ∙ one_part body some

-- ---- the lines that are due

pub due_short : (script : Bytes) → length script ≤ most_script → due_lines script ≡ lines_of script
due_short script short =
    let e : nat_le (length script) most_script ≡ true = grind (arith, nat_tests) in
    ap (λ b. if b then lines_of script else ended_lines (take most_script script)) e

pub due_long : (script : Bytes) → most_script < length script → due_lines script ≡ ended_lines (take most_script script)
due_long script long =
    let e : nat_le (length script) most_script ≡ false = grind (arith, nat_tests) in
    ap (λ b. if b then lines_of script else ended_lines (take most_script script)) e

take_behind : (n : ℕ) (done rest : Bytes) → length done ≤ n → take n (done ++ rest) ≡ done ++ take (n - length done) rest
take_behind n done rest le = let e : n ≡ length done + (n - length done) = omega arith in ap (λ k. take k (done ++ rest)) e ∙ take-append-add done rest (n - length done)

-- whole lines within the bytes that a script may have are due first
pub due_first : {done : Bytes} {parts : List Bytes} (script rest : Bytes) → Ended done parts → script ≡ done ++ rest → length done ≤ most_script → (later : List Bytes) × (due_lines script ≡ stripped parts ++ later)
due_first {done} {parts} script rest ended is within = elim (cases_lt most_script (length script)) [
  | inl long ↦ (
    ended_lines (take (most_script - length done) rest),
    due_long script long ∙ ap (λ x. ended_lines (take most_script x)) is ∙ ap ended_lines (take_behind most_script done rest within) ∙ ended_done (take (most_script - length done) rest) ended,
  )
  | inr short ↦ (lines_of rest, due_short script short ∙ ap lines_of is ∙ lines_done rest ended)
]
