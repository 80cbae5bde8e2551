-- The number of files that `generate` is asked for.
use Rattle.std.proofs.Common.{◌≡◌, ℕ, ◌==◌, Bool, true, false, not, ◌&&◌, nat_le, List, [], ◌∷◌, length, codes, Some, None, option_and_then, if◌then◌else◌, ⊎_elim, refl, sym, ap, ◌∙◌}
use Rattle.std.specs.List.{list_all}
use Rattle.std.specs.Char.{is_ascii_digit}
use Rattle.std.specs.Str.Parse.{digits_value}
use Rattle.std.proofs.lemmas.Bool.{cases_Bool, true≢false, and_from, and_left, and_right, eqb-true}
use Rattle.nn_base.specs.Decimal.{is_number, number_in}
use Rattle.nn_top.specs.Words.{Word, is_plain}
use Rattle.nn_top.specs.Parts.{Part, Given, Dir, Mark, Stray, parts_of, is_dir, is_known, stand_together, is_line, no_dirs}
use Rattle.nn_top.specs.Begins.{IsEnd, begins}
use Rattle.nn_top.specs.Wanted.{Wanted}
use Rattle.nn_top.specs.Commands.{count_of, count_in, generate_for, generate_in, wanted_by}
use Rattle.nn_top.specs.Laws.{generate_with}
use Rattle.nn_top.proofs.PartsLemmas.{plain_first, unplain_first, no_options, dirless, ended, unended}
use Rattle.nn_top.proofs.SpelledLemmas.{ends_or_not}

no_number_first : (parts : List Part) → begins is_dir parts ≡ false → generate_in parts ≡ None
no_number_first [] first = refl
no_number_first (Dir number ∷ parts) first = absurd (true≢false first)
no_number_first (Given name value ∷ parts) first = refl
no_number_first (Mark ∷ parts) first = refl
no_number_first (Stray ∷ parts) first = refl

not_not : (b : Bool) → not b ≡ false → b ≡ true
not_not true e = refl
not_not false e = absurd (true≢false e)

-- what begins with `-` is no number
no_digit : (first : ℕ) (later : Word) → first ≡ 45 → list_all is_ascii_digit (first ∷ later) ≡ false
no_digit first later is = ap (λ byte. is_ascii_digit byte && list_all is_ascii_digit later) is

unplain_number : (number : Word) → is_plain number ≡ false → number_in number ≡ None
unplain_number [] unplain = absurd (true≢false unplain)
unplain_number (first ∷ []) unplain = absurd (true≢false unplain)
unplain_number (first ∷ second ∷ later) unplain =
    let number = first ∷ second ∷ later in
    let digits : list_all is_ascii_digit number ≡ false = no_digit first (second ∷ later) (eqb-true first 45 (not_not (first == 45) unplain)) in
    let none : is_number number ≡ false = and_right (nat_le 1 (length number)) _ (and_right (nat_le (length number) 19) _ (and_left (list_all is_ascii_digit number) _ digits)) in
    ap (λ (b : Bool). if b then Some (digits_value 10 number) else None) none

-- nothing but the end behind the number
pub number_alone : (number : Word) (later : List Word) → IsEnd later → generate_in (parts_of [] (number ∷ later)) ≡ generate_for (count_in number)
number_alone number later ends = ⊎_elim
    (λ (plain : is_plain number ≡ true).
    let last = ended [] later ends in
    let line : (is_line (parts_of [] later) && no_dirs (parts_of [] later)) ≡ true =
    and_from (is_line (parts_of [] later)) (no_dirs (parts_of [] later)) (and_from (list_all is_known (parts_of [] later)) (stand_together (parts_of [] later)) last.0 (dirless (parts_of [] later) last.1).together) last.1 in
    ap generate_in (plain_first [] number later plain) ∙ ap (λ (b : Bool). if b then generate_for (count_in number) else None) line)
    (λ (unplain : is_plain number ≡ false).
    no_number_first (parts_of [] (number ∷ later)) (unplain_first [] number later unplain) ∙ sym (ap (λ n. generate_for (option_and_then count_of n)) (unplain_number number unplain)))
    (cases_Bool (is_plain number))

-- something else behind it
pub number_followed : (number : Word) (later : List Word) → (IsEnd later → ⊥) → generate_in (parts_of [] (number ∷ later)) ≡ None
number_followed number later more = ⊎_elim
    (λ (plain : is_plain number ≡ true).
    let parts = parts_of [] later in
    let no : (is_line parts && no_dirs parts) ≡ false = ⊎_elim
    (λ (unknown : list_all is_known parts ≡ false). and_left (is_line parts) (no_dirs parts) (and_left (list_all is_known parts) (stand_together parts) unknown))
    (λ (has : no_dirs parts ≡ false). and_right (is_line parts) (no_dirs parts) has)
    (unended [] later more (no_options later)) in
    ap generate_in (plain_first [] number later plain) ∙ ap (λ (b : Bool). if b then generate_for (count_in number) else None) no)
    (λ (unplain : is_plain number ≡ false). no_number_first (parts_of [] (number ∷ later)) (unplain_first [] number later unplain))
    (cases_Bool (is_plain number))

-- ---- its lines

pub generate_read : (number : Word) (end : List Word) → IsEnd end → wanted_by (codes "generate" ∷ number ∷ end) ≡ generate_with number
generate_read number end ends = number_alone number end ends

pub generate_spelled : (words : List Word) (wanted : Wanted) → wanted_by (codes "generate" ∷ words) ≡ Some wanted → (number : Word) × (end : List Word) × IsEnd end × (words ≡ number ∷ end) × (generate_with number ≡ Some wanted)
generate_spelled [] wanted asks = let no : None ≡ Some wanted = asks in cc
generate_spelled (number ∷ later) wanted asks = ⊎_elim
    (λ (ends : IsEnd later). (number, later, ends, refl, sym (number_alone number later ends) ∙ asks))
    (λ (more : IsEnd later → ⊥). let no : None ≡ Some wanted = sym (number_followed number later more) ∙ asks in cc)
    (ends_or_not later)
