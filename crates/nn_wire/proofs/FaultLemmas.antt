-- The bytes begin with one varint at most, and where they do it has no fault; else it has one fault.
use Rattle.std.proofs.Common.{◌≡◌, ℕ, ◌≤◌, List, [], ◌++◌, length, length-append, take, drop, Some, append_assoc, Result, Ok, Err, refl, sym, ap, subst, ◌∙◌, arith}
use Rattle.std.specs.Prelude.{IfOk, IfErr}
use Rattle.std.specs.Result.{result_ok}
use Rattle.std.proofs.lemmas.List.{append-nil, take_at, take-append-drop, length-take-le}
use Rattle.nn_wire.specs.declared.fault.WireFault.{WireFault}
use Rattle.nn_wire.specs.declared.fault.WireFault.TheVariants.{Short, BadKey, NotCanonical}
use Rattle.nn_wire.specs.Varint.{IsVarint, varint, Begins, IsCut}
use Rattle.nn_wire.specs.Fault.{IsVarintFault}
use Rattle.nn_wire.proofs.SpellingLemmas.{same_varint}
use Rattle.nn_wire.proofs.GrammarLemmas.{one_spelling}

pub one_begins : (bytes : List ℕ) (m n : ℕ) (x y : List ℕ) → Begins bytes m x → Begins bytes n y → (m ≡ n) × (x ≡ y)
one_begins bytes m n x y p q = same_varint m n x y p.small q.small (sym p.text ∙ q.text)

not_cut : (bytes : List ℕ) (m n : ℕ) (rest more : List ℕ) → Begins bytes m rest → IsCut bytes n more → ⊥
not_cut bytes m n rest more begins cut =
    let longer : varint m ++ (rest ++ more) ≡ varint n ++ [] =
    sym (append_assoc (varint m) rest more) ∙ ap (λ t. t ++ more) (sym begins.text) ∙ sym cut.text ∙ sym (append-nil (varint n)) in
    let none = (same_varint m n (rest ++ more) [] begins.small cut.small longer).1 in
    absurd (omega (arith, ap length none, length-append rest more, cut.lacks))

pub no_fault : (bytes : List ℕ) (n : ℕ) (rest : List ℕ) (fault : WireFault) → Begins bytes n rest → IsVarintFault bytes fault → ⊥
no_fault bytes n rest Short begins cut = not_cut bytes n cut.0 rest cut.1 begins cut.2
no_fault bytes n rest NotCanonical begins wrong = wrong.0 n rest begins
no_fault bytes n rest BadKey begins none = none

pub one_fault : (bytes : List ℕ) (f g : WireFault) → IsVarintFault bytes f → IsVarintFault bytes g → f ≡ g
one_fault bytes Short Short p q = refl
one_fault bytes NotCanonical NotCanonical p q = refl
one_fault bytes Short NotCanonical p q = absurd (q.1 p.0 p.1 p.2)
one_fault bytes NotCanonical Short p q = absurd (p.1 q.0 q.1 q.2)
one_fault bytes BadKey g p q = absurd p
one_fault bytes f BadKey p q = absurd q

-- what was put is got again
pub read_again : (r : Result (ℕ × ℕ) WireFault) (bytes : List ℕ) (n : ℕ) (rest : List ℕ) → IfOk r (λ found. Begins bytes found.0 (drop found.1 bytes))
    → IfOk r (λ found. (found.1 ≡ length (varint found.0)) × (found.1 ≤ length bytes)) → IfErr r (IsVarintFault bytes) → Begins bytes n rest → r ≡ Ok (n, length (varint n))
read_again (Ok found) bytes n rest begins len none here =
    let same = (one_begins bytes found.0 n (drop found.1 bytes) rest begins here).0 in
    λ i. Ok (same i, (len.0 ∙ ap (λ m. length (varint m)) same) i)
read_again (Err fault) bytes n rest begins len none here = absurd (no_fault bytes n rest fault here none)

-- ---- in the words of the grammar

taken_is : (bytes : List ℕ) (n len : ℕ) → len ≡ length (varint n) → Begins bytes n (drop len bytes) → take len bytes ≡ varint n
taken_is bytes n len is begins = ap (take len) begins.text ∙ take_at (varint n) (drop len bytes) len (sym is)

pub found_is : (r : Result (ℕ × ℕ) WireFault) (bytes : List ℕ) → IfOk r (λ found. Begins bytes found.0 (drop found.1 bytes))
    → IfOk r (λ found. (found.1 ≡ length (varint found.0)) × (found.1 ≤ length bytes)) → (n len : ℕ) → result_ok r ≡ Some (n, len) → (len ≤ length bytes) × IsVarint (take len bytes) n
found_is (Ok found) bytes begins len_is n len e =
    let same : found ≡ (n, len) = cc in
    let here = subst (λ (f : ℕ × ℕ). Begins bytes f.0 (drop f.1 bytes)) same begins in
    let whole = subst (λ (f : ℕ × ℕ). (f.1 ≡ length (varint f.0)) × (f.1 ≤ length bytes)) same len_is in
    (whole.1, (one_spelling (take len bytes) n here.small).1 (taken_is bytes n len whole.0 here))
found_is (Err fault) bytes begins len_is n len e = absurd cc

pub is_found : (r : Result (ℕ × ℕ) WireFault) (bytes : List ℕ) → IfOk r (λ found. Begins bytes found.0 (drop found.1 bytes))
    → IfOk r (λ found. (found.1 ≡ length (varint found.0)) × (found.1 ≤ length bytes)) → IfErr r (IsVarintFault bytes) → (n len : ℕ) → (len ≤ length bytes) × IsVarint (take len bytes) n
    → result_ok r ≡ Some (n, len)
is_found r bytes begins len_is none n len is =
    let taken : take len bytes ≡ varint n = (one_spelling (take len bytes) n is.1.small).0 is.1 in
    let here : Begins bytes n (drop len bytes) = record { small = is.1.small; text = sym (take-append-drop len bytes) ∙ ap (λ t. t ++ drop len bytes) taken } in
    let whole : length (varint n) ≡ len = sym (ap length taken) ∙ length-take-le len bytes is.0 in
    ap result_ok (read_again r bytes n (drop len bytes) begins len_is none here) ∙ ap (λ k. Some (n, k)) whole
