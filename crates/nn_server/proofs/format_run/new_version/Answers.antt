-- `BP-` and a number make a word.
use Rattle.std.proofs.Common.{◌≡◌, ◌<◌, ◌≤◌, ◌^◌, ℕ, List, [], ◌∷◌, ◌++◌, length, codes, true, IsTrue, refl, sym, ◌∙◌, subst, arith, lit<, le-leb}
use Rattle.std.specs.Prelude.{nat_le}
use Rattle.std.specs.List.{list_all}
use Rattle.std.specs.Char.{is_ascii_digit}
use Rattle.std.specs.Fmt.{decimal}
use Rattle.std.proofs.lemmas.Fmt.{digits_decimal, length-decimal-le}
use Rattle.std.proofs.lemmas.Bool.Decides.{nat_tests}
use Rattle.nn_base.specs.Words.{is_word, is_word_byte}
use Rattle.std.proofs.lemmas.Bool.{and_parts}
use Rattle.nn_base.proofs.DecimalLemmas.{numerals}
use Rattle.nn_server.proofs.format_run.new_version.Goals as goal

digit_is_word_byte : (byte : ℕ) → is_ascii_digit byte ≡ true → is_word_byte byte ≡ true
digit_is_word_byte byte digit = grind (arith, nat_tests, digit)

digits_are_word_bytes : (digits : List ℕ) → list_all is_ascii_digit digits ≡ true → list_all is_word_byte digits ≡ true
digits_are_word_bytes [] all = refl
digits_are_word_bytes (digit ∷ later) all =
    let parts = and_parts (is_ascii_digit digit) (list_all is_ascii_digit later) all in
    rw (digit_is_word_byte digit parts.0, digits_are_word_bytes later parts.1) refl

blockpool_is_word : (number : ℕ) → number ≤ 2147483647 → IsTrue (is_word (codes "BP-" ++ decimal number))
blockpool_is_word number fits =
    let digits = decimal number in
    let wide : number < 2 ^ 64 = omega arith in
    let few : length digits ≤ 10 = length-decimal-le 10 number (lit< tt) (omega arith) wide in
    let least : nat_le 1 (length (codes "BP-" ++ digits)) ≡ true = le-leb _ _ (omega arith) in
    let most : nat_le (length (codes "BP-" ++ digits)) 255 ≡ true = le-leb _ _ (omega (arith, few)) in
    let all : list_all is_word_byte digits ≡ true = digits_are_word_bytes digits (digits_decimal numerals number wide) in
    rw (least, most, all) refl

pub unreachable-requires : goal.unreachable-requires
unreachable-requires c =
    c.in-None.ensures (subst (λ (text : List ℕ). IsTrue (is_word text)) (sym (c.as_bytes.ensures.value ∙ c.in_ok-blockpool.ensures.ok)) (blockpool_is_word c.args.namespace c.requires.fits))

pub invariant_of-result-clause-some_namespace : goal.invariant_of-result-clause-some_namespace
invariant_of-result-clause-some_namespace c = c.requires.some

pub invariant_of-result-clause-namespace_fits : goal.invariant_of-result-clause-namespace_fits
invariant_of-result-clause-namespace_fits c = c.requires.fits

pub invariant_of-result-clause-cluster_is_word : goal.invariant_of-result-clause-cluster_is_word
invariant_of-result-clause-cluster_is_word c = c.requires.word
