-- The first word is the option and what stands behind it.
use Rattle.std.proofs.Common.{◌≡◌, ◌∷◌, ◌++◌, Some, None, length, codes, inl, ap, ◌∙◌, sym, append_assoc, arith}
use Rattle.std.proofs.lemmas.Bool.Decides.{Decides-eqb}
use Rattle.std.proofs.lemmas.Grind.{common_steps}
use Rattle.std.proofs.lemmas.List.{append-nil, nil_from_length}
use Rattle.std.proofs.lemmas.Slice.Eq.{strip_prefix_is}
use Rattle.nn_top.specs.Words.{texts}
use Rattle.nn_top.proofs.OptionsLemmas.{no_BeginWith, BeginWith-apart}
use Rattle.nn_top.proofs.words.options.option_at.Goals as goal

pub returns-in_err-ending : goal.returns-in_err-ending
returns-in_err-ending c =
    let later = texts c.in_ok-first.later.now in
    let split : texts c.args.words.now ≡ c.as_bytes.result.now ∷ later = ap texts c.in_ok-first.ensures.cases.0 ∙ ap (λ word. word ∷ later) (sym c.as_bytes.ensures.value) in
    let other = strip_prefix_is Decides-eqb c.as_bytes.result.now c.args.option.now None c.in_err-ending.ensures.cases in
    rw c.from_residual-in_err-ending.ensures (no_BeginWith (texts c.args.words.now) later c.as_bytes.result.now c.args.option.now split other)

pub returns-then-is_empty : goal.returns-then-is_empty
returns-then-is_empty c =
    let later = texts c.in_ok-first.later.now in
    let empty : length c.in_ok-ending.ending.now ≡ 0 = grind (arith, common_steps) in
    let whole : c.as_bytes.result.now ≡ c.args.option.now =
    strip_prefix_is Decides-eqb c.as_bytes.result.now c.args.option.now (Some c.in_ok-ending.ending) c.in_ok-ending.ensures.cases
    ∙ (ap (λ ending. c.args.option.now ++ ending) (nil_from_length c.in_ok-ending.ending.now empty) ∙ append-nil c.args.option.now)
    in
    let split : texts c.args.words.now ≡ c.args.option.now ∷ later = ap texts c.in_ok-first.ensures.cases.0 ∙ ap (λ word. word ∷ later) (sym c.as_bytes.ensures.value ∙ whole) in
    BeginWith-apart c.value_apart.result (λ found. found.0.now) (λ found. texts found.1.now) (texts c.args.words.now) later c.args.option.now split c.value_apart.ensures

pub returns : goal.returns
returns c =
    let later = texts c.in_ok-first.later.now in
    let front = strip_prefix_is Decides-eqb c.as_bytes.result.now c.args.option.now (Some c.in_ok-ending.ending) c.in_ok-ending.ensures.cases in
    let end = strip_prefix_is Decides-eqb c.in_ok-ending.ending.now (codes "=") (Some c.in_ok-value.value) c.in_ok-value.ensures.cases in
    let word : c.as_bytes.result.now ≡ (c.args.option.now ++ codes "=") ++ c.in_ok-value.value.now =
    front ∙ (ap (λ ending. c.args.option.now ++ ending) end ∙ sym (append_assoc c.args.option.now (codes "=") c.in_ok-value.value.now))
    in
    inl (ap texts c.in_ok-first.ensures.cases.0 ∙ ap (λ first. first ∷ later) (sym c.as_bytes.ensures.value ∙ word))
