use Rattle.std.proofs.Common.{◌≡◌, length, sym, ap, ◌∙◌, arith}
use Rattle.std.proofs.lemmas.Result.{err_from_is_err_and}
use Rattle.nn_base.specs.declared.path.fault.PathFault.TheVariants.{Deep}
use Rattle.nn_base.specs.PathText.{fault_among}
use Rattle.nn_base.proofs.PathReadingLemmas.{empty_text, relative_text, long_text, fair_text, part_told, told, root_text, split_parts, deep_text, read, held_text}
use Rattle.nn_base.proofs.path.Path.parse.Goals as goal

pub returns-in_default-clause-err : goal.returns-in_default-clause-err
returns-in_default-clause-err c = λ _. empty_text c.args.text.now c.in_default.ensures.cases

pub returns-then-first-ne47-clause-err : goal.returns-then-first-ne47-clause-err
returns-then-first-ne47-clause-err c = λ _. relative_text c.args.text.now _ _ c.in-Some.ensures.cases.0 c.if-first-ne47.true

pub returns-then-text-gt-MOST_PATH-clause-err : goal.returns-then-text-gt-MOST_PATH-clause-err
returns-then-text-gt-MOST_PATH-clause-err c = λ _. long_text c.args.text.now _ _ c.in-Some.ensures.cases.0 c.if-first-ne47.false c.if-text-gt-MOST_PATH.true

pub returns-then-is_empty-clause-err : goal.returns-then-is_empty-clause-err
returns-then-is_empty-clause-err c = root_text c.args.text.now _ _ c.in-Some.ensures.cases.0 c.if-first-ne47.false (sym c.is_empty.ensures ∙ c.if-is_empty.true)

pub returns-in_err-depth-clause-only : goal.returns-in_err-depth-clause-only
returns-in_err-depth-clause-only c =
    let fair = fair_text c.args.text.now _ _ c.in-Some.ensures.cases.0 c.if-first-ne47.false c.if-text-gt-MOST_PATH.false in
    let parts = split_parts c.args.text.now _ _ c.in-Some.ensures.cases.0 (sym c.is_empty.ensures ∙ c.if-is_empty.false) in
    let answer = told c.args.text.now c.in_err-depth.field-0.0 (λ _. part_told c.args.text.now _ fair (ap fault_among parts ∙ c.in_err-depth.ensures.err)) in
    let p = err_from_is_err_and c.from_residual.result c.from_residual.ensures.1 in
    rw (p.1, p.2) answer.only

pub returns-in_err-depth-clause-err : goal.returns-in_err-depth-clause-err
returns-in_err-depth-clause-err c =
    let fair = fair_text c.args.text.now _ _ c.in-Some.ensures.cases.0 c.if-first-ne47.false c.if-text-gt-MOST_PATH.false in
    let parts = split_parts c.args.text.now _ _ c.in-Some.ensures.cases.0 (sym c.is_empty.ensures ∙ c.if-is_empty.false) in
    let answer = told c.args.text.now c.in_err-depth.field-0.0 (λ _. part_told c.args.text.now _ fair (ap fault_among parts ∙ c.in_err-depth.ensures.err)) in
    let p = err_from_is_err_and c.from_residual.result c.from_residual.ensures.1 in
    rw (p.1, p.2) answer.err

pub returns-then-depth-gt-MOST_LEVELS-clause-only : goal.returns-then-depth-gt-MOST_LEVELS-clause-only
returns-then-depth-gt-MOST_LEVELS-clause-only c =
    let fair = fair_text c.args.text.now _ _ c.in-Some.ensures.cases.0 c.if-first-ne47.false c.if-text-gt-MOST_PATH.false in
    let parts = split_parts c.args.text.now _ _ c.in-Some.ensures.cases.0 (sym c.is_empty.ensures ∙ c.if-is_empty.false) in
    let counted = c.in_ok-depth.ensures.ok in
    let answer = told c.args.text.now Deep (λ _. deep_text c.args.text.now fair (ap fault_among parts ∙ counted.1) (omega (arith, ap length parts, counted.0, c.if-depth-gt-MOST_LEVELS.true))) in
    answer.only

pub returns-then-depth-gt-MOST_LEVELS-clause-err : goal.returns-then-depth-gt-MOST_LEVELS-clause-err
returns-then-depth-gt-MOST_LEVELS-clause-err c =
    let fair = fair_text c.args.text.now _ _ c.in-Some.ensures.cases.0 c.if-first-ne47.false c.if-text-gt-MOST_PATH.false in
    let parts = split_parts c.args.text.now _ _ c.in-Some.ensures.cases.0 (sym c.is_empty.ensures ∙ c.if-is_empty.false) in
    let counted = c.in_ok-depth.ensures.ok in
    let answer = told c.args.text.now Deep (λ _. deep_text c.args.text.now fair (ap fault_among parts ∙ counted.1) (omega (arith, ap length parts, counted.0, c.if-depth-gt-MOST_LEVELS.true))) in
    answer.err

pub invariant_of-result : goal.invariant_of-result
invariant_of-result c =
    let fair = fair_text c.args.text.now _ _ c.in-Some.ensures.cases.0 c.if-first-ne47.false c.if-text-gt-MOST_PATH.false in
    let parts = split_parts c.args.text.now _ _ c.in-Some.ensures.cases.0 (sym c.is_empty.ensures ∙ c.if-is_empty.false) in
    let counted = c.in_ok-depth.ensures.ok in
    let items = c.in_ok-to_vec.ensures.items_if_clones_equal (λ x y h. h) in
    let held = held_text c.args.text.now _ _ c.in-Some.ensures.cases.0 (sym c.is_empty.ensures ∙ c.if-is_empty.false) fair (ap fault_among parts ∙ counted.1) (omega (arith, ap length parts, counted.0, c.if-depth-gt-MOST_LEVELS.false)) in
    rw (items, counted.0, sym (ap length parts)) held

pub returns-clause-ok : goal.returns-clause-ok
returns-clause-ok c =
    let fair = fair_text c.args.text.now _ _ c.in-Some.ensures.cases.0 c.if-first-ne47.false c.if-text-gt-MOST_PATH.false in
    let parts = split_parts c.args.text.now _ _ c.in-Some.ensures.cases.0 (sym c.is_empty.ensures ∙ c.if-is_empty.false) in
    let counted = c.in_ok-depth.ensures.ok in
    let items = c.in_ok-to_vec.ensures.items_if_clones_equal (λ x y h. h) in
    let answer = read c.args.text.now fair (ap fault_among parts ∙ counted.1) (omega (arith, ap length parts, counted.0, c.if-depth-gt-MOST_LEVELS.false)) in
    rw items answer.ok

pub returns-clause-only : goal.returns-clause-only
returns-clause-only c =
    let fair = fair_text c.args.text.now _ _ c.in-Some.ensures.cases.0 c.if-first-ne47.false c.if-text-gt-MOST_PATH.false in
    let parts = split_parts c.args.text.now _ _ c.in-Some.ensures.cases.0 (sym c.is_empty.ensures ∙ c.if-is_empty.false) in
    let counted = c.in_ok-depth.ensures.ok in
    let items = c.in_ok-to_vec.ensures.items_if_clones_equal (λ x y h. h) in
    let answer = read c.args.text.now fair (ap fault_among parts ∙ counted.1) (omega (arith, ap length parts, counted.0, c.if-depth-gt-MOST_LEVELS.false)) in
    rw items answer.only

pub returns-clause-err : goal.returns-clause-err
returns-clause-err c =
    let fair = fair_text c.args.text.now _ _ c.in-Some.ensures.cases.0 c.if-first-ne47.false c.if-text-gt-MOST_PATH.false in
    let parts = split_parts c.args.text.now _ _ c.in-Some.ensures.cases.0 (sym c.is_empty.ensures ∙ c.if-is_empty.false) in
    let counted = c.in_ok-depth.ensures.ok in
    let items = c.in_ok-to_vec.ensures.items_if_clones_equal (λ x y h. h) in
    let answer = read c.args.text.now fair (ap fault_among parts ∙ counted.1) (omega (arith, ap length parts, counted.0, c.if-depth-gt-MOST_LEVELS.false)) in
    answer.err
