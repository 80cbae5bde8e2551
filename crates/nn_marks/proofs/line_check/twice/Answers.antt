-- The key of the line, if it has one, is marked.
use Rattle.std.proofs.Common.{ℕ, true, [], ◌∷◌, ◌++◌, set, sym, subst, arith}
use Rattle.nn_marks.specs.Given.{Marks, place_of}
use Rattle.nn_marks.proofs.KeysLemmas.{marks_pass, marks_set}
use Rattle.nn_marks.proofs.line_check.twice.Goals as goal

pub returns-in_err-key-clause-given : goal.returns-in_err-key-clause-given
returns-in_err-key-clause-given c = λ before marks none. marks_pass c.args.given.now before c.args.line.now (sym c.in_err-key.ensures) marks

pub returns-clause-given : goal.returns-clause-given
returns-clause-given c = λ before marks none.
    let given : Marks (set c.args.given.now (place_of c.in_ok-key.key) true) (before ++ c.args.line.now ∷ []) =
    marks_set c.args.given.now before c.args.line.now c.in_ok-key.key (omega arith) (sym c.in_ok-key.ensures) marks in
    subst (λ (n : ℕ). Marks (set c.args.given.now n true) (before ++ c.args.line.now ∷ [])) (sym c.place-2.ensures) given
