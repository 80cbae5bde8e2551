use Rattle.std.proofs.Common.{arith}
use Rattle.nn_wire.proofs.GrammarLemmas.{one_spelling}
use Rattle.nn_wire.proofs.SpellingLemmas.{one_byte}
use Rattle.nn_wire.proofs.varint.varint_put.Goals as goal

pub returns-clause-grammar : goal.returns-clause-grammar
returns-clause-grammar c = λ bytes. one_spelling bytes c.args.value (omega arith)

pub returns-in_err-push-clause-grammar : goal.returns-in_err-push-clause-grammar
returns-in_err-push-clause-grammar c = λ bytes. one_spelling bytes c.args.value (omega arith)

pub returns-then-value-lt128-clause-ok : goal.returns-then-value-lt128-clause-ok
returns-then-value-lt128-clause-ok c = grind (arith, one_byte)

pub returns-then-value-lt128-clause-grammar : goal.returns-then-value-lt128-clause-grammar
returns-then-value-lt128-clause-grammar c = λ bytes. one_spelling bytes c.args.value (omega arith)
