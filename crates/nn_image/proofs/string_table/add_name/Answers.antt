use Rattle.std.proofs.Common.{inr, ◌∙◌, arith}
use Rattle.nn_image.proofs.StringTableLemmas.{is_new, is_old, goes_last}
use Rattle.nn_image.proofs.string_table.add_name.Goals as goal

pub returns-clause-once : goal.returns-clause-once
returns-clause-once c = is_new c.args.names.now c.args.text.now c.in_ok-found.found c.in_ok-found.ensures.ok (omega arith)

pub returns-clause-added : goal.returns-clause-added
returns-clause-added c = c.in_ok-found.ensures.used ∙ goes_last c.args.names.now c.args.text.now (is_new c.args.names.now c.args.text.now c.in_ok-found.found c.in_ok-found.ensures.ok (omega arith))

pub returns-then-found-next-clause-tree : goal.returns-then-found-next-clause-tree
returns-then-found-next-clause-tree c = λ tree.
    inr (is_old c.args.names.now c.args.text.now c.in_ok-found.found c.in_ok-found.ensures.ok (λ same. c.if-found-next.true (omega (arith, same))))
