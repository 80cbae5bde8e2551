use Rattle.std.proofs.Common.{sym, ◌∙◌, ◌≢◌, length}
use Rattle.std.specs.Prelude.{nat_lt}
use Rattle.std.proofs.lemmas.Bool.{ne_eqb}
use Rattle.nn_ops.specs.Above.{shared}
use Rattle.nn_ops.proofs.SharedLemmas.{above_then, above_else}
use Rattle.nn_ops.proofs.rename.is_above.Goals as goal

pub returns-then-shared-depth : goal.returns-then-shared-depth
returns-then-shared-depth c =
    (λ i. nat_lt (c.depth-then-shared-depth.ensures.value i) (c.depth-then-shared-depth-2.ensures.value i))
    ∙ above_then c.args.a.now c.args.b.now (sym c.shared.ensures ∙ c.if-shared-depth.true ∙ c.depth.ensures.value)

pub returns-else-shared-depth : goal.returns-else-shared-depth
returns-else-shared-depth c =
    let other : shared c.args.a.now c.args.b.now ≢ length c.args.a.now = λ e. c.if-shared-depth.false (c.shared.ensures ∙ e ∙ sym c.depth.ensures.value) in
    ne_eqb c.shared.result c.depth.result c.if-shared-depth.false ∙ above_else c.args.a.now c.args.b.now other
