use Rattle.std.proofs.Common.{ap, ◌∙◌, arith}
use Rattle.std.specs.Int.{w32, from_be_bytes}
use Rattle.nn_record.proofs.FieldLemmas.{u32_found}
use Rattle.nn_record.proofs.numbers.first_u32.Goals as goal

pub returns-clause-found : goal.returns-clause-found
returns-clause-found c =
    let split = c.in_ok-number.ensures.cases in
    (omega arith, u32_found c.args.bytes.now _ _ (λ i. omega (arith, c.type_inv.bytes i)) (omega (arith, split.2)) split.1 (c.from_be_bytes.ensures ∙ ap (from_be_bytes w32) split.0))
