use Rattle.std.proofs.Common.{◌≡◌, [], suc, ◌+◌, ◌*◌, ◌%◌, ap, ◌∙◌, get_or, arith}
use Rattle.std.proofs.lemmas.Nat.{and_mask}
use Rattle.nn_wire.specs.declared.table.TheConstants.{SHIFTED}
use Rattle.nn_wire.specs.Crc32.{next_bits}
use Rattle.nn_wire.proofs.TableLemmas.{entry}
use Rattle.nn_wire.proofs.checksum.low_shifted.Goals as goal

pub returns : goal.returns
returns c =
    let r = c.args.register in
    let p = c.args.place in
    let count : 8 * suc p ≡ 8 * (p + 1) = omega arith in
    ap (λ i. get_or (get_or SHIFTED p []) i 0) (and_mask r 8) ∙ entry p (r % 256) (omega arith) (omega arith) ∙ ap (λ n. next_bits n (r % 256)) count
