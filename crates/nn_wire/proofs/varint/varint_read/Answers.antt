use Rattle.std.proofs.Common.{length, refl, ap, sym, arith}
use Rattle.nn_wire.proofs.SpellingLemmas.{one_byte}
use Rattle.nn_wire.proofs.ReadingLemmas.{begins_byte}
use Rattle.nn_wire.proofs.varint.varint_read.Goals as goal

pub returns-in-len1-up-clause-ok : goal.returns-in-len1-up-clause-ok
returns-in-len1-up-clause-ok c = begins_byte c.args.bytes.now c.from.result _ (omega (arith, c.in-len1-up.len_at_least)) refl c.from.ensures (omega (arith, c.from.ensures, c.if-first-lt128.true))

pub returns-in-len1-up-clause-len : goal.returns-in-len1-up-clause-len
returns-in-len1-up-clause-len c = (sym (ap length (one_byte c.from.result (omega (arith, c.from.ensures, c.if-first-lt128.true)))), omega (arith, c.in-len1-up.len_at_least))
