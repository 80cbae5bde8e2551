use Rattle.std.proofs.Common.{arith}
use Rattle.nn_message.proofs.MessageLemmas.{Spells-long}
use Rattle.nn_message.proofs.reading.info.read_fields.Goals as goal

pub invariant_of-result : goal.invariant_of-result
invariant_of-result c = ((Spells-long 6 (omega arith)).exact c.take_long-2.new.rest.now (c.in_ok-txid.txid, c.take_long-3.new.rest.now) c.in_ok-txid.ensures).0
