use Rattle.std.proofs.Common.{arith}
use Rattle.nn_image.proofs.CountLemmas.{none_counted, one_counted, all_counted}
use Rattle.nn_image.proofs.count.count_messages.Goals as goal

pub messages-init : goal.messages-init
messages-init c = record { few = omega arith; left = λ messages is. none_counted messages c.args.bytes.now is }

pub messages-preserved : goal.messages-preserved
messages-preserved c = record {
  few = omega (arith, c.messages.invariant.few, c.in-Some.ensures.shorter);
  left = λ messages is. one_counted messages c.messages.count c.messages.rest.now c.in-Some.behind.now c.in-Some.ensures.some c.in-Some.ensures.shorter (c.messages.invariant.left messages is);
}

pub returns : goal.returns
returns c = λ messages is. all_counted messages c.messages.count c.messages.rest.now c.in_default.ensures.some (c.messages.invariant.left messages is)
