use Rattle.nn_ops.proofs.attributes.prepare_setrep.Goals as goal

pub growth-requires-clause-kind : goal.growth-requires-clause-kind
growth-requires-clause-kind g c = (c.counters-counters.ensures.sound.limits.each _ c.node.result.now c.node.ensures).kind
