use Rattle.tests_core.proofs.LiveLemmas.{ready_of}
use Rattle.nn_memhost.specs.Mem.{mem_state}
use Rattle.tests_core.proofs.run.Run.begun.Goals as goal

pub invariant_of-result : goal.invariant_of-result
invariant_of-result c = record {
  ready = λ is. ready_of c.start_segment.new.self c.in_ok-core.core.journal c.count-count.result c.in_ok-core.core.count (mem_state c.loop-i.host) (mem_state c.start_segment.new.host)
      c.start_segment.ensures.went.quiet.each.count c.count-count.ensures.count c.in_ok-core.ensures.3 c.in_ok-core.ensures.4
      c.start_segment.ensures.below c.start_segment.ensures.kept.2 c.start_segment.ensures.kept.3 c.start_segment.ensures.kept.4;
}
