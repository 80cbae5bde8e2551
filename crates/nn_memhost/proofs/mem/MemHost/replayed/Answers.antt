use Rattle.std.proofs.Common.{◌∙◌, ap, take}
use Rattle.nn_memhost.specs.Past.{Past, kept_at, run}
use Rattle.nn_memhost.specs.Mem.{start_of}
use Rattle.nn_memhost.proofs.StopLemmas.{after_kept, run-take_more, among_first}
use Rattle.nn_memhost.proofs.mem.MemHost.replayed.Goals as goal

pub calls-preserved : goal.calls-preserved
calls-preserved c =
    let m = c.args.self.now in
    let p : Past = run (start_of m) (take c.calls.logged-index m.calls.items) in
    let here = among_first c.deref-2.result.now m.calls.items c.args.k c.calls.logged-index c.logged-item.result c.deref-2.ensures.value c.calls-test.true c.logged-item.is in
    record {
      count = c.replay.ensures.len ∙ c.calls.invariant.count;
      value = λ j.
          c.in_ok-replay.ensures.ok j
          ∙ after_kept c.logged-item.result.request c.logged-item.result.failed (kept_at c.calls.kept.items) p.now.kept _ p.now.said c.calls.invariant.value j
          ∙ ap (λ (q : Past). q.now.kept j) (run-take_more (start_of m) m.calls.items c.calls.logged-index c.logged-item.result here.0 here.1);
    }
