use Rattle.std.proofs.Common.{sym, subst, arith, [], List, length}
use Rattle.nn_memhost.specs.declared.counts.Counts.{Counts}
use Rattle.nn_memhost.specs.declared.past.Logged.{Logged}
use Rattle.nn_memhost.specs.Counts.{no_faults}
use Rattle.nn_memhost.specs.Past.{kept_at, start, run, state_of}
use Rattle.nn_memhost.specs.Stop.{IsStop}
use Rattle.nn_memhost.specs.Mem.{start_of, mem_state}
use Rattle.nn_memhost.proofs.Left.{is_stop}
use Rattle.nn_memhost.proofs.PastLemmas.{trace_len}
use Rattle.nn_memhost.proofs.mem.MemHost.stopped_at.Goals as goal

pub contents_at-requires : goal.contents_at-requires
contents_at-requires c =
    let m = c.args.self.now in
    omega (arith, c.if-k-calls.false, c.calls.ensures, trace_len (start_of m) m.calls.items)

pub returns-clause-stop : goal.returns-clause-stop
returns-clause-stop c =
    let m = c.args.self.now in
    subst (λ (calls : List Logged). IsStop c.args.k c.args.choice (mem_state m) (state_of (run (start (kept_at c.in-Ok.kept.items) [] c.none-2.result) calls) c.none.result (length c.in-Ok.kept.items))) (sym c.new-3.ensures.items)
    (subst (λ (counts : Counts). IsStop c.args.k c.args.choice (mem_state m) (state_of (start (kept_at c.in-Ok.kept.items) [] c.none-2.result) counts (length c.in-Ok.kept.items))) (sym c.none.ensures)
    (subst (λ (began : Counts). IsStop c.args.k c.args.choice (mem_state m) (state_of (start (kept_at c.in-Ok.kept.items) [] began) no_faults (length c.in-Ok.kept.items))) (sym c.none-2.ensures)
    (is_stop m c.args.k c.args.choice c.in-Ok.kept c.in-Ok.ensures)))
