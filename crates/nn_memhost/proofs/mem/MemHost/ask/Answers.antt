use Rattle.std.proofs.Common.{◌≡◌, ◌∙◌, ap, sym, length, arith}
use Rattle.std.specs.Prelude.{slice_index}
use Rattle.nn_host.specs.Calls.{next_count}
use Rattle.nn_memhost.specs.declared.counts.Counts.{Counts}
use Rattle.nn_memhost.specs.Counts.{raised}
use Rattle.nn_memhost.specs.Part.{part_at}
use Rattle.nn_memhost.specs.Past.{one}
use Rattle.nn_memhost.specs.Mem.{past_of}
use Rattle.nn_memhost.specs.Lawful.{mem_lawful}
use Rattle.nn_memhost.proofs.Calls.{asking, done_in, failed_in, on_ok, leaves_listed}
use Rattle.nn_memhost.proofs.mem.MemHost.ask.Goals as goal

pub returns-in-None-clause-call : goal.returns-in-None-clause-call
returns-in-None-clause-call c =
    let m = c.args.self.now in
    done_in m c.args.i c.args.asked (past_of c.perform.new.self) (length c.perform.new.self.dirs.items) c.perform.ensures.count (tt {0}) c.perform.new.self.counts
    (on_ok c.perform.result (sym c.is_err.ensures.value ∙ c.if-is_err.false) c.perform.ensures.ok ∙ (λ k. one (past_of m) (asking c.args.i c.args.asked (c.in-None.is k) m.counts)))
    c.perform.ensures.counts

pub returns-in-Some-clause-call : goal.returns-in-Some-clause-call
returns-in-Some-clause-call c =
    let m = c.args.self.now in
    failed_in m c.args.i c.args.asked (past_of c.perform.new.self) (length c.perform.new.self.dirs.items) c.perform.ensures.count c.in-Some.field-0 (record {}) c.raise-self.result
    (on_ok c.perform.result (sym c.is_err.ensures.value ∙ c.if-is_err.false) c.perform.ensures.ok ∙ (λ k. one (past_of m) (asking c.args.i c.args.asked (c.in-Some.is k) m.counts)))
    (c.raise-self.ensures.value ∙ ap (λ (counts : Counts). raised c.args.i.0 counts) c.perform.ensures.counts)
    (c.raise-self.ensures.here ∙ ap (λ (counts : Counts). next_count (slice_index counts.dirs c.args.i.0)) c.perform.ensures.counts)
    ((mem_lawful c.perform.new.self).reads c.args.i.0)

pub returns-in-None-clause-part : goal.returns-in-None-clause-part
returns-in-None-clause-part c =
    let m = c.args.self.now in
    let here : c.len.result ≡ length m.calls.items = omega (arith, c.len.ensures, m.calls.ok.0) in
    leaves_listed m _ c.args.i c.args.asked c.part_of-failed.result
    (on_ok c.perform.result (sym c.is_err.ensures.value ∙ c.if-is_err.false) c.perform.ensures.ok)
    (c.part_of-failed.ensures ∙ (λ k. part_at (here k) (c.deref.ensures.value k)))

pub returns-in-Some-clause-part : goal.returns-in-Some-clause-part
returns-in-Some-clause-part c =
    let m = c.args.self.now in
    let here : c.len.result ≡ length m.calls.items = omega (arith, c.len.ensures, m.calls.ok.0) in
    leaves_listed m _ c.args.i c.args.asked c.part_of-failed.result
    (on_ok c.perform.result (sym c.is_err.ensures.value ∙ c.if-is_err.false) c.perform.ensures.ok)
    (c.part_of-failed.ensures ∙ (λ k. part_at (here k) (c.deref.ensures.value k)))
