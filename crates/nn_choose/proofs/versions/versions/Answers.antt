use Rattle.std.proofs.Common.{◌≡◌, ◌<◌, None, ◌∙◌, ap, sym, arith}
use Rattle.std.specs.Prelude.{slice_index_or}
use Rattle.nn_host.specs.Disk.{Reads}
use Rattle.nn_state.specs.Seat.{serving}
use Rattle.nn_pick.specs.declared.fault.OpenFault.TheVariants.{Memory}
use Rattle.nn_choose.specs.Looking.{dirs_read}
use Rattle.nn_choose.specs.Picking.{IsRefusedAnyway}
use Rattle.nn_choose.proofs.LookingLemmas.{looked_on, looked_fault, looked_trans, handed_on}
use Rattle.nn_choose.proofs.VersionsLemmas.{versioned_fault, versioned_more, all_served}
use Rattle.nn_choose.proofs.versions.versions.Goals as goal

pub served_at-requires-clause-serving : goal.served_at-requires-clause-serving
served_at-requires-clause-serving g c = λ tells.
    let below : c.loop-i.i < (g.H.Host.state c.args.host.now).count = omega (arith, c.loop-i-test.true, c.count-i-end.ensures.count) in
    ap (λ n. slice_index_or c.args.serving.now n None) c.from.ensures ∙ (c.requires.serving tells).each c.loop-i.i below ∙ ap (λ (r : Reads). serving r) (sym (c.loop-i.invariant.looked.reads tells c.loop-i.i))

pub returns-in_err-it-clause-refused : goal.returns-in_err-it-clause-refused
returns-in_err-it-clause-refused g c = λ tells. handed_on (IsRefusedAnyway (dirs_read (g.H.Host.state c.args.host.now))) c.from_residual.result c.in_err-it.field-0.0 c.from_residual.ensures.1
    (versioned_fault c.loop-i.invariant c.in_err-it.field-0.0 (omega (arith, c.loop-i-test.true, c.count-i-end.ensures.count)) c.requires.passed c.in_err-it.ensures.refused tells)

pub returns-in_err-it-clause-kept : goal.returns-in_err-it-clause-kept
returns-in_err-it-clause-kept g c = looked_fault g.H.Host.told (g.H.Host.state c.args.host.now) (g.H.Host.state c.loop-i.host) (g.H.Host.state c.served_at.new.host) c.from_residual.result c.in_err-it.field-0.0 c.from_residual.ensures.1 c.loop-i.invariant.looked c.in_err-it.ensures.kept

pub returns-in_err-append-clause-kept : goal.returns-in_err-append-clause-kept
returns-in_err-append-clause-kept g c = looked_on g.H.Host.told (g.H.Host.state c.args.host.now) (g.H.Host.state c.served_at.new.host) c.from_residual-in_err-append.result Memory c.from_residual-in_err-append.ensures.1
    (looked_trans c.loop-i.invariant.looked c.in_ok-it.ensures.kept)

pub loop-i-preserved : goal.loop-i-preserved
loop-i-preserved g c = versioned_more c.loop-i.invariant c.in_ok-it.ensures.kept c.in_ok-it.it _ c.in_ok-append.ensures c.in_ok-it.ensures.ok

pub returns : goal.returns
returns g c =
    let whole : c.loop-i.i ≡ (g.H.Host.state c.args.host.now).count = omega (arith, c.loop-i-test.false, c.loop-i.auto.i-end, c.count-i-end.ensures.count) in
    record {
      ok = λ tells. all_served c.loop-i.invariant whole tells;
      count = omega (arith, c.loop-i.invariant.long, whole);
      refused = λ tells. tt;
      memory = tt;
      kept = c.loop-i.invariant.looked;
    }
