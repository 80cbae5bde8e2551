use Rattle.std.proofs.Common.{◌≡◌, ap, arith}
use Rattle.nn_base.specs.declared.ids.DirNo.{DirNo}
use Rattle.nn_pick.specs.declared.fault.OpenFault.TheVariants.{Memory}
use Rattle.nn_choose.specs.Looking.{dirs_read}
use Rattle.nn_choose.specs.Picking.{IsRefusedAnyway}
use Rattle.nn_choose.proofs.LookingLemmas.{looked_on, looked_fault, looked_trans, handed_on}
use Rattle.nn_choose.proofs.StatesLemmas.{surveyed_fault, surveyed_more, all_found, all_states, all_serving, all_usable}
use Rattle.nn_choose.proofs.states.survey.Goals as goal

pub returns-in_err-found-clause-refused : goal.returns-in_err-found-clause-refused
returns-in_err-found-clause-refused g c = λ tells. handed_on (IsRefusedAnyway (dirs_read (g.H.Host.state c.args.host.now))) c.from_residual.result c.in_err-found.field-0.0 c.from_residual.ensures.1
    (surveyed_fault c.loop-i.invariant c.in_err-found.field-0.0 (omega (arith, c.loop-i-test.true, c.count-i-end.ensures.count)) (λ refusal tells is. c.in_err-found.ensures.refused tells refusal is) tells)

pub returns-in_err-found-clause-kept : goal.returns-in_err-found-clause-kept
returns-in_err-found-clause-kept g c = looked_fault g.H.Host.told (g.H.Host.state c.args.host.now) (g.H.Host.state c.loop-i.host) (g.H.Host.state c.state_at.new.host) c.from_residual.result c.in_err-found.field-0.0 c.from_residual.ensures.1 c.loop-i.invariant.looked c.in_err-found.ensures.kept

pub returns-in_err-append-clause-kept : goal.returns-in_err-append-clause-kept
returns-in_err-append-clause-kept g c = looked_on g.H.Host.told (g.H.Host.state c.args.host.now) (g.H.Host.state c.state_at.new.host) c.from_residual-in_err-append.result Memory c.from_residual-in_err-append.ensures.1
    (looked_trans c.loop-i.invariant.looked c.in_ok-found.ensures.kept)

pub returns-in_err-append-2-clause-kept : goal.returns-in_err-append-2-clause-kept
returns-in_err-append-2-clause-kept g c = looked_on g.H.Host.told (g.H.Host.state c.args.host.now) (g.H.Host.state c.state_at.new.host) c.from_residual-in_err-append-2.result Memory c.from_residual-in_err-append-2.ensures.1
    (looked_trans c.loop-i.invariant.looked c.in_ok-found.ensures.kept)

pub loop-i-preserved : goal.loop-i-preserved
loop-i-preserved g c = surveyed_more c.loop-i.invariant c.in_ok-found.ensures.kept c.in_ok-found.found c.in_ok-found.serving _ _ c.in_ok-append.ensures c.in_ok-append-2.ensures
    (ap (λ (d : DirNo). d.0) c.in_ok-found.ensures.placed.0) c.in_ok-found.ensures.placed.1 c.in_ok-found.ensures.state c.in_ok-found.ensures.serving

pub returns : goal.returns
returns g c =
    let whole : c.loop-i.i ≡ (g.H.Host.state c.args.host.now).count = omega (arith, c.loop-i-test.false, c.loop-i.auto.i-end, c.count-i-end.ensures.count) in
    record {
      ok = λ tells. (all_states c.loop-i.invariant whole tells, all_serving c.loop-i.invariant whole tells);
      placed = (all_found c.loop-i.invariant whole, omega (arith, c.loop-i.invariant.subs_long, whole));
      few = omega (arith, c.count-i-end.ensures.count, c.count-i-end.ensures.few);
      passed = λ tells. all_usable c.loop-i.invariant whole tells;
      refused = λ tells. tt;
      memory = tt;
      kept = c.loop-i.invariant.looked;
    }
