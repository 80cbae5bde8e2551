use Rattle.std.proofs.Common.{◌≡◌, arith, refl, sym, ◌∙◌, ap, subst}
use Rattle.nn_tree.specs.Namespace.{Namespace}
use Rattle.nn_ops.specs.Effects.{effect}
use Rattle.nn_ops.specs.Step.{Fits}
use Rattle.nn_core.specs.Standing.{Goes, Comes}
use Rattle.nn_core.proofs.LineLemmas.{ready_as}
use Rattle.nn_core.proofs.step.Core.carry_out.Goals as goal

pub returns-in-Ok-clause-works : goal.returns-in-Ok-clause-works
returns-in-Ok-clause-works g c = λ change none body.
    let core = c.args.self.now in
    let ns = g.T.Tree.meaning core.tree in
    let after = g.T.Tree.meaning c.apply.new.tree in
    let a = g.H.Host.state c.args.host.now in
    let b = g.H.Host.state c.write_record.new.host in
    let op = c.op.result.now in
    let done : after ≡ effect op ns = c.apply.ensures.done ∙ ap (λ o. effect o ns) (sym c.op.ensures) in record {
      unrefused = none;
      does = c.apply.ensures.done ∙ ap (λ o. effect o ns) body;
      comes = λ tells ids stands. subst (λ (x : Namespace). Comes core.version core.journal c.write_record.new.journal ns x a b) (sym done) (c.in-Ok.ensures.logs tells core.version ns (subst (Fits ns) (sym c.op.ensures) c.requires.plan.fits) ids stands);
      went = c.in-Ok.ensures.went;
      ready = ready_as c.requires.ready.listed c.in-Ok.ensures.ready;
      logs = record { adds = c.in-Ok.ensures.adds; last = omega (arith, c.in-Ok.ensures.last); calls = c.in-Ok.ensures.calls };
      some = c.in-Ok.ensures.some;
    }

pub returns-in-Err-clause-works : goal.returns-in-Err-clause-works
returns-in-Err-clause-works g c = λ change none body.
    let core = c.args.self.now in
    let ns = g.T.Tree.meaning core.tree in
    let a = g.H.Host.state c.args.host.now in
    let b = g.H.Host.state c.write_record.new.host in (
      refl,
      record {
        unrefused = none;
        goes = λ tells ids stands.
            let it = c.in-Err.ensures.logs tells core.version ns (subst (Fits ns) (sym c.op.ensures) c.requires.plan.fits) ids stands in
            (it.list, subst (λ (x : Namespace). Goes core.version it.list core.journal c.write_record.new.journal ns x a b) (ap (λ o. effect o ns) (c.op.ensures ∙ body)) it.goes);
        went = c.in-Err.ensures.went;
        logs = record { adds = c.in-Err.ensures.adds; last = omega (arith, c.in-Err.ensures.last); calls = c.in-Err.ensures.calls };
        none = c.in-Err.ensures.left;
      },
    )
