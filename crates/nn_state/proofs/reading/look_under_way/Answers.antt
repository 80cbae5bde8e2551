use Rattle.std.proofs.Common.{◌∙◌, ap, refl}
use Rattle.nn_base.specs.declared.sub.Sub.TheVariants.{RemovedTmp, FinalizedTmp, LastCheckpointTmp}
use Rattle.nn_host.specs.Disk.{Reads}
use Rattle.nn_host.proofs.RunsLemmas.{looked_once, looked_then, looked_failed}
use Rattle.nn_host.proofs.WorkLemmas.{still_once, still_then}
use Rattle.nn_state.proofs.reading.look_under_way.Goals as goal

pub returns-in_err-upgrade-clause-kept : goal.returns-in_err-upgrade-clause-kept
returns-in_err-upgrade-clause-kept g c = looked_failed _ (looked_once c.in_err-upgrade.ensures.call) c.from_residual.ensures.0

pub returns-in_err-rollback-clause-kept : goal.returns-in_err-rollback-clause-kept
returns-in_err-rollback-clause-kept g c =
    let first = looked_once c.in_ok-upgrade.ensures.call in
    looked_failed _ (looked_then first (looked_once c.in_err-rollback.ensures.call)) c.from_residual-in_err-rollback.ensures.0

pub returns-in_err-finalize-clause-kept : goal.returns-in_err-finalize-clause-kept
returns-in_err-finalize-clause-kept g c =
    let second = looked_then (looked_once c.in_ok-upgrade.ensures.call) (looked_once c.in_ok-rollback.ensures.call) in
    looked_failed _ (looked_then second (looked_once c.in_err-finalize.ensures.call)) c.from_residual-in_err-finalize.ensures.0

pub returns-in_err-import-clause-kept : goal.returns-in_err-import-clause-kept
returns-in_err-import-clause-kept g c =
    let second = looked_then (looked_once c.in_ok-upgrade.ensures.call) (looked_once c.in_ok-rollback.ensures.call) in
    let third = looked_then second (looked_once c.in_ok-finalize.ensures.call) in
    looked_failed _ (looked_then third (looked_once c.in_err-import.ensures.call)) c.from_residual-in_err-import.ensures.0

pub returns-in_err-upgrade-clause-any_moment : goal.returns-in_err-upgrade-clause-any_moment
returns-in_err-upgrade-clause-any_moment g c = still_once c.in_err-upgrade.ensures.call

pub returns-in_err-rollback-clause-any_moment : goal.returns-in_err-rollback-clause-any_moment
returns-in_err-rollback-clause-any_moment g c = still_then (still_once c.in_ok-upgrade.ensures.call) (still_once c.in_err-rollback.ensures.call)

pub returns-in_err-finalize-clause-any_moment : goal.returns-in_err-finalize-clause-any_moment
returns-in_err-finalize-clause-any_moment g c = still_then (still_then (still_once c.in_ok-upgrade.ensures.call) (still_once c.in_ok-rollback.ensures.call)) (still_once c.in_err-finalize.ensures.call)

pub returns-in_err-import-clause-any_moment : goal.returns-in_err-import-clause-any_moment
returns-in_err-import-clause-any_moment g c = still_then (still_then (still_then (still_once c.in_ok-upgrade.ensures.call) (still_once c.in_ok-rollback.ensures.call)) (still_once c.in_ok-finalize.ensures.call)) (still_once c.in_err-import.ensures.call)

pub returns : goal.returns
returns g c =
    let first = looked_once c.in_ok-upgrade.ensures.call in
    let second = looked_then first (looked_once c.in_ok-rollback.ensures.call) in
    let third = looked_then second (looked_once c.in_ok-finalize.ensures.call) in
    record {
      upgrade = λ tells. c.in_ok-upgrade.ensures.value tells;
      rollback = λ tells. c.in_ok-rollback.ensures.value tells ∙ ap (λ (r : Reads). r.has RemovedTmp) (first.reads tells refl);
      finalize = λ tells. c.in_ok-finalize.ensures.value tells ∙ ap (λ (r : Reads). r.has FinalizedTmp) (second.reads tells refl);
      «import» = λ tells. c.in_ok-import.ensures.value tells ∙ ap (λ (r : Reads). r.has LastCheckpointTmp) (third.reads tells refl);
      kept = looked_then third (looked_once c.in_ok-import.ensures.call);
      any_moment = still_then (still_then (still_then (still_once c.in_ok-upgrade.ensures.call) (still_once c.in_ok-rollback.ensures.call)) (still_once c.in_ok-finalize.ensures.call)) (still_once c.in_ok-import.ensures.call);
    }
