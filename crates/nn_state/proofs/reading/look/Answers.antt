use Rattle.std.proofs.Common.{◌∙◌, [], ◌∷◌, length, Result, Ok, Err, ap, refl, arith, length-append}
use Rattle.std.specs.Prelude.{is_some, IsErr, OnOk}
use Rattle.nn_base.specs.declared.sub.Sub.TheVariants.{Current, Previous}
use Rattle.nn_base.specs.declared.file_name.FileName.TheVariants.{Version}
use Rattle.nn_host.specs.Disk.{Reads, Look}
use Rattle.nn_host.specs.Moments.{Entry, On}
use Rattle.nn_host.proofs.RunsLemmas.{looked_once, looked_then, looked_failed}
use Rattle.nn_host.proofs.WorkLemmas.{still_once, still_then}
use Rattle.nn_state.specs.Table.{seven_of}
use Rattle.nn_state.specs.declared.state.Seven.{Seven}
use Rattle.nn_state.proofs.reading.look.Goals as goal

pub returns-in_err-root-clause-kept : goal.returns-in_err-root-clause-kept
returns-in_err-root-clause-kept g c = looked_failed _ (looked_once c.in_err-root.ensures.call) c.from_residual.ensures.0

pub returns-in_err-current-clause-kept : goal.returns-in_err-current-clause-kept
returns-in_err-current-clause-kept g c =
    let first = looked_once c.in_ok-root.ensures.call in
    looked_failed _ (looked_then first (looked_once c.in_err-current.ensures.call)) c.from_residual-in_err-current.ensures.0

pub returns-in_err-previous-clause-kept : goal.returns-in_err-previous-clause-kept
returns-in_err-previous-clause-kept g c =
    let second = looked_then (looked_once c.in_ok-root.ensures.call) (looked_once c.in_ok-current.ensures.call) in
    looked_failed _ (looked_then second (looked_once c.in_err-previous.ensures.call)) c.from_residual-in_err-previous.ensures.0

pub returns-in_err-under_way-clause-kept : goal.returns-in_err-under_way-clause-kept
returns-in_err-under_way-clause-kept g c =
    let second = looked_then (looked_once c.in_ok-root.ensures.call) (looked_once c.in_ok-current.ensures.call) in
    let third = looked_then second (looked_once c.in_ok-previous.ensures.call) in
    looked_failed _ (looked_then third c.in_err-under_way.ensures.kept) c.from_residual-in_err-under_way.ensures.0

pub returns-in_err-root-clause-any_moment : goal.returns-in_err-root-clause-any_moment
returns-in_err-root-clause-any_moment g c = still_once c.in_err-root.ensures.call

pub returns-in_err-current-clause-any_moment : goal.returns-in_err-current-clause-any_moment
returns-in_err-current-clause-any_moment g c = still_then (still_once c.in_ok-root.ensures.call) (still_once c.in_err-current.ensures.call)

pub returns-in_err-previous-clause-any_moment : goal.returns-in_err-previous-clause-any_moment
returns-in_err-previous-clause-any_moment g c = still_then (still_then (still_once c.in_ok-root.ensures.call) (still_once c.in_ok-current.ensures.call)) (still_once c.in_err-previous.ensures.call)

pub returns-in_err-under_way-clause-any_moment : goal.returns-in_err-under_way-clause-any_moment
returns-in_err-under_way-clause-any_moment g c = still_then (still_then (still_then (still_once c.in_ok-root.ensures.call) (still_once c.in_ok-current.ensures.call)) (still_once c.in_ok-previous.ensures.call)) c.in_err-under_way.ensures.any_moment

unanswered : {T E : Type 0} (P : Type 0) (result : Result T E) → IsErr result → OnOk result P
unanswered P (Ok v) failed = absurd (cc failed)
unanswered P (Err e) failed = tt

pub returns-in_err-root-clause-asked : goal.returns-in_err-root-clause-asked
returns-in_err-root-clause-asked g c = λ tells. unanswered _ _ c.from_residual.ensures.0

pub returns-in_err-current-clause-asked : goal.returns-in_err-current-clause-asked
returns-in_err-current-clause-asked g c = λ tells. unanswered _ _ c.from_residual-in_err-current.ensures.0

pub returns-in_err-previous-clause-asked : goal.returns-in_err-previous-clause-asked
returns-in_err-previous-clause-asked g c = λ tells. unanswered _ _ c.from_residual-in_err-previous.ensures.0

pub returns-in_err-under_way-clause-asked : goal.returns-in_err-under_way-clause-asked
returns-in_err-under_way-clause-asked g c = λ tells. unanswered _ _ c.from_residual-in_err-under_way.ensures.0

pub returns : goal.returns
returns g c =
    let first = looked_once c.in_ok-root.ensures.call in
    let second = looked_then first (looked_once c.in_ok-current.ensures.call) in
    let third = looked_then second (looked_once c.in_ok-previous.ensures.call) in
    record {
      ok = λ tells.
          let at_third = ap seven_of (third.reads tells refl) in
          λ k. record {
            root = c.in_ok-root.ensures.value tells k;
            current = (c.in_ok-current.ensures.value tells ∙ ap (λ (r : Reads). is_some (r.file Current Version)) (first.reads tells refl)) k;
            previous = (c.in_ok-previous.ensures.value tells ∙ ap (λ (r : Reads). r.has Previous) (second.reads tells refl)) k;
            previous_tmp = (c.in_ok-under_way.ensures.upgrade tells ∙ ap (λ (s : Seven). s.previous_tmp) at_third) k;
            removed_tmp = (c.in_ok-under_way.ensures.rollback tells ∙ ap (λ (s : Seven). s.removed_tmp) at_third) k;
            finalized_tmp = (c.in_ok-under_way.ensures.finalize tells ∙ ap (λ (s : Seven). s.finalized_tmp) at_third) k;
            last_checkpoint_tmp = (c.in_ok-under_way.ensures.import tells ∙ ap (λ (s : Seven). s.last_checkpoint_tmp) at_third) k;
          };
      kept = looked_then third c.in_ok-under_way.ensures.kept;
      any_moment = still_then (still_then (still_then (still_once c.in_ok-root.ensures.call) (still_once c.in_ok-current.ensures.call)) (still_once c.in_ok-previous.ensures.call)) c.in_ok-under_way.ensures.any_moment;
      asked = λ tells.
          let rest = looked_then (looked_then (looked_once c.in_ok-current.ensures.call) (looked_once c.in_ok-previous.ensures.call)) c.in_ok-under_way.ensures.kept in
          let before = g.H.Host.state c.args.host.now in
          let entry : Entry = record { ended = before.ended; before = before.now; event = On c.args.i.0 Look } in
          omega (arith, ap length (c.in_ok-root.ensures.call.effect tells).ok.recorded.trace, length-append before.trace (entry ∷ []), rest.untouched.later tells);
    }
