use Rattle.std.proofs.Common.{ℕ, ◌<◌, ◌∙◌, List, length, Option, sym, subst}
use Rattle.nn_base.specs.DirSets.{has}
use Rattle.nn_pick.specs.declared.intent.Intent.TheVariants.{Start}
use Rattle.nn_pick.specs.Dirs.{Dirs}
use Rattle.nn_choose.specs.Looking.{dirs_read}
use Rattle.nn_choose.specs.declared.served.Served.{Served}
use Rattle.nn_choose.specs.Served.{AreServed}
use Rattle.nn_choose.specs.Picking.{AreServing, Chooses, IsRefusedTruly, NoneBefore}
use Rattle.nn_choose.proofs.AnswerLemmas.{truly_then}
use Rattle.nn_choose.proofs.LookingLemmas.{looked_on, looked_fault, looked_trans, handed_on, moved, moved_back}
use Rattle.nn_choose.proofs.picking.pick.Goals as goal

pub returns-in_err-states-clause-refused : goal.returns-in_err-states-clause-refused
returns-in_err-states-clause-refused g c = λ tells. handed_on (IsRefusedTruly (dirs_read (g.H.Host.state c.args.host.now)) Start) c.from_residual.result c.in_err-states.field-0.0 c.from_residual.ensures.1 (c.in_err-states.ensures.refused tells Start)

pub returns-in_err-states-clause-kept : goal.returns-in_err-states-clause-kept
returns-in_err-states-clause-kept g c = looked_on g.H.Host.told (g.H.Host.state c.args.host.now) (g.H.Host.state c.survey.new.host) c.from_residual.result c.in_err-states.field-0.0 c.from_residual.ensures.1 c.in_err-states.ensures.kept

pub versions-requires-clause-passed : goal.versions-requires-clause-passed
versions-requires-clause-passed g c = λ tells. moved (λ dirs. NoneBefore dirs 2) c.in_ok-states.ensures.kept tells (c.in_ok-states.ensures.passed tells)

pub versions-requires-clause-serving : goal.versions-requires-clause-serving
versions-requires-clause-serving g c = λ tells. subst (AreServing (dirs_read (g.H.Host.state c.survey.new.host))) (sym c.deref.ensures.value)
    (moved (λ (d : Dirs). AreServing d c.in_ok-states.states.serving.items) c.in_ok-states.ensures.kept tells (c.in_ok-states.ensures.ok tells).1)

pub returns-in_err-served-clause-refused : goal.returns-in_err-served-clause-refused
returns-in_err-served-clause-refused g c = λ tells. truly_then Start c.from_residual-in_err-served.result c.in_err-served.field-0.0 c.from_residual-in_err-served.ensures.1 c.in_ok-states.ensures.kept tells (c.in_err-served.ensures.refused tells)

pub returns-in_err-served-clause-kept : goal.returns-in_err-served-clause-kept
returns-in_err-served-clause-kept g c = looked_fault g.H.Host.told (g.H.Host.state c.args.host.now) (g.H.Host.state c.survey.new.host) (g.H.Host.state c.versions.new.host) c.from_residual-in_err-served.result c.in_err-served.field-0.0 c.from_residual-in_err-served.ensures.1 c.in_ok-states.ensures.kept c.in_err-served.ensures.kept

pub choose-requires-clause-served : goal.choose-requires-clause-served
choose-requires-clause-served g c = λ tells. subst (AreServed (dirs_read (g.H.Host.state c.versions.new.host))) (sym c.deref-2.ensures.value)
    (moved (λ (d : Dirs). AreServed d c.in_ok-served.served.items) c.in_ok-served.ensures.kept tells (c.in_ok-served.ensures.ok tells))

pub choose-requires-clause-passed : goal.choose-requires-clause-passed
choose-requires-clause-passed g c = λ tells. moved (λ (d : Dirs). NoneBefore d 2) (looked_trans c.in_ok-states.ensures.kept c.in_ok-served.ensures.kept) tells (c.in_ok-states.ensures.passed tells)

pub returns-in_err-best-clause-refused : goal.returns-in_err-best-clause-refused
returns-in_err-best-clause-refused g c = λ tells. handed_on (IsRefusedTruly (dirs_read (g.H.Host.state c.args.host.now)) Start) c.from_residual-in_err-best.result c.in_err-best.field-0.0 c.from_residual-in_err-best.ensures.1
    (moved_back (λ (d : Dirs). IsRefusedTruly d Start c.in_err-best.field-0.0) (looked_trans c.in_ok-states.ensures.kept c.in_ok-served.ensures.kept) tells (c.in_err-best.ensures.refused tells))

pub returns-in_err-best-clause-kept : goal.returns-in_err-best-clause-kept
returns-in_err-best-clause-kept g c = looked_fault g.H.Host.told (g.H.Host.state c.args.host.now) (g.H.Host.state c.versions.new.host) (g.H.Host.state c.choose.new.host) c.from_residual-in_err-best.result c.in_err-best.field-0.0 c.from_residual-in_err-best.ensures.1
    (looked_trans c.in_ok-states.ensures.kept c.in_ok-served.ensures.kept) c.in_err-best.ensures.kept

pub returns : goal.returns
returns g c =
    let before = looked_trans c.in_ok-states.ensures.kept c.in_ok-served.ensures.kept in
    let start = g.H.Host.state c.args.host.now in
    let count = c.in_ok-served.ensures.count ∙ c.in_ok-states.ensures.kept.untouched.count in
    record {
      ok = λ tells. record {
        choice = moved_back (λ (d : Dirs). Chooses d Start (g.T.Tree.meaning c.in_ok-best.best.tree) c.in_ok-best.best.last c.in_ok-best.best.version (has c.in_ok-best.best.dirs)) before tells (c.in_ok-best.ensures.ok tells);
        states = (c.in_ok-states.ensures.ok tells).0;
      };
      refused = λ tells. tt;
      memory = tt;
      ahead = λ tells. c.ahead.ensures.ahead (dirs_read start) (subst (AreServed (dirs_read start)) (sym c.deref-3.ensures.value) (moved_back (λ (d : Dirs). AreServed d c.in_ok-served.served.items) c.in_ok-states.ensures.kept tells (c.in_ok-served.ensures.ok tells)));
      imaged = c.in_ok-best.ensures.imaged;
      room = c.in_ok-best.ensures.within.1;
      placed = (c.in_ok-states.ensures.placed.0, λ i is. subst (λ (n : ℕ). i < n) before.untouched.count (c.in_ok-best.ensures.within.0 i is), λ i is. subst (λ (n : ℕ). i < n) count (subst (λ (t : List (Option Served)). i < length t) c.deref-3.ensures.value (c.ahead.ensures.within i is)));
      kept = looked_trans before c.in_ok-best.ensures.kept;
    }
