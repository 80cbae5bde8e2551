use Rattle.std.specs.Prelude.{ℕ, ◌<◌, true, ◌≡◌, ◌↔◌, IfOk, IfErr}
use Rattle.std.proofs.Common.{subst, ◌∙◌}
use Rattle.nn_state.specs.Bays.{AreSettled}
use Rattle.nn_base.specs.DirSets.{has}
use Rattle.nn_pick.specs.declared.intent.Intent.TheVariants.{Start}
use Rattle.nn_pick.specs.Dirs.{Dirs}
use Rattle.nn_choose.specs.Picking.{Chooses, IsAhead, IsRefusedTruly}
use Rattle.nn_start.proofs.OpenLemmas.{dirs_back, failed_reads, settled_run, settled_kept, opened_run, kept_run, all_reopened, reads_before, counted_then, settled_then}
use Rattle.nn_pick.specs.Refusing.{IsChosenWithPrevious}
use Rattle.nn_start.proofs.ReadyLemmas.{opened_ready}
use Rattle.nn_start.proofs.opening.open.Goals as goal

pub returns-in_err-settle_all-clause-any_moment : goal.returns-in_err-settle_all-clause-any_moment
returns-in_err-settle_all-clause-any_moment g c = settled_run c.in_err-settle_all.ensures.any_moment

pub returns-in_err-settle_all-clause-kept : goal.returns-in_err-settle_all-clause-kept
returns-in_err-settle_all-clause-kept g c = settled_kept c.in_err-settle_all.ensures.any_moment

pub returns-clause-ok : goal.returns-clause-ok
returns-clause-ok g c = λ tells. dirs_back (g.H.Host.state c.args.host.now) (g.H.Host.state c.settle_all.new.host) c.in_ok-settle_all.ensures.any_moment.count (c.in_ok-settle_all.ensures.reads tells)
    (λ (d : Dirs). IfOk c.reopen.result (λ it. Chooses d Start (g.T.Tree.meaning it.aim.tree) it.aim.last it.aim.version (has it.aim.chosen))) (c.reopen.ensures.ok tells)

pub returns-clause-refused : goal.returns-clause-refused
returns-clause-refused g c = λ tells. dirs_back (g.H.Host.state c.args.host.now) (g.H.Host.state c.settle_all.new.host) c.in_ok-settle_all.ensures.any_moment.count (c.in_ok-settle_all.ensures.reads tells)
    (λ (d : Dirs). IfErr c.reopen.result (IsRefusedTruly d Start)) (c.reopen.ensures.refused tells)

pub returns-clause-unchanged : goal.returns-clause-unchanged
returns-clause-unchanged g c = λ tells. reads_before (g.H.Host.state c.args.host.now) (g.H.Host.state c.settle_all.new.host) (g.H.Host.state c.reopen.new.host) c.in_ok-settle_all.ensures.any_moment.count (c.in_ok-settle_all.ensures.reads tells) c.reopen.result (c.reopen.ensures.unchanged tells)

pub returns-clause-reopened : goal.returns-clause-reopened
returns-clause-reopened g c = λ tells. all_reopened (g.H.Host.state c.args.host.now) (g.H.Host.state c.settle_all.new.host) (g.H.Host.state c.reopen.new.host) c.in_ok-settle_all.ensures.any_moment.count (c.in_ok-settle_all.ensures.reads tells) (c.in_ok-settle_all.ensures.settled tells) c.reopen.result (c.reopen.ensures.recovered tells) (c.reopen.ensures.seats tells)

pub returns-clause-any_moment : goal.returns-clause-any_moment
returns-clause-any_moment g c = opened_run c.in_ok-settle_all.ensures.any_moment c.in_ok-settle_all.ensures.settled c.reopen.ensures.any_moment

pub returns-clause-kept : goal.returns-clause-kept
returns-clause-kept g c = kept_run (λ tells. g.met.H.Host.lawful tells c.args.host.now) (opened_run c.in_ok-settle_all.ensures.any_moment c.in_ok-settle_all.ensures.settled c.reopen.ensures.any_moment)

pub returns-clause-cause : goal.returns-clause-cause
returns-clause-cause g c = counted_then (g.H.Host.state c.args.host.now) (g.H.Host.state c.settle_all.new.host) (g.H.Host.state c.reopen.new.host) c.reopen.result c.in_ok-settle_all.ensures.any_moment.count c.in_ok-settle_all.ensures.cause c.reopen.ensures.cause

pub returns-in_err-settle_all-clause-unchanged : goal.returns-in_err-settle_all-clause-unchanged
returns-in_err-settle_all-clause-unchanged g c = λ tells. failed_reads (g.H.Host.state c.args.host.now) (g.H.Host.state c.settle_all.new.host) c.from_residual.result c.in_err-settle_all.field-0.0 c.from_residual.ensures.1 c.in_err-settle_all.ensures.failed

pub returns-clause-placed : goal.returns-clause-placed
returns-clause-placed g c = subst (λ (n : ℕ). IfOk c.reopen.result (λ it. AreSettled n it.bay.at.items × ((i : ℕ) → has it.aim.chosen i ≡ true → i < n))) c.in_ok-settle_all.ensures.any_moment.count c.reopen.ensures.placed

pub returns-clause-level : goal.returns-clause-level
returns-clause-level g c = λ tells. dirs_back (g.H.Host.state c.args.host.now) (g.H.Host.state c.settle_all.new.host) c.in_ok-settle_all.ensures.any_moment.count (c.in_ok-settle_all.ensures.reads tells)
    (λ (d : Dirs). IfOk c.reopen.result (λ it. (i : ℕ) → (has it.aim.level i ≡ true) ↔ IsAhead d i)) (c.reopen.ensures.level tells)

pub returns-clause-saved : goal.returns-clause-saved
returns-clause-saved g c = λ tells. dirs_back (g.H.Host.state c.args.host.now) (g.H.Host.state c.settle_all.new.host) c.in_ok-settle_all.ensures.any_moment.count (c.in_ok-settle_all.ensures.reads tells)
    (λ (d : Dirs). IfOk c.reopen.result (λ it. (it.aim.saved ≡ true) ↔ ((i : ℕ) × IsChosenWithPrevious d i))) (c.reopen.ensures.saved tells)

pub returns-clause-ready : goal.returns-clause-ready
returns-clause-ready g c = λ tells.
    let same = c.in_ok-settle_all.ensures.any_moment.count in
    let back = dirs_back (g.H.Host.state c.args.host.now) (g.H.Host.state c.settle_all.new.host) same (c.in_ok-settle_all.ensures.reads tells) in
    opened_ready c.reopen.result (g.H.Host.state c.args.host.now) (g.H.Host.state c.reopen.new.host) (g.met.H.Host.lawful tells c.args.host.now) (c.reopen.ensures.any_moment.count ∙ same)
    (λ it. it.aim.last) (λ it. g.T.Tree.meaning it.aim.tree) (λ it. it.aim.version) (λ it. has it.aim.chosen) (λ it. has it.aim.level) (λ it. it.aim.saved) (λ it. it.bay.at.items)
    (back (λ (d : Dirs). IfOk c.reopen.result (λ it. Chooses d Start (g.T.Tree.meaning it.aim.tree) it.aim.last it.aim.version (has it.aim.chosen))) (c.reopen.ensures.ok tells))
    (settled_then c.reopen.result (λ it. it.bay.at.items) (λ it. has it.aim.chosen) same c.reopen.ensures.placed)
    (c.reopen.ensures.fits tells)
    (all_reopened (g.H.Host.state c.args.host.now) (g.H.Host.state c.settle_all.new.host) (g.H.Host.state c.reopen.new.host) same (c.in_ok-settle_all.ensures.reads tells) (c.in_ok-settle_all.ensures.settled tells) c.reopen.result (c.reopen.ensures.recovered tells) (c.reopen.ensures.seats tells))
    (back (λ (d : Dirs). IfOk c.reopen.result (λ it. (i : ℕ) → (has it.aim.level i ≡ true) ↔ IsAhead d i)) (c.reopen.ensures.level tells))
    (back (λ (d : Dirs). IfOk c.reopen.result (λ it. (it.aim.saved ≡ true) ↔ ((i : ℕ) × IsChosenWithPrevious d i))) (c.reopen.ensures.saved tells))
