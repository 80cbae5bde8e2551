use Rattle.std.proofs.Common.{sym, ◌∙◌, subst, ℕ}
use Rattle.nn_base.specs.DirSets.{has}
use Rattle.nn_host.proofs.RunsLemmas.{counts_trans}
use Rattle.nn_state.specs.Bays.{AreSettled}
use Rattle.nn_choose.specs.Looking.{dirs_read}
use Rattle.nn_begin.proofs.StartLemmas.{starts_kept, tidied_kept, rested, begun_kept, still_fit, started_all, residual_counted, residual_in, counted_more, unrefused_truly, unrefused_reads}
use Rattle.nn_begin.specs.Begun.{IsNewJournal}
use Rattle.nn_begin.proofs.starting.start.Goals as goal

pub returns-in_err-aim-clause-kept : goal.returns-in_err-aim-clause-kept
returns-in_err-aim-clause-kept g c = starts_kept c.in_err-aim.ensures.kept

pub returns-in_err-tidy_all-clause-kept : goal.returns-in_err-tidy_all-clause-kept
returns-in_err-tidy_all-clause-kept g c = tidied_kept c.in_ok-aim.ensures.quiet.each.count c.in_ok-aim.ensures.together c.in_ok-aim.ensures.kept (λ tells. (c.in_ok-aim.ensures.ok tells).greatest) c.in_err-tidy_all.ensures.kept

pub returns-in_err-journal-clause-kept : goal.returns-in_err-journal-clause-kept
returns-in_err-journal-clause-kept g c =
    let count = c.in_ok-aim.ensures.quiet.each.count in
    begun_kept count c.in_ok-aim.ensures.together c.in_ok-tidy_all.ensures.quiet.each.count c.in_ok-tidy_all.ensures.rests c.in_ok-tidy_all.ensures.beside (counts_trans c.in_ok-aim.ensures.cause c.in_ok-tidy_all.ensures.cause)
    (tidied_kept count c.in_ok-aim.ensures.together c.in_ok-aim.ensures.kept (λ tells. (c.in_ok-aim.ensures.ok tells).greatest) c.in_ok-tidy_all.ensures.kept) c.in_err-journal.ensures.kept

pub returns-clause-kept : goal.returns-clause-kept
returns-clause-kept g c =
    let count = c.in_ok-aim.ensures.quiet.each.count in
    begun_kept count c.in_ok-aim.ensures.together c.in_ok-tidy_all.ensures.quiet.each.count c.in_ok-tidy_all.ensures.rests c.in_ok-tidy_all.ensures.beside (counts_trans c.in_ok-aim.ensures.cause c.in_ok-tidy_all.ensures.cause)
    (tidied_kept count c.in_ok-aim.ensures.together c.in_ok-aim.ensures.kept (λ tells. (c.in_ok-aim.ensures.ok tells).greatest) c.in_ok-tidy_all.ensures.kept) c.in_ok-journal.ensures.kept

pub returns-clause-started : goal.returns-clause-started
returns-clause-started g c = λ tells sound shared from.
    let count = c.in_ok-aim.ensures.quiet.each.count in
    let same = c.in_ok-tidy_all.ensures.quiet.each.count in
    let rest = rested count c.in_ok-aim.ensures.together same c.in_ok-tidy_all.ensures.rests tells sound shared from in
    let settled = subst (λ (n : ℕ). AreSettled n c.in_ok-aim.field-0.bay.at.items) (sym (same ∙ count)) c.in_ok-aim.ensures.placed.0 in
    let fits = still_fit c.in_ok-aim.field-0.aim.last (g.H.Host.state c.bring_together.new.host) (g.H.Host.state c.tidy_all.new.host) c.in_ok-aim.field-0.bay.at.items (c.in_ok-tidy_all.ensures.beside tells) (c.in_ok-aim.ensures.fits tells) in
    started_all count c.in_ok-aim.ensures.together same c.in_ok-tidy_all.ensures.rests c.in_ok-tidy_all.ensures.beside tells sound shared from (has c.in_ok-aim.field-0.aim.chosen) (c.in_ok-aim.ensures.ok tells).greatest (c.in_ok-aim.ensures.stays tells)
    c.in_ok-aim.field-0.bay.at.items settled fits c.in_ok-journal.journal c.in_ok-journal.ensures.holders (g.H.Host.state c.begin.new.host) c.in_ok-journal.ensures.quiet.each.count (c.in_ok-journal.ensures.begun tells shared (g.T.Tree.meaning c.in_ok-aim.field-0.aim.tree) rest) (c.in_ok-journal.ensures.beside tells shared (g.T.Tree.meaning c.in_ok-aim.field-0.aim.tree) rest)

pub returns-clause-ok : goal.returns-clause-ok
returns-clause-ok g c = λ tells. (has c.in_ok-aim.field-0.aim.chosen, c.in_ok-aim.ensures.ok tells)

pub begin-requires-clause-settled : goal.begin-requires-clause-settled
begin-requires-clause-settled g c = subst (λ (n : ℕ). AreSettled n c.in_ok-aim.field-0.bay.at.items) (sym (c.in_ok-tidy_all.ensures.quiet.each.count ∙ c.in_ok-aim.ensures.quiet.each.count)) c.in_ok-aim.ensures.placed.0

pub begin-requires-clause-fits : goal.begin-requires-clause-fits
begin-requires-clause-fits g c = λ tells. still_fit c.in_ok-aim.field-0.aim.last (g.H.Host.state c.bring_together.new.host) (g.H.Host.state c.tidy_all.new.host) c.in_ok-aim.field-0.bay.at.items (c.in_ok-tidy_all.ensures.beside tells) (c.in_ok-aim.ensures.fits tells)

pub returns-in_err-aim-clause-cause : goal.returns-in_err-aim-clause-cause
returns-in_err-aim-clause-cause g c = residual_counted (Unit {0}) _ (g.H.Host.state c.args.host.now) (g.H.Host.state c.bring_together.new.host) c.from_residual.result c.in_err-aim.field-0.0 c.from_residual.ensures.1 c.in_err-aim.ensures.cause

pub returns-in_err-tidy_all-clause-refused : goal.returns-in_err-tidy_all-clause-refused
returns-in_err-tidy_all-clause-refused g c = λ tells. unrefused_truly _ (dirs_read (g.H.Host.state c.args.host.now)) c.from_residual-in_err-tidy_all.result c.in_err-tidy_all.field-0.0 c.from_residual-in_err-tidy_all.ensures.1 c.in_err-tidy_all.ensures.unrefused

pub returns-in_err-tidy_all-clause-unchanged : goal.returns-in_err-tidy_all-clause-unchanged
returns-in_err-tidy_all-clause-unchanged g c = λ tells. unrefused_reads _ (g.H.Host.state c.args.host.now) (g.H.Host.state c.tidy_all.new.host) c.from_residual-in_err-tidy_all.result c.in_err-tidy_all.field-0.0 c.from_residual-in_err-tidy_all.ensures.1 c.in_err-tidy_all.ensures.unrefused

pub returns-in_err-tidy_all-clause-cause : goal.returns-in_err-tidy_all-clause-cause
returns-in_err-tidy_all-clause-cause g c = counted_more (g.H.Host.state c.args.host.now) (g.H.Host.state c.bring_together.new.host) (g.H.Host.state c.tidy_all.new.host) c.from_residual-in_err-tidy_all.result c.in_ok-aim.ensures.cause c.in_ok-aim.ensures.quiet.each.count
    (residual_counted (Unit {0}) _ (g.H.Host.state c.bring_together.new.host) (g.H.Host.state c.tidy_all.new.host) c.from_residual-in_err-tidy_all.result c.in_err-tidy_all.field-0.0 c.from_residual-in_err-tidy_all.ensures.1 c.in_err-tidy_all.ensures.cause)

pub returns-in_err-journal-clause-refused : goal.returns-in_err-journal-clause-refused
returns-in_err-journal-clause-refused g c = λ tells. unrefused_truly _ (dirs_read (g.H.Host.state c.args.host.now)) c.from_residual-in_err-journal.result c.in_err-journal.field-0.0 c.from_residual-in_err-journal.ensures.1 c.in_err-journal.ensures.unrefused

pub returns-in_err-journal-clause-unchanged : goal.returns-in_err-journal-clause-unchanged
returns-in_err-journal-clause-unchanged g c = λ tells. unrefused_reads _ (g.H.Host.state c.args.host.now) (g.H.Host.state c.begin.new.host) c.from_residual-in_err-journal.result c.in_err-journal.field-0.0 c.from_residual-in_err-journal.ensures.1 c.in_err-journal.ensures.unrefused

pub returns-in_err-journal-clause-cause : goal.returns-in_err-journal-clause-cause
returns-in_err-journal-clause-cause g c = counted_more (g.H.Host.state c.args.host.now) (g.H.Host.state c.tidy_all.new.host) (g.H.Host.state c.begin.new.host) c.from_residual-in_err-journal.result (counts_trans c.in_ok-aim.ensures.cause c.in_ok-tidy_all.ensures.cause) (c.in_ok-tidy_all.ensures.quiet.each.count ∙ c.in_ok-aim.ensures.quiet.each.count)
    (residual_in (Unit {0}) _ (g.H.Host.state c.tidy_all.new.host) (g.H.Host.state c.begin.new.host) c.from_residual-in_err-journal.result c.in_err-journal.field-0.0 c.from_residual-in_err-journal.ensures.1 c.in_err-journal.ensures.cause)

pub returns-clause-cause : goal.returns-clause-cause
returns-clause-cause g c = counts_trans (counts_trans c.in_ok-aim.ensures.cause c.in_ok-tidy_all.ensures.cause) c.in_ok-journal.ensures.cause

pub returns-clause-ready : goal.returns-clause-ready
returns-clause-ready g c = subst (λ (n : ℕ). IsNewJournal n c.in_ok-aim.field-0.aim.last c.in_ok-journal.journal) (c.in_ok-tidy_all.ensures.quiet.each.count ∙ c.in_ok-aim.ensures.quiet.each.count) c.in_ok-journal.ensures.ready
