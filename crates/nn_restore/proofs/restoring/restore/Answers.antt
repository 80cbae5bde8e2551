use Rattle.std.proofs.Common.{Ok, Err, sym, ◌∙◌, ap, arith}
use Rattle.nn_restore.specs.declared.emptying.Unfit.TheVariants as unfit
use Rattle.nn_restore.specs.declared.restoring.Restored.TheVariants.{TakenBack, Missing, Inconsistent, Failed}
use Rattle.nn_restore.proofs.FindLemmas.{idle_restores, idle_counted, looked_by, unchanged_by, looking_empties, emptied_restores, emptied_counted, restores_then, counted_behind}
use Rattle.nn_restore.proofs.restoring.restore.Goals as goal

pub returns-then-live-clause-restores : goal.returns-then-live-clause-restores
returns-then-live-clause-restores g c = idle_restores c.args.i.0 c.args.journal.now (g.H.Host.state c.args.host.now) (Ok TakenBack)

pub returns-then-live-clause-counted : goal.returns-then-live-clause-counted
returns-then-live-clause-counted g c = idle_counted c.args.i.0 c.args.journal.now.live (g.H.Host.state c.args.host.now) (sym c.live.ensures ∙ c.if-live.true)

pub returns-in-Ok-clause-restores : goal.returns-in-Ok-clause-restores
returns-in-Ok-clause-restores g c = restores_then (looking_empties c.in-Ok.ensures.any_moment) c.args.journal.now c.restore_found.new.journal c.restore_found.result (sym c.live.ensures ∙ c.if-live.false) c.restore_found.ensures.restores

pub returns-in-Ok-clause-counted : goal.returns-in-Ok-clause-counted
returns-in-Ok-clause-counted g c = counted_behind (looking_empties c.in-Ok.ensures.any_moment) c.args.journal.now.live c.restore_found.new.journal.live c.restore_found.result c.in-Ok.ensures.kept.counted c.restore_found.ensures.restorable c.restore_found.ensures.counted

pub returns-in-Err-Missing-clause-restores : goal.returns-in-Err-Missing-clause-restores
returns-in-Err-Missing-clause-restores g c = emptied_restores (looking_empties c.in-Err-Missing.ensures.any_moment) c.args.journal.now (Ok Missing) (sym c.live.ensures ∙ c.if-live.false)

pub returns-in-Err-Missing-clause-counted : goal.returns-in-Err-Missing-clause-counted
returns-in-Err-Missing-clause-counted g c = emptied_counted (looking_empties c.in-Err-Missing.ensures.any_moment) c.args.journal.now.live (Ok Missing) (
  sym c.live.ensures ∙ c.if-live.false,
  unchanged_by c.args.journal.now.live (looked_by unfit.Missing c.in-Err-Missing.field-0-is c.in-Err-Missing.ensures.kept),
  λ tells. (c.in-Err-Missing.ensures.refused tells).missing (ap Err c.in-Err-Missing.field-0-is),
)

pub returns-in-Err-Missing-clause-below : goal.returns-in-Err-Missing-clause-below
returns-in-Err-Missing-clause-below g c = λ j there. omega (arith, c.requires.below j there, c.in-Err-Missing.ensures.any_moment.frame.count)

pub returns-in-Err-Inconsistent-clause-restores : goal.returns-in-Err-Inconsistent-clause-restores
returns-in-Err-Inconsistent-clause-restores g c = emptied_restores (looking_empties c.in-Err-Inconsistent.ensures.any_moment) c.args.journal.now (Ok Inconsistent) (sym c.live.ensures ∙ c.if-live.false)

pub returns-in-Err-Inconsistent-clause-counted : goal.returns-in-Err-Inconsistent-clause-counted
returns-in-Err-Inconsistent-clause-counted g c = emptied_counted (looking_empties c.in-Err-Inconsistent.ensures.any_moment) c.args.journal.now.live (Ok Inconsistent) (
  sym c.live.ensures ∙ c.if-live.false,
  unchanged_by c.args.journal.now.live (looked_by unfit.Inconsistent c.in-Err-Inconsistent.field-0-is c.in-Err-Inconsistent.ensures.kept),
  λ tells. (c.in-Err-Inconsistent.ensures.refused tells).inconsistent (ap Err c.in-Err-Inconsistent.field-0-is),
)

pub returns-in-Err-Inconsistent-clause-below : goal.returns-in-Err-Inconsistent-clause-below
returns-in-Err-Inconsistent-clause-below g c = λ j there. omega (arith, c.requires.below j there, c.in-Err-Inconsistent.ensures.any_moment.frame.count)

pub returns-in-Err-Failed-clause-restores : goal.returns-in-Err-Failed-clause-restores
returns-in-Err-Failed-clause-restores g c = emptied_restores (looking_empties c.in-Err-Failed.ensures.any_moment) c.args.journal.now (Ok Failed) (sym c.live.ensures ∙ c.if-live.false)

pub returns-in-Err-Failed-clause-counted : goal.returns-in-Err-Failed-clause-counted
returns-in-Err-Failed-clause-counted g c = emptied_counted (looking_empties c.in-Err-Failed.ensures.any_moment) c.args.journal.now.live (Ok Failed) (
  sym c.live.ensures ∙ c.if-live.false,
  sym c.live.ensures ∙ c.if-live.false,
  (looked_by unfit.Failed c.in-Err-Failed.field-0-is c.in-Err-Failed.ensures.kept).counted,
)

pub returns-in-Err-Failed-clause-below : goal.returns-in-Err-Failed-clause-below
returns-in-Err-Failed-clause-below g c = λ j there. omega (arith, c.requires.below j there, c.in-Err-Failed.ensures.any_moment.frame.count)

pub restore_found-requires-clause-below : goal.restore_found-requires-clause-below
restore_found-requires-clause-below g c = λ j there. omega (arith, c.requires.below j there, c.in-Ok.ensures.any_moment.frame.count)
