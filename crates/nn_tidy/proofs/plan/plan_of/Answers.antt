use Rattle.std.proofs.Common.{◌∙◌, take, subst}
use Rattle.nn_base.specs.declared.sub.Sub.TheVariants.{Current}
use Rattle.nn_host.specs.Disk.{Reads}
use Rattle.nn_host.proofs.WorkLemmas.{still_then}
use Rattle.nn_chain.specs.Folder.{folder_at}
use Rattle.nn_tidy.specs.Fates.{IsFate}
use Rattle.nn_tidy.proofs.PlanLemmas.{plan_next}
use Rattle.nn_tidy.proofs.plan.plan_of.Goals as goal

pub returns-in_err-fate-clause-any_moment : goal.returns-in_err-fate-clause-any_moment
returns-in_err-fate-clause-any_moment g c = still_then c.names.invariant.still c.in_err-fate.ensures.any_moment

pub returns-in_err-put-clause-any_moment : goal.returns-in_err-put-clause-any_moment
returns-in_err-put-clause-any_moment g c = still_then c.names.invariant.still c.in_ok-fate.ensures.any_moment

pub names-preserved : goal.names-preserved
names-preserved g c = record {
  plan = λ tells.
      let folder = folder_at ((g.H.Host.state c.args.host.now).reads c.args.i.0) Current in
      let fate = subst (λ (r : Reads). IsFate (folder_at r Current) c.args.version.now.layout c.args.id c.name-item.result c.in_ok-fate.fate) (c.names.invariant.reads tells) (c.in_ok-fate.ensures.ok tells) in
      plan_next folder c.args.version.now.layout c.args.id c.args.names.now c.names.name-index c.name-item.result c.put.new.self c.names-test.true c.name-item.is
      (c.in_ok-put.ensures.put folder c.args.version.now.layout c.args.id (take c.names.name-index c.args.names.now) fate (c.names.invariant.plan tells));
  reads = λ tells. c.in_ok-fate.ensures.kept tells ∙ c.names.invariant.reads tells;
  still = still_then c.names.invariant.still c.in_ok-fate.ensures.any_moment;
  counted = c.in_ok-fate.ensures.cause ∙ c.names.invariant.counted;
}
