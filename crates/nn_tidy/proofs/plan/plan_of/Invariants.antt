use Rattle.std.proofs.Common.{◌≡◌, take}
use Rattle.nn_base.specs.declared.sub.Sub.TheVariants.{Current}
use Rattle.nn_host.specs.Moments.{disk_at, faults_at}
use Rattle.nn_host.specs.Runs.{OnlyAt}
use Rattle.nn_chain.specs.Folder.{folder_at}
use Rattle.nn_tidy.specs.Plans.{IsPlan}
use Rattle.nn_tidy.proofs.plan.plan_of.Given as goal

abbrev pub invariant-names : goal.invariant-names
invariant-names g l = record {
  plan : g.H.Host.told → IsPlan (folder_at ((g.H.Host.state l.fn.host).reads l.i.0) Current) l.version.layout l.id (take l.name-index l.names) l.plan;
  reads : g.H.Host.told → (g.H.Host.state l.host).reads l.i.0 ≡ (g.H.Host.state l.fn.host).reads l.i.0;
  still : OnlyAt g.H.Host.told l.i.0 (g.H.Host.state l.fn.host) (g.H.Host.state l.host) (λ d. d ≡ disk_at (g.H.Host.state l.fn.host) l.i.0);
  counted : faults_at (g.H.Host.state l.host) l.i.0 ≡ faults_at (g.H.Host.state l.fn.host) l.i.0;
}
