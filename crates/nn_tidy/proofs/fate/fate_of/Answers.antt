use Rattle.std.proofs.Common.{sym, subst, rules}
use Rattle.std.specs.Prelude.{IfOk}
use Rattle.nn_base.specs.declared.sub.Sub.TheVariants.{Current}
use Rattle.nn_base.specs.declared.file_name.FileName.{FileName}
use Rattle.nn_base.specs.declared.file_name.FileName.TheVariants.{InProgress}
use Rattle.nn_chain.specs.Folder.{folder_at}
use Rattle.nn_tidy.specs.Fates.{IsFate}
use Rattle.nn_tidy.proofs.fate.fate_of.Goals as goal

pub returns-in-InProgress-clause-ok : goal.returns-in-InProgress-clause-ok
returns-in-InProgress-clause-ok g c =
    let its : g.H.Host.told → IfOk c.fate_in_progress.result (λ fate. IsFate (folder_at ((g.H.Host.state c.args.host.now).reads c.args.i.0) Current) c.args.version.now.layout c.args.id (InProgress c.in-InProgress.first) fate) = search rules in
    subst (λ (n : FileName). g.H.Host.told → IfOk c.fate_in_progress.result (λ fate. IsFate (folder_at ((g.H.Host.state c.args.host.now).reads c.args.i.0) Current) c.args.version.now.layout c.args.id n fate)) (sym c.in-InProgress.is) its
