use Rattle.std.proofs.Common.{◌≡◌, Bool, true, Result, IfOk, sym, subst}
use Rattle.nn_base.specs.declared.sub.Sub.TheVariants.{Current}
use Rattle.nn_chain.specs.Folder.{folder_at}
use Rattle.nn_chain.specs.Images.{HasIntact}
use Rattle.nn_remake.specs.declared.fault.MakeFault.{MakeFault}
use Rattle.nn_remake.proofs.publishing.has_intact.Goals.{in-Ok, in-Err-Unsound, in-Err-Failed, in-Err-Memory}
use Rattle.nn_remake.proofs.publishing.has_intact.Goals as goal

pub returns-clause-there : goal.returns-clause-there
returns-clause-there g c = λ tells.
    let There = λ (r : Result Bool MakeFault). IfOk r (λ has. has ≡ true → HasIntact (folder_at ((g.H.Host.state c.args.host.now).reads c.args.i.0) Current) c.args.version.now c.args.id) in
    elim c.match-read_image.branch as (λ _. There c.match-read_image.result) [
      | in-Ok w ↦ subst There (sym w.result-is) (λ is. (g.T.Tree.meaning w.in-Ok.field-0, w.in-Ok.ensures.ok tells))
      | in-Err-Unsound w ↦ subst There (sym w.result-is) (λ is. cc)
      | in-Err-Failed w ↦ subst There (sym w.result-is) tt
      | in-Err-Memory w ↦ subst There (sym w.result-is) tt
    ]
