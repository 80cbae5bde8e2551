use Rattle.std.proofs.Common.{List, subst}
use Rattle.nn_base.specs.declared.file_name.FileName.{FileName}
use Rattle.nn_ckpt.specs.Retention.{ArePurged}
use Rattle.nn_ckpt.proofs.PurgeDirLemmas.{purge_run, purge_was}
use Rattle.nn_ckpt.proofs.purging.purge_dir.Goals as goal

pub returns-in_err-remove_from_end-clause-any_moment : goal.returns-in_err-remove_from_end-clause-any_moment
returns-in_err-remove_from_end-clause-any_moment g c = purge_run c.in_ok-names.ensures.any_moment c.in_ok-names.names.items c.in_ok-going.going.items c.in_ok-names.ensures.ok
    (subst (λ (l : List FileName). ArePurged l c.in_ok-going.going.items) c.deref.ensures.value c.in_ok-going.ensures) c.in_err-remove_from_end.ensures.any_moment

pub returns-clause-any_moment : goal.returns-clause-any_moment
returns-clause-any_moment g c = purge_run c.in_ok-names.ensures.any_moment c.in_ok-names.names.items c.in_ok-going.going.items c.in_ok-names.ensures.ok
    (subst (λ (l : List FileName). ArePurged l c.in_ok-going.going.items) c.deref.ensures.value c.in_ok-going.ensures) c.in_ok-remove_from_end.ensures.any_moment

pub returns-clause-ok : goal.returns-clause-ok
returns-clause-ok g c = purge_was c.in_ok-names.ensures.any_moment c.in_ok-names.names.items c.in_ok-going.going.items c.in_ok-names.ensures.ok
    (subst (λ (l : List FileName). ArePurged l c.in_ok-going.going.items) c.deref.ensures.value c.in_ok-going.ensures) (λ tells. g.met.H.Host.lawful tells c.args.host.now) c.in_ok-names.ensures.kept c.in_ok-remove_from_end.ensures.ok
