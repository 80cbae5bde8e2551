use Rattle.std.proofs.Common.{◌+◌, List, [], ◌∷◌, ◌++◌, take, sym, ◌∙◌, ap, subst}
use Rattle.nn_base.specs.declared.file_name.FileName.{FileName}
use Rattle.nn_ckpt.specs.declared.retention.Retained.{Retained}
use Rattle.nn_ckpt.specs.Retention.{AreImagesOf}
use Rattle.nn_ckpt.proofs.RetentionLemmas.{skipped_of, next_name}
use Rattle.nn_ckpt.proofs.retention.retained_among.Goals as goal
use Rattle.nn_ckpt.proofs.retention.retained_among.Goals.{in-Image, in_default}

pub names-preserved : goal.names-preserved
names-preserved c =
    let names = c.args.names.now in
    let so_far = take c.names.name-index names in
    let more = next_name names c.names.name-index c.name-item.result c.names-test.true c.name-item.is in
    elim c.match-name.branch [
      | in-Image w ↦ subst (λ (r : Retained). AreImagesOf (take (c.names.name-index + 1) names) r) (sym w.retained-is)
          (subst (λ (l : List FileName). AreImagesOf l w.with-retained.result) (ap (λ (n : FileName). so_far ++ n ∷ []) (sym w.in-Image.is) ∙ sym more) (w.with-retained.ensures so_far c.names.invariant))
      | in_default w ↦ subst (λ (r : Retained). AreImagesOf (take (c.names.name-index + 1) names) r) (sym w.retained-is)
          (subst (λ (l : List FileName). AreImagesOf l c.names.retained) (sym more) (skipped_of so_far c.names.retained c.names.invariant c.name-item.result w.in_default.not-Image))
    ]
