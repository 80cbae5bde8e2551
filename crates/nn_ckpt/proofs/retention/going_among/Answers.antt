use Rattle.std.proofs.Common.{List, [], ◌∷◌, ◌++◌, take, Vec, Global, sym, ◌∙◌, ap, subst}
use Rattle.std.proofs.lemmas.List.{take_all}
use Rattle.nn_base.specs.declared.file_name.FileName.{FileName}
use Rattle.nn_ckpt.proofs.RetentionLemmas.{AreGoing, going_none, going_push, going_skip, going_purged, next_name}
use Rattle.nn_ckpt.proofs.retention.going_among.Goals as goal
use Rattle.nn_ckpt.proofs.retention.going_among.Goals.{then-lets_go+in_ok-push, else-lets_go}

pub names-init : goal.names-init
names-init c = subst (λ (l : List FileName). AreGoing c.retained_among-retained.result [] l) (sym c.new-found.ensures.items) (going_none c.retained_among-retained.result)

pub names-preserved : goal.names-preserved
names-preserved c =
    let r = c.retained_among-retained.result in
    let so_far = take c.names.name-index c.args.names.now in
    let n = c.name-item.result in
    let more = next_name c.args.names.now c.names.name-index n c.names-test.true c.name-item.is in
    elim c.if-lets_go.branch [
      | then-lets_go+in_ok-push w ↦ subst (λ (l : List FileName). AreGoing r l c.if-lets_go.found.items) (sym more)
          (subst (λ (l : List FileName). AreGoing r (so_far ++ n ∷ []) l) (sym (ap (λ (v : Vec FileName Global). v.items) w.found-is ∙ w.in_ok-push.ensures.items))
          (going_push r so_far c.names.found.items c.names.invariant n (λ folder are. (c.lets_go.ensures folder are).0 w.if-lets_go.true)))
      | else-lets_go w ↦ subst (λ (l : List FileName). AreGoing r l c.if-lets_go.found.items) (sym more)
          (subst (λ (l : List FileName). AreGoing r (so_far ++ n ∷ []) l) (sym (ap (λ (v : Vec FileName Global). v.items) w.found-is))
          (going_skip r so_far c.names.found.items c.names.invariant n (λ folder are goes. (let told = (c.lets_go.ensures folder are).1 goes in let apart = sym told ∙ w.if-lets_go.false in cc))))
    ]

pub returns : goal.returns
returns c = going_purged c.retained_among-retained.result c.args.names.now c.names.found.items c.retained_among-retained.ensures
    (subst (λ (l : List FileName). AreGoing c.retained_among-retained.result l c.names.found.items) (take_all c.names.name-index c.args.names.now c.names-test.false) c.names.invariant)
