-- A text behind `edits_inprogress_` is read just where it is that of an id from 1 on.
use Rattle.std.proofs.Common.{◌≡◌, ◌∙◌, sym, ap, arith}
use Rattle.std.specs.Prelude.{codes, ◌++◌}
use Rattle.std.proofs.lemmas.Option.{none-some, same_Some}
use Rattle.nn_base.proofs.FileTextLemmas.{in_progresses, unread, read_as}
use Rattle.nn_base.specs.declared.file_name.FileName.TheVariants.{InProgress}
use Rattle.nn_base.proofs.file_name.parse.in_progress.Goals as goal

pub returns-in_err-first : goal.returns-in_err-first
returns-in_err-first c = rw c.from_residual.ensures (unread _ (λ name r e.
    let w = in_progresses name c.args.rest.now r e in none-some w.0 (c.in_err-first.ensures.only w.0 w.2 w.3)))

pub returns-then-first-eq0 : goal.returns-then-first-eq0
returns-then-first-eq0 c = unread _ (λ name r e.
    let w = in_progresses name c.args.rest.now r e in
    let same : c.in_ok-first.first ≡ w.0 = same_Some _ _ (c.in_ok-first.ensures.only w.0 w.2 w.3) in
    omega (arith, same, w.1, c.first.view_is, c.if-first-eq0.true))

pub returns : goal.returns
returns c = read_as _ (InProgress c.in_ok-first.first) (omega (arith, c.if-first-eq0.false, c.first.view_is), omega arith) (ap (λ r. codes "edits_inprogress_" ++ r) (sym c.in_ok-first.ensures.found.1)) (λ other r e.
    let w = in_progresses other c.args.rest.now r e in
    ap InProgress (same_Some _ _ (c.in_ok-first.ensures.only w.0 w.2 w.3)) ∙ sym w.4)
