use Rattle.std.proofs.Common.{arith, ◌∙◌}
use Rattle.std.proofs.lemmas.List.{take_rest}
use Rattle.std.proofs.lemmas.Result.{err_from_is_err_and}
use Rattle.nn_base.proofs.PathCountLemmas.{count_more, count_end, first_fault}
use Rattle.nn_base.proofs.path.parse.count_names.Goals as goal

pub returns-then-len-left-clause-ok : goal.returns-then-len-left-clause-ok
returns-then-len-left-clause-ok c = count_end c.args.text.now c.names.left.now c.names.count c.in_ok-len.len c.names.invariant c.in_ok-len.ensures.ok.0 (omega arith) c.in_ok-len.ensures.ok.1

pub names-preserved : goal.names-preserved
names-preserved c = rw (take_rest _ _) (count_more c.args.text.now c.names.left.now c.names.count c.in_ok-len.len c.names.invariant c.in_ok-len.ensures.ok.0 (omega (arith, c.if-len-left.false, c.in_ok-len.ensures.within)) c.in_ok-len.ensures.ok.1)

pub returns-in_err-len-clause-err : goal.returns-in_err-len-clause-err
returns-in_err-len-clause-err c =
    let p = err_from_is_err_and c.from_residual.result c.from_residual.ensures.1 in
    let f = c.names.invariant.fault in
    rw (p.1, p.2) (f ∙ first_fault c.names.left.now _ c.in_err-len.ensures.err)
