use Rattle.std.proofs.Common.{sym, ap, ◌∙◌}
use Rattle.std.specs.Result.{result_ok}
use Rattle.nn_wire.proofs.FaultLemmas.{read_again, found_is, is_found}
use Rattle.nn_wire.proofs.varint.varint_get.Goals as goal

pub returns-clause-again : goal.returns-clause-again
returns-clause-again c = λ n rest begins.
    c.ok.ensures.value ∙ ap result_ok (read_again c.varint_read.result c.args.bytes.now n rest c.varint_read.ensures.ok c.varint_read.ensures.len c.varint_read.ensures.err begins)

pub returns-clause-exact : goal.returns-clause-exact
returns-clause-exact c =
    let read = c.varint_read.ensures in
    let bytes = c.args.bytes.now in
    λ n len. (
      (λ e. found_is c.varint_read.result bytes read.ok read.len n len (sym c.ok.ensures.value ∙ e)),
      (λ is. c.ok.ensures.value ∙ is_found c.varint_read.result bytes read.ok read.len read.err n len is),
    )
