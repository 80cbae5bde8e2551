-- From no values on.
use Rattle.std.proofs.Common.{None, refl}
use Rattle.nn_top.specs.declared.words.line.Values.{Values}
use Rattle.nn_top.specs.declared.words.line.Line.{Line}
use Rattle.nn_top.specs.Words.{texts}
use Rattle.nn_top.proofs.ReadLineLemmas.{line_read}
use Rattle.nn_top.proofs.words.line.line_of.Goals as goal

pub returns : goal.returns
returns c =
    let none : Values = record { cluster = None; namespace = None; at = None; generate = None } in
    let start : Line = record { values = none; rest = c.args.words } in
    line_read c.args.names.now c.line_from.result (λ f. f.0) (λ f. texts f.1.now) start refl refl refl refl c.line_from.ensures
