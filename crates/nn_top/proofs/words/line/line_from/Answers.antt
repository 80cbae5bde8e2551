-- The options in front, and what stands behind them.
use Rattle.std.proofs.Common.{ap, ◌∙◌}
use Rattle.nn_top.specs.Words.{texts}
use Rattle.nn_top.specs.Parts.{parts_of}
use Rattle.nn_top.specs.Options.{texts_of}
use Rattle.nn_top.proofs.PartsLemmas.{mark_first}
use Rattle.nn_top.proofs.ReadLineLemmas.{line_on, marked, read_on}
use Rattle.nn_top.proofs.words.line.line_from.Goals as goal

pub returns-in-Some : goal.returns-in-Some
returns-in-Some c =
    let names = c.args.names.now in
    let front = c.in_ok-front.front in
    let dirs = texts c.in-Some.dirs.now in
    read_on names c.args.line front front.values dirs c.in_ok-front.ensures.some (marked names front dirs (ap (parts_of (texts_of names)) c.in-Some.ensures ∙ mark_first (texts_of names) dirs))

pub returns-in-None : goal.returns-in-None
returns-in-None c = line_on c.args.names.now c.plain_line.result (λ f. f.0) (λ f. texts f.1.now) c.args.line c.in_ok-front.front c.in_ok-front.ensures.some c.plain_line.ensures
