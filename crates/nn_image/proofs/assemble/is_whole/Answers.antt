use Rattle.std.proofs.Common.{length, sym, ap, ◌∙◌}
use Rattle.std.proofs.lemmas.Bool.{eqb-true}
use Rattle.nn_message.specs.Messages.{IsDirEntry}
use Rattle.nn_message.specs.Spelling.{delimited, dir_entry}
use Rattle.nn_image.proofs.TakingLemmas.{none_left, delimited_some, is_none}
use Rattle.nn_image.proofs.assemble.is_whole.Goals as goal

pub returns-clause-yes : goal.returns-clause-yes
returns-clause-yes c = λ yes has place levels entries are all spelled.
    let none = is_none c.args.half.now.directories.now c.is_empty.result c.is_empty.ensures c.if-not-is_empty.false in
    let end = none_left IsDirEntry (λ d. delimited (dir_entry d)) entries (λ d _. delimited_some (dir_entry d)) all (sym (ap length spelled) ∙ none) in
    (c.in-None.ensures has place levels are, end, eqb-true _ _ yes ∙ c.len.ensures.value)
