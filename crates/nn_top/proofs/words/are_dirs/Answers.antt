-- Each test of the directories, by their words and by their texts.
use Rattle.std.proofs.Common.{◌≡◌, ◌≤◌, length, true, false, sym, ◌∙◌, arith}
use Rattle.std.specs.List.{list_all}
use Rattle.std.specs.String.{string_bytes}
use Rattle.std.proofs.lemmas.Grind.{common_steps}
use Rattle.std.proofs.lemmas.List.{length-map}
use Rattle.nn_top.specs.Words.{texts, is_named}
use Rattle.nn_top.proofs.WordsLemmas.{named_dirs, named_texts, unnamed_dirs}
use Rattle.nn_top.proofs.words.are_dirs.Goals as goal

pub returns-then-not-are_named : goal.returns-then-not-are_named
returns-then-not-are_named c =
    let unnamed : list_all is_named (texts c.args.dirs.now) ≡ false = named_texts c.args.dirs.now ∙ (sym c.are_named.ensures ∙ c.if-not-are_named.true) in
    sym (unnamed_dirs (texts c.args.dirs.now) unnamed)

pub returns : goal.returns
returns c =
    let named : list_all is_named (texts c.args.dirs.now) ≡ true = named_texts c.args.dirs.now ∙ (sym c.are_named.ensures ∙ c.if-not-are_named.false) in
    let any : 1 ≤ length c.args.dirs.now = grind (arith, common_steps) in
    let some : 1 ≤ length (texts c.args.dirs.now) = omega (arith, any, length-map c.args.dirs.now string_bytes) in
    let few : length (texts c.args.dirs.now) ≤ 8 = omega (arith, length-map c.args.dirs.now string_bytes) in
    c.are_distinct.ensures ∙ sym (named_dirs (texts c.args.dirs.now) some few named)
