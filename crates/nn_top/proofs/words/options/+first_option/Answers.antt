-- Where the first of the names doesn't stand there, one of the others does, or none.
use Rattle.std.proofs.Common.{List, sym, subst}
use Rattle.nn_top.specs.declared.words.options.OptionName.{OptionName}
use Rattle.nn_top.specs.Words.{Word, texts}
use Rattle.nn_top.specs.Begins.{BeginWith}
use Rattle.nn_top.proofs.NamesLemmas.{FirstOf, later_first}
use Rattle.nn_top.proofs.words.options.+first_option.Goals as goal

pub returns-in-None : goal.returns-in-None
returns-in-None t c =
    let words = texts c.args.words.now in
    let none = subst (λ (o : Word). (value : Word) (rest : List Word) → BeginWith words o value rest → ⊥) c.text.ensures c.in-None.ensures in
    subst (λ (names : List OptionName). FirstOf names words (λ f. f.0) (λ f. f.1.now) (λ f. texts f.2.now) c.first_option.result) (sym c.in_ok-name.ensures.cases.0)
    (later_first c.in_ok-name.name.now c.in_ok-name.later.now words (λ f. f.0) (λ f. f.1.now) (λ f. texts f.2.now) c.first_option.result none c.first_option.ensures)
