-- What a line asks for, by the time and the number of files that it gives.
use Rattle.std.proofs.Common.{◌≡◌, Some, None, true, sym, ap, ◌∙◌}
use Rattle.nn_top.specs.Words.{texts, are_dirs}
use Rattle.nn_top.specs.Parts.{parts_of}
use Rattle.nn_top.specs.Commands.{at_in, generated_in, run_for, run_options}
use Rattle.nn_top.specs.Options.{given_value}
use Rattle.nn_top.proofs.AskedLemmas.{no_files, read_run, unread_run}
use Rattle.nn_top.proofs.words.run.run_asked.Goals as goal

pub returns-in_err-values : goal.returns-in_err-values
returns-in_err-values c = rw c.from_residual.ensures (sym (unread_run (parts_of run_options (texts c.args.words.now)) c.in_err-values.ensures))

pub returns-in_err-at : goal.returns-in_err-at
returns-in_err-at c =
    let dirs = texts c.in_ok-values.dirs.now in
    let values = c.in_ok-values.values in
    let are : are_dirs dirs ≡ true = sym c.are_dirs.ensures ∙ c.if-not-are_dirs.false in
    let asks = read_run (parts_of run_options (texts c.args.words.now)) values dirs c.in_ok-values.ensures are in
    let none : at_in (given_value values.at) ≡ None = sym c.time_of.ensures ∙ c.in_err-at.was in
    rw c.from_residual-in_err-at.ensures (sym (asks ∙ ap (λ found. run_for found (generated_in (given_value values.generate)) dirs) none))

pub returns-in_err-generated : goal.returns-in_err-generated
returns-in_err-generated c =
    let dirs = texts c.in_ok-values.dirs.now in
    let values = c.in_ok-values.values in
    let are : are_dirs dirs ≡ true = sym c.are_dirs.ensures ∙ c.if-not-are_dirs.false in
    let asks = read_run (parts_of run_options (texts c.args.words.now)) values dirs c.in_ok-values.ensures are in
    let none : generated_in (given_value values.generate) ≡ None = sym c.generated_of.ensures ∙ c.in_err-generated.was in
    rw c.from_residual-in_err-generated.ensures (sym (asks ∙ (ap (λ found. run_for (at_in (given_value values.at)) found dirs) none ∙ no_files (at_in (given_value values.at)) dirs)))

pub returns : goal.returns
returns c =
    let dirs = texts c.in_ok-values.dirs.now in
    let values = c.in_ok-values.values in
    let are : are_dirs dirs ≡ true = sym c.are_dirs.ensures ∙ c.if-not-are_dirs.false in
    let asks = read_run (parts_of run_options (texts c.args.words.now)) values dirs c.in_ok-values.ensures are in
    let at_is : at_in (given_value values.at) ≡ Some c.in_ok-at.at = sym c.time_of.ensures ∙ c.in_ok-at.was in
    let files_are : generated_in (given_value values.generate) ≡ Some c.in_ok-generated.generated = sym c.generated_of.ensures ∙ c.in_ok-generated.was in
    sym (asks ∙ (ap (λ found. run_for found (generated_in (given_value values.generate)) dirs) at_is ∙ ap (λ found. run_for (Some c.in_ok-at.at) found dirs) files_are))
