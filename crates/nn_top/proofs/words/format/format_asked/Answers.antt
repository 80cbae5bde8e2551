-- What a line asks for, by the values of its options.
use Rattle.std.proofs.Common.{◌≡◌, Some, None, true, option_and_then, sym, ap, ◌∙◌}
use Rattle.nn_top.specs.Words.{texts, are_dirs}
use Rattle.nn_top.specs.Parts.{parts_of}
use Rattle.nn_top.specs.Commands.{once, cluster_in, namespace_in, format_for, format_options}
use Rattle.nn_top.specs.Options.{given_value}
use Rattle.nn_top.proofs.AskedLemmas.{no_number, read_format, unread_format}
use Rattle.nn_top.proofs.words.format.format_asked.Goals as goal

pub returns-in_err-values : goal.returns-in_err-values
returns-in_err-values c = rw c.from_residual.ensures (sym (unread_format (parts_of format_options (texts c.args.words.now)) c.in_err-values.ensures))

pub returns-in_err-cluster : goal.returns-in_err-cluster
returns-in_err-cluster c =
    let dirs = texts c.in_ok-values.dirs.now in
    let values = c.in_ok-values.values in
    let number = option_and_then namespace_in (once (given_value values.namespace)) in
    let are : are_dirs dirs ≡ true = sym c.are_dirs.ensures ∙ c.if-not-are_dirs.false in
    let asks = read_format (parts_of format_options (texts c.args.words.now)) values dirs c.in_ok-values.ensures are in
    let none : option_and_then cluster_in (once (given_value values.cluster)) ≡ None = sym c.cluster_of.ensures ∙ c.in_err-cluster.was in
    rw c.from_residual-in_err-cluster.ensures (sym (asks ∙ ap (λ found. format_for found number dirs) none))

pub returns-in_err-namespace : goal.returns-in_err-namespace
returns-in_err-namespace c =
    let dirs = texts c.in_ok-values.dirs.now in
    let values = c.in_ok-values.values in
    let cluster = option_and_then cluster_in (once (given_value values.cluster)) in
    let are : are_dirs dirs ≡ true = sym c.are_dirs.ensures ∙ c.if-not-are_dirs.false in
    let asks = read_format (parts_of format_options (texts c.args.words.now)) values dirs c.in_ok-values.ensures are in
    let none : option_and_then namespace_in (once (given_value values.namespace)) ≡ None = sym c.namespace_of.ensures ∙ c.in_err-namespace.was in
    rw c.from_residual-in_err-namespace.ensures (sym (asks ∙ (ap (λ found. format_for cluster found dirs) none ∙ no_number cluster dirs)))

pub returns : goal.returns
returns c =
    let dirs = texts c.in_ok-values.dirs.now in
    let values = c.in_ok-values.values in
    let number = option_and_then namespace_in (once (given_value values.namespace)) in
    let are : are_dirs dirs ≡ true = sym c.are_dirs.ensures ∙ c.if-not-are_dirs.false in
    let asks = read_format (parts_of format_options (texts c.args.words.now)) values dirs c.in_ok-values.ensures are in
    let cluster_is : option_and_then cluster_in (once (given_value values.cluster)) ≡ Some c.in_ok-cluster.cluster = sym c.cluster_of.ensures ∙ c.in_ok-cluster.was in
    let number_is : number ≡ Some c.in_ok-namespace.namespace = sym c.namespace_of.ensures ∙ c.in_ok-namespace.was in
    sym (asks ∙ (ap (λ found. format_for found number dirs) cluster_is ∙ ap (λ found. format_for (Some c.in_ok-cluster.cluster) found dirs) number_is))
