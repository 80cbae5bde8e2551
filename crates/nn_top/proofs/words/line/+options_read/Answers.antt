-- The first option, and the options behind it.
use Rattle.std.proofs.Common.{◌≡◌, true}
use Rattle.std.specs.Option.{is_some}
use Rattle.nn_top.specs.declared.words.line.Line.{Line}
use Rattle.nn_top.specs.Words.{texts}
use Rattle.nn_top.specs.Parts.{parts_of}
use Rattle.nn_top.specs.Options.{texts_of}
use Rattle.nn_top.proofs.NamesLemmas.{begins_option, none_first}
use Rattle.nn_top.proofs.ReadLineLemmas.{none_more, read_none, some_more, twice_now}
use Rattle.nn_top.proofs.words.line.+options_read.Goals as goal

pub returns-in_default-clause-some : goal.returns-in_default-clause-some
returns-in_default-clause-some t c = read_none c.args.names.now c.args.line (none_first c.args.names.now (texts c.args.line.rest.now) c.in_default.ensures)

pub returns-then-is_some-clause-none : goal.returns-then-is_some-clause-none
returns-then-is_some-clause-none t c =
    let names = c.args.names.now in
    let first = c.in-Some.ensures in
    let some : is_some c.of.result ≡ true = cc in
    twice_now names c.args.line c.in-Some.name c.in-Some.value.now (parts_of (texts_of names) (texts c.in-Some.rest.now)) c.of.result first.0 c.of.ensures some
    (begins_option names c.in-Some.name (texts c.args.line.rest.now) c.in-Some.value.now (texts c.in-Some.rest.now) first.0 first.1)

pub returns-clause-some : goal.returns-clause-some
returns-clause-some t c =
    let names = c.args.names.now in
    let first = c.in-Some.ensures in
    let middle : Line = record { values = c.with.result; rest = c.in-Some.rest } in
    some_more names c.options_read.result c.in-Some.name c.in-Some.value.now c.args.line middle
    (begins_option names c.in-Some.name (texts c.args.line.rest.now) c.in-Some.value.now (texts c.in-Some.rest.now) first.0 first.1) c.with.ensures c.options_read.ensures.some

pub returns-clause-none : goal.returns-clause-none
returns-clause-none t c =
    let names = c.args.names.now in
    let first = c.in-Some.ensures in
    let middle : Line = record { values = c.with.result; rest = c.in-Some.rest } in
    none_more names c.options_read.result c.in-Some.name c.in-Some.value.now c.args.line middle
    (begins_option names c.in-Some.name (texts c.args.line.rest.now) c.in-Some.value.now (texts c.in-Some.rest.now) first.0 first.1) c.with.ensures c.options_read.ensures.none
