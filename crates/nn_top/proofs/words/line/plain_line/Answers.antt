-- The directories end where the options behind them begin.
use Rattle.std.proofs.Common.{inl, inr, refl}
use Rattle.std.proofs.lemmas.Bool.{both_ways}
use Rattle.nn_top.specs.declared.words.line.Line.{Line}
use Rattle.nn_top.specs.Words.{texts}
use Rattle.nn_top.specs.Options.{texts_of}
use Rattle.nn_top.proofs.ReadLineLemmas.{plain_read, plain_twice, plain_unended}
use Rattle.nn_top.proofs.words.line.plain_line.Goals as goal

pub returns-in_err-back : goal.returns-in_err-back
returns-in_err-back c =
    let names = c.args.names.now in
    let middle : Line = record c.args.front { rest = c.plain_split.result.1 } in
    rw c.from_residual.ensures
    (inr (plain_twice names c.args.front middle (texts c.plain_split.result.0.now) (c.plain_split.ensures.parts (texts_of names)) refl c.in_err-back.ensures.none))

pub returns-then-is_end : goal.returns-then-is_end
returns-then-is_end c =
    let names = c.args.names.now in
    let middle : Line = record c.args.front { rest = c.plain_split.result.1 } in
    plain_read names c.args.front middle c.in_ok-back.back (texts c.plain_split.result.0.now) (c.plain_split.ensures.parts (texts_of names)) refl c.in_ok-back.ensures.some (c.is_end.ensures.0 c.if-is_end.true)

pub returns-else-is_end : goal.returns-else-is_end
returns-else-is_end c =
    let names = c.args.names.now in
    let middle : Line = record c.args.front { rest = c.plain_split.result.1 } in
    inl (plain_unended names c.args.front middle c.in_ok-back.back (texts c.plain_split.result.0.now) (c.plain_split.ensures.parts (texts_of names)) c.requires.ended c.requires.unmarked (c.plain_split.ensures.rest (texts_of names)) c.in_ok-back.ensures.some
    (λ end. both_ways _ c.if-is_end.false (c.is_end.ensures.1 end)))
