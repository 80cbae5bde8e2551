-- Digits that a digest is written with decode to it.
use Rattle.std.proofs.Common.{Some, ap}
use Rattle.std.proofs.lemmas.Result.{MatchResult-at_ok}
use Rattle.nn_marks.proofs.DigestLemmas.{decodes}
use Rattle.nn_marks.proofs.digest.digest_of.Goals as goal

pub returns-in-Ok : goal.returns-in-Ok
returns-in-Ok c = λ digest long bytes e.
    let read = MatchResult-at_ok _ _ digest (decodes c.args.digits.now digest long bytes e) c.decode_to_slice.ensures.value in ap Some read.1

pub returns-in-Err : goal.returns-in-Err
returns-in-Err c = λ digest long bytes e.
    let read = MatchResult-at_ok _ _ digest (decodes c.args.digits.now digest long bytes e) c.decode_to_slice.ensures.value in cc (read.0, c.in-Err.is)
