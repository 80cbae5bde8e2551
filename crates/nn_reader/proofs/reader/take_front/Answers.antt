use Rattle.std.proofs.Common.{arith}
use Rattle.std.proofs.lemmas.List.{length-take-le}
use Rattle.nn_reader.proofs.ReaderLemmas.{took_nothing, front_of_chunk}
use Rattle.nn_reader.proofs.reader.take_front.Goals as goal

pub returns-clause-ok : goal.returns-clause-ok
returns-clause-ok g c = λ tells.
    let long = length-take-le c.args.most c.args.chunk.now c.requires.within in
    front_of_chunk _ (c.in_ok-count.ensures.ok tells) (omega (arith, c.in_ok-count.ensures.within, long))

pub returns-clause-none : goal.returns-clause-none
returns-clause-none g c = λ tells some zero.
    let long = length-take-le c.args.most c.args.chunk.now c.requires.within in
    (took_nothing (c.in_ok-count.ensures.ok tells) zero (omega (arith, some, long))).0
