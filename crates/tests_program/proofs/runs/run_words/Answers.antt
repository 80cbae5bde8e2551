use Rattle.std.proofs.Common.{arith, ap, length}
use Rattle.std.proofs.lemmas.List.{length-map}
use Rattle.std.specs.String.{string_bytes}
use Rattle.nn_top.specs.Words.{texts}
use Rattle.nn_top.specs.Wanted.{Wanted, dirs_in}
use Rattle.nn_top.specs.Commands.{wanted_in}
use Rattle.nn_top.proofs.ReadingLemmas.{one_reading, read_or_not}
use Rattle.tests_program.proofs.runs.run_words.Goals as goal

pub exit_code-requires : goal.exit_code-requires
exit_code-requires g c = λ wanted asks.
    let same = ap (λ (w : Wanted). length (dirs_in w)) (one_reading (texts c.args.words.now) (wanted_in c.in-Some.command) wanted c.in-Some.ensures.some asks) in
    omega (arith, same, ap length c.dirs.ensures, length-map c.dirs.result.now string_bytes, c.count.ensures.count)

pub exit_code-requires-2 : goal.exit_code-requires-2
exit_code-requires-2 g c = λ wanted asks. absurd (read_or_not (texts c.args.words.now) wanted asks c.in_default.ensures.none)
