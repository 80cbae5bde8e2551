-- The digit is how the count is written.
use Rattle.std.proofs.Common.{arith}
use Rattle.std.proofs.lemmas.Fmt.{decimal_digit}
use Rattle.nn_server.proofs.format_run.formatted_line.Goals as goal

pub returns : goal.returns
returns c = rw (decimal_digit c.args.count (omega arith))
