use Rattle.std.proofs.Common.{◌==◌}
use Rattle.nn_reader.proofs.NewlineLemmas.{first_is_position}
use Rattle.nn_reader.proofs.reader.newline_in.Goals as goal

pub returns : goal.returns
returns c = first_is_position (λ byte. byte == 10) c.args.bytes.now c.memchr.result c.memchr.ensures
