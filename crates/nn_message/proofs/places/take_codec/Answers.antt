use Rattle.std.proofs.Common.{Some, refl, arith}
use Rattle.nn_message.proofs.FieldsTakenLemmas.{bytes_found, no_bytes}
use Rattle.nn_message.proofs.PlaceLemmas.{codec_behind, no_codec}
use Rattle.nn_message.specs.Frame.{codec_field}
use Rattle.nn_message.proofs.places.take_codec.Goals as goal

pub returns-in-Some-clause-taken : goal.returns-in-Some-clause-taken
unfolding codec_field
returns-in-Some-clause-taken c = (Some c.in-Some.field-0.now, refl, bytes_found 3 c.args.rest.now.now c.in-Some.field-0.now c.take_bytes.new.rest.now (omega arith) c.in-Some.ensures.some)

pub returns-in-Some-clause-exact : goal.returns-in-Some-clause-exact
returns-in-Some-clause-exact c = λ codec sections is.
    let field = bytes_found 3 c.args.rest.now.now c.in-Some.field-0.now c.take_bytes.new.rest.now (omega arith) c.in-Some.ensures.some in
    codec_behind c.args.rest.now.now c.in-Some.field-0.now c.take_bytes.new.rest.now codec sections (omega arith) field is

pub returns-in-None-clause-exact : goal.returns-in-None-clause-exact
returns-in-None-clause-exact c = λ codec sections is. no_codec c.args.rest.now.now codec sections (λ content after. no_bytes 3 c.args.rest.now.now content after (omega arith) (omega arith) c.in-None.ensures.none) is
