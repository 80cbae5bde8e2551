use Rattle.std.proofs.lemmas.Result.{IfOk-weaker}
use Rattle.nn_wire.proofs.FieldLemmas.{field_within, field_kind, field_again, field_cause}
use Rattle.nn_wire.proofs.field.field_get.Goals as goal

pub returns-clause-within : goal.returns-clause-within
returns-clause-within c = IfOk-weaker c.field_read.result _ _ (λ field is. field_within c.args.bytes.now c.args.at field c.requires is) c.field_read.ensures.ok

pub returns-clause-again : goal.returns-clause-again
returns-clause-again c = λ field is. field_again c.field_read.result c.args.bytes.now c.args.at field c.field_read.ensures.ok c.field_read.ensures.err is

pub returns-clause-cause : goal.returns-clause-cause
returns-clause-cause c = λ fault wrong. field_cause c.field_read.result c.args.bytes.now c.args.at fault c.field_read.ensures.ok c.field_read.ensures.err wrong

pub returns-clause-kind : goal.returns-clause-kind
returns-clause-kind c = IfOk-weaker c.field_read.result _ _ (λ field is. field_kind c.args.bytes.now c.args.at field is) c.field_read.ensures.ok
