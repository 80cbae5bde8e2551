use Rattle.std.proofs.Common.{◌≡◌, ◌++◌, None, arith, sym, ap, subst, ◌∙◌}
use Rattle.nn_record.specs.Spelling.{spelling}
use Rattle.nn_record.specs.Reading.{Fails}
use Rattle.nn_record.specs.RecordReading.{record_at}
use Rattle.nn_record.proofs.FieldLemmas.{IsBytes}
use Rattle.nn_record.proofs.FormLemmas.{is_record}
use Rattle.nn_record.proofs.RecordLemmas.{record_again}
use Rattle.nn_record.proofs.GetLemmas.{end_of}
use Rattle.nn_record.proofs.reading.first_record.Goals as goal

pub returns-in-Ok-clause-some : goal.returns-in-Ok-clause-some
returns-in-Ok-clause-some c =
    let got = c.in-Ok.ensures in
    let end = end_of c.args.bytes.now (spelling c.in-Ok.record) c.take_record.new.rest.now got.found in
    record {
      formed = is_record c.in-Ok.record got.id.0 got.id.1 got.op.0 got.op.1;
      text = got.found ∙ ap (λ t. spelling c.in-Ok.record ++ t) (sym end.1);
    }

pub returns-in-Err-NoRecord-clause-none : goal.returns-in-Err-NoRecord-clause-none
returns-in-Err-NoRecord-clause-none c = λ r rest begins.
    let nothing : record_at c.args.bytes.now ≡ None = subst (λ e. Fails e (record_at c.args.bytes.now)) c.in-Err-NoRecord.field-0-is c.in-Err-NoRecord.ensures.exact in
    let fits : IsBytes c.args.bytes.now = λ i. omega (arith, c.type_inv.bytes i) in
    let again = record_again r rest begins.formed (subst IsBytes begins.text fits) in
    let apart = sym nothing ∙ ap record_at begins.text ∙ again in
    absurd cc
