use Rattle.std.proofs.Common.{ap, ◌∙◌, ◌++◌}
use Rattle.nn_wire.specs.Crc32.{crc32_of}
use Rattle.nn_record.specs.Ops.{opcode_of}
use Rattle.nn_record.specs.Spelling.{u32, body_bytes, unsealed, spelling}
use Rattle.nn_record.proofs.FormLemmas.{behind, sealed_behind, is_record}
use Rattle.nn_record.proofs.records.with_record.Goals as goal

pub returns-clause-record : goal.returns-clause-record
returns-clause-record c = is_record _ c.requires.id c.put_unsealed.ensures.id c.requires.op c.put_unsealed.ensures.held

pub returns-clause-text : goal.returns-clause-text
unfolding spelling
returns-clause-text c =
    let old = c.args.bytes.items in
    let text = unsealed (opcode_of c.args.op.now) c.args.id (body_bytes c.args.op.now) in
    let written = c.put_unsealed.ensures.items in
    let covered = behind c.deref.result.now old text c.len-start.result (c.deref.ensures.value ∙ written) (c.len-start.ensures ∙ c.args.bytes.ok.0) in
    sealed_behind old text c.put_u32.new.out.items c.crc32-sum.result (c.put_u32.ensures.items ∙ ap (λ t. t ++ u32 c.crc32-sum.result) written) (c.crc32-sum.ensures ∙ ap crc32_of covered)
