use Rattle.std.proofs.Common.{◌≡◌, ◌-◌, ◌++◌, length, ap, ◌∙◌, arith}
use Rattle.nn_record.specs.Spelling.{u32, u64, body_bytes, unsealed}
use Rattle.nn_record.proofs.FormLemmas.{written_over}
use Rattle.nn_record.proofs.records.put_unsealed.Goals as goal

pub returns-clause-items : goal.returns-clause-items
unfolding u32
returns-clause-items c =
    let body = body_bytes c.args.op.now in
    let with_len = c.put_u32.ensures.items ∙ ap (λ t. t ++ u32 0) c.put.ensures.items in
    let with_id = c.put_u64.ensures.items ∙ ap (λ t. t ++ u64 c.id.inside.0) with_len in
    let whole = c.put_body.ensures.items ∙ ap (λ t. t ++ body) with_id in
    let start : c.len-start.result ≡ length c.args.out.now.items = c.len-start.ensures ∙ c.args.out.now.ok.0 in
    let end : c.len.result ≡ length c.put_body.new.out.items = c.len.ensures ∙ c.put_body.new.out.ok.0 in
    let written = written_over c.args.out.now.items c.put_body.new.out.items c.overwrite.new.out.items c.to_be_bytes.result _ c.id.inside.0 (c.len.result - c.len-start.result - 1) _ body whole (omega (arith, start)) (omega (arith, start, end)) c.to_be_bytes.ensures c.overwrite.ensures.items in
    let id : c.id.inside.0 ≡ c.args.id = c.id.view_is in
    written ∙ (λ i. c.args.out.now.items ++ unsealed (c.opcode_of.ensures i) (id i) body)
