use Rattle.std.proofs.Common.{sym, ◌∙◌}
use Rattle.std.proofs.lemmas.List.{length-take-le}
use Rattle.nn_record.proofs.FrameLemmas.{Parted, frame_long, frame_found}
use Rattle.nn_record.proofs.reading.take_frame.Goals as goal

pub slice_bounds-crc32-end : goal.slice_bounds-crc32-end
slice_bounds-crc32-end c =
    let parts : Parted c.args.rest.now.now c.take_rest.new.rest.now c.in_ok-body.body.now c.in_ok-opcode.opcode c.in_ok-len.field-0 c.in_ok-id.id = record {
      after_opcode = c.take_u8.new.rest.now;
      after_len = c.take_u32.new.rest.now;
      after_id = c.take_id.new.rest.now;
      opcode_first = c.in_ok-opcode.ensures.found;
      then_len = c.in_ok-len.ensures.found.1;
      then_id = c.in_ok-id.ensures.found.2;
      some = c.in_ok-body.ensures.found.0;
      most = c.in_ok-body.ensures.found.1;
      size = c.in_ok-body.ensures.found.2;
      then_body = c.in_ok-body.ensures.found.3;
    } in
    sym (length-take-le _ _ (frame_long _ _ _ _ _ _ parts))

pub returns-clause-found : goal.returns-clause-found
returns-clause-found c =
    let parts : Parted c.args.rest.now.now c.take_rest.new.rest.now c.in_ok-body.body.now c.in_ok-opcode.opcode c.in_ok-len.field-0 c.in_ok-id.id = record {
      after_opcode = c.take_u8.new.rest.now;
      after_len = c.take_u32.new.rest.now;
      after_id = c.take_id.new.rest.now;
      opcode_first = c.in_ok-opcode.ensures.found;
      then_len = c.in_ok-len.ensures.found.1;
      then_id = c.in_ok-id.ensures.found.2;
      some = c.in_ok-body.ensures.found.0;
      most = c.in_ok-body.ensures.found.1;
      size = c.in_ok-body.ensures.found.2;
      then_body = c.in_ok-body.ensures.found.3;
    } in
    frame_found _ _ _ _ _ _ _ _ parts c.in_ok-sum.ensures.found.1 (c.if-sum-crc32.false ∙ c.crc32.ensures)
