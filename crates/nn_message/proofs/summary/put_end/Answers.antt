use Rattle.std.proofs.Common.{arith, ap, length, length-append}
use Rattle.nn_message.specs.Spelling.{delimited}
use Rattle.nn_message.specs.Frame.{summary_message, summary_with}
use Rattle.nn_message.proofs.SummaryLemmas.{summary_is_small}
use Rattle.nn_message.proofs.summary.put_end.Goals as goal

pub overflow_cast-len : goal.overflow_cast-len
overflow_cast-len c =
    let summary = delimited (summary_message (summary_with c.args.layout c.args.lengths.now)) in
    omega (arith, c.len.ensures, c.len-at.ensures, ap length c.in_ok-put_summary.ensures.ok, length-append c.args.out.now.items summary, summary_is_small c.args.layout c.args.lengths.now)
