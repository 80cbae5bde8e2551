use Rattle.std.proofs.Common.{rules}
use Rattle.nn_segment.proofs.RunLemmas.{header_within}
use Rattle.nn_segment.proofs.header.records_in.Goals as goal

pub slice_bounds-result-count : goal.slice_bounds-result-count
slice_bounds-result-count c = header_within c.args.bytes.now c.args.layout (search rules)

pub slice_bounds-result-start : goal.slice_bounds-result-start
slice_bounds-result-start c = let h = header_within c.args.bytes.now c.args.layout (search rules) in search rules
