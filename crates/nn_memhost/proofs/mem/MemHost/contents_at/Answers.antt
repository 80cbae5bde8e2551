use Rattle.nn_memhost.proofs.Left.{is_left, get_read}
use Rattle.std.proofs.Common.{◌∙◌, ap, List, length}
use Rattle.nn_memhost.specs.declared.kept.KeptDir.{KeptDir}
use Rattle.nn_memhost.proofs.mem.MemHost.contents_at.Goals as goal

pub returns : goal.returns
returns c =
    let m = c.args.self.now in
    is_left m c.args.k c.args.choice c.index-last.result.now c.stopped.result c.in_ok-kept.kept.items c.fly.new.dirs.items c.deref.result.now
    (get_read m.calls.items c.args.k c.index-last.result.now c.requires c.index-last.ensures)
    (ap (λ (ds : List KeptDir). length ds) c.deref.ensures.value ∙ c.fly.ensures.len ∙ c.in_ok-kept.ensures.count)
    c.in_ok-kept.ensures.value c.in_ok-fly.ensures.ok c.deref.ensures.value c.stopped.ensures.count c.stopped.ensures.left
