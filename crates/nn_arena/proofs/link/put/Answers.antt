use Rattle.std.proofs.Common.{subst}
use Rattle.nn_base.specs.Paths.{Bytes}
use Rattle.nn_arena.specs.Children.{IsGap}
use Rattle.nn_arena.proofs.PutLemmas.{put_done}
use Rattle.nn_arena.proofs.link.put.Goals as goal

pub returns : goal.returns
returns c =
    let gap = subst (λ (name : Bytes). IsGap c.args.places.now c.args.entry.parent name c.find_gap-gap.result) c.name.ensures c.find_gap-gap.ensures in
    put_done c.args.places.now c.set_behind.new.places c.args.at c.args.entry c.requires.linked c.requires.named c.requires.apart c.requires.within c.requires.below_root c.requires.free
    c.requires.parent c.requires.name c.requires.children c.requires.new c.find_gap-gap.result gap c.set_behind.ensures.first c.set_behind.ensures.next
