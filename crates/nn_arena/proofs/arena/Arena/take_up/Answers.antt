use Rattle.std.proofs.Common.{◌≡◌, length, sym, ap, ◌∙◌, arith}
use Rattle.std.specs.Prelude.{vec_len}
use Rattle.nn_tree.specs.Namespace.{block_count}
use Rattle.nn_arena.proofs.KeptLemmas.{climbed_back}
use Rattle.nn_arena.proofs.arena.Arena.take_up.Goals as goal

pub invariant_of-self : goal.invariant_of-self
invariant_of-self c =
    let len : vec_len c.args.self.now.places ≡ length c.args.self.now.places.items = omega arith in
    let k = climbed_back c.args.self.now.places.items c.deref_mut.result.now c.take_up.new.places (vec_len c.args.self.now.places) _ _ c.args.self.now.free c.deref_mut.ensures.value len c.take_up.ensures c.args.self.now.tree c.args.self.now.linked c.args.self.now.free_list c.args.self.now.limits in
    record { tree = k.tree; linked = k.linked; free_list = k.list; counted = c.args.self.now.counted ∙ ap block_count (sym k.nodes); limits = k.limits }
