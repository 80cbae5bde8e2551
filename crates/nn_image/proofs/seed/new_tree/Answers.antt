use Rattle.std.proofs.Common.{[], refl, ap, ◌∙◌}
use Rattle.std.specs.FinMap.{empty}
use Rattle.nn_tree.specs.Namespace.{root_node, is_dir_at}
use Rattle.nn_image.proofs.PartialLemmas.{new_dir}
use Rattle.nn_image.proofs.seed.new_tree.Goals as goal

pub set_root-requires-4-clause-takes : goal.set_root-requires-4-clause-takes
set_root-requires-4-clause-takes g c =
    let first = ap (λ ns. ns.nodes) c.in_ok-tree.ensures.empty in
    let alone = c.set_root-3.ensures.means _ (c.set_root-2.ensures.means _ (c.set_root.ensures.means root_node first)) in
    ap (λ m. is_dir_at m []) alone ∙ new_dir empty [] _ refl
