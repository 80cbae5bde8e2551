use Rattle.std.proofs.Common.{[], refl, arith}
use Rattle.nn_image.proofs.FirstNodeLemmas.{noted_root}
use Rattle.nn_image.proofs.nodes.begin.Goals as goal

pub returns-in-Ok-clause-ok : goal.returns-in-Ok-clause-ok
returns-in-Ok-clause-ok c = λ has place inode entries id dir all spelled there top.
    let entered = c.in-Ok.ensures.ok has place [] [] inode entries id dir all spelled c.new-dirs.ensures.items
    (record { there = there; path = top; newest = refl; ids = λ k d within. absurd (omega arith); children = refl; names = refl; text = refl }) in
    (refl, noted_root c.new-noted.result _ inode c.new-noted.ensures c.in_ok-push.ensures.items refl refl id dir, entered.0, entered.1, entered.2)
