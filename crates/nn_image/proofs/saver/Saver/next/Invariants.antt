use Rattle.std.proofs.Common.{◌≡◌, ◌-◌, ◌+◌, ◌*◌, ◌≤◌, ◌++◌, length}
use Rattle.nn_base.specs.Limits.{most_piece}
use Rattle.nn_image.specs.Saving.{Saves, left, steps, target_of}
use Rattle.nn_image.proofs.saver.Saver.next.Given as goal

-- what is in the piece and what is left are what was left at the start
abbrev pub invariant-piece : goal.invariant-piece
invariant-piece g l =
    let ns = g.T.Tree.meaning l.tree in
    let has = g.T.Tree.has l.tree in
    let place = g.T.Tree.place l.tree in
    record {
      saves : Saves l.self ns has place;
      left : left l.fn.self ns has place ≡ l.out.items ++ left l.self ns has place;
      room : length l.out.items ≤ most_piece;
    }

-- each turn takes a step, or puts a byte into the piece
abbrev pub decreases-piece : goal.decreases-piece
decreases-piece g l =
    steps (target_of l.self (g.T.Tree.meaning l.tree) (g.T.Tree.has l.tree) (g.T.Tree.place l.tree)) l.self.progress.stage * (most_piece + 1) + (most_piece - length l.out.items)
