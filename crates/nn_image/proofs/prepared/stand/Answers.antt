use Rattle.std.proofs.Common.{sym, subst}
use Rattle.nn_image.specs.Assembly.{waiting}
use Rattle.nn_image.proofs.NextNodeLemmas.{Stands, placed_none, stands_so}
use Rattle.nn_image.proofs.prepared.stand.Goals as goal

pub returns-in_err-dir : goal.returns-in_err-dir
returns-in_err-dir c = λ has place levels inode id name are.
    subst (λ r. Stands r c.take_waiting.new.dirs.items has place (waiting levels) inode) (sym c.from_residual.ensures) (placed_none (waiting levels) inode (c.in_err-dir.ensures has place levels are))

pub returns : goal.returns
returns c = λ has place levels inode id name are.
    let was = c.in_ok-dir.ensures has place levels are in
    stands_so c.next_child.result c.take_waiting.new.dirs.items has place (waiting levels) inode was.0 was.1 c.args.name.now was.2 name was.4 (c.next_child.ensures has place was.0 was.1 inode id name was.3)
