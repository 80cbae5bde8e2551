use Rattle.std.proofs.Common.{refl, sym}
use Rattle.nn_image.proofs.PutNodeLemmas.{made_still, counted_nodes, counted_blocks}
use Rattle.nn_image.proofs.half.add_node.Goals as goal

pub put-requires : goal.put-requires
put-requires g c =
    let half = c.args.half.now in
    let ns = g.T.Tree.meaning c.args.tree.now in
    let has = g.T.Tree.has c.args.tree.now in
    let place = g.T.Tree.place c.args.tree.now in
    let table = c.args.names.now in
    let was = c.requires.half in
    let shown = c.requires.view in
    let made = was.3.so_far in (
      table,
      was.0,
      was.1,
      was.2,
      shown.0,
      shown.1,
      made_still half _ ns table was.0 was.1 was.2 refl refl refl made,
      c.in_ok-next.ensures.ok has place was.2 shown.0 shown.1 shown.2 made.used was.3.dirs (counted_nodes half ns table was.0 was.1 was.2 made) (counted_blocks half ns table was.0 was.1 was.2 made),
    )

pub returns-clause-ok : goal.returns-clause-ok
returns-clause-ok g c = λ entries done h inode is shows was.
    let half = c.args.half.now in
    let ns = g.T.Tree.meaning c.args.tree.now in
    let table = c.args.names.now in
    let made = was.so_far in
    let prepared = c.in_ok-next.ensures.ok (g.T.Tree.has c.args.tree.now) (g.T.Tree.place c.args.tree.now) h inode is shows made.used was.dirs (counted_nodes half ns table entries done h made) (counted_blocks half ns table entries done h made) in
    c.put.ensures.ok table entries done h inode (sym shows.id) is (made_still half _ ns table entries done h refl refl refl made) prepared

pub returns-clause-tree : goal.returns-clause-tree
returns-clause-tree g c = λ entries done h inode is shows was tree.
    let half = c.args.half.now in
    let ns = g.T.Tree.meaning c.args.tree.now in
    let table = c.args.names.now in
    let made = was.so_far in
    let prepared = c.in_ok-next.ensures.ok (g.T.Tree.has c.args.tree.now) (g.T.Tree.place c.args.tree.now) h inode is shows made.used was.dirs (counted_nodes half ns table entries done h made) (counted_blocks half ns table entries done h made) in
    absurd (c.put.ensures.tree table entries done h inode (sym shows.id) is (made_still half _ ns table entries done h refl refl refl made) prepared tree)
