use Rattle.std.proofs.Common.{refl}
use Rattle.nn_ops.specs.Above.{parent_of}
use Rattle.nn_ops.proofs.WalkLemmas.{free_by_dir, absent_tests, file_by_dir}
use Rattle.nn_ops.proofs.places.directory_above.Goals as goal

pub returns-in-Found-clause-ok : goal.returns-in-Found-clause-ok
returns-in-Found-clause-ok g c =
    free_by_dir (g.T.Tree.meaning c.args.tree.now).nodes c.counters-counters.ensures.sound.formed c.args.path.now (parent_of c.args.path.now) refl c.requires.free c.requires.no_file c.in-Found.ensures.2

pub returns-in-Missing-clause-err : goal.returns-in-Missing-clause-err
returns-in-Missing-clause-err g c =
    absent_tests (g.T.Tree.meaning c.args.tree.now).nodes c.counters-counters.ensures.sound.formed c.args.path.now (parent_of c.args.path.now) refl c.requires.free c.requires.no_file c.in-Missing.ensures.0 c.in-Missing.ensures.1

pub unreachable-requires : goal.unreachable-requires
unreachable-requires g c =
    c.requires.no_file (file_by_dir (g.T.Tree.meaning c.args.tree.now).nodes c.counters-counters.ensures.sound.formed c.args.path.now c.requires.free c.in-ThroughFile.ensures)
