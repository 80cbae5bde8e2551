use Rattle.nn_chain.proofs.ReadLemmas.{handed_on, looked_on}
use Rattle.nn_load.proofs.NewestLemmas.{newest_is, passed_over}
use Rattle.nn_load.proofs.newest.image_before.Goals as goal

pub returns-in_err-tree-clause-err : goal.returns-in_err-tree-clause-err
returns-in_err-tree-clause-err g c = λ tells. handed_on _ _ _ c.from_residual.ensures.1
    (passed_over ((g.H.Host.state c.args.host.now).reads c.args.place.now.dir.0) c.args.place.now.sub c.args.place.now.version c.args.place.now.names.items (c.requires.listed tells) c.args.end c.args.k c.args.id c.requires.last (c.requires.none tells) _ (c.in_err-tree.ensures.err tells))

pub returns-in_err-tree-clause-kept : goal.returns-in_err-tree-clause-kept
returns-in_err-tree-clause-kept g c = looked_on (Unit {0}) _ _ c.from_residual.ensures.1 c.in_err-tree.ensures.kept

pub returns-clause-ok : goal.returns-clause-ok
returns-clause-ok g c = λ tells. newest_is ((g.H.Host.state c.args.host.now).reads c.args.place.now.dir.0) c.args.place.now.sub c.args.place.now.version c.args.place.now.names.items (c.requires.listed tells) c.args.end c.args.k c.args.id c.requires.last _ (c.requires.none tells) (c.in_ok-tree.ensures.ok tells)
