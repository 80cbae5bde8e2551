use Rattle.std.proofs.Common.{◌≡◌, ◌++◌}
use Rattle.nn_server.specs.Scene.{scene}
use Rattle.nn_reader.specs.Reader.{ahead, budget}
use Rattle.nn_server.proofs.DryLemmas.{Answering}
use Rattle.nn_server.proofs.dry_run.answer_all.Given as goal

abbrev pub invariant-lines : goal.invariant-lines
invariant-lines g l = record {
  answering : Answering g.H.Host.told g.S.Source.told (g.S.Source.left l.fn.source) (g.H.Host.state l.fn.host) (g.H.Host.state l.host) (ahead l.reader ++ g.S.Source.left l.source) (budget l.reader) (scene (g.T.Tree.meaning l.session.tree) l.session.time);
  faults : g.S.Source.faults l.source ≡ g.S.Source.faults l.fn.source;
}

abbrev pub decreases-lines : goal.decreases-lines
decreases-lines g l = budget l.reader
