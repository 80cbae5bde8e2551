use Rattle.std.proofs.Common.{◌≡◌, List, ℕ, Ok, sym, subst, rules}
use Rattle.std.specs.Prelude.{Contains, IfOk}
use Rattle.nn_base.specs.Limits.{most_segment_read}
use Rattle.nn_record.specs.declared.transaction.Record.{Record}
use Rattle.nn_segment.specs.Segment.{IsIntactRun}
use Rattle.nn_small.specs.Whole.{whole_of}
use Rattle.nn_chain.specs.Folder.{folder_at}
use Rattle.nn_load.specs.Replaying.{AreReplayed}
use Rattle.nn_load.proofs.FileLemmas.{whole_replayed}
use Rattle.nn_load.proofs.segment.replay_file.Goals as goal

pub returns-in-Ok-clause-ok : goal.returns-in-Ok-clause-ok
returns-in-Ok-clause-ok g c = λ tells.
    let folder = folder_at ((g.H.Host.state c.args.host.now).reads c.args.place.now.dir.0) c.args.place.now.sub in
    let name = c.args.segment.now.name in
    let run : IfOk c.replay_run.result (λ reach. (run : List Record) × IsIntactRun c.deref.result.now c.args.place.now.version.layout c.args.segment.now.first run ×
    AreReplayed (Contains run) c.args.segment.now.until (record { last = c.args.last; ns = g.T.Tree.meaning c.args.tree.now }) (record { last = reach.last; ns = g.T.Tree.meaning c.replay_run.new.tree }) reach.fit) = search rules in
    whole_replayed folder c.args.place.now.version.layout name c.args.segment.now.first c.args.segment.now.until c.requires.part
    c.deref.result.now (λ reach. record { last = reach.last; ns = g.T.Tree.meaning c.replay_run.new.tree }) (λ reach. reach.fit) (record { last = c.args.last; ns = g.T.Tree.meaning c.args.tree.now }) c.replay_run.result
    (subst (λ (t : List ℕ). whole_of most_segment_read (folder name) ≡ Ok t) (sym c.deref.ensures.value) (c.in-Ok.ensures.ok tells)) run
