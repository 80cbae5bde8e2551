use Rattle.std.proofs.Common.{◌≡◌, true, false, rules}
use Rattle.std.specs.Prelude.{Contains}
use Rattle.nn_segment.specs.Segment.{has_header}
use Rattle.nn_load.specs.Replaying.{AreReplayed}
use Rattle.nn_load.proofs.ReplayLemmas.{no_run, run_behind_header}
use Rattle.nn_load.proofs.replaying.replay_run.Goals as goal

pub returns-in-Some-clause-run : goal.returns-in-Some-clause-run
returns-in-Some-clause-run g c =
    let seen : has_header c.args.bytes.now c.args.layout ≡ true = search rules in
    run_behind_header c.args.bytes.now c.in-Some.records.now c.args.layout c.args.first
    (λ run reach. AreReplayed (Contains run) c.args.until (record { last = c.args.last; ns = g.T.Tree.meaning c.args.tree.now }) (record { last = reach.last; ns = g.T.Tree.meaning c.replay_records.new.tree }) reach.fit)
    c.replay_records.result seen c.in-Some.ensures.1 c.replay_records.ensures.run

pub returns-in-None-clause-run : goal.returns-in-None-clause-run
returns-in-None-clause-run g c =
    let unseen : has_header c.args.bytes.now c.args.layout ≡ false = search rules in
    no_run c.args.bytes.now c.args.layout c.args.first c.args.until _ unseen
