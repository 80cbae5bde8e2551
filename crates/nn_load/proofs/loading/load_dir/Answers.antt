use Rattle.std.proofs.Common.{List, refl, rules}
use Rattle.nn_host.proofs.RunsLemmas.{looked_once, looked_then}
use Rattle.nn_host.proofs.WorkLemmas.{still_once, still_then}
use Rattle.nn_record.specs.declared.transaction.Record.{Record}
use Rattle.nn_chain.specs.Folder.{folder_at}
use Rattle.nn_chain.specs.Chain.{Leads, IsEnd}
use Rattle.nn_load.specs.Newest.{IsNewestOf}
use Rattle.nn_load.proofs.FileLemmas.{looked_on}
use Rattle.nn_load.proofs.NewestLemmas.{chain_is, unlisted_kept}
use Rattle.nn_load.proofs.loading.load_dir.Goals as goal

pub returns-in_err-list-clause-kept : goal.returns-in_err-list-clause-kept
returns-in_err-list-clause-kept g c = unlisted_kept _ _ c.from_residual.ensures.1 (looked_once c.in_err-list.ensures.call)

pub returns-in_err-list-clause-any_moment : goal.returns-in_err-list-clause-any_moment
returns-in_err-list-clause-any_moment g c = still_once c.in_err-list.ensures.call

pub returns-in_err-tree-clause-kept : goal.returns-in_err-tree-clause-kept
returns-in_err-tree-clause-kept g c = looked_on (Unit {0}) _ _ c.from_residual-in_err-tree.ensures.1 (looked_then (looked_once c.in_ok-list.ensures.call) c.in_err-tree.ensures.kept)

pub returns-in_err-tree-clause-any_moment : goal.returns-in_err-tree-clause-any_moment
returns-in_err-tree-clause-any_moment g c = still_then (still_once c.in_ok-list.ensures.call) c.in_err-tree.ensures.any_moment

pub returns-in_err-last-clause-kept : goal.returns-in_err-last-clause-kept
returns-in_err-last-clause-kept g c = looked_on (Unit {0}) _ _ c.from_residual-in_err-last.ensures.1 (looked_then (looked_then (looked_once c.in_ok-list.ensures.call) c.in_ok-tree.ensures.kept) c.in_err-last.ensures.kept)

pub returns-in_err-last-clause-any_moment : goal.returns-in_err-last-clause-any_moment
returns-in_err-last-clause-any_moment g c = still_then (still_then (still_once c.in_ok-list.ensures.call) c.in_ok-tree.ensures.any_moment) c.in_err-last.ensures.any_moment

pub returns-clause-ok : goal.returns-clause-ok
returns-clause-ok g c = λ tells.
    let one = (g.H.Host.state c.args.host.now).reads c.args.i.0 in
    let two = (g.H.Host.state c.list.new.self).reads c.args.i.0 in
    let three = (g.H.Host.state c.newest_image.new.host).reads c.args.i.0 in
    let before = g.T.Tree.meaning c.in_ok-tree.tree in
    let after = g.T.Tree.meaning c.replay_segments.new.tree in
    let led : (records : List Record) × Leads (folder_at three c.args.sub) c.args.version.now.layout (record { last = c.in_ok-tree.id; ns = before }) records (record { last = c.in_ok-last.last; ns = after })
    × IsEnd (folder_at three c.args.sub) c.args.version.now.layout (record { last = c.in_ok-last.last; ns = after }) = search rules in
    let newest : IsNewestOf (folder_at two c.args.sub) c.args.version.now c.in_ok-tree.id before = search rules in
    chain_is one two three c.args.sub c.args.version.now c.in_ok-tree.id c.in_ok-last.last before after ((looked_once c.in_ok-list.ensures.call).reads tells refl) (c.in_ok-tree.ensures.kept.reads tells refl) newest led

pub returns-clause-kept : goal.returns-clause-kept
returns-clause-kept g c = looked_then (looked_then (looked_once c.in_ok-list.ensures.call) c.in_ok-tree.ensures.kept) c.in_ok-last.ensures.kept

pub returns-clause-any_moment : goal.returns-clause-any_moment
returns-clause-any_moment g c = still_then (still_then (still_once c.in_ok-list.ensures.call) c.in_ok-tree.ensures.any_moment) c.in_ok-last.ensures.any_moment
