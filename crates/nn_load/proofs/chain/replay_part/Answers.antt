use Rattle.std.proofs.Common.{true, sym, subst}
use Rattle.nn_chain.specs.Folder.{folder_at}
use Rattle.nn_chain.specs.Records.{HoldsRecord}
use Rattle.nn_base.specs.declared.file_name.FileName.TheVariants.{InProgress}
use Rattle.nn_load.specs.declared.chain.Waiting.{Waiting}
use Rattle.nn_load.specs.Turns.{reached, IsPlayed}
use Rattle.nn_load.proofs.ReplayLemmas.{none_replayed}
use Rattle.nn_load.proofs.TurnLemmas.{spent_turn}
use Rattle.nn_load.proofs.chain.replay_part.Goals as goal

pub returns-in-None-clause-ok : goal.returns-in-None-clause-ok
returns-in-None-clause-ok g c = λ tells.
    let place = c.args.place.now in
    let reads = (g.H.Host.state c.args.host.now).reads place.dir.0 in
    let folder = folder_at reads place.sub in
    let ns = g.T.Tree.meaning c.args.tree.now in
    let none = rw c.in-None.is at (c.in_ok-held.ensures.none tells) in
    subst (λ (w : Waiting). IsPlayed folder place.version.layout place.names.items c.args.left w ns ns) (sym c.let_go.ensures) (record {
      turn = spent_turn reads place.sub place.version.layout place.names.items (c.requires.listed tells) c.args.left (c.requires.left tells) ns ns 0 c.args.left.last c.args.until c.args.first (c.requires.gap tells) c.requires.next true
          (none_replayed (HoldsRecord folder place.version.layout (InProgress c.args.first)) c.args.until (reached c.args.left ns) none) (λ e r above h. none r h);
      held = tt;
    })
