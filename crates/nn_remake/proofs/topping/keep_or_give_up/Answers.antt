use Rattle.std.proofs.Common.{inl, subst, sym}
use Rattle.nn_base.specs.declared.ids.DirNo.{DirNo}
use Rattle.nn_host.specs.Moments.{disk_at}
use Rattle.nn_state.specs.Typed.{dir_in}
use Rattle.nn_remake.specs.Clearing.{IsIdle, WasGivenUp}
use Rattle.nn_remake.proofs.ClearingLemmas.{rest_idle}
use Rattle.nn_remake.proofs.ToppingLemmas.{given_normal, given_ready}
use Rattle.nn_remake.proofs.topping.keep_or_give_up.Goals as goal

pub give_up_previous-requires-clause-idle : goal.give_up_previous-requires-clause-idle
give_up_previous-requires-clause-idle g c = λ tells. subst (λ (i : DirNo). IsIdle (disk_at (g.H.Host.state c.args.host.now) i.0)) (sym c.dir-dir.ensures) (rest_idle (disk_at (g.H.Host.state c.args.host.now) (dir_in c.args.at).0) (inl (c.requires.normal tells)))

pub returns-clause-fits : goal.returns-clause-fits
returns-clause-fits g c = λ tells. given_ready (disk_at (g.H.Host.state c.args.host.now) (dir_in c.args.at).0) (disk_at (g.H.Host.state c.give_up_previous.new.host) (dir_in c.args.at).0) (c.requires.normal tells)
    (subst (λ (i : DirNo). WasGivenUp i.0 (g.H.Host.state c.args.host.now) (g.H.Host.state c.give_up_previous.new.host)) c.dir-dir.ensures (c.in_ok-give_up_previous.ensures.ok tells)).disk

pub returns-clause-normal : goal.returns-clause-normal
returns-clause-normal g c = λ tells. given_normal (disk_at (g.H.Host.state c.args.host.now) (dir_in c.args.at).0) (disk_at (g.H.Host.state c.give_up_previous.new.host) (dir_in c.args.at).0) (c.requires.normal tells)
    (subst (λ (i : DirNo). WasGivenUp i.0 (g.H.Host.state c.args.host.now) (g.H.Host.state c.give_up_previous.new.host)) c.dir-dir.ensures (c.in_ok-give_up_previous.ensures.ok tells)).disk
