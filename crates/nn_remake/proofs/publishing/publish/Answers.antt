use Rattle.nn_base.specs.declared.sub.Sub.TheVariants.{Current}
use Rattle.nn_image.proofs.FirstFaultLemmas.{none_of_an_image}
use Rattle.nn_image.proofs.LoadLemmas.{one_image}
use Rattle.nn_chain.proofs.UnsoundLemmas.{unsound_not_intact}
use Rattle.nn_remake.proofs.RankLemmas.{rank_of, rank_of_same, work_same, work_then, still_has, written_then, written_intact, was_intact, ranked_then, ranked_still}
use Rattle.nn_remake.proofs.publishing.publish.Goals as goal

pub returns-in_err-has_intact-clause-any_moment : goal.returns-in_err-has_intact-clause-any_moment
returns-in_err-has_intact-clause-any_moment g c = work_same c.args.version.now c.args.id (g.T.Tree.meaning c.args.tree.now) c.in_err-has_intact.ensures.any_moment

pub returns-then-branch-clause-any_moment : goal.returns-then-branch-clause-any_moment
returns-then-branch-clause-any_moment g c = work_same c.args.version.now c.args.id (g.T.Tree.meaning c.args.tree.now) c.in_ok-has_intact.ensures.any_moment

pub returns-clause-any_moment : goal.returns-clause-any_moment
returns-clause-any_moment g c = work_then c.in_ok-has_intact.ensures.any_moment c.replace_image.ensures.any_moment

pub returns-in_err-has_intact-clause-rank : goal.returns-in_err-has_intact-clause-rank
returns-in_err-has_intact-clause-rank g c = rank_of_same c.args.version.now c.args.id (g.T.Tree.meaning c.args.tree.now) c.in_err-has_intact.ensures.any_moment

pub returns-then-branch-clause-rank : goal.returns-then-branch-clause-rank
returns-then-branch-clause-rank g c = rank_of_same c.args.version.now c.args.id (g.T.Tree.meaning c.args.tree.now) c.in_ok-has_intact.ensures.any_moment

pub returns-clause-rank : goal.returns-clause-rank
returns-clause-rank g c = rank_of c.args.version.now c.args.id (g.T.Tree.meaning c.args.tree.now)
    (λ tells. (g.met.H.Host.lawful tells c.args.host.now).reads c.args.i.0)
    (λ tells. let is = c.in_ok-has_intact.ensures.unsound tells c.if-branch.false in unsound_not_intact none_of_an_image one_image _ _ _ is.0 is.1)
    (work_then c.in_ok-has_intact.ensures.any_moment c.replace_image.ensures.any_moment)

pub returns-clause-ok : goal.returns-clause-ok
returns-clause-ok g c = λ tells has. written_then c.args.i.0 c.args.version.now c.args.id (g.T.Tree.meaning c.args.tree.now)
    (g.H.Host.state c.args.host.now) (g.H.Host.state c.has_intact.new.host) (g.H.Host.state c.replace_image.new.host) _
    (let is = c.in_ok-has_intact.ensures.unsound tells c.if-branch.false in unsound_not_intact none_of_an_image one_image _ _ _ is.0 is.1)
    (c.in_ok-has_intact.ensures.any_moment.ends tells) (c.in_ok-has_intact.ensures.kept tells) (c.replace_image.ensures.ok tells (still_has (c.in_ok-has_intact.ensures.any_moment.ends tells) has))

pub returns-then-branch-clause-intact : goal.returns-then-branch-clause-intact
returns-then-branch-clause-intact g c = λ tells has only. was_intact c.args.i.0 c.args.version.now c.args.id (g.T.Tree.meaning c.args.tree.now)
    (g.H.Host.state c.args.host.now) (g.H.Host.state c.has_intact.new.host)
    (c.in_ok-has_intact.ensures.there tells c.if-branch.true) (c.in_ok-has_intact.ensures.kept tells) only

pub returns-clause-intact : goal.returns-clause-intact
returns-clause-intact g c = λ tells has only. written_intact c.args.i.0 c.args.version.now c.args.id (g.T.Tree.meaning c.args.tree.now)
    (g.H.Host.state c.has_intact.new.host) (g.H.Host.state c.replace_image.new.host) _ (c.replace_image.ensures.ok tells (still_has (c.in_ok-has_intact.ensures.any_moment.ends tells) has))

pub returns-then-branch-clause-rank_after : goal.returns-then-branch-clause-rank_after
returns-then-branch-clause-rank_after g c = λ tells. ranked_still c.args.i.0 c.args.version.now c.args.id (g.T.Tree.meaning c.args.tree.now) (g.H.Host.state c.args.host.now) (g.H.Host.state c.has_intact.new.host) (c.in_ok-has_intact.ensures.kept tells)

pub returns-clause-rank_after : goal.returns-clause-rank_after
returns-clause-rank_after g c = λ tells. ranked_then c.args.i.0 c.args.version.now c.args.id (g.T.Tree.meaning c.args.tree.now)
    (g.H.Host.state c.args.host.now) (g.H.Host.state c.has_intact.new.host) (g.H.Host.state c.replace_image.new.host) _
    (g.met.H.Host.lawful tells c.args.host.now) (g.met.H.Host.lawful tells c.replace_image.new.host)
    (let is = c.in_ok-has_intact.ensures.unsound tells c.if-branch.false in unsound_not_intact none_of_an_image one_image _ _ _ is.0 is.1)
    (((work_then c.in_ok-has_intact.ensures.any_moment c.replace_image.ensures.any_moment).ends tells).beside.subs Current) (c.in_ok-has_intact.ensures.kept tells)
    (λ has. c.replace_image.ensures.ok tells (still_has (c.in_ok-has_intact.ensures.any_moment.ends tells) has))
