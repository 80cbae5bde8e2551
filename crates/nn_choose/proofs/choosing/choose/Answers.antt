use Rattle.std.proofs.Common.{◌∙◌, sym, subst}
use Rattle.std.specs.Prelude.{length}
use Rattle.nn_base.specs.DirSets.{has}
use Rattle.nn_pick.specs.declared.intent.Intent.TheVariants.{Start}
use Rattle.nn_pick.specs.Dirs.{Dirs, IsGreatestSeen}
use Rattle.nn_choose.specs.Looking.{dirs_read}
use Rattle.nn_choose.specs.Served.{AreServed, IsLeadBelow}
use Rattle.nn_choose.specs.Picking.{IsRefusedTruly}
use Rattle.nn_choose.proofs.AheadLemmas.{refuses_bare, passed_versions}
use Rattle.nn_choose.proofs.AnswerLemmas.{anyway_unrefused}
use Rattle.nn_choose.proofs.ChosenLemmas.{cut_refuses, chooses}
use Rattle.nn_choose.proofs.LookingLemmas.{looked_on, looked_fault, looked_trans, handed_on, moved, moved_back}
use Rattle.nn_choose.proofs.choosing.choose.Goals as goal

-- ---- none is formatted, or two don't go together

pub returns-in_default-clause-refused : goal.returns-in_default-clause-refused
returns-in_default-clause-refused g c = λ tells. refuses_bare (dirs_read (g.H.Host.state c.args.host.now)) c.args.served.now (c.requires.served tells) (subst (IsLeadBelow c.args.served.now (length c.args.served.now)) c.in_default.is c.lead_of.ensures) (c.requires.passed tells) Start

pub returns-in-Some-clash-clause-refused : goal.returns-in-Some-clash-clause-refused
returns-in-Some-clash-clause-refused g c = λ tells.
    let lead = subst (IsLeadBelow c.args.served.now (length c.args.served.now)) c.in-Some.is c.lead_of.ensures in
    c.in-Some-clash.ensures.some (dirs_read (g.H.Host.state c.args.host.now)) Start (c.requires.served tells) (passed_versions (dirs_read (g.H.Host.state c.args.host.now)) c.args.served.now (c.requires.served tells) c.in-Some.lead lead (c.requires.passed tells))

-- ---- loading

pub load_best-requires-clause-lead : goal.load_best-requires-clause-lead
load_best-requires-clause-lead g c = subst (IsLeadBelow c.args.served.now (length c.args.served.now)) c.in-Some.is c.lead_of.ensures

pub load_best-requires-clause-passed : goal.load_best-requires-clause-passed
load_best-requires-clause-passed g c = λ tells.
    let lead = subst (IsLeadBelow c.args.served.now (length c.args.served.now)) c.in-Some.is c.lead_of.ensures in
    c.in_default-clash.ensures.none (dirs_read (g.H.Host.state c.args.host.now)) (c.requires.served tells) (passed_versions (dirs_read (g.H.Host.state c.args.host.now)) c.args.served.now (c.requires.served tells) c.in-Some.lead lead (c.requires.passed tells))

pub returns-in_err-best-clause-refused : goal.returns-in_err-best-clause-refused
returns-in_err-best-clause-refused g c = λ tells. handed_on (IsRefusedTruly (dirs_read (g.H.Host.state c.args.host.now)) Start) c.from_residual.result c.in_err-best.field-0.0 c.from_residual.ensures.1 (c.in_err-best.ensures.refused tells Start)

pub returns-in_err-best-clause-kept : goal.returns-in_err-best-clause-kept
returns-in_err-best-clause-kept g c = looked_on g.H.Host.told (g.H.Host.state c.args.host.now) (g.H.Host.state c.load_best.new.host) c.from_residual.result c.in_err-best.field-0.0 c.from_residual.ensures.1 c.in_err-best.ensures.kept

-- ---- seen_txid

pub greatest_seen-requires-clause-count : goal.greatest_seen-requires-clause-count
greatest_seen-requires-clause-count g c = c.requires.count ∙ sym c.in_ok-best.ensures.kept.untouched.count

pub greatest_seen-requires-clause-lead : goal.greatest_seen-requires-clause-lead
greatest_seen-requires-clause-lead g c = subst (IsLeadBelow c.args.served.now (length c.args.served.now)) c.in-Some.is c.lead_of.ensures

pub greatest_seen-requires-clause-served : goal.greatest_seen-requires-clause-served
greatest_seen-requires-clause-served g c = λ tells. moved (λ dirs. AreServed dirs c.args.served.now) c.in_ok-best.ensures.kept tells (c.requires.served tells)

pub returns-in_err-seen-clause-refused : goal.returns-in_err-seen-clause-refused
returns-in_err-seen-clause-refused g c = λ tells. handed_on (IsRefusedTruly (dirs_read (g.H.Host.state c.args.host.now)) Start) c.from_residual-in_err-seen.result c.in_err-seen.field-0.0 c.from_residual-in_err-seen.ensures.1
    (anyway_unrefused (dirs_read (g.H.Host.state c.args.host.now)) c.in_err-seen.field-0.0 c.in_err-seen.ensures.unrefused Start)

pub returns-in_err-seen-clause-kept : goal.returns-in_err-seen-clause-kept
returns-in_err-seen-clause-kept g c = looked_fault g.H.Host.told (g.H.Host.state c.args.host.now) (g.H.Host.state c.load_best.new.host) (g.H.Host.state c.greatest_seen.new.host) c.from_residual-in_err-seen.result c.in_err-seen.field-0.0 c.from_residual-in_err-seen.ensures.1 c.in_ok-best.ensures.kept c.in_err-seen.ensures.kept

-- ---- the end

pub returns-in-Some-cut-clause-refused : goal.returns-in-Some-cut-clause-refused
returns-in-Some-cut-clause-refused g c = λ tells.
    let dirs = dirs_read (g.H.Host.state c.args.host.now) in
    let lead = subst (IsLeadBelow c.args.served.now (length c.args.served.now)) c.in-Some.is c.lead_of.ensures in
    let passed = c.in_default-clash.ensures.none dirs (c.requires.served tells) (passed_versions dirs c.args.served.now (c.requires.served tells) c.in-Some.lead lead (c.requires.passed tells)) in
    cut_refuses dirs (g.T.Tree.meaning c.in_ok-best.best.tree) c.in_ok-best.best.last c.in_ok-best.best.version (has c.in_ok-best.best.dirs) (c.in_ok-best.ensures.ok tells) passed c.in_ok-seen.seen
    (moved_back (λ (d : Dirs). IsGreatestSeen d c.in_ok-seen.seen) c.in_ok-best.ensures.kept tells (c.in_ok-seen.ensures.ok tells)) c.in-Some-cut.refusal c.in-Some-cut.ensures.some Start

pub returns-in-Some-cut-clause-kept : goal.returns-in-Some-cut-clause-kept
returns-in-Some-cut-clause-kept g c = looked_trans c.in_ok-best.ensures.kept c.in_ok-seen.ensures.kept

pub returns-in-None-clause-ok : goal.returns-in-None-clause-ok
returns-in-None-clause-ok g c = λ tells.
    let dirs = dirs_read (g.H.Host.state c.args.host.now) in
    let lead = subst (IsLeadBelow c.args.served.now (length c.args.served.now)) c.in-Some.is c.lead_of.ensures in
    let passed = c.in_default-clash.ensures.none dirs (c.requires.served tells) (passed_versions dirs c.args.served.now (c.requires.served tells) c.in-Some.lead lead (c.requires.passed tells)) in
    chooses dirs (g.T.Tree.meaning c.in_ok-best.best.tree) c.in_ok-best.best.last c.in_ok-best.best.version (has c.in_ok-best.best.dirs) (c.in_ok-best.ensures.ok tells) passed c.in_ok-seen.seen
    (moved_back (λ (d : Dirs). IsGreatestSeen d c.in_ok-seen.seen) c.in_ok-best.ensures.kept tells (c.in_ok-seen.ensures.ok tells)) c.in-None.ensures.none.0 c.in-None.ensures.none.1

pub returns-in-None-clause-kept : goal.returns-in-None-clause-kept
returns-in-None-clause-kept g c = looked_trans c.in_ok-best.ensures.kept c.in_ok-seen.ensures.kept
