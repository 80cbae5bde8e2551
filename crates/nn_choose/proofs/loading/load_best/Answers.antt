use Rattle.std.proofs.Common.{◌≡◌, ◌+◌, ◌≤◌, arith}
use Rattle.nn_choose.specs.Looking.{dirs_read}
use Rattle.nn_choose.specs.Picking.{IsRefusedAnyway}
use Rattle.nn_choose.proofs.AnswerLemmas.{anyway_unrefused}
use Rattle.nn_choose.proofs.LookingLemmas.{looked_on, looked_fault, handed_on}
use Rattle.nn_choose.proofs.LoadingLemmas.{loading_begins, loading_skips, loading_more, chain_best, chain_imaged, chain_within, no_image_refused, no_image_told}
use Rattle.nn_choose.proofs.loading.load_best.Goals as goal

-- ---- the first

pub returns-in_err-best-clause-refused : goal.returns-in_err-best-clause-refused
returns-in_err-best-clause-refused g c = λ tells. handed_on (IsRefusedAnyway (dirs_read (g.H.Host.state c.args.host.now))) c.from_residual.result c.in_err-best.field-0.0 c.from_residual.ensures.1
    (anyway_unrefused (dirs_read (g.H.Host.state c.args.host.now)) c.in_err-best.field-0.0 c.in_err-best.ensures.unrefused)

pub returns-in_err-best-clause-kept : goal.returns-in_err-best-clause-kept
returns-in_err-best-clause-kept g c = looked_on g.H.Host.told (g.H.Host.state c.args.host.now) (g.H.Host.state c.load_at.new.host) c.from_residual.result c.in_err-best.field-0.0 c.from_residual.ensures.1 c.in_err-best.ensures.kept

pub loop-i-init : goal.loop-i-init
loop-i-init g c = loading_begins g.T.Tree.meaning c.args.served.now c.requires.served c.args.lead.now c.requires.lead c.in_ok-best.best c.in_ok-best.ensures.kept c.in_ok-best.ensures.ok c.in_ok-best.ensures.one c.in_ok-best.ensures.sound

-- ---- the others

pub load_at-requires-in-loop-i-clause-below : goal.load_at-requires-in-loop-i-clause-below
load_at-requires-in-loop-i-clause-below g c = omega (arith, c.loop-i-test.true, c.count-i-end.ensures.count, c.loop-i.invariant.looked.untouched.count, c.in_ok-best.ensures.kept.untouched.count)

pub load_at-requires-in-loop-i-clause-few : goal.load_at-requires-in-loop-i-clause-few
load_at-requires-in-loop-i-clause-few g c = omega (arith, c.loop-i-test.true, c.count-i-end.ensures.few)

pub returns-in_err-next-clause-refused : goal.returns-in_err-next-clause-refused
returns-in_err-next-clause-refused g c = λ tells. handed_on (IsRefusedAnyway (dirs_read (g.H.Host.state c.args.host.now))) c.from_residual-in_err-next.result c.in_err-next.field-0.0 c.from_residual-in_err-next.ensures.1
    (anyway_unrefused (dirs_read (g.H.Host.state c.args.host.now)) c.in_err-next.field-0.0 c.in_err-next.ensures.unrefused)

pub returns-in_err-next-clause-kept : goal.returns-in_err-next-clause-kept
returns-in_err-next-clause-kept g c = looked_fault g.H.Host.told (g.H.Host.state c.args.host.now) (g.H.Host.state c.loop-i.host) (g.H.Host.state c.load_at-in-loop-i.new.host) c.from_residual-in_err-next.result c.in_err-next.field-0.0 c.from_residual-in_err-next.ensures.1 c.loop-i.invariant.looked c.in_err-next.ensures.kept

pub loop-i-preserved : goal.loop-i-preserved
loop-i-preserved g c = loading_more g.T.Tree.meaning c.args.served.now c.requires.served c.args.lead.now c.requires.lead c.loop-i.invariant c.in-Some.it c.in_ok-next.next c.better-best.result c.in_ok-next.ensures.kept
    c.in-Some.ensures.some.0 c.in-Some.ensures.some.1 c.in_ok-next.ensures.ok c.better-best.ensures.best c.better-best.ensures.first c.in_ok-next.ensures.sound c.better-best.ensures.sound

pub loop-i-preserved-in_default : goal.loop-i-preserved-in_default
loop-i-preserved-in_default g c = loading_skips g.T.Tree.meaning c.args.served.now c.requires.served c.args.lead.now c.requires.lead c.loop-i.invariant c.in_default.ensures.none

-- ---- all of them

pub returns-in-Chain : goal.returns-in-Chain
returns-in-Chain g c =
    let le : c.args.lead.now.dir.0 + 1 ≤ c.count-i-end.result = omega (arith, c.requires.lead.below, c.requires.count, c.count-i-end.ensures.count, c.in_ok-best.ensures.kept.untouched.count) in
    let whole : c.loop-i.i ≡ (g.H.Host.state c.args.host.now).count = omega (arith, c.loop-i.auto.i-end le, c.loop-i-test.false, c.count-i-end.ensures.count, c.in_ok-best.ensures.kept.untouched.count) in
    record {
      ok = chain_best g.T.Tree.meaning c.loop-i.invariant whole c.in-Chain.reached c.in-Chain.is;
      imaged = chain_imaged g.T.Tree.meaning c.loop-i.invariant whole c.in-Chain.reached c.in-Chain.is;
      within = chain_within g.T.Tree.meaning c.loop-i.invariant whole c.in-Chain.reached c.in-Chain.is;
      refused = λ tells. tt;
      memory = tt;
      kept = c.loop-i.invariant.looked;
    }

pub returns-in-NoImage : goal.returns-in-NoImage
returns-in-NoImage g c =
    let le : c.args.lead.now.dir.0 + 1 ≤ c.count-i-end.result = omega (arith, c.requires.lead.below, c.requires.count, c.count-i-end.ensures.count, c.in_ok-best.ensures.kept.untouched.count) in
    let whole : c.loop-i.i ≡ (g.H.Host.state c.args.host.now).count = omega (arith, c.loop-i.auto.i-end le, c.loop-i-test.false, c.count-i-end.ensures.count, c.in_ok-best.ensures.kept.untouched.count) in
    record {
      ok = λ tells. tt;
      imaged = tt;
      within = tt;
      memory = no_image_told g.T.Tree.meaning c.loop-i.invariant c.in-NoImage.why c.in-NoImage.is c.args.lead.now.dir;
      refused = no_image_refused g.T.Tree.meaning c.args.served.now c.requires.served c.args.lead.now c.requires.lead c.loop-i.invariant whole c.in-NoImage.why c.in-NoImage.is c.requires.passed;
      kept = c.loop-i.invariant.looked;
    }
