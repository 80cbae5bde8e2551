use Rattle.std.proofs.Common.{ℕ, List, Option, refl, ◌∙◌}
use Rattle.nn_host.proofs.RunsLemmas.{looked_then}
use Rattle.nn_host.proofs.WorkLemmas.{still_then}
use Rattle.nn_chain.proofs.ReadLemmas.{handed_on, looked_on, looked_still, may_be, told_anyhow}
use Rattle.nn_chain.proofs.DigestLemmas.{digest_differs, not_equal}
use Rattle.nn_chain.proofs.image.read_image.Goals as goal

pub returns-in_err-image_within-clause-err : goal.returns-in_err-image_within-clause-err
returns-in_err-image_within-clause-err g c = λ tells. handed_on _ _ _ c.from_residual.ensures.1 (c.in_err-image_within.ensures.err tells c.args.version.now)

pub returns-in_err-digest-clause-kept : goal.returns-in_err-digest-clause-kept
returns-in_err-digest-clause-kept g c = looked_on (Option (List ℕ)) _ _ c.from_residual-in_err-digest.ensures.1 (looked_then c.in_ok-image_within.ensures.kept c.in_err-digest.ensures.kept)

pub returns-in_default-clause-kept : goal.returns-in_default-clause-kept
returns-in_default-clause-kept g c = looked_then c.in_ok-image_within.ensures.kept c.in_ok-digest.ensures.kept

pub returns-in_err-bytes-clause-err : goal.returns-in_err-bytes-clause-err
returns-in_err-bytes-clause-err g c = λ tells.
    let old = (g.H.Host.state c.args.host.now).reads c.args.i.0 in
    let one = (g.H.Host.state c.image_within.new.host).reads c.args.i.0 in
    let two = (g.H.Host.state c.digest_in.new.host).reads c.args.i.0 in
    let first = c.in_ok-image_within.ensures.kept.reads tells refl in
    told_anyhow old two c.args.sub c.args.version.now c.args.id _ _ (c.in_ok-digest.ensures.kept.reads tells refl ∙ first) c.from_residual-in_err-bytes.ensures.1 (c.in_err-bytes.ensures.err tells)
    (may_be old one c.args.sub c.args.id _ c.in-Some.digest first (c.in_ok-image_within.ensures.ok tells) (c.in_ok-digest.ensures.ok tells) c.in-Some.is)

pub returns-in_err-bytes-clause-kept : goal.returns-in_err-bytes-clause-kept
returns-in_err-bytes-clause-kept g c = looked_on (List ℕ) _ _ c.from_residual-in_err-bytes.ensures.1 (looked_then (looked_then c.in_ok-image_within.ensures.kept c.in_ok-digest.ensures.kept) c.in_err-bytes.ensures.kept)

pub returns-in_err-bytes-clause-any_moment : goal.returns-in_err-bytes-clause-any_moment
returns-in_err-bytes-clause-any_moment g c = still_then (still_then c.in_ok-image_within.ensures.any_moment c.in_ok-digest.ensures.any_moment) c.in_err-bytes.ensures.any_moment

pub returns-then-eq-clause-kept : goal.returns-then-eq-clause-kept
returns-then-eq-clause-kept g c = looked_still _ _ _ c.load_as.result c.load_as.ensures.err (looked_then (looked_then c.in_ok-image_within.ensures.kept c.in_ok-digest.ensures.kept) c.in_ok-bytes.ensures.kept)

pub returns-then-eq-clause-any_moment : goal.returns-then-eq-clause-any_moment
returns-then-eq-clause-any_moment g c = still_then (still_then c.in_ok-image_within.ensures.any_moment c.in_ok-digest.ensures.any_moment) c.in_ok-bytes.ensures.any_moment

pub returns-clause-err : goal.returns-clause-err
returns-clause-err g c = λ tells.
    let old = (g.H.Host.state c.args.host.now).reads c.args.i.0 in
    let one = (g.H.Host.state c.image_within.new.host).reads c.args.i.0 in
    let two = (g.H.Host.state c.digest_in.new.host).reads c.args.i.0 in
    let first = c.in_ok-image_within.ensures.kept.reads tells refl in
    digest_differs old one two c.args.sub c.args.version.now c.args.id _ c.in-Some.digest _ first (c.in_ok-digest.ensures.kept.reads tells refl ∙ first) (c.in_ok-digest.ensures.ok tells) c.in-Some.is (c.in_ok-bytes.ensures.ok tells) c.in_ok-bytes.ensures.small
    (λ e. not_equal c.digest.result c.in-Some.digest c.eq.result c.eq.ensures c.if-eq.false (c.digest.ensures ∙ e))

pub returns-clause-kept : goal.returns-clause-kept
returns-clause-kept g c = looked_then (looked_then c.in_ok-image_within.ensures.kept c.in_ok-digest.ensures.kept) c.in_ok-bytes.ensures.kept

pub returns-clause-any_moment : goal.returns-clause-any_moment
returns-clause-any_moment g c = still_then (still_then c.in_ok-image_within.ensures.any_moment c.in_ok-digest.ensures.any_moment) c.in_ok-bytes.ensures.any_moment
