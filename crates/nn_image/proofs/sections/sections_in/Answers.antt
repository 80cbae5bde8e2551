use Rattle.std.proofs.Common.{arith, sym, ◌∙◌}
use Rattle.nn_message.specs.FrameViews.{sections_seen}
use Rattle.nn_image.proofs.HasLemmas.{framed_short, has_summary, is_plain, has_sections, sections_cut}
use Rattle.nn_image.proofs.sections.sections_in.Goals as goal

pub cut_sections-requires : goal.cut_sections-requires
cut_sections-requires c = let short = (framed_short c.args.bytes.now c.in_ok-framed.framed.text.now c.in_ok-framed.framed.summary.now c.in_ok-framed.ensures.ok).0 in omega (arith, short)

pub returns-in-Some-cut_sections-clause-ok : goal.returns-in-Some-cut_sections-clause-ok
returns-in-Some-cut_sections-clause-ok c =
    let found = c.in-Some.ensures.some in
    let has = has_summary c.args.bytes.now c.in_ok-framed.framed.text.now c.in_ok-framed.framed.summary.now found.0 c.in_ok-framed.ensures.ok found.1 found.2 in
    has_sections c.args.bytes.now c.in_ok-framed.framed.text.now c.args.layout found.0 (sections_seen c.in-Some-cut_sections.sections) has (sym c.if-summary.false ∙ found.3.codec)
    (sym found.3.layout ∙ c.if-summary-from.false ∙ c.from.ensures) c.in-Some-cut_sections.ensures.some.0 (sym found.3.places ∙ c.in-Some-cut_sections.ensures.some.1)

pub returns-in-None-clause-err : goal.returns-in-None-clause-err
returns-in-None-clause-err c =
    let found = c.in-Some.ensures.some in
    let has = has_summary c.args.bytes.now c.in_ok-framed.framed.text.now c.in_ok-framed.framed.summary.now found.0 c.in_ok-framed.ensures.ok found.1 found.2 in (
      c.in_ok-framed.framed.text.now,
      found.0,
      is_plain c.args.bytes.now c.in_ok-framed.framed.text.now found.0 has (sym c.if-summary.false ∙ found.3.codec),
      sym found.3.layout ∙ c.if-summary-from.false ∙ c.from.ensures,
      (λ sections cut.
          let same = sections_cut c.args.bytes.now c.in_ok-framed.framed.text.now c.args.layout found.0 sections has cut in
          c.in-None.ensures.none sections same.0 (found.3.places ∙ same.1)),
    )
