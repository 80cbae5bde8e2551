-- Each turn looks at the line of its number, with the lines before it marked.
use Rattle.std.proofs.Common.{sym, ◌∙◌, subst, arith, refl, take}
use Rattle.std.specs.Str.Lines.{lines}
use Rattle.nn_marks.specs.Given.{Marks}
use Rattle.nn_marks.proofs.KeysLemmas.{marks_none}
use Rattle.nn_marks.proofs.LinesLemmas.{no_lines}
use Rattle.nn_marks.proofs.LineFaults.{faults_from_none, faults_pass, faults_stop, faults_end, line_at, bad_line, twice_line, fine_line}
use Rattle.nn_marks.proofs.line_check.line_fault.Goals as goal

pub lines-init : goal.lines-init
lines-init c = record { marks = marks_none; rest = refl; counted = omega arith; faults = faults_from_none (lines c.args.text.now) }

pub returns-then-is_bad : goal.returns-then-is_bad
returns-then-is_bad c =
    let at = sym c.lines.invariant.rest ∙ c.first_line.ensures.lines in
    let here = line_at (lines c.args.text.now) c.lines.number _ _ at in
    sym (faults_stop _ c.lines.number _ _ _ at (bad_line (take c.lines.number (lines c.args.text.now)) c.first_line.result.0.now c.lines.number c.if-is_bad.ensures here.counted)) ∙ c.lines.invariant.faults

pub returns-in-Some : goal.returns-in-Some
returns-in-Some c =
    let before = take c.lines.number (lines c.args.text.now) in
    let at = sym c.lines.invariant.rest ∙ c.first_line.ensures.lines in
    sym (faults_stop _ c.lines.number _ _ _ at (twice_line before c.first_line.result.0.now c.in-Some.key c.if-is_bad.ensures (c.in-Some.ensures.twice before c.lines.invariant.marks))) ∙ c.lines.invariant.faults

pub lines-preserved : goal.lines-preserved
lines-preserved c =
    let before = take c.lines.number (lines c.args.text.now) in
    let at = sym c.lines.invariant.rest ∙ c.first_line.ensures.lines in
    let here = line_at (lines c.args.text.now) c.lines.number _ _ at in
    let once = c.in_default.ensures.twice before c.lines.invariant.marks in
    record {
      marks = subst (Marks c.twice.new.given) (sym here.before) (c.in_default.ensures.given before c.lines.invariant.marks refl);
      rest = sym here.behind;
      counted = omega arith;
      faults = sym (faults_pass (lines c.args.text.now) c.lines.number _ _ at (fine_line before c.first_line.result.0.now c.if-is_bad.ensures once)) ∙ c.lines.invariant.faults;
    }

pub returns : goal.returns
returns c = sym (faults_end (lines c.args.text.now) c.lines.number (sym c.lines.invariant.rest ∙ no_lines c.lines.rest.now c.lines-test.ensures)) ∙ c.lines.invariant.faults
