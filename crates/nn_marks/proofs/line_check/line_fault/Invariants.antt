use Rattle.std.proofs.Common.{◌≡◌, ◌+◌, ◌≤◌, length, take, drop}
use Rattle.std.specs.Str.Lines.{lines}
use Rattle.nn_marks.specs.Given.{Marks}
use Rattle.nn_base.specs.First.{first_of}
use Rattle.nn_marks.specs.VersionFaults.{line_faults}
use Rattle.nn_marks.proofs.LineFaults.{faults_from}
use Rattle.nn_marks.proofs.line_check.line_fault.Given as goal

abbrev pub invariant-lines : goal.invariant-lines
invariant-lines l = record {
  marks : Marks l.given (take l.number (lines l.text));
  rest : lines l.rest ≡ drop l.number (lines l.text);
  counted : l.number + length l.rest ≤ length l.text;
  faults : faults_from (lines l.text) l.number ≡ first_of (line_faults (lines l.text));
}

abbrev pub decreases-lines : goal.decreases-lines
decreases-lines l = length l.rest
