use Rattle.std.proofs.Common.{◌≡◌, length}
use Rattle.std.specs.Str.Lines.{lines}
use Rattle.nn_marks.specs.Version.{value_of}
use Rattle.nn_marks.proofs.lines.value_of.Given as goal

abbrev pub invariant-lines : goal.invariant-lines
invariant-lines l = value_of l.key (lines l.rest) ≡ value_of l.key (lines l.text)

abbrev pub decreases-lines : goal.decreases-lines
decreases-lines l = length l.rest
