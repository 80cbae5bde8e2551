use Rattle.std.proofs.Common.{◌≡◌, ◌==◌, ◌≤◌, drop, length}
use Rattle.std.specs.List.{list_all, list_any}
use Rattle.nn_script.specs.Words.{words, is_line_byte}
use Rattle.nn_script.proofs.GapLemmas.{has_gap}
use Rattle.nn_script.proofs.line.look_at.Given as goal

abbrev pub invariant-loop-i : goal.invariant-loop-i
invariant-loop-i l = record {
  text : list_all is_line_byte l.line ≡ list_all is_line_byte (drop l.i l.line);
  gap : list_any (λ word. length word == 0) (words l.line) ≡ has_gap (l.begin == l.i) (drop l.i l.line);
  behind : l.begin ≤ l.i;
}
