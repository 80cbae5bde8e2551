use Rattle.std.proofs.Common.{◌≡◌, ◌≤◌, ◌+◌, ◌*◌, ◌++◌, length, vec_len, vec_capacity}
use Rattle.nn_base.specs.DirSets.{has}
use Rattle.nn_script.specs.Spelling.{dir_lines, max_dir_line}
use Rattle.nn_say.proofs.answering.put_dirs.Given as goal

-- the lines of the directories so far
abbrev pub invariant-loop-i : goal.invariant-loop-i
invariant-loop-i l = record {
  text : l.out.items ≡ l.fn.out.items ++ dir_lines (has l.live) l.i;
  size : vec_len l.out ≤ vec_len l.fn.out + max_dir_line * l.i;
  short : length (dir_lines (has l.live) l.i) ≤ max_dir_line * l.i;
  room : vec_capacity l.fn.out ≤ vec_capacity l.out;
}
