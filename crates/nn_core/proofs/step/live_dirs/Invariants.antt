use Rattle.std.proofs.Common.{◌≡◌, ℕ, ◌<◌, ◌≤◌, false}
use Rattle.nn_base.specs.DirSets.{has}
use Rattle.nn_core.proofs.step.live_dirs.Given as goal

-- those so far are as in the journal, and the others aren't there yet
abbrev pub invariant-loop-i : goal.invariant-loop-i
invariant-loop-i l = record {
  known : (j : ℕ) → j < l.i → has l.live j ≡ has l.journal.live j;
  rest : (j : ℕ) → l.i ≤ j → has l.live j ≡ false;
}
