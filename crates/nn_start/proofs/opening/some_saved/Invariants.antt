use Rattle.std.proofs.Common.{◌≡◌, ℕ, ◌<◌, true, false}
use Rattle.nn_base.specs.DirSets.{has}
use Rattle.nn_base.specs.declared.sub.Sub.TheVariants.{Previous}
use Rattle.nn_host.specs.Disk.{Disk}
use Rattle.nn_state.specs.declared.typed.Settled.{Settled}
use Rattle.nn_state.specs.Typed.{FitsSettled, dir_in}
use Rattle.nn_state.specs.Bays.{IsAt}
use Rattle.nn_start.proofs.opening.some_saved.Given as goal

abbrev pub invariant-loop-at : goal.invariant-loop-at
invariant-loop-at l = (k : ℕ) (it : Settled) → k < l.at-index → IsAt l.bay.at.items k it → has l.chosen (dir_in it).0 ≡ true → (d : Disk) → FitsSettled it d → d.has Previous ≡ false
