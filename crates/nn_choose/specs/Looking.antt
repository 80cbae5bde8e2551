-- What looking at directories leaves: nothing is changed, whatever it answers.
use Rattle.std.specs.Prelude.{◌≡◌, ◌≢◌, ℕ, Result, Ok, Err}
use Rattle.nn_host.specs.Moments.{State}
use Rattle.nn_host.specs.Runs.{Untouched, Unspoken, SameCounts, RoseAt}
use Rattle.nn_pick.specs.declared.fault.OpenFault.{OpenFault}
use Rattle.nn_pick.specs.declared.fault.OpenFault.TheVariants.{Refused, Failed, Memory}
use Rattle.nn_pick.specs.Dirs.{Dirs}

-- the directories of a host, as they read
abbrev pub dirs_read : State → Dirs
dirs_read s = record { count = s.count; at = s.reads }

-- From old to new each call was answered: no directory was changed at any moment, each reads as before, and nothing was said.
pub record OnlyLooked (told : Type 0) (old new : State) : Type 0 where
  pub untouched : Untouched told old new
  pub quiet : Unspoken told old new
  pub counts : SameCounts old new
  pub reads : told → (j : ℕ) → new.reads j ≡ old.reads j

-- The same, but that the last call, which was on directory i, failed.
pub record LookFailed (told : Type 0) (i : ℕ) (old new : State) : Type 0 where
  pub untouched : Untouched told old new
  pub quiet : Unspoken told old new
  pub rose : RoseAt i old new
  pub reads : told → (j : ℕ) → j ≢ i → new.reads j ≡ old.reads j

-- by the fault: a call failed exactly where that says so, and on the directory that it names
abbrev pub LookedUntil : Type 0 → State → State → OpenFault → Type 0
LookedUntil told old new (Refused refusal) = OnlyLooked told old new
LookedUntil told old new (Failed i) = LookFailed told i.0 old new
LookedUntil told old new Memory = OnlyLooked told old new

-- by the answer
abbrev pub LookedBy : {T : Type 0} → Type 0 → State → State → Result T OpenFault → Type 0
LookedBy told old new (Ok value) = OnlyLooked told old new
LookedBy told old new (Err fault) = LookedUntil told old new fault
