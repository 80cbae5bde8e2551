-- What every command says of its run, whatever it does: what it said, how the output fared, and that its own record holds.
use Rattle.std.specs.Prelude.{◌≡◌, ℕ, Bool, true, false, List, ◌++◌, Option, Some, None, if◌then◌else◌}
use Rattle.nn_base.specs.Paths.{Bytes}
use Rattle.nn_host.specs.Moments.{Entry, State, faults_at}
use Rattle.nn_host.specs.Calls.{next_count}
use Rattle.nn_host.specs.Runs.{Untouched, OutWhole, SilentAfter, SameCounts, RoseAt}
use Rattle.nn_server.specs.declared.status.Status.{Status}
use Rattle.nn_server.specs.declared.status.Status.TheVariants.{OutFault}

abbrev pub is_out_fault : Status → Bool
is_out_fault OutFault = true
is_out_fault status = false

-- these lines were said from old to new; the output failed exactly where the status tells so, and after that nothing was said
pub record Speaks (told : Type 0) (old new : State) (lines : Bytes) (status : Status) : Type 0 where
  pub said : told → new.now.said ≡ old.now.said ++ lines
  pub counted : new.now.out_faults ≡ (if is_out_fault status then next_count old.now.out_faults else old.now.out_faults)
  pub silent : SilentAfter told old new
  pub whole : is_out_fault status ≡ false → OutWhole told old new

-- a command came to this end, which has this status: it said some lines, and what its record tells of them, of the record of calls
-- and of the end holds
pub record CameTo {End : Type 0} (told : Type 0) (old new : State) (status_of : End → Status) (Ran : Bytes → List Entry → End → Type 0) (end : End) : Type 0 where
  pub lines : Bytes
  pub speaks : Speaks told old new lines (status_of end)
  pub ran : Ran lines new.trace end

-- from old to new no directory was changed at any moment, none failed, and each reads as before
pub record TouchesNoDir (told : Type 0) (old new : State) : Type 0 where
  pub kept : Untouched told old new
  pub faults : (j : ℕ) → faults_at new j ≡ faults_at old j
  pub reads : told → (j : ℕ) → new.reads j ≡ old.reads j

-- which directory's count of faults rose: this one's alone, or none
abbrev pub Counts : Option ℕ → State → State → Type 0
Counts None old new = SameCounts old new
Counts (Some i) old new = RoseAt i old new
