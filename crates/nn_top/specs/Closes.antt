-- How each run is closed, whatever its command: what was said is some lines and the last line of its status, or a front of these.
use Rattle.std.specs.Prelude.{◌≡◌, ◌⊎◌, Bool, true, false, List, [], ◌∷◌, ◌++◌}
use Rattle.nn_base.specs.Paths.{Bytes}
use Rattle.nn_host.specs.Moments.{Entry, Event, Say, State}
use Rattle.nn_host.specs.Calls.{next_count}
use Rattle.nn_host.specs.Runs.{OutWhole, SilentAfter}
use Rattle.nn_server.specs.declared.status.Status.{Status}
use Rattle.nn_server.specs.declared.status.Status.TheVariants.{Ok, Refused, HostFault, Memory, OutFault}
use Rattle.nn_say.specs.Records.{Records}
use Rattle.nn_say.specs.Saying.{SaysFronts}
use Rattle.nn_server.specs.Came.{is_out_fault, TouchesNoDir}
use Rattle.nn_top.specs.Lines.{last_line}

-- the last line of this status has to be made, which takes memory
abbrev pub is_made : Status → Bool
is_made (Refused refusal) = true
is_made (HostFault i) = true
is_made status = false

-- the last line is that of the status, or that of want of memory in the place of one that has to be made
abbrev pub IsLast : Status → Status → Type 0
IsLast status last = (last ≡ status) ⊎ ((last ≡ Memory) × (is_made status ≡ true))

-- the call that says the last line; two statuses have none
abbrev pub last_call : Status → List Event
last_call Ok = []
last_call OutFault = []
last_call status = Say (last_line status) ∷ []

-- all was said, and the output didn't fail: the run ends by the status of its last line
pub record ClosesWhole (told : Type 0) (trace : List Entry) (old new : State) (lines : Bytes) (status result : Status) : Type 0 where
  pub is_last : IsLast status result
  pub unfailed : is_out_fault result ≡ false
  pub said : told → new.now.said ≡ old.now.said ++ (lines ++ last_line result)
  pub calls : told → Records (last_call result) trace new.trace
  pub counted : new.now.out_faults ≡ old.now.out_faults
  pub whole : OutWhole told old new

-- the output failed: behind the lines a front of the last one was said, and nothing after that; where it failed over a line of the
-- command, nothing more was asked of it
pub record ClosesCut (told : Type 0) (trace : List Entry) (old new : State) (lines : Bytes) (status result : Status) : Type 0 where
  pub last : Status
  pub is_last : IsLast status last
  pub failed : result ≡ OutFault
  pub said : told → (front : Bytes) × (later : Bytes) × (last_line last ≡ front ++ later) × (new.now.said ≡ old.now.said ++ (lines ++ front))
  pub calls : told → (asked : List Event) × ((asked ≡ []) ⊎ (asked ≡ last_call last)) × Records asked trace new.trace
  pub counted : new.now.out_faults ≡ next_count old.now.out_faults
  pub silent : SilentAfter told old new

-- a run whose command came to this status behind these lines, with this record of calls, ends by `result`
abbrev pub Closes : Type 0 → List Entry → State → State → Bytes → Status → Status → Type 0
Closes told trace old new lines status result = ClosesWhole told trace old new lines status result ⊎ ClosesCut told trace old new lines status result

-- ---- closing

-- what closing does, where the command came to this status: nothing where the output failed before, and else the last line, of
-- which a front was said at each moment
pub record Closing (told : Type 0) (old new : State) (status result : Status) : Type 0 where
  pub dirs : TouchesNoDir told old new
  pub last : Status
  pub is_last : IsLast status last
  pub fronts : SaysFronts told old new (last_line last)
  pub ends : ((status ≡ OutFault) × (result ≡ OutFault) × (new ≡ old)) ⊎ ((is_out_fault status ≡ false) × Closes told old.trace old new [] status result)
