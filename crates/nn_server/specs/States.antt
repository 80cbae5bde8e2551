-- What a run of `state` did: it names each directory's storage state, and the first that can't be worked on refuses.
use Rattle.std.specs.Prelude.{◌≡◌, ◌≢◌, ◌⊎◌, ◌<◌, ℕ, zero, suc, List, [], ◌∷◌, ◌++◌, All, Option, Some, None, Result}
use Rattle.nn_base.specs.Paths.{Bytes}
use Rattle.nn_host.specs.Disk.{Reads, Look}
use Rattle.nn_host.specs.Moments.{Entry, Event, State, On, Say}
use Rattle.nn_host.specs.Runs.{Untouched}
use Rattle.nn_state.specs.declared.state.StorageState.{StorageState}
use Rattle.nn_state.specs.declared.state.Why.{Why}
use Rattle.nn_state.specs.Table.{seven_of, table_of}
use Rattle.nn_pick.specs.declared.refusal.Refusal.{Refusal}
use Rattle.nn_pick.specs.Refused.{unusable, first_refused}
use Rattle.nn_server.specs.declared.status.Status.{Status}
use Rattle.nn_server.specs.declared.status.Status.TheVariants as status
use Rattle.nn_server.specs.declared.state_run.StateEnd.{StateEnd}
use Rattle.nn_server.specs.declared.state_run.StateEnd.TheVariants.{Done, Refused, HostFault, Memory, OutFault}
use Rattle.nn_server.specs.Lines.{state_line}
use Rattle.nn_say.specs.Records.{Records}
use Rattle.nn_server.specs.Came.{Counts}

-- what the table says of directory i
abbrev pub found : (ℕ → Reads) → ℕ → Result StorageState Why
found dirs i = table_of (seven_of (dirs i))

-- the lines of the first n directories
abbrev pub state_lines : (ℕ → Reads) → ℕ → Bytes
state_lines dirs zero = []
state_lines dirs (suc n) = state_lines dirs n ++ state_line n (found dirs n)

-- which of the first n directories is the first that can't be worked on, and why
abbrev pub first_unusable : (ℕ → Reads) → ℕ → Option Refusal
first_unusable dirs n = first_refused (λ i. unusable i (found dirs i)) n

abbrev pub state_status : StateEnd → Status
state_status Done = status.Ok
state_status (Refused refusal) = status.Refused refusal
state_status (HostFault i) = status.HostFault i
state_status Memory = status.Memory
state_status OutFault = status.OutFault

-- what it said of n directories that read so, where the lines of the first `named` were said whole: those of all, or of the ones
-- before the one that failed; where the output failed, a front of the next line behind them
abbrev pub StateSays : (ℕ → Reads) → ℕ → ℕ → Bytes → StateEnd → Type 0
StateSays dirs n named lines Done = (first_unusable dirs n ≡ None) × (named ≡ n) × (lines ≡ state_lines dirs named)
StateSays dirs n named lines (Refused refusal) = (first_unusable dirs n ≡ Some refusal) × (named ≡ n) × (lines ≡ state_lines dirs named)
StateSays dirs n named lines (HostFault i) = (named < n) × (named ≡ i.0) × (lines ≡ state_lines dirs named)
StateSays dirs n named lines Memory = (named < n) × (lines ≡ state_lines dirs named)
StateSays dirs n named lines OutFault =
    (named < n) × ((front : Bytes) × (later : Bytes) × (state_line named (found dirs named) ≡ front ++ later) × (lines ≡ state_lines dirs named ++ front))

-- each of these calls looks at directory n
abbrev pub LooksAt : ℕ → List Event → Type 0
LooksAt n calls = All (λ call. call ≡ On n Look) calls

-- the calls by which the first n directories are named: each is looked at, and then its line is said at once
abbrev pub NameInTurn : (ℕ → Reads) → ℕ → List Event → Type 0
NameInTurn dirs zero calls = calls ≡ []
NameInTurn dirs (suc n) calls =
    (before : List Event) × (looks : List Event) × NameInTurn dirs n before × LooksAt n looks × (looks ≢ []) × (calls ≡ before ++ (looks ++ Say (state_line n (found dirs n)) ∷ []))

-- the calls behind those: none where all are named; looks at the next directory where one of them failed, or there was no memory
-- for its line; these and that line, where the output failed over it or was never asked to take it
abbrev pub LeavesOff : (ℕ → Reads) → ℕ → List Event → StateEnd → Type 0
LeavesOff dirs named calls Done = calls ≡ []
LeavesOff dirs named calls (Refused refusal) = calls ≡ []
LeavesOff dirs named calls (HostFault i) = LooksAt named calls
LeavesOff dirs named calls Memory = LooksAt named calls
LeavesOff dirs named calls OutFault =
    (looks : List Event) × (asked : List Event) × LooksAt named looks × ((asked ≡ []) ⊎ (asked ≡ Say (state_line named (found dirs named)) ∷ [])) × (calls ≡ looks ++ asked)

-- the directory that failed
abbrev pub state_failed : StateEnd → Option ℕ
state_failed (HostFault i) = Some i.0
state_failed end = None

-- no directory was changed; each but the one that failed reads as before
pub record StateRan (told : Type 0) (old new : State) (lines : Bytes) (trace : List Entry) (end : StateEnd) : Type 0 where
  pub named : ℕ
  pub said : told → StateSays old.reads old.count named lines end
  pub calls : told → (naming : List Event) × (later : List Event) × NameInTurn old.reads named naming × LeavesOff old.reads named later end × Records (naming ++ later) old.trace trace
  pub kept : Untouched told old new
  pub reads : told → (j : ℕ) → state_failed end ≢ Some j → new.reads j ≡ old.reads j
  pub counted : Counts (state_failed end) old new
