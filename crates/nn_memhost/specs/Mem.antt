-- What a host in memory means, and which of its calls fail.
use Rattle.std.specs.Prelude.{◌≡◌, ◌⊎◌, ◌<◌, ◌+◌, ℕ, List, [], ◌++◌, take, length, Option, None, Result, OnOk, OnErr, IsSome}
use Rattle.nn_host.specs.Moments.{Moment, State, moment}
use Rattle.nn_host.specs.Calls.{next_count}
use Rattle.nn_memhost.specs.declared.past.Part.{Part}
use Rattle.nn_memhost.specs.declared.mem.MemHost.{MemHost}
use Rattle.nn_memhost.specs.Base.{base_of}
use Rattle.nn_memhost.specs.Counts.{no_faults}
use Rattle.nn_memhost.specs.Held.{bare, reads_of}
use Rattle.nn_memhost.specs.Part.{part_at, taken_of}
use Rattle.nn_memhost.specs.Past.{Past, kept_at, start, run, state_of, moment_of}

-- where the record of calls begins: the contents, what was said and the counts as of then
abbrev pub start_of : MemHost → Past
start_of m = start (kept_at (base_of m.base m.dirs.items)) (take m.said_before m.said.items) m.began

-- what the record of calls comes to
abbrev pub past_of : MemHost → Past
past_of m = run (start_of m) m.calls.items

-- the record of calls, over the contents at its beginning
abbrev pub mem_state : MemHost → State
mem_state m = state_of (past_of m) m.counts (length m.dirs.items)

-- what the list says that the next call leaves, if it names it
abbrev pub next_part : MemHost → Option Part
next_part m = part_at (length m.calls.items) m.fails.items

-- a host of so many directories with all roots, nothing in them and no faults
abbrev pub new_state : ℕ → State
new_state count =
    let now : Moment = moment_of (record { kept = λ j. bare; said = [] }) no_faults in
    record { now = now; ended = now; reads = λ j. reads_of bare; count = count; trace = [] }

-- the list names the call, and it is on record now
pub record Listed (old new : MemHost) : Type 0 where
  pub named : IsSome (next_part old)
  pub starved : new.starved ≡ old.starved
  pub recorded : moment (mem_state new) ≡ moment (mem_state old) + 1

-- there was no memory for the call, and it isn't on record; the count of such calls stays at its last value
pub record Starved (old new : MemHost) : Type 0 where
  pub starved : new.starved ≡ next_count old.starved
  pub unrecorded : moment (mem_state new) ≡ moment (mem_state old)

-- the call failed exactly where the list names it, or where there was no memory for it
pub record FailsAsListed {T E : Type 0} (old new : MemHost) (result : Result T E) : Type 0 where
  pub ok : OnOk result ((next_part old ≡ None) × (new.starved ≡ old.starved))
  pub err : OnErr result (Listed old new ⊎ Starved old new)
  pub fails : new.fails ≡ old.fails

-- where the call was recorded, the output took of these bytes what the list says
pub record SaysAsListed (bytes : List ℕ) (old new : MemHost) : Type 0 where
  pub said : moment (mem_state old) < moment (mem_state new) → (mem_state new).now.said ≡ (mem_state old).now.said ++ take (taken_of (next_part old) bytes) bytes
