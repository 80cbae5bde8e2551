-- What a record of calls comes to, from the contents at its beginning.
use Rattle.std.specs.Prelude.{◌≡◌, ℕ, ◌==◌, nat_lt, Bool, true, List, [], ◌∷◌, ◌++◌, take, map, Option, Some, None, slice_index, slice_index_or, if◌then◌else◌}
use Rattle.std.specs.Global.{Vec}
use Rattle.nn_host.specs.Disk.{Held}
use Rattle.nn_host.specs.Moments.{Moment, Event, On, Say, Entry, State}
use Rattle.nn_memhost.specs.declared.counts.Counts.{Counts}
use Rattle.nn_memhost.specs.declared.kept.KeptDir.{KeptDir}
use Rattle.nn_memhost.specs.declared.past.Part.{Part}
use Rattle.nn_memhost.specs.declared.past.Request.{Request}
use Rattle.nn_memhost.specs.declared.past.Request.TheVariants as request
use Rattle.nn_memhost.specs.declared.past.Logged.{Logged}
use Rattle.nn_memhost.specs.Asked.{call_of}
use Rattle.nn_memhost.specs.Content.{Content}
use Rattle.nn_memhost.specs.Counts.{raised, raised_out}
use Rattle.nn_memhost.specs.Held.{held_of, disk_of, reads_of, bare, kept_left}
use Rattle.nn_memhost.specs.Part.{taken_of}

-- what directory i of a list holds
abbrev pub kept_at : List KeptDir → ℕ → Held Content
kept_at dirs i = slice_index_or (map held_of dirs) i bare

-- how things stand: what each directory holds, and what was said
pub record Standing : Type 0 where
  pub kept : ℕ → Held Content
  pub said : List ℕ

-- that moment, with these counts
abbrev pub moment_of : Standing → Counts → Moment
moment_of now counts = record { dirs = λ j. record { disk = disk_of (now.kept j); faults = slice_index counts.dirs j }; said = now.said; out_faults = counts.out }

-- what a record of calls comes to
pub record Past : Type 0 where
  pub now : Standing
  pub ended : Moment
  pub trace : List Entry

-- a record that begins here
abbrev pub start : (ℕ → Held Content) → List ℕ → Counts → Past
start kept said counts =
    let now : Standing = record { kept = kept; said = said } in
    record { now = now; ended = moment_of now counts; trace = [] }

abbrev pub event_of : Request → Event
event_of (request.On i asked) = On i.0 (call_of asked)
event_of (request.Say bytes) = Say bytes.items

-- the same but for directory i
abbrev pub put_at : ℕ → Held Content → (ℕ → Held Content) → ℕ → Held Content
put_at i h kept = λ j. if j == i then h else kept j

-- how things stand after the call, if it returned, and else with the part that it left
abbrev pub after : Request → Option Part → Standing → Standing
after (request.On i asked) failed now = record now { kept = put_at i.0 (kept_left failed (call_of asked) (now.kept i.0)) now.kept }
after (request.Say bytes) failed now = record now { said = now.said ++ take (taken_of failed bytes.items) bytes.items }

abbrev pub is_request_below : ℕ → Request → Bool
is_request_below n (request.On i asked) = nat_lt i.0 n
is_request_below n (request.Say bytes) = true

-- the counts after it
abbrev pub counted : Request → Option Part → Counts → Counts
counted request None counts = counts
counted (request.On i asked) (Some part) counts = raised i.0 counts
counted (request.Say bytes) (Some part) counts = raised_out counts

-- one call more
abbrev pub one : Past → Logged → Past
one past e = record {
  now = after e.request e.failed past.now;
  ended = moment_of (after e.request e.failed past.now) (counted e.request e.failed e.before);
  trace = past.trace ++ record { ended = past.ended; before = moment_of past.now e.before; event = event_of e.request } ∷ [];
}

abbrev pub run : Past → List Logged → Past
run past [] = past
run past (e ∷ es) = run (one past e) es

abbrev pub state_of : Past → Counts → ℕ → State
state_of past counts count = record { now = moment_of past.now counts; ended = past.ended; reads = λ j. reads_of (past.now.kept j); count = count; trace = past.trace }

-- the record of calls has one more: that these bytes were handed to the output
pub record NotedSaying (bytes : List ℕ) (failed : Option Part) (before : Counts) (old new : List Logged) : Type 0 where
  pub copy : Vec ℕ
  pub same : copy.items ≡ bytes
  pub noted : new ≡ old ++ record { request = request.Say copy; failed = failed; before = before } ∷ []

-- it is a call on one of so many directories, or on the output
abbrev pub is_below : ℕ → Logged → Bool
is_below n e = is_request_below n e.request
