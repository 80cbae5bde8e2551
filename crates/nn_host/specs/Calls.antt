-- What one call of a host does: to the counts for every host, and to the contents where the host tells them.
use Rattle.std.specs.Prelude.{◌≡◌, ◌≢◌, ◌⊎◌, ◌+◌, ◌-◌, ◌^◌, max, min, ℕ, List, [], ◌∷◌, ◌++◌, take, Result, OnOk, OnErr}
use Rattle.nn_base.specs.Limits.{most_piece}
use Rattle.nn_host.specs.Disk.{Call, Broken, Leaves, disk_after, reads_after}
use Rattle.nn_host.specs.Moments.{State, Event, On, Say, SameBut, disk_at, faults_at}

-- a count of faults that rises by one, but stays where its 64 bits end
abbrev pub next_count : ℕ → ℕ
next_count n = max n (min (n + 1) (2 ^ 64 - 1))

-- nothing of the other directories or the output has changed, and there are as many directories
pub record Frame (i : ℕ) (old new : State) : Type 0 where
  pub now : SameBut i old.now new.now
  pub reads : (j : ℕ) → j ≢ i → new.reads j ≡ old.reads j
  pub count : new.count ≡ old.count

-- it failed exactly where the count of this directory rose, or stands at its last value
pub record IsCounted {T E : Type 0} (i : ℕ) (old new : State) (result : Result T E) : Type 0 where
  pub ok : OnOk result (faults_at new i ≡ faults_at old i)
  pub err : OnErr result (faults_at new i ≡ next_count (faults_at old i))

-- the record has one call more, which has just ended
pub record Recorded (event : Event) (old new : State) : Type 0 where
  pub trace : new.trace ≡ old.trace ++ record { ended = old.ended; before = old.now; event = event } ∷ []
  pub ended : new.ended ≡ new.now

-- the call was never begun, since the host had no memory for it, and there is no record of it
pub record Unrecorded (old new : State) : Type 0 where
  pub trace : new.trace ≡ old.trace
  pub ended : new.ended ≡ old.ended

-- the call returned
pub record Done (i : ℕ) (call : Call) (old new : State) : Type 0 where
  pub recorded : Recorded (On i call) old new
  pub disk : disk_at new i ≡ disk_after call (old.reads i) (disk_at old i)
  pub reads : new.reads i ≡ reads_after call (old.reads i)

-- the call failed, and left what a stop inside it may leave
pub record Interrupted (i : ℕ) (call : Call) (old new : State) : Type 0 where
  pub recorded : Recorded (On i call) old new
  pub disk : Broken call (old.reads i) (disk_at old i) (disk_at new i)
  pub reads : Leaves (disk_at new i) (new.reads i)

-- the call was never begun
pub record Unbegun (i : ℕ) (old new : State) : Type 0 where
  pub unrecorded : Unrecorded old new
  pub disk : disk_at new i ≡ disk_at old i
  pub reads : new.reads i ≡ old.reads i

-- what a host that tells says of a call on a directory
pub record Effect {T E : Type 0} (i : ℕ) (call : Call) (old new : State) (result : Result T E) : Type 0 where
  pub ok : OnOk result (Done i call old new)
  pub err : OnErr result (Interrupted i call old new ⊎ Unbegun i old new)

-- what every host says of a call on a directory, and what one that tells adds
pub record Called {T E : Type 0} (told : Type 0) (i : ℕ) (call : Call) (old new : State) (result : Result T E) : Type 0 where
  pub frame : Frame i old new
  pub counted : IsCounted i old new result
  pub effect : told → Effect i call old new result

-- what one saying hands to the output at most
abbrev pub most_said : ℕ
most_said = most_piece

-- the output took these bytes
pub record Said (bytes : List ℕ) (old new : State) : Type 0 where
  pub recorded : Recorded (Say bytes) old new
  pub said : new.now.said ≡ old.now.said ++ bytes

-- the output failed, and took the first of them
pub record Cut (bytes : List ℕ) (old new : State) : Type 0 where
  pub recorded : Recorded (Say bytes) old new
  pub said : (n : ℕ) × (new.now.said ≡ old.now.said ++ take n bytes)

-- the output was never asked
pub record Unsaid (old new : State) : Type 0 where
  pub unrecorded : Unrecorded old new
  pub said : new.now.said ≡ old.now.said

-- what every host says of an output, and what one that tells adds
pub record Spoke {T E : Type 0} (told : Type 0) (bytes : List ℕ) (old new : State) (result : Result T E) : Type 0 where
  pub dirs : new.now.dirs ≡ old.now.dirs
  pub reads : new.reads ≡ old.reads
  pub count : new.count ≡ old.count
  pub counted_ok : OnOk result (new.now.out_faults ≡ old.now.out_faults)
  pub counted_err : OnErr result (new.now.out_faults ≡ next_count old.now.out_faults)
  pub ok : told → OnOk result (Said bytes old new)
  pub err : told → OnErr result (Cut bytes old new ⊎ Unsaid old new)
