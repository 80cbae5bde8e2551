-- What a whole read of a file answers.
use Rattle.std.specs.Prelude.{◌≤◌, ℕ, nat_le, Bool, true, false, List, length, Option, Some, None, Result, Ok, Err, if◌then◌else◌}
use Rattle.nn_small.specs.declared.read.ReadAll.{ReadAll}
use Rattle.nn_small.specs.declared.read.ReadAll.TheVariants.{Failed, Absent, TooLarge, Memory}

-- the answer for a file that reads so, where no call fails and memory suffices
abbrev pub whole_of : ℕ → Option (List ℕ) → Result (List ℕ) ReadAll
whole_of limit None = Err Absent
whole_of limit (Some bytes) = if nat_le (length bytes) limit then Ok bytes else Err (TooLarge (length bytes))

-- the file is there, and has at most so many bytes
abbrev pub FitsLimit : ℕ → Option (List ℕ) → Type 0
FitsLimit limit None = ⊥
FitsLimit limit (Some bytes) = length bytes ≤ limit

-- no call of the host failed
abbrev pub answered : {T : Type 0} → Result T ReadAll → Bool
answered (Ok bytes) = true
answered (Err Failed) = false
answered (Err Absent) = true
answered (Err (TooLarge size)) = true
answered (Err Memory) = true
