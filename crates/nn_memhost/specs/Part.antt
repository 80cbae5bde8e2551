-- Which calls the list of faults names, and what a call that fails leaves.
use Rattle.std.specs.Prelude.{ℕ, ◌/◌, ◌==◌, List, [], ◌∷◌, length, Option, Some, None, if◌then◌else◌}
use Rattle.nn_memhost.specs.declared.past.Part.{Part}
use Rattle.nn_memhost.specs.declared.past.Part.TheVariants.{Nothing, Half, All}

-- what the call of this number leaves where the list names it; the first mention counts
abbrev pub part_at : ℕ → List (ℕ × Part) → Option Part
part_at k [] = None
part_at k (f ∷ fs) = if f.0 == k then Some f.1 else part_at k fs

-- how many of these bytes the output takes
abbrev pub taken_of : Option Part → List ℕ → ℕ
taken_of None bytes = length bytes
taken_of (Some All) bytes = length bytes
taken_of (Some Half) bytes = length bytes / 2
taken_of (Some Nothing) bytes = 0
