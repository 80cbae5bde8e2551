-- The first of several answers that are there, in the order in which they are tested.
use Rattle.std.specs.Prelude.{Bool, List, [], ◌∷◌, Option, Some, None, if◌then◌else◌}

-- an answer where the test says so
abbrev pub when : {A : Type 0} → Bool → A → Option A
when test x = if test then Some x else None

-- the first answer of a list that is there
abbrev pub first_of : {A : Type 0} → List (Option A) → Option A
first_of [] = None
first_of (None ∷ rest) = first_of rest
first_of (Some x ∷ rest) = Some x
