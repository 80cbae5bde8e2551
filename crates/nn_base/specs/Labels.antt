-- The name of an owner or of a group, and how it is kept in place.
use Rattle.std.specs.Prelude.{ℕ, ◌≤◌, length}
use Rattle.nn_base.specs.Limits.{most_label}
use Rattle.nn_base.specs.Padded.{IsPadded}
use Rattle.nn_base.specs.Paths.{Bytes}

-- 1 to 32 bytes
abbrev pub IsLabel : Bytes → Type 0
IsLabel label = (1 ≤ length label) × (length label ≤ most_label)

-- an array that holds one
pub record HoldsLabel (buffer : Bytes) (len : ℕ) : Type 0 where
  pub padded : IsPadded most_label buffer len
  pub some : 1 ≤ len
