-- How a path is kept: as one text, a `/` before each name.
use Rattle.std.specs.Prelude.{◌≡◌, ℕ, Bool, true, ◌||◌, ◌==◌, length, All}
use Rattle.nn_base.specs.Paths.{Bytes, IsPath, is_name, joined}
use Rattle.nn_base.specs.PathText.{parts_of}

-- bytes that hold some names
pub record HoldsNames (bytes : Bytes) : Type 0 where
  pub named : All (λ name. is_name name ≡ true) (parts_of bytes)
  pub spelled : joined (parts_of bytes) ≡ bytes

-- bytes that hold a path, and how many names it has; the root's are none
pub record HoldsPath (bytes : Bytes) (depth : ℕ) : Type 0 where
  pub path : IsPath (parts_of bytes)
  pub spelled : joined (parts_of bytes) ≡ bytes
  pub levels : depth ≡ length (parts_of bytes)

abbrev pub is_slash : ℕ → Bool
is_slash byte = byte == 47

-- a byte that ends a name, or that no name has
abbrev pub is_special : ℕ → Bool
is_special byte = byte == 47 || (byte == 0 || byte == 58)
