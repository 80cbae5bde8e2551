-- How the fields of a record are read, from left to right: a field is a value and the bytes after it, or there is none.
use Rattle.std.specs.Prelude.{◌≡◌, ℕ, ◌-◌, ◌^◌, ◌&&◌, ◌==◌, nat_lt, nat_le, if◌then◌else◌, List, [], ◌∷◌, length, take, drop, Option, Some, None, Result, Ok, Err}
use Rattle.std.specs.Int.{Width, w16, w64, byte_len, from_be_bytes}
use Rattle.nn_base.specs.declared.path.fault.PathFault.{PathFault}
use Rattle.nn_base.specs.Paths.{Names}
use Rattle.nn_base.specs.PathText.{parts_of, fault_of}
use Rattle.nn_base.specs.Limits.{most_label, most_mode}
use Rattle.nn_record.specs.declared.unread.Unread.{Unread}
use Rattle.nn_record.specs.declared.unread.Unread.TheVariants.{NoRecord, Memory}

infixl 10 ◌>>=◌
abbrev pub ◌>>=◌ : {A B : Type 0} → Option A → (A → Option B) → Option B
None >>= f = None
(Some x) >>= f = f x

-- reading gives nothing, unless memory ran out
abbrev pub Fails : {Y : Type 0} → Unread → Option Y → Type 0
Fails NoRecord read = read ≡ None
Fails Memory read = Unit {0}

-- what a reader returned, and the bytes that it left, are what reading gives, unless memory ran out
abbrev pub Gives : {X : Type 0} → Result X Unread → List ℕ → Option (X × List ℕ) → Type 0
Gives (Ok x) rest read = read ≡ Some (x, rest)
Gives (Err e) rest read = Fails e read

abbrev pub Field : Type 0 → Type 0
Field X = Option (X × List ℕ)

-- ---- fields

unfoldable pub byte_at : List ℕ → Field ℕ
byte_at [] = None
byte_at (byte ∷ rest) = Some (byte, rest)

unfoldable pub number_at : Width → List ℕ → Field ℕ
number_at w bytes = if nat_lt (length bytes) (byte_len w) then None else Some (from_be_bytes w (take (byte_len w) bytes), drop (byte_len w) bytes)

-- so many bytes
unfoldable pub text_at : ℕ → List ℕ → Field (List ℕ)
text_at len bytes = if nat_lt (length bytes) len then None else Some (take len bytes, drop len bytes)

unfoldable pub long_at : List ℕ → Field ℕ
long_at bytes = do
  n ← number_at w64 bytes
  if nat_lt n.0 (2 ^ 63) then Some (n.0, n.1) else None

unfoldable pub mode_at : List ℕ → Field ℕ
mode_at bytes = do
  n ← number_at w16 bytes
  if nat_le n.0 most_mode then Some (n.0, n.1) else None

abbrev pub unless : {X : Type 0} → Option PathFault → X → Option X
unless None x = Some x
unless (Some fault) x = None

-- the path of a text that has no fault
unfoldable pub path_in : List ℕ → Option Names
path_in text = unless (fault_of text) (parts_of text)

unfoldable pub path_at : List ℕ → Field Names
path_at bytes = do
  len ← number_at w16 bytes
  text ← text_at len.0 len.1
  names ← path_in text.0
  Some (names, text.1)

unfoldable pub name_at : List ℕ → Field (List ℕ)
name_at bytes = do
  len ← byte_at bytes
  text ← text_at len.0 len.1
  if nat_le 1 (length text.0) && nat_le (length text.0) most_label then Some (text.0, text.1) else None

unfoldable pub bound_at : List ℕ → Field (Option ℕ)
bound_at bytes = do
  n ← number_at w64 bytes
  if nat_lt n.0 (2 ^ 63) then Some (Some n.0, n.1) else if n.0 == 2 ^ 64 - 1 then Some (None, n.1) else None
