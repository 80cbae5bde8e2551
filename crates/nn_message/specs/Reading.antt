-- How bytes are read, from left to right: a reader gives a value and the bytes after it, or nothing. Readers are put together as their texts are.
use Rattle.std.specs.Prelude.{◌≡◌, ℕ, zero, suc, ◌+◌, ◌-◌, ◌*◌, ◌^◌, ◌<◌, Bool, false, ◌&&◌, ◌==◌, nat_lt, if◌then◌else◌, List, [], ◌∷◌, ◌++◌, length, take, drop, Option, Some, None, IfSome}
use Rattle.std.specs.Str.{bytes_eq}
use Rattle.nn_base.specs.Paths.{Bytes}
use Rattle.nn_wire.specs.Varint.{varint}

infixl 10 ◌>>=◌
abbrev pub ◌>>=◌ : {A B : Type 0} → Option A → (A → Option B) → Option B
None >>= f = None
(Some x) >>= f = f x

abbrev pub Read : Type 0 → Type 0
Read X = Option (X × Bytes)

abbrev pub Reader : Type 0 → Type 0
Reader X = Bytes → Option (X × Bytes)

-- A reader gives back what a text spells, where what follows ends it, and gives nothing else.
pub record Spells {X : Type 0} (r : Reader X) (text : X → Bytes) (Is : X → Type 0) (Ends : Bytes → Type 0) : Type 0 where
  pub again : (x : X) (rest : Bytes) → Is x → Ends rest → length (text x ++ rest) < 2 ^ 64 → r (text x ++ rest) ≡ Some (x, rest)
  pub exact : (bytes : Bytes) (found : X × Bytes) → r bytes ≡ Some found → Is found.0 × (bytes ≡ text found.0 ++ found.1)

-- whatever follows
abbrev pub Anywhere : Bytes → Type 0
Anywhere rest = Unit {0}

-- ---- what a call returned, and the bytes that it left, against what reading gives

abbrev pub Gives : {X : Type 0} → Option X → Bytes → Read X → Type 0
Gives (Some x) rest read = read ≡ Some (x, rest)
Gives None rest read = read ≡ None

-- the same of a view of what is read
abbrev pub Shows : {V X : Type 0} → (V → X → Type 0) → Option V → Bytes → Read X → Type 0
Shows {X = X} IsView (Some v) rest read = (x : X) × IsView v x × (read ≡ Some (x, rest))
Shows IsView None rest read = read ≡ None

-- the same where the bytes are read to their end
abbrev pub ShowsAll : {V X : Type 0} → (V → X → Type 0) → Option V → Option X → Type 0
ShowsAll {X = X} IsView (Some v) read = (x : X) × IsView v x × (read ≡ Some x)
ShowsAll IsView None read = read ≡ None

-- A call takes a text off the front of the bytes exactly where one stands there, and returns a view of what it spells.
pub record Takes {V X : Type 0} (IsView : V → X → Type 0) (Is : X → Type 0) (text : X → Bytes) (result : Option V) (old new : Bytes) : Type 0 where
  pub some : IfSome result (λ v. (x : X) × Is x × IsView v x × (old ≡ text x ++ new))
  pub again : (x : X) (after : Bytes) → Is x → old ≡ text x ++ after → (v : V) × (result ≡ Some v) × IsView v x × (new ≡ after)
  pub shorter : IfSome result (λ v. length new < length old)

-- ---- readers in turn

infixr 20 ◌then◌
abbrev pub ◌then◌ : {X Y : Type 0} → Reader X → Reader Y → Reader (X × Y)
(r then s) bytes = do
  x ← r bytes
  y ← s x.1
  Some ((x.0, y.0), y.1)

abbrev pub mapped : {X Y : Type 0} → (X → Y) → Reader X → Reader Y
mapped f r bytes = do
  x ← r bytes
  Some (f x.0, x.1)

-- What was read says how the rest is read.
abbrev pub chosen : {X Y : Type 0} → Reader X → (X → Reader Y) → Reader Y
chosen r s bytes = do
  x ← r bytes
  s x.0 x.1

abbrev pub only : {X : Type 0} → (X → Bool) → Reader X → Reader X
only is r bytes = do
  x ← r bytes
  if is x.0 then Some (x.0, x.1) else None

-- ---- numbers

-- what a varint says, however it is spelled
unfoldable pub worth_at : Reader ℕ
worth_at [] = None
worth_at (b ∷ rest) = if nat_lt b 128 then Some (b, rest) else do
  above ← worth_at rest
  Some (b - 128 + 128 * above.0, above.1)

-- a number in its one spelling
unfoldable pub number_at : Reader ℕ
number_at bytes = do
  n ← worth_at bytes
  if nat_lt n.0 (2 ^ 64) && bytes_eq bytes (varint n.0 ++ n.1) then Some (n.0, n.1) else None

-- ---- fields

-- what stands behind a key
abbrev pub keyed : {X : Type 0} → ℕ → Reader X → Reader X
keyed key r bytes = do
  found ← number_at bytes
  if found.0 == key then r found.1 else None

unfoldable pub varint_field_at : ℕ → Reader ℕ
varint_field_at number bytes = keyed (8 * number) number_at bytes

-- a length, and so many bytes
unfoldable pub delimited_at : Reader Bytes
delimited_at bytes = do
  len ← number_at bytes
  if nat_lt (length len.1) len.0 then None else Some (take len.0 len.1, drop len.0 len.1)

unfoldable pub bytes_field_at : ℕ → Reader Bytes
bytes_field_at number bytes = keyed (8 * number + 2) delimited_at bytes

-- bytes that are read to their end
abbrev pub whole : {X : Type 0} → Reader X → Bytes → Option X
whole r bytes = do
  x ← r bytes
  if length x.1 == 0 then Some x.0 else None

-- a message that is the content of what the first reader gives
abbrev pub within : {X : Type 0} → Reader Bytes → Reader X → Reader X
within content r bytes = do
  message ← content bytes
  x ← whole r message.0
  Some (x, message.1)

-- a message behind its length
abbrev pub inside : {X : Type 0} → Reader X → Reader X
inside r bytes = within delimited_at r bytes

-- a message in a field
abbrev pub field_with : {X : Type 0} → ℕ → Reader X → Reader X
field_with number r bytes = within (bytes_field_at number) r bytes

-- ---- what may be missing, and what repeats

-- whether a key of one byte stands at the front
abbrev pub has_key : ℕ → Bytes → Bool
has_key key [] = false
has_key key (b ∷ rest) = b == key

abbrev pub maybe : {X : Type 0} → ℕ → Reader X → Reader (Option X)
maybe key r bytes = if has_key key bytes then mapped (λ x. Some x) r bytes else Some (None, bytes)

abbrev pub is_some_byte : Bytes → Bool
is_some_byte bytes = nat_lt 0 (length bytes)

-- as many as there are, but no more than so many bytes could hold
unfoldable pub many_within : {X : Type 0} → ℕ → (Bytes → Bool) → Reader X → Reader (List X)
many_within zero more r bytes = None
many_within (suc room) more r bytes = if more bytes then (do
  x ← r bytes
  xs ← many_within room more r x.1
  Some (x.0 ∷ xs.0, xs.1)) else Some ([], bytes)

unfoldable pub many : {X : Type 0} → (Bytes → Bool) → Reader X → Reader (List X)
many more r bytes = many_within (suc (length bytes)) more r bytes
