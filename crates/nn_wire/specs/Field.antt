-- A field of a message, after Protocol Buffers: its key, and a varint or bytes.
use Rattle.std.specs.Prelude.{◌≡◌, ℕ, ◌+◌, ◌*◌, ◌^◌, ◌<◌, ◌⊎◌, List, ◌++◌, length, drop}
use Rattle.nn_wire.specs.declared.field.Field.{Field}
use Rattle.nn_wire.specs.declared.field.Kind.{Kind}
use Rattle.nn_wire.specs.declared.field.Kind.TheVariants.{Varint, Bytes}
use Rattle.nn_wire.specs.Varint.{varint}

abbrev pub IsNumber : ℕ → Type 0
IsNumber number = (0 < number) × (number < 2 ^ 29)

abbrev pub kind_code : Kind → ℕ
kind_code Varint = 0
kind_code Bytes = 2

-- kind 0: the key, and a varint
abbrev pub varint_field : ℕ → ℕ → List ℕ
varint_field number value = varint (8 * number) ++ varint value

-- kind 2: the key, the length, and so many bytes
abbrev pub bytes_field : ℕ → List ℕ → List ℕ
bytes_field number content = varint (8 * number + 2) ++ (varint (length content) ++ content)

-- A varint with that number stands at a place. Both ends are the place after it.
pub record IsVarintAt (bytes : List ℕ) (at : ℕ) (field : Field) : Type 0 where
  pub number : IsNumber field.number
  pub value : field.value < 2 ^ 64
  pub text : drop at bytes ≡ varint_field field.number field.value ++ drop field.end bytes
  pub start : field.start ≡ field.end
  pub end : field.end ≡ at + length (varint_field field.number field.value)

-- This content with that number stands at a place. Its place is between the two ends.
pub record AreBytesAt (bytes : List ℕ) (at : ℕ) (field : Field) (content : List ℕ) : Type 0 where
  pub number : IsNumber field.number
  pub value : field.value ≡ length content
  pub small : field.value < 2 ^ 64
  pub text : drop at bytes ≡ bytes_field field.number content ++ drop field.end bytes
  pub start : field.start + length content ≡ field.end
  pub end : field.end ≡ at + length (bytes_field field.number content)

abbrev pub IsFieldAt : List ℕ → ℕ → Field → Type 0
IsFieldAt bytes at field = IsVarintAt bytes at field ⊎ ((content : List ℕ) × AreBytesAt bytes at field content)
