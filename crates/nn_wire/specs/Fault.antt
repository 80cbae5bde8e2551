-- What is wrong where no varint or no field stands: the first fault from the left.
use Rattle.std.specs.Prelude.{◌≡◌, ℕ, ◌/◌, ◌%◌, ◌<◌, ◌⊎◌, List, length}
use Rattle.nn_wire.specs.declared.fault.WireFault.{WireFault}
use Rattle.nn_wire.specs.declared.fault.WireFault.TheVariants.{Short, BadKey, NotCanonical}
use Rattle.nn_wire.specs.Varint.{Begins, IsCut}
use Rattle.nn_wire.specs.Field.{IsNumber}

-- A varint that is neither there nor cut has a needless byte, or is too large.
abbrev pub IsVarintFault : List ℕ → WireFault → Type 0
IsVarintFault bytes Short = (n : ℕ) × (more : List ℕ) × IsCut bytes n more
IsVarintFault bytes NotCanonical = ((n : ℕ) (rest : List ℕ) → ¬ Begins bytes n rest) × ((n : ℕ) (more : List ℕ) → ¬ IsCut bytes n more)
IsVarintFault bytes BadKey = ⊥

-- A key says a number and a kind: 0 for a varint, 2 for bytes.
abbrev pub IsKey : ℕ → Type 0
IsKey key = IsNumber (key / 8) × ((key % 8 ≡ 0) ⊎ (key % 8 ≡ 2))

-- the first fault from the left of the field that should stand at the front of the bytes
pub data IsFieldFault (bytes : List ℕ) (fault : WireFault) : Type 0 where
  -- no varint stands in the key's place
  in_key : IsVarintFault bytes fault → IsFieldFault bytes fault
  -- one does, and says no number and kind
  is_no_key : (key : ℕ) (rest : List ℕ) → Begins bytes key rest → ¬ IsKey key → fault ≡ BadKey → IsFieldFault bytes fault
  -- after the key no varint stands, neither as the value nor as the length
  in_value : (key : ℕ) (rest : List ℕ) → Begins bytes key rest → IsKey key → IsVarintFault rest fault → IsFieldFault bytes fault
  -- after the length there are fewer bytes
  past_end : (key : ℕ) (rest : List ℕ) (len : ℕ) (left : List ℕ) → Begins bytes key rest → IsKey key → key % 8 ≡ 2
      → Begins rest len left → length left < len → fault ≡ Short → IsFieldFault bytes fault
