-- seen_txid, the file that says which id the journal has reached: its texts.
use Rattle.std.specs.Prelude.{◌≡◌, ◌⊎◌, ℕ, List, ◌++◌, codes, Some}
use Rattle.std.specs.Fmt.{decimal}
use Rattle.nn_base.specs.Decimal.{number_in}

-- as it is written: the digits, without leading zeros, and a newline
abbrev pub seen_text_of : ℕ → List ℕ
seen_text_of id = decimal id ++ codes "\n"

-- as it is read: leading zeros may be there, and the newline may be missing
abbrev pub IsSeenText : List ℕ → ℕ → Type 0
IsSeenText text id = (digits : List ℕ) × (number_in digits ≡ Some id) × ((text ≡ digits) ⊎ (text ≡ digits ++ codes "\n"))
