-- Words, as ids of clusters and block pools.
use Rattle.std.specs.Prelude.{ℕ, Bool, ◌&&◌, List, length, nat_le}
use Rattle.std.specs.List.{list_all}
use Rattle.nn_base.specs.Limits.{most_word}

-- a byte that prints and is no space
abbrev pub is_word_byte : ℕ → Bool
is_word_byte byte = nat_le 33 byte && nat_le byte 126

-- 1 to 255 such bytes
abbrev pub is_word : List ℕ → Bool
is_word bytes = nat_le 1 (length bytes) && (nat_le (length bytes) most_word && list_all is_word_byte bytes)
