-- A source in memory: the bytes that are left, and which of its calls fail.
use Rattle.std.specs.Prelude.{◌≡◌, ◌==◌, ℕ, Bool, true, false, List, drop, Result, OnOk, OnErr}
use Rattle.std.specs.List.{list_any}
use Rattle.nn_host.specs.Calls.{next_count}
use Rattle.nn_memhost.specs.declared.source.MemSource.{MemSource}

abbrev pub left_of : MemSource → List ℕ
left_of s = drop s.taken s.bytes.items

-- the list has the number of the next call
abbrev pub is_next_listed : MemSource → Bool
is_next_listed s = list_any (λ number. number == s.calls) s.fails.items

-- the call failed exactly where the list has its number; the number of the next call is one more, up to the last of 64 bits
pub record FailsByNumber {T E : Type 0} (old new : MemSource) (result : Result T E) : Type 0 where
  pub ok : OnOk result (is_next_listed old ≡ false)
  pub err : OnErr result (is_next_listed old ≡ true)
  pub calls : new.calls ≡ next_count old.calls
  pub fails : new.fails ≡ old.fails
