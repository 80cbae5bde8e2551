-- What one call of a source does: to its count of faults for every source, and to the bytes left where the source tells them.
use Rattle.std.specs.Prelude.{◌≡◌, ◌≢◌, ◌≤◌, ◌<◌, ℕ, List, [], ◌++◌, length, take, drop, Result, OnOk, OnErr, IfOk}
use Rattle.nn_host.specs.Calls.{next_count}

-- n bytes went from the front of those left to the front of the buffer: some, where there were any and the buffer takes any
pub record Took (left rest : List ℕ) (n : ℕ) (old new : List ℕ) : Type 0 where
  pub split : left ≡ take n new ++ rest
  pub some : left ≢ [] → old ≢ [] → 0 < n
  pub unread : drop n new ≡ drop n old

-- what every source says of a call, and what one that tells adds: after a failure the bytes left are as before
pub record Taken {E : Type 0} (told : Type 0) (count_before count_after : ℕ) (left rest : List ℕ) (old new : List ℕ) (result : Result ℕ E) : Type 0 where
  pub within : IfOk result (λ n. n ≤ length old)
  pub counted_ok : OnOk result (count_after ≡ count_before)
  pub counted_err : OnErr result (count_after ≡ next_count count_before)
  pub ok : told → IfOk result (λ n. Took left rest n old new)
  pub err : told → OnErr result (rest ≡ left)
