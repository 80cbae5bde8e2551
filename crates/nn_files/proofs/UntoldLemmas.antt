-- What every call of a host that tells nothing has in common.
use Rattle.std.specs.Prelude.{ℕ, Result}
use Rattle.nn_host.specs.Disk.{Call, Look}
use Rattle.nn_host.specs.Moments.{State}
use Rattle.nn_host.specs.Calls.{Called}

module _ {T E : Type 0} {i : ℕ} {old new : State} {result : Result T E} where
  -- what is said of one call is said of each
  pub any_call : (call : Call) → Called ⊥ i Look old new result → Called ⊥ i call old new result
  any_call call looked = record { frame = looked.frame; counted = looked.counted; effect = λ told. absurd told }
