-- The rule of quotas: usage afterwards is at most the quota, and only what grows is checked.
use Rattle.std.specs.Prelude.{ℕ, ◌+◌, ◌^◌, ◌<◌, IfSome, Bool, true, ◌||◌, ◌&&◌, ◌==◌, nat_le, Option, Some, None}
use Rattle.nn_quota.specs.declared.quota.Usage.{Usage}
use Rattle.nn_quota.specs.declared.quota.Quota.{Quota}

-- whether a count that is used may grow by more; a directory without a quota has no bound
abbrev pub is_within : ℕ → ℕ → Option ℕ → Bool
is_within used more None = true
is_within used more (Some quota) = (more == 0) || nat_le (used + more) quota

-- whether a directory may take what is added
abbrev pub is_fit : Usage → Usage → Quota → Bool
is_fit usage delta quota = is_within usage.names delta.names quota.names && is_within usage.space delta.space quota.space

-- a bound that is set is one that Hadoop's signed `long` holds
abbrev pub IsQuota : Quota → Type 0
IsQuota quota = IfSome quota.names (λ n. n < 2 ^ 63) × IfSome quota.space (λ n. n < 2 ^ 63)
