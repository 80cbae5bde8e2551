-- The ranges of what a command writes into a node.
use Rattle.std.specs.Prelude.{◌<◌, ◌≤◌}
use Rattle.nn_base.specs.Limits.{IsLong, most_replication, most_mode}
use Rattle.nn_quota.specs.Quotas.{IsQuota}
use Rattle.nn_tree.specs.declared.node.Change.{Change}
use Rattle.nn_tree.specs.declared.node.Change.TheVariants.{Time, Mode, Owner, Quota as NewQuota, Replication, Closed}

abbrev pub IsChange : Change → Type 0
IsChange (Time time) = IsLong time
IsChange (Mode mode) = mode ≤ most_mode
IsChange (Owner owner group) = Unit {0}
IsChange (NewQuota quota) = IsQuota quota
IsChange (Replication replication) = (0 < replication) × (replication ≤ most_replication)
IsChange Closed = Unit {0}
