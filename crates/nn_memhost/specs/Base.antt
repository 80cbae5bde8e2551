-- The contents at the beginning of a record of calls: as they are now, until a call has changed them.
use Rattle.std.specs.Prelude.{List, Option, Some, None}
use Rattle.std.specs.Global.{Vec}
use Rattle.nn_memhost.specs.declared.kept.KeptDir.{KeptDir}

abbrev pub base_of : Option (Vec KeptDir) → List KeptDir → List KeptDir
base_of None dirs = dirs
base_of (Some base) dirs = base.items
