-- What the words of a command line ask for.
use Rattle.std.specs.Prelude.{ℕ, List, [], Option}
use Rattle.nn_base.specs.Paths.{Bytes}

pub data Wanted : Type 0 where
  -- the storage states of these directories
  States : List Bytes → Wanted
  -- a new namespace in these, with a cluster's id and a number
  Format : Bytes → ℕ → List Bytes → Wanted
  -- a script on a namespace in memory alone
  Dry : Wanted
  -- the script of so many generated files, which is said
  Generate : ℕ → Wanted
  -- a script on the namespace that these directories hold, from this time on: one that is read, or that of so many generated files
  Run : ℕ → Option ℕ → List Bytes → Wanted

-- the directories that a command is done on, in order
abbrev pub dirs_in : Wanted → List Bytes
dirs_in (States dirs) = dirs
dirs_in (Format cluster namespace dirs) = dirs
dirs_in Dry = []
dirs_in (Generate count) = []
dirs_in (Run at generated dirs) = dirs
