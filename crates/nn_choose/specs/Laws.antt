-- What follows from the definitions of picking and of opening alone.
use Rattle.std.specs.Prelude.{ℕ, Bool, List, Option}
use Rattle.nn_marks.specs.declared.version.Version.{Version}
use Rattle.nn_state.specs.declared.typed.Found.{Found}
use Rattle.nn_tree.specs.Namespace.{Namespace}
use Rattle.nn_pick.specs.declared.intent.Intent.{Intent}
use Rattle.nn_pick.specs.Dirs.{Dirs}
use Rattle.nn_pick.specs.Opening.{IsSaved, Opens}
use Rattle.nn_choose.specs.Picking.{Picks}

-- Directories that were picked open to what was picked, with what is saved in them.
abbrev pub PickedOpens : Type 0
PickedOpens = (dirs : Dirs) (intent : Intent) (ns : Namespace) (last : ℕ) (version : Version) (chosen : ℕ → Bool) (found : List Found) (saved : Option Namespace)
    → Picks dirs intent ns last version chosen found → IsSaved dirs saved → Opens dirs intent (record { chosen = chosen; last = last; book = record { ns = ns; saved = saved } })
