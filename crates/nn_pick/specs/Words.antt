-- How it is spelled why a saved namespace can't be opened.
use Rattle.std.specs.Prelude.{ℕ, List, codes}
use Rattle.nn_pick.specs.declared.refusal.PreviousWhy.{PreviousWhy}
use Rattle.nn_pick.specs.declared.refusal.PreviousWhy.TheVariants.{Version, Ids, Layout, Ctime, Image, Gap}

abbrev pub previous_word : PreviousWhy → List ℕ
previous_word Version = codes "version"
previous_word Ids = codes "ids"
previous_word Layout = codes "layout"
previous_word Ctime = codes "ctime"
previous_word Image = codes "image"
previous_word Gap = codes "gap"
