-- What a listing says of a node that is there.
use Rattle.std.specs.Prelude.{◌++◌, length}
use Rattle.std.specs.List.{flat_map}
use Rattle.nn_base.specs.Paths.{Bytes, Names}
use Rattle.nn_tree.specs.Namespace.{Nodes}
use Rattle.nn_tree.specs.Below.{entries_below}
use Rattle.nn_script.specs.declared.answer.Answer.TheVariants.{Count}
use Rattle.nn_script.specs.Spelling.{answer_text}
use Rattle.nn_script.specs.Answers.{lines_at}

-- the lines of a node and of all below it, in the order of paths, and then how many nodes these are
abbrev pub listing_of : Nodes → Names → Bytes
listing_of m top = flat_map (lines_at m) (entries_below m top) ++ answer_text (Count (length (entries_below m top)))
