use Rattle.std.proofs.Common.{map, take}
use Rattle.std.specs.BTreeMap.{IsOrdered}
use Rattle.nn_memhost.specs.Kept.{placed_of}
use Rattle.nn_memhost.specs.Names.{AreSpelled, AllThere, text_cmp}
use Rattle.nn_memhost.proofs.names.by_text.Given as goal

abbrev pub invariant-files : goal.invariant-files
invariant-files l = record {
  spelled : AreSpelled (map placed_of l.files) l.sub l.names.entries;
  all : AllThere (take l.file-index (map placed_of l.files)) l.sub l.names.entries;
  ordered : IsOrdered text_cmp l.names;
}
