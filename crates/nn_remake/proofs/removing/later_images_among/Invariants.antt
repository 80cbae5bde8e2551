use Rattle.std.proofs.Common.{◌≡◌, take}
use Rattle.std.specs.List.{filter}
use Rattle.nn_remake.specs.Removing.{is_later_image}
use Rattle.nn_remake.proofs.removing.later_images_among.Given as goal

abbrev pub invariant-names : goal.invariant-names
invariant-names l = l.found.items ≡ filter (is_later_image l.fn.id) (take l.name-index l.names)
