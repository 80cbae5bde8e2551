-- What a stop leaves of contents that are certain.
use Rattle.std.proofs.Common.{ℕ, List, [], Option, Some, None, sym, arith}
use Rattle.std.proofs.lemmas.List.{append-nil}
use Rattle.nn_host.specs.Disk.{LeavesFile, certain}

pub leaves_certain : (w : Option (List ℕ)) → LeavesFile (certain w) w
leaves_certain None = tt
leaves_certain (Some bytes) = record { tail = []; split = sym (append-nil bytes); short = omega arith }
