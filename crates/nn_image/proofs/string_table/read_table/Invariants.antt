use Rattle.std.proofs.Common.{◌≡◌, ◌+◌, ◌≤◌, List, length}
use Rattle.std.specs.Prelude.{All, bytes_eq}
use Rattle.std.specs.List.{IsDistinct}
use Rattle.nn_base.specs.Labels.{IsLabel}
use Rattle.nn_message.specs.Messages.{Text, IsText}
use Rattle.nn_image.specs.Building.{texts_text}
use Rattle.nn_image.proofs.StringTableLemmas.{ToCome}
use Rattle.nn_image.proofs.string_table.read_table.Given as goal

-- the names so far, each of at least a byte, and the strings to come
abbrev pub invariant-texts : goal.invariant-texts
invariant-texts l = record {
  labels : All IsLabel l.names;
  few : length l.names + length l.rest ≤ length l.fn.texts;
  once : IsDistinct bytes_eq l.names;
  to_come : (entries : List Text) → All IsText entries → l.fn.texts ≡ texts_text entries → (ahead : List Text) × All IsText ahead × (l.rest ≡ texts_text ahead) × ToCome l.names entries ahead;
}

abbrev pub decreases-texts : goal.decreases-texts
decreases-texts l = length l.rest
