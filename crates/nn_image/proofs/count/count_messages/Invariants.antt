use Rattle.std.proofs.Common.{◌≡◌, List, length, ◌+◌, ◌≤◌}
use Rattle.std.specs.List.{flat_map}
use Rattle.nn_base.specs.Paths.{Bytes}
use Rattle.nn_message.specs.Spelling.{delimited}
use Rattle.nn_image.proofs.CountLemmas.{AreLeft}
use Rattle.nn_image.proofs.count.count_messages.Given as goal

-- what was counted, and what is to come
abbrev pub invariant-messages : goal.invariant-messages
invariant-messages l = record {
  few : l.count + length l.rest ≤ length l.fn.bytes;
  left : (messages : List Bytes) → l.fn.bytes ≡ flat_map delimited messages → AreLeft messages l.count l.rest;
}

abbrev pub decreases-messages : goal.decreases-messages
decreases-messages l = length l.rest
