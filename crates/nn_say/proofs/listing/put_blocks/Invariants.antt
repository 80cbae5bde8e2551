use Rattle.std.proofs.Common.{take}
use Rattle.std.specs.List.{flat_map}
use Rattle.nn_script.specs.Listing.{block_line}
use Rattle.nn_say.specs.Saying.{Streams}
use Rattle.nn_say.proofs.listing.put_blocks.Given as goal

abbrev pub invariant-loop-block : goal.invariant-loop-block
invariant-loop-block g l = Streams g.H.Host.told (g.H.Host.state l.fn.host) (g.H.Host.state l.host) l.fn.speech.waiting.items (flat_map block_line (take l.block-index l.blocks)) l.speech.waiting.items
