use Rattle.std.proofs.Common.{◌≡◌, ◌+◌}
use Rattle.std.specs.Option.{option_map_or, option_copied}
use Rattle.std.specs.Prelude.{length}
use Rattle.nn_script.specs.Words.{pieces_behind, unescaped}
use Rattle.nn_script.proofs.EscapeLemmas.{with_parts}
use Rattle.nn_script.proofs.escape.unescaped.Given as goal

abbrev pub invariant-parts : goal.invariant-parts
invariant-parts l = with_parts l.text.items (pieces_behind 37 (option_copied l.rest)) ≡ unescaped l.fn.word

abbrev pub decreases-parts : goal.decreases-parts
decreases-parts l = option_map_or (λ rest. length rest + 1) (option_copied l.rest) 0
