-- Each entry of the tables is what so many bits make of its byte.
use Rattle.std.proofs.Common.{◌≡◌, ℕ, suc, ◌*◌, ◌<◌, List, [], map, get_or, refl, ap, ◌∙◌, arith}
use Rattle.std.specs.List.{range_with_len}
use Rattle.std.proofs.lemmas.List.FromFn.{get_or-map-range_with_len}
use Rattle.nn_wire.specs.declared.table.TheConstants.{SHIFTED}
use Rattle.nn_wire.specs.Crc32.{next_bit, next_bits}

row : ℕ → List ℕ
row k = map (next_bits (8 * suc k)) (range_with_len 0 256)

rows : SHIFTED ≡ map row (range_with_len 0 16)
unfolding next_bit next_bits row
rows = refl

pub entry : (k b : ℕ) → k < 16 → b < 256 → get_or (get_or SHIFTED k []) b 0 ≡ next_bits (8 * suc k) b
unfolding row
entry k b some small =
    ap (λ t. get_or (get_or t k []) b 0) rows
    ∙ ap (λ r. get_or r b 0) (get_or-map-range_with_len row 0 16 k k [] some (omega arith))
    ∙ get_or-map-range_with_len (next_bits (8 * suc k)) 0 256 b b 0 small (omega arith)
