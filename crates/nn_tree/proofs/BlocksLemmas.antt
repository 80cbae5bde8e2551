-- How long the blocks of a file are.
use Rattle.std.proofs.Common.{◌≡◌, ℕ, suc, Bool, refl, subst, ◌*◌, ◌<◌, ◌≤◌, ◌^◌, List, [], ◌∷◌, length, arith, mul-le-mul}
use Rattle.std.specs.Prelude.{All}
use Rattle.std.proofs.lemmas.List.Sums.{sum_by-cons}
use Rattle.nn_base.specs.Limits.{most_blocks_of_file, most_block_length, most_replication}
use Rattle.nn_tree.specs.declared.node.Block.{Block}
use Rattle.nn_tree.specs.declared.node.Kind.{Kind}
use Rattle.nn_tree.specs.declared.node.Kind.TheVariants.{File, Dir}
use Rattle.nn_tree.specs.Nodes.{length_of, space_of}
use Rattle.nn_tree.specs.Limits.{IsBlock, IsKind}

-- each is at most as long as a block may be
pub length_of_bounded : (blocks : List Block) → All IsBlock blocks → length_of blocks ≤ length blocks * most_block_length
length_of_bounded [] h = omega arith
length_of_bounded (b ∷ blocks) h =
    let first : IsBlock b = h 0 b (omega arith) in
    let few = first.few in
    let rest = length_of_bounded blocks (λ k d lt. h (suc k) d (omega arith)) in
    omega (arith, sum_by-cons (λ (b : Block). b.length) b blocks)

-- a file within its limits takes less than 2^63 bytes
pub file_is_small : (kind : Kind) (r : ℕ) (o : Bool) (bs : List Block) → kind ≡ File r o bs → IsKind kind → (length_of bs ≤ most_blocks_of_file * most_block_length) × (r ≤ most_replication)
file_is_small kind r o bs is h =
    let f = subst IsKind is h in
    let few = f.few in
    let each = length_of_bounded bs f.blocks in
    (omega arith, (f.replicated r refl).1)

pub space_is_small : (kind : Kind) → IsKind kind → space_of kind < 2 ^ 64
space_is_small (File r o bs) h =
    let s = file_is_small (File r o bs) r o bs refl h in
    omega (arith, mul-le-mul s.1 s.0)
space_is_small (Dir q) h = omega arith
