use Rattle.std.proofs.Common.{◌≡◌, ℕ, Bool, List, length, refl, subst}
use Rattle.std.specs.Prelude.{All}
use Rattle.std.specs.Borrow.{Bor}
use Rattle.nn_quota.specs.declared.quota.Quota.{Quota}
use Rattle.nn_tree.specs.declared.node.Block.{Block}
use Rattle.nn_tree.specs.declared.node.Kind.{Kind}
use Rattle.nn_tree.specs.declared.node.Kind.TheVariants.{File, Dir}
use Rattle.nn_tree.specs.Nodes.{blocks_of}
use Rattle.nn_tree.specs.Limits.{IsBlock}
use Rattle.nn_message.specs.declared.view.KindView.TheVariants as seen
use Rattle.nn_message.specs.Spelling.{blocks_field}
use Rattle.nn_message.specs.Views.{IsKindView}
use Rattle.nn_image.proofs.count.blocks_of.Goals as goal

of_a_file : (kind : Kind) (replication : ℕ) (is_open : Bool) (bytes : Bor (List ℕ)) (count : ℕ) → All IsBlock (blocks_of kind) → IsKindView (seen.File replication is_open bytes) kind
    → ((blocks : List Block) → All IsBlock blocks → bytes.now ≡ blocks_field blocks → count ≡ length blocks) → count ≡ length (blocks_of kind)
of_a_file (File r o blocks) replication is_open bytes count all shows counts = counts blocks all shows.2
of_a_file (Dir quota) replication is_open bytes count all shows counts = absurd shows

of_a_dir : (kind : Kind) (quota : Quota) → IsKindView (seen.Dir quota) kind → 0 ≡ length (blocks_of kind)
of_a_dir (File r o blocks) quota shows = absurd shows
of_a_dir (Dir other) quota shows = refl

pub returns-in-File : goal.returns-in-File
returns-in-File c = λ kind all shows.
    of_a_file kind c.in-File.replication c.in-File.is_open c.in-File.blocks c.count_blocks.result all (subst (λ k. IsKindView k kind) c.in-File.is shows) c.count_blocks.ensures

pub returns-in-Dir : goal.returns-in-Dir
returns-in-Dir c = λ kind all shows. of_a_dir kind c.in-Dir.quota (subst (λ k. IsKindView k kind) c.in-Dir.is shows)
