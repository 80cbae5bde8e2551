use Rattle.std.proofs.Common.{◌≡◌, ℕ, Bool, List, ap, subst, ◌∙◌}
use Rattle.std.specs.Prelude.{All}
use Rattle.std.specs.Borrow.{Bor}
use Rattle.nn_quota.specs.declared.quota.Quota.{Quota}
use Rattle.nn_tree.specs.declared.node.Block.{Block}
use Rattle.nn_tree.specs.declared.node.Kind.{Kind}
use Rattle.nn_tree.specs.declared.node.Kind.TheVariants.{File, Dir}
use Rattle.nn_tree.specs.declared.node.Node.{Node}
use Rattle.nn_tree.specs.Limits.{IsBlock, IsKind}
use Rattle.nn_message.specs.declared.view.KindView.TheVariants as seen
use Rattle.nn_message.specs.declared.view.InodeView.{InodeView}
use Rattle.nn_message.specs.Messages.{Inode}
use Rattle.nn_message.specs.Spelling.{blocks_field}
use Rattle.nn_message.specs.Views.{IsInodeView, IsKindView}
use Rattle.nn_image.specs.Assembly.{Owned, node_of}
use Rattle.nn_image.proofs.node.node_from.Goals.{in-File+in_ok-read_blocks-in-File, in-Dir}
use Rattle.nn_image.proofs.node.node_from.Goals as goal

same_file : (kind : Kind) (replication : ℕ) (is_open : Bool) (bytes : Bor (List ℕ)) (list : List Block) → IsKind kind → IsKindView (seen.File replication is_open bytes) kind
    → ((blocks : List Block) → All IsBlock blocks → bytes.now ≡ blocks_field blocks → list ≡ blocks) → File replication is_open list ≡ kind
same_file (File r o blocks) replication is_open bytes list is shows read = let same = read blocks is.blocks shows.2 in λ i. File (shows.0 i) (shows.1 i) (same i)
same_file (Dir quota) replication is_open bytes list is shows read = absurd shows

same_dir : (kind : Kind) (quota : Quota) → IsKindView (seen.Dir quota) kind → Dir quota ≡ kind
same_dir (File r o blocks) quota shows = absurd shows
same_dir (Dir other) quota shows = ap Dir shows

same_node : (view : InodeView) (owned : Owned) (inode : Inode) (kind : Kind) → IsInodeView view inode → kind ≡ inode.kind
    → (let n : Node = record { id = view.id; owner = owned.owner; group = owned.group; mode = view.attributes.mode; time = view.attributes.time; kind = kind } in n) ≡ node_of owned inode
unfolding node_of
same_node view owned inode kind shows is = λ i. record { id = shows.id i; owner = owned.owner; group = owned.group; mode = (shows.attributes i).mode; time = (shows.attributes i).time; kind = is i }

pub returns-clause-ok : goal.returns-clause-ok
returns-clause-ok c = λ inode is shows.
    let owned : Owned = record { owner = c.args.owners.now.owner; group = c.args.owners.now.group; used = c.args.owners.now.used } in
    same_node c.args.view.now owned inode c.match-view.kind shows (elim c.match-view.branch [
      | in-File+in_ok-read_blocks-in-File w ↦
          w.kind-is ∙ same_file inode.kind w.in-File.replication w.in-File.is_open w.in-File.blocks w.in_ok-read_blocks-in-File.field-0 is.kind
          (subst (λ k. IsKindView k inode.kind) w.in-File.is shows.kind) w.in_ok-read_blocks-in-File.ensures.ok
      | in-Dir w ↦ w.kind-is ∙ same_dir inode.kind w.in-Dir.quota (subst (λ k. IsKindView k inode.kind) w.in-Dir.is shows.kind)
    ])
