-- What a view of a message shows.
use Rattle.std.specs.Prelude.{◌≡◌, ℕ, ◌≤◌, List}
use Rattle.std.specs.Borrow.{Bor}
use Rattle.std.specs.List.{flat_map}
use Rattle.nn_base.specs.Limits.{most_nodes, IsLong}
use Rattle.nn_wire.specs.Varint.{varint}
use Rattle.nn_tree.specs.declared.node.Kind.{Kind}
use Rattle.nn_tree.specs.declared.node.Kind.TheVariants.{File, Dir}
use Rattle.nn_message.specs.declared.message.Attributes.{Attributes}
use Rattle.nn_message.specs.declared.view.InfoView.{InfoView}
use Rattle.nn_message.specs.declared.view.InodeView.{InodeView}
use Rattle.nn_message.specs.declared.view.KindView.{KindView}
use Rattle.nn_message.specs.declared.view.KindView.TheVariants as seen
use Rattle.nn_message.specs.declared.view.DirView.{DirView}
use Rattle.nn_tree.specs.declared.node.Block.{Block}
use Rattle.nn_message.specs.Messages.{NsInfo, Text, Inode, DirEntry}
use Rattle.nn_message.specs.Spelling.{blocks_field}

abbrev pub info_of : InfoView → NsInfo
info_of view = record { namespace = view.namespace; stamp = view.stamp; block = view.block; txid = view.txid }

abbrev pub IsTextView : ℕ × Bor (List ℕ) → Text → Type 0
IsTextView view entry = (view.0 ≡ entry.number) × (view.1.now ≡ entry.text)

-- what INODE begins with: the last id, and how many nodes
abbrev pub AreInodes : ℕ × ℕ → Type 0
AreInodes x = IsLong x.0 × (x.1 ≤ most_nodes)

abbrev pub IsAccess : ℕ × ℕ × ℕ → ℕ × (ℕ × ℕ) → Type 0
IsAccess view access = (view.0 ≡ access.0) × (view.1 ≡ access.1.0) × (view.2 ≡ access.1.1)

abbrev pub IsBlocksView : Bor (List ℕ) → List Block → Type 0
IsBlocksView view blocks = view.now ≡ blocks_field blocks

-- the bytes of blocks are their fields, those of children their varints
abbrev pub IsKindView : KindView → Kind → Type 0
IsKindView (seen.File replication is_open bytes) (File r o blocks) = (replication ≡ r) × (is_open ≡ o) × (bytes.now ≡ blocks_field blocks)
IsKindView (seen.File replication is_open bytes) (Dir quota) = ⊥
IsKindView (seen.Dir quota) (File r o blocks) = ⊥
IsKindView (seen.Dir quota) (Dir q) = quota ≡ q

abbrev pub IsNodeView : KindView × Attributes → Kind × Attributes → Type 0
IsNodeView view node = IsKindView view.0 node.0 × (view.1 ≡ node.1)

pub record IsInodeView (view : InodeView) (inode : Inode) : Type 0 where
  pub id : view.id ≡ inode.id
  pub name : view.name.now ≡ inode.name
  pub attributes : view.attributes ≡ inode.attributes
  pub kind : IsKindView view.kind inode.kind

pub record IsDirView (view : DirView) (entry : DirEntry) : Type 0 where
  pub parent : view.parent ≡ entry.parent
  pub children : view.children.now ≡ flat_map varint entry.children
