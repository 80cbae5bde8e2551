-- What the messages of an image hold, and the range of each number in them.
use Rattle.std.specs.Prelude.{◌≡◌, ◌≢◌, ℕ, ◌^◌, ◌<◌, ◌≤◌, ◌⊎◌, true, List, [], All, Some}
use Rattle.nn_base.specs.Labels.{IsLabel}
use Rattle.nn_base.specs.Limits.{most_nodes, IsLong, most_mode}
use Rattle.nn_base.specs.Paths.{Bytes, is_name}
use Rattle.nn_tree.specs.declared.node.Kind.{Kind}
use Rattle.nn_message.specs.declared.message.Attributes.{Attributes}
use Rattle.nn_tree.specs.Nodes.{quota_of}
use Rattle.nn_tree.specs.Limits.{IsKind}

-- what a varint can spell
abbrev pub IsVarintNumber : ℕ → Type 0
IsVarintNumber n = n < 2 ^ 64

-- the namespaceID, the last stamp and block id given, and the transaction id of the image
pub record NsInfo : Type 0 where
  pub namespace : ℕ
  pub stamp : ℕ
  pub block : ℕ
  pub txid : ℕ

abbrev pub IsNamespaceId : ℕ → Type 0
IsNamespaceId n = (1 ≤ n) × (n ≤ 2147483647)

pub record IsNsInfo (info : NsInfo) : Type 0 where
  pub namespace : IsNamespaceId info.namespace
  pub stamp : IsLong info.stamp
  pub block : IsLong info.block
  pub txid : IsLong info.txid

-- an entry of the string table: the name of an owner or of a group, and its number
pub record Text : Type 0 where
  pub number : ℕ
  pub text : Bytes

pub record IsText (entry : Text) : Type 0 where
  pub number : IsVarintNumber entry.number
  pub text : IsLabel entry.text

-- a node as it stands in the image: with the last name of its path, and its owner and its group by their numbers
pub record Inode : Type 0 where
  pub id : ℕ
  pub name : Bytes
  pub attributes : Attributes
  pub kind : Kind

pub record AreAttributes (a : Attributes) : Type 0 where
  pub time : IsLong a.time
  pub owner : IsVarintNumber a.owner
  pub group : IsVarintNumber a.group
  pub mode : a.mode ≤ most_mode

-- Only the root has no name. A name quota, where there is one, lets at least the directory itself be.
pub record IsInode (inode : Inode) : Type 0 where
  pub id : IsLong inode.id
  pub name : (inode.name ≡ []) ⊎ (is_name inode.name ≡ true)
  pub attributes : AreAttributes inode.attributes
  pub kind : IsKind inode.kind
  pub some : (quota_of inode.kind).names ≢ Some 0

-- a directory by its id, and the ids of its children
pub record DirEntry : Type 0 where
  pub parent : ℕ
  pub children : List ℕ

pub record IsDirEntry (entry : DirEntry) : Type 0 where
  pub parent : IsLong entry.parent
  pub children : All IsLong entry.children

-- all that the messages of the four sections hold
pub record Content : Type 0 where
  pub info : NsInfo
  pub text_count : ℕ
  pub texts : List Text
  pub last_inode : ℕ
  pub inode_count : ℕ
  pub inodes : List Inode
  pub dir_entries : List DirEntry

-- Each message is in range by itself; how they go together isn't asked here.
pub record IsContent (content : Content) : Type 0 where
  pub info : IsNsInfo content.info
  pub text_count : IsVarintNumber content.text_count
  pub texts : All IsText content.texts
  pub last_inode : IsLong content.last_inode
  pub inode_count : content.inode_count ≤ most_nodes
  pub inodes : All IsInode content.inodes
  pub dir_entries : All IsDirEntry content.dir_entries
