-- How far the tree of an image is built: what the directories held open, and the bytes to come, stand for.
use Rattle.std.specs.Prelude.{◌≡◌, ◌&&◌, bytes_eq, ℕ, Bool, true, nat_le, List, [], ◌∷◌, ◌++◌, map, length, All, Option, Some, None}
use Rattle.std.specs.Borrow.{Bor}
use Rattle.std.specs.List.{flat_map, list_all}
use Rattle.nn_base.specs.Limits.{IsLong}
use Rattle.nn_base.specs.Paths.{Bytes, Names, joined}
use Rattle.nn_wire.specs.Varint.{varint}
use Rattle.nn_tree.specs.declared.node.Block.{Block}
use Rattle.nn_tree.specs.declared.spot.Spot.{Spot}
use Rattle.nn_tree.specs.Nodes.{blocks_of}
use Rattle.nn_tree.specs.Namespace.{Namespace, node_count, block_count}
use Rattle.nn_image.specs.declared.open_dir.OpenDir.{OpenDir}
use Rattle.nn_image.specs.declared.noted.Noted.{Noted}
use Rattle.nn_image.specs.declared.half.Half.{Half}
use Rattle.nn_image.specs.declared.assemble.Heads.{Heads}
use Rattle.nn_image.specs.declared.prepared.Prepared.{Prepared}
use Rattle.nn_message.specs.Messages.{Content, Text, Inode, DirEntry, IsInode, IsDirEntry}
use Rattle.nn_message.specs.Spelling.{delimited, string, inode, dir_entry}
use Rattle.nn_image.specs.Assembly.{Owned, node_of, use_names, Level, Partial, waiting, placed, has_room, Listing, add_all, are_numbered, are_distinct}

-- ---- directories held open

-- a directory held open is a level: by its spot, and by the bytes of what it has to come
pub record IsOpen (has : Spot → Bool) (place : Spot → Names) (dir : OpenDir) (level : Level) : Type 0 where
  pub there : has dir.spot ≡ true
  pub path : place dir.spot ≡ level.path
  pub newest : dir.newest.now ≡ level.newest
  pub ids : All IsLong level.children
  pub children : dir.children.now ≡ flat_map varint level.children
  pub names : dir.names ≡ length level.path
  pub text : dir.text ≡ length (joined level.path)

-- the innermost is the last
abbrev pub AreOpen : (Spot → Bool) → (Spot → Names) → List OpenDir → List Level → Type 0
AreOpen has place dirs [] = dirs ≡ []
AreOpen has place dirs (level ∷ outer) = (dir : OpenDir) × (front : List OpenDir) × (dirs ≡ front ++ dir ∷ []) × IsOpen has place dir level × AreOpen has place front outer

-- ---- messages that repeat, one after the other

abbrev pub texts_text : List Text → Bytes
texts_text texts = flat_map (λ t. delimited (string t)) texts

abbrev pub inodes_text : List Inode → Bytes
inodes_text inodes = flat_map (λ i. delimited (inode i)) inodes

abbrev pub entries_text : List DirEntry → Bytes
entries_text entries = flat_map (λ d. delimited (dir_entry d)) entries

-- ---- the string table

-- numbered from 1 in their order, and none twice
unfoldable pub are_table : List Text → Bool
are_table texts = are_numbered 1 texts && are_distinct bytes_eq (map (λ t. t.text) texts)

-- ---- what INODE_DIR has for a node

-- the bytes of a node's children, and of the entries behind its own
pub record IsListed (own others : Bytes) (l : Listing) : Type 0 where
  pub ids : All IsLong l.children
  pub children : own ≡ flat_map varint l.children
  pub entries : All IsDirEntry l.rest
  pub rest : others ≡ entries_text l.rest

abbrev pub IsListing : Option (Bor (List ℕ)) → Bytes → Listing → Type 0
IsListing None rest l = ⊥
IsListing (Some children) rest l = IsListed children.now rest l

-- ---- what was given

abbrev pub blocks_among : List Inode → List Block
blocks_among inodes = flat_map (λ i. blocks_of i.kind) inodes

-- the ids of these nodes and of their blocks, in their order, and the greatest stamp
pub record IsNoted (noted : Noted) (done : List Inode) : Type 0 where
  pub inodes : noted.inodes.items ≡ map (λ i. i.id) done
  pub blocks : noted.blocks.items ≡ map (λ b. b.id) (blocks_among done)
  pub stamp : (last : ℕ) → nat_le noted.stamp last ≡ list_all (λ b. nat_le b.stamp last) (blocks_among done)

-- ---- the next node, before it is put into the tree

-- It belongs to these names, and it is the child that comes next in the directory, which has it already as its newest.
pub record IsPrepared (p : Prepared) (dirs : List OpenDir) (has : Spot → Bool) (place : Spot → Names) (table : List Bytes) (h : Partial) (inode : Inode) : Type 0 where
  pub owned : Owned
  pub uses : use_names table h.used inode.attributes ≡ Some owned
  pub level : Level
  pub outer : List Level
  pub stands : placed (waiting h.levels) inode ≡ Some (record { path = level.path ++ inode.name ∷ []; levels = level ∷ outer })
  pub room : has_room h.nodes (level.path ++ inode.name ∷ []) inode.kind ≡ true
  pub parent : IsOpen has place p.parent level
  pub others : AreOpen has place dirs outer
  pub path : p.names ≡ length (level.path ++ inode.name ∷ [])
  pub text : p.text ≡ length (joined (level.path ++ inode.name ∷ []))
  pub name : p.name ≡ inode.name
  pub node : p.node ≡ node_of owned inode
  pub used : p.used ≡ owned.used

-- ---- a tree that is partly built

-- It is what the model makes of these messages, but for the directories held open.
pub record IsMade (half : Half) (ns : Namespace) (table : List Bytes) (dir_entries : List DirEntry) (done : List Inode) (h : Partial) : Type 0 where
  pub ranges : All IsInode done
  pub made : add_all table dir_entries done ≡ Some h
  pub nodes : ns.nodes ≡ h.nodes
  pub used : half.used ≡ h.used
  pub listed : All IsDirEntry h.dir_entries
  pub directories : half.directories.now ≡ entries_text h.dir_entries
  pub noted : IsNoted half.noted done
  pub inodes : node_count h.nodes ≡ length done
  pub blocks : block_count h.nodes ≡ length (blocks_among done)

pub record IsHalf (half : Half) (ns : Namespace) (has : Spot → Bool) (place : Spot → Names) (table : List Bytes) (dir_entries : List DirEntry) (done : List Inode) (h : Partial) : Type 0 where
  pub so_far : IsMade half ns table dir_entries done h
  pub dirs : AreOpen has place half.dirs.items h.levels

-- ---- what the sections begin with

pub record AreHeads (heads : Heads) (content : Content) : Type 0 where
  pub inode : heads.last.inode ≡ content.last_inode
  pub block : heads.last.block ≡ content.info.block
  pub stamp : heads.last.stamp ≡ content.info.stamp
  pub strings : heads.strings ≡ content.text_count
  pub nodes : heads.nodes ≡ content.inode_count
  pub texts : heads.texts.now ≡ texts_text content.texts
  pub inodes : heads.inodes.now ≡ inodes_text content.inodes
