-- How each message of an image is spelled: its fields in ascending order of number, after HDFS's `fsimage.proto`.
use Rattle.std.specs.Prelude.{ℕ, ◌+◌, Bool, List, [], ◌++◌, length, Option, Some, None, if◌then◌else◌}
use Rattle.std.specs.List.{flat_map}
use Rattle.nn_base.specs.Paths.{Bytes}
use Rattle.nn_quota.specs.declared.quota.Quota.{Quota}
use Rattle.nn_wire.specs.Varint.{varint}
use Rattle.nn_wire.specs.Field.{varint_field, bytes_field}
use Rattle.nn_tree.specs.declared.node.Block.{Block}
use Rattle.nn_tree.specs.declared.node.Kind.{Kind}
use Rattle.nn_tree.specs.declared.node.Kind.TheVariants.{File, Dir}
use Rattle.nn_message.specs.declared.message.Attributes.{Attributes}
use Rattle.nn_message.specs.Messages.{NsInfo, Text, Inode, DirEntry}

-- a field that may be missing

unfoldable pub optional : ℕ → Option ℕ → Bytes
optional number None = []
optional number (Some n) = varint_field number n

-- ---- messages

unfoldable pub ns_info : NsInfo → Bytes
ns_info info = varint_field 1 info.namespace ++ varint_field 3 info.stamp ++ varint_field 5 info.block ++ varint_field 6 info.txid

unfoldable pub strings : ℕ → Bytes
strings count = varint_field 1 count

unfoldable pub string : Text → Bytes
string entry = varint_field 1 entry.number ++ bytes_field 2 entry.text

unfoldable pub inodes : ℕ → ℕ → Bytes
inodes last count = varint_field 1 last ++ varint_field 2 count

unfoldable pub block : Block → Bytes
block b = varint_field 1 b.id ++ varint_field 2 b.stamp ++ varint_field 3 b.length

-- owner, group and mode, as the last fields of a directory and in the middle of a file
unfoldable pub access : ℕ → Attributes → Bytes
access first a = varint_field first a.owner ++ varint_field (first + 1) a.group ++ varint_field (first + 2) a.mode

unfoldable pub blocks_field : List Block → Bytes
blocks_field blocks = flat_map (λ b. bytes_field 6 (block b)) blocks

-- A file that isn't open has no seventh field.
unfoldable pub open_field : Bool → Bytes
open_field is_open = if is_open then varint_field 7 1 else []

unfoldable pub file : ℕ → Bool → List Block → Attributes → Bytes
file replication is_open blocks a = varint_field 1 replication ++ varint_field 2 a.time ++ access 3 a ++ blocks_field blocks ++ open_field is_open

unfoldable pub directory : Quota → Attributes → Bytes
directory quota a = varint_field 1 a.time ++ optional 2 quota.names ++ optional 3 quota.space ++ access 4 a

-- 1 for a file and 2 for a directory, as in `INodeSection.INode.Type`
abbrev pub kind_number : Kind → ℕ
kind_number (File replication is_open blocks) = 1
kind_number (Dir quota) = 2

unfoldable pub kind_field : Kind → Attributes → Bytes
kind_field (File replication is_open blocks) a = bytes_field 4 (file replication is_open blocks a)
kind_field (Dir quota) a = bytes_field 5 (directory quota a)

unfoldable pub inode : Inode → Bytes
inode i = varint_field 1 (kind_number i.kind) ++ varint_field 2 i.id ++ bytes_field 3 i.name ++ kind_field i.kind i.attributes

unfoldable pub dir_entry : DirEntry → Bytes
dir_entry entry = varint_field 1 entry.parent ++ bytes_field 2 (flat_map varint entry.children)

-- ---- messages in a section

-- the length of a message goes before it
unfoldable pub delimited : Bytes → Bytes
delimited message = varint (length message) ++ message
