-- How each message of an image is read, field by field: the grammar decides, and this says the same as what reading gives.
use Rattle.std.specs.Prelude.{ℕ, ◌+◌, ◌^◌, Bool, ◌&&◌, ◌||◌, ◌==◌, nat_lt, nat_le, if◌then◌else◌, List, length, None, is_some}
use Rattle.nn_base.specs.Limits.{most_label, most_nodes, most_blocks_of_file, most_block_length, most_replication, most_mode}
use Rattle.nn_base.specs.Paths.{Bytes, is_name}
use Rattle.nn_tree.specs.declared.node.Block.{Block}
use Rattle.nn_tree.specs.declared.node.Kind.{Kind}
use Rattle.nn_tree.specs.declared.node.Kind.TheVariants.{File, Dir}
use Rattle.nn_message.specs.declared.message.Attributes.{Attributes}
use Rattle.nn_message.specs.Messages.{NsInfo, Text, Inode, DirEntry}
use Rattle.nn_message.specs.Reading.{Reader, ◌then◌, mapped, chosen, only, number_at, varint_field_at, bytes_field_at, inside, field_with, has_key, maybe, is_some_byte, many}

-- ---- fields in their ranges

abbrev pub is_long : ℕ → Bool
is_long n = nat_lt n (2 ^ 63)

unfoldable pub long_at : ℕ → Reader ℕ
long_at number bytes = only is_long (varint_field_at number) bytes

-- ---- NS_INFO and STRING_TABLE

unfoldable pub namespace_at : Reader ℕ
namespace_at bytes = only (λ n. nat_le 1 n && nat_le n 2147483647) (varint_field_at 1) bytes

unfoldable pub ns_info_at : Reader NsInfo
ns_info_at bytes = mapped (λ x. record { namespace = x.0; stamp = x.1.0; block = x.1.1.0; txid = x.1.1.1 }) (namespace_at then long_at 3 then long_at 5 then long_at 6) bytes

unfoldable pub strings_at : Reader ℕ
strings_at bytes = varint_field_at 1 bytes

unfoldable pub label_at : Reader Bytes
label_at bytes = only (λ text. nat_le 1 (length text) && nat_le (length text) most_label) (bytes_field_at 2) bytes

unfoldable pub string_at : Reader Text
string_at bytes = mapped (λ x. record { number = x.0; text = x.1 }) (varint_field_at 1 then label_at) bytes

-- ---- INODE

unfoldable pub count_at : Reader ℕ
count_at bytes = only (λ n. nat_le n most_nodes) (varint_field_at 2) bytes

unfoldable pub inodes_at : Reader (ℕ × ℕ)
inodes_at bytes = (long_at 1 then count_at) bytes

unfoldable pub block_length_at : Reader ℕ
block_length_at bytes = only (λ n. nat_lt 0 n && nat_le n most_block_length) (varint_field_at 3) bytes

unfoldable pub block_at : Reader Block
block_at bytes = mapped (λ x. record { id = x.0; stamp = x.1.0; length = x.1.1 }) (long_at 1 then long_at 2 then block_length_at) bytes

unfoldable pub block_field_at : Reader Block
block_field_at bytes = field_with 6 block_at bytes

unfoldable pub blocks_at : Reader (List Block)
blocks_at bytes = only (λ blocks. nat_le (length blocks) most_blocks_of_file) (many (has_key 50) block_field_at) bytes

unfoldable pub mode_at : ℕ → Reader ℕ
mode_at number bytes = only (λ n. nat_le n most_mode) (varint_field_at number) bytes

-- the owner, the group and the mode
unfoldable pub access_at : ℕ → Reader (ℕ × (ℕ × ℕ))
access_at first bytes = (varint_field_at first then varint_field_at (first + 1) then mode_at (first + 2)) bytes

abbrev pub attributes_with : ℕ → ℕ × (ℕ × ℕ) → Attributes
attributes_with time access = record { time = time; owner = access.0; group = access.1.0; mode = access.1.1 }

-- there is no other mark than 1
unfoldable pub open_at : Reader Bool
open_at bytes = mapped (λ mark. is_some mark) (maybe 56 (only (λ n. n == 1) (varint_field_at 7))) bytes

unfoldable pub replication_at : Reader ℕ
replication_at bytes = only (λ n. nat_lt 0 n && nat_le n most_replication) (varint_field_at 1) bytes

unfoldable pub file_at : Reader (Kind × Attributes)
file_at bytes = mapped (λ x. (File x.0 x.1.1.1.1 x.1.1.1.0, attributes_with x.1.0 x.1.1.0)) (replication_at then long_at 2 then access_at 3 then blocks_at then open_at) bytes

unfoldable pub names_at : Reader ℕ
names_at bytes = only (λ n. nat_lt 0 n && is_long n) (varint_field_at 2) bytes

unfoldable pub directory_at : Reader (Kind × Attributes)
directory_at bytes = mapped (λ x. (Dir (record { names = x.1.0; space = x.1.1.0 }), attributes_with x.0 x.1.1.1)) (long_at 1 then maybe 16 names_at then maybe 24 (long_at 3) then access_at 4) bytes

unfoldable pub kind_at : ℕ → Reader (Kind × Attributes)
kind_at number bytes = if number == 1 then field_with 4 file_at bytes else if number == 2 then field_with 5 directory_at bytes else None

unfoldable pub name_at : Reader Bytes
name_at bytes = only (λ name. (length name == 0) || is_name name) (bytes_field_at 3) bytes

unfoldable pub inode_at : Reader Inode
inode_at bytes = mapped (λ x. record { id = x.0; name = x.1.0; attributes = x.1.1.1; kind = x.1.1.0 }) (chosen (varint_field_at 1) (λ number. long_at 2 then name_at then kind_at number)) bytes

-- ---- INODE_DIR

unfoldable pub child_at : Reader ℕ
child_at bytes = only is_long number_at bytes

unfoldable pub children_at : Reader (List ℕ)
children_at bytes = many is_some_byte child_at bytes

unfoldable pub dir_entry_at : Reader DirEntry
dir_entry_at bytes = mapped (λ x. record { parent = x.0; children = x.1 }) (long_at 1 then field_with 2 children_at) bytes

-- ---- sections

unfoldable pub info_section_at : Reader NsInfo
info_section_at bytes = inside ns_info_at bytes

unfoldable pub strings_section_at : Reader (ℕ × List Text)
strings_section_at bytes = (inside strings_at then many is_some_byte (inside string_at)) bytes

unfoldable pub inodes_section_at : Reader ((ℕ × ℕ) × List Inode)
inodes_section_at bytes = (inside inodes_at then many is_some_byte (inside inode_at)) bytes

unfoldable pub directories_section_at : Reader (List DirEntry)
directories_section_at bytes = many is_some_byte (inside dir_entry_at) bytes
