-- Each block takes eight bytes of its node's message or more.
use Rattle.std.proofs.Common.{◌≡◌, ℕ, ◌+◌, ◌*◌, ◌≤◌, Bool, List, [], ◌∷◌, ◌++◌, length, length-append, arith}
use Rattle.nn_base.specs.Paths.{Bytes}
use Rattle.nn_wire.specs.Varint.{varint}
use Rattle.nn_wire.specs.Field.{varint_field, bytes_field}
use Rattle.nn_wire.proofs.SpellingLemmas.{varint_some}
use Rattle.nn_tree.specs.declared.node.Block.{Block}
use Rattle.nn_tree.specs.declared.node.Kind.{Kind}
use Rattle.nn_tree.specs.declared.node.Kind.TheVariants.{File, Dir}
use Rattle.nn_tree.specs.Nodes.{blocks_of}
use Rattle.nn_message.specs.declared.message.Attributes.{Attributes}
use Rattle.nn_message.specs.Messages.{Inode}
use Rattle.nn_message.specs.Spelling.{block, blocks_field, access, open_field, file, kind_field, kind_number, inode, delimited}
use Rattle.nn_image.specs.Building.{inodes_text, blocks_among}

number_weighs : (number value : ℕ) → 2 ≤ length (varint_field number value)
number_weighs number value = omega (arith, length-append (varint (8 * number)) (varint value), varint_some (8 * number), varint_some value)

content_weighs : (number : ℕ) (content : Bytes) → 2 + length content ≤ length (bytes_field number content)
content_weighs number content = omega (arith, length-append (varint (8 * number + 2)) (varint (length content) ++ content), length-append (varint (length content)) content, varint_some (8 * number + 2), varint_some (length content))

block_weighs : (b : Block) → 8 ≤ length (bytes_field 6 (block b))
unfolding block
block_weighs b =
    let id = varint_field 1 b.id in
    let stamp = varint_field 2 b.stamp in
    let len = varint_field 3 b.length in
    let parts : length (block b) ≡ length (id ++ stamp) + length len = length-append (id ++ stamp) len in
    let rest = length-append id stamp in
    omega (arith, content_weighs 6 (block b), parts, rest, number_weighs 1 b.id, number_weighs 2 b.stamp, number_weighs 3 b.length)

fields_weigh : (blocks : List Block) → 8 * length blocks ≤ length (blocks_field blocks)
unfolding blocks_field
fields_weigh [] = omega arith
fields_weigh (b ∷ bs) = omega (arith, length-append (bytes_field 6 (block b)) (blocks_field bs), block_weighs b, fields_weigh bs)

file_weighs : (replication : ℕ) (is_open : Bool) (blocks : List Block) (a : Attributes) → 8 * length blocks ≤ length (file replication is_open blocks a)
unfolding file
file_weighs replication is_open blocks a =
    let first = varint_field 1 replication in
    let time = varint_field 2 a.time in
    let who = access 3 a in
    let fields = blocks_field blocks in
    let mark = open_field is_open in
    let parts : length (file replication is_open blocks a) ≡ length (first ++ time ++ who ++ fields) + length mark = length-append (first ++ time ++ who ++ fields) mark in
    omega (arith, parts, length-append (first ++ time ++ who) fields, fields_weigh blocks)

kind_weighs : (kind : Kind) (a : Attributes) → 8 * length (blocks_of kind) ≤ length (kind_field kind a)
unfolding kind_field
kind_weighs (File replication is_open blocks) a =
    let whole : 2 + length (file replication is_open blocks a) ≤ length (kind_field (File replication is_open blocks) a) = content_weighs 4 (file replication is_open blocks a) in
    omega (arith, whole, file_weighs replication is_open blocks a)
kind_weighs (Dir quota) a = omega arith

node_weighs : (i : Inode) → 8 * length (blocks_of i.kind) ≤ length (delimited (inode i))
unfolding delimited inode
node_weighs i =
    let kind = varint_field 1 (kind_number i.kind) in
    let id = varint_field 2 i.id in
    let name = bytes_field 3 i.name in
    let field = kind_field i.kind i.attributes in
    let whole : length (delimited (inode i)) ≡ length (varint (length (inode i))) + length (inode i) = length-append (varint (length (inode i))) (inode i) in
    let parts : length (inode i) ≡ length (kind ++ id ++ name) + length field = length-append (kind ++ id ++ name) field in
    omega (arith, whole, parts, kind_weighs i.kind i.attributes)

pub blocks_weigh : (all : List Inode) → 8 * length (blocks_among all) ≤ length (inodes_text all)
blocks_weigh [] = omega arith
blocks_weigh (i ∷ is) = omega (arith, length-append (blocks_of i.kind) (blocks_among is), length-append (delimited (inode i)) (inodes_text is), node_weighs i, blocks_weigh is)
