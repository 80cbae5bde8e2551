-- What a listing says of a node.
use Rattle.std.specs.Prelude.{ℕ, ◌+◌, ◌/◌, ◌%◌, Bool, List, [], ◌∷◌, ◌++◌, length, codes, Option, Some, None, if◌then◌else◌}
use Rattle.std.specs.List.{flat_map}
use Rattle.std.specs.Fmt.{decimal}
use Rattle.nn_base.specs.Paths.{Bytes}
use Rattle.nn_quota.specs.declared.quota.Usage.{Usage}
use Rattle.nn_tree.specs.declared.node.Block.{Block}
use Rattle.nn_tree.specs.declared.node.Kind.{Kind}
use Rattle.nn_tree.specs.declared.node.Kind.TheVariants.{File, Dir}
use Rattle.nn_tree.specs.declared.node.Node.{Node}
use Rattle.nn_tree.specs.Nodes.{blocks_of, length_of}
use Rattle.nn_script.specs.Spelling.{escaped, line_of, spaced}

-- the most bytes that a part of a listing has, as `MAX_PART` of the code
abbrev pub max_part : ℕ
max_part = 768

-- four octal digits
abbrev pub mode_text : ℕ → Bytes
mode_text mode = (48 + mode / 512 % 8) ∷ (48 + mode / 64 % 8) ∷ (48 + mode / 8 % 8) ∷ (48 + mode % 8) ∷ []

abbrev pub quota_text : Option ℕ → Bytes
quota_text None = codes "-"
quota_text (Some bound) = decimal bound

abbrev pub open_text : Bool → Bytes
open_text is_open = if is_open then codes "open" else codes "closed"

-- the sign of a node, and what only a directory or only a file has
abbrev pub sign_of : Kind → Bytes
sign_of (Dir quota) = codes "d"
sign_of (File replication is_open blocks) = codes "f"

abbrev pub details : Kind → Usage → List Bytes
details (Dir quota) usage = quota_text quota.names ∷ quota_text quota.space ∷ decimal usage.names ∷ decimal usage.space ∷ []
details (File replication is_open blocks) usage = decimal replication ∷ open_text is_open ∷ decimal (length blocks) ∷ decimal (length_of blocks) ∷ []

-- what both have
abbrev pub attributes : Node → List Bytes
attributes node = decimal node.id ∷ mode_text node.mode ∷ escaped node.owner ∷ escaped node.group ∷ decimal node.time ∷ []

-- what stands in a node's line before its path
abbrev pub node_words : Node → Usage → Bytes
node_words node usage = sign_of node.kind ++ (spaced (attributes node) ++ (spaced (details node.kind usage) ++ codes " "))

-- the line of a node at a path, which is given by its text
abbrev pub node_line : Bytes → Node → Usage → Bytes
node_line path node usage = line_of (sign_of node.kind ∷ (attributes node ++ (details node.kind usage ++ escaped path ∷ [])))

abbrev pub block_line : Block → Bytes
block_line block = line_of (codes "b" ∷ decimal block.id ∷ decimal block.stamp ∷ decimal block.length ∷ [])

-- a file's blocks follow it
abbrev pub node_lines : Bytes → Node → Usage → Bytes
node_lines path node usage = node_line path node usage ++ flat_map block_line (blocks_of node.kind)
