-- The limits that contracts of more than one crate speak of, each with its number once. `src/limits.rt` says the same to the code.
use Rattle.std.specs.Prelude.{ℕ, ℤ, pos, neg_ℤ, ◌^◌, ◌<◌}

-- the layout that this program writes and reads
abbrev pub program_layout : ℤ
program_layout = neg_ℤ (pos 1001)

-- name directories of a run
abbrev pub most_dirs : ℕ
most_dirs = 8

-- ---- names and paths, in bytes, and levels below the root

abbrev pub most_name : ℕ
most_name = 255

-- a word of a VERSION: the id of a cluster or of a block pool
abbrev pub most_word : ℕ
most_word = 255

abbrev pub most_levels : ℕ
most_levels = 1000

abbrev pub most_path : ℕ
most_path = 8000

-- an owner or a group
abbrev pub most_label : ℕ
most_label = 32

-- nine bits of permissions and the sticky bit: 1777 in octal
abbrev pub most_mode : ℕ
most_mode = 1023

-- ---- the namespace

abbrev pub most_nodes : ℕ
most_nodes = 1048576

abbrev pub most_blocks : ℕ
most_blocks = 8388608

abbrev pub most_blocks_of_file : ℕ
most_blocks_of_file = 10000

abbrev pub most_block_length : ℕ
most_block_length = 2 ^ 40

abbrev pub most_replication : ℕ
most_replication = 512

-- a number that Hadoop's signed `long` holds: ids, times and quotas
abbrev pub IsLong : ℕ → Type 0
IsLong n = n < 2 ^ 63

-- ---- files, in bytes

abbrev pub most_record : ℕ
most_record = 65536

-- of a segment as it is written
abbrev pub most_segment : ℕ
most_segment = 2 ^ 26

-- of a segment as it is read
abbrev pub most_segment_read : ℕ
most_segment_read = 2 ^ 30

abbrev pub most_version : ℕ
most_version = 65536

abbrev pub most_image : ℕ
most_image = 2 ^ 30

-- ---- a script and its answers, in bytes

abbrev pub most_script : ℕ
most_script = 2 ^ 26

-- without the newline that ends it
abbrev pub most_line : ℕ
most_line = 65535

-- what goes out at once
abbrev pub most_piece : ℕ
most_piece = 65536
