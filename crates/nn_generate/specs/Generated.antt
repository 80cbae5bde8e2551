-- The script of `generate N`: a hundred files a directory, each of them made, given a block and closed.
use Rattle.std.specs.Prelude.{ℕ, zero, suc, ◌+◌, ◌*◌, ◌/◌, ◌%◌, ◌==◌, [], ◌∷◌, ◌++◌, codes, if◌then◌else◌}
use Rattle.std.specs.Fmt.{decimal}
use Rattle.nn_base.specs.Paths.{Bytes}
use Rattle.nn_script.specs.Spelling.{line_of}

-- the path of a directory and of a file, by the digits of their numbers
abbrev pub dir_by : Bytes → Bytes
dir_by dir = codes "/g" ++ dir

abbrev pub path_by : Bytes → Bytes → Bytes
path_by dir file = dir_by dir ++ (codes "/f" ++ file)

-- the directory of file k, and the path of the file
abbrev pub dir_of : ℕ → Bytes
dir_of k = dir_by (decimal (k / 100))

abbrev pub path_of : ℕ → Bytes
path_of k = path_by (decimal (k / 100)) (decimal k)

-- how long its block is: up to 128 MiB
abbrev pub length_of : ℕ → ℕ
length_of k = 1 + (k * 9000) % 134217728

-- the first file of a directory has the directory's line in front
abbrev pub dir_line : ℕ → Bytes
dir_line k = if k % 100 == 0 then line_of (codes "mkdir" ∷ dir_of k ∷ []) else []

-- the lines of file k
abbrev pub file_lines : ℕ → Bytes
file_lines k =
    dir_line k
    ++ (line_of (codes "create" ∷ path_of k ∷ codes "3" ∷ [])
    ++ (line_of (codes "block" ∷ path_of k ∷ decimal (length_of k) ∷ [])
    ++ line_of (codes "close" ∷ path_of k ∷ [])))

-- those of the first n files, from file 0 on
abbrev pub script_of : ℕ → Bytes
script_of zero = []
script_of (suc k) = script_of k ++ file_lines k

-- how many files a script is made for at most, as `MOST_FILES` of the code
abbrev pub most_files : ℕ
most_files = 500000

-- the most bytes that the lines of a file have, as `MAX_FILE` of the code
abbrev pub max_file : ℕ
max_file = 128
