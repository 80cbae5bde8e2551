-- VERSION, the file that says which cluster and which layout a folder belongs to: the values that its lines give the keys.
use Rattle.std.specs.Prelude.{ℕ, Bool, true, ◌==◌, List, [], ◌∷◌, ◌++◌, length, drop, map, codes, nat_eq, Option, Some, None, is_some, if◌then◌else◌}
use Rattle.std.specs.List.{starts_with}
use Rattle.nn_base.specs.First.{first_of}
use Rattle.nn_marks.specs.declared.key.Key.{Key}
use Rattle.nn_marks.specs.declared.key.Key.TheVariants.{NamespaceId, ClusterId, CTime, StorageType, BlockpoolId, LayoutVersion}

-- a line of the file, without its newline and the carriage return before that
abbrev pub Line : Type 0
Line = List ℕ

abbrev pub name_of : Key → List ℕ
name_of NamespaceId = codes "namespaceID"
name_of ClusterId = codes "clusterID"
name_of CTime = codes "cTime"
name_of StorageType = codes "storageType"
name_of BlockpoolId = codes "blockpoolID"
name_of LayoutVersion = codes "layoutVersion"

-- in the order in which they are written, and their faults told
abbrev pub keys : List Key
keys = NamespaceId ∷ ClusterId ∷ CTime ∷ StorageType ∷ BlockpoolId ∷ LayoutVersion ∷ []

-- how a line begins that gives a key. No name has a `=`, so this is the first one of the line
abbrev pub front_of : Key → List ℕ
front_of key = name_of key ++ codes "="

-- the value that a line gives a key: what stands behind the `=`
abbrev pub value_in : Key → Line → Option (List ℕ)
value_in key line = if starts_with nat_eq line (front_of key) then Some (drop (length (front_of key)) line) else None

-- the value that the first such line gives a key
abbrev pub value_of : Key → List Line → Option (List ℕ)
value_of key lines = first_of (map (value_in key) lines)

-- the key that a line gives a value
abbrev pub key_in : Line → Option Key
key_in line = first_of (map (λ key. if is_some (value_in key line) then Some key else None) keys)

-- an empty line, or a comment
abbrev pub is_skipped : Line → Bool
is_skipped [] = true
is_skipped (byte ∷ _) = byte == 35
