-- The texts of a Version: those that say it, and the one that is written.
use Rattle.std.specs.Prelude.{◌≡◌, ℕ, List, ◌++◌, drop, codes, pos, neg_ℤ, Some, None, IsSomeAnd}
use Rattle.std.specs.List.{flat_map}
use Rattle.std.specs.Fmt.{decimal, signed_decimal}
use Rattle.std.specs.Str.Lines.{lines}
use Rattle.std.specs.Str.Parse.{digits_value}
use Rattle.nn_marks.specs.declared.key.Key.{Key}
use Rattle.nn_marks.specs.declared.key.Key.TheVariants.{NamespaceId, ClusterId, CTime, StorageType, BlockpoolId, LayoutVersion}
use Rattle.nn_marks.specs.declared.version.Version.{Version}
use Rattle.nn_marks.specs.Version.{Line, keys, front_of, value_of}
use Rattle.nn_marks.specs.VersionFaults.{fault_of}

-- the lines give each key its value
pub record Says (lines : List Line) (version : Version) : Type 0 where
  pub namespace : IsSomeAnd (value_of NamespaceId lines) (λ digits. version.namespace ≡ digits_value 10 digits)
  pub cluster : value_of ClusterId lines ≡ Some version.cluster
  pub ctime : IsSomeAnd (value_of CTime lines) (λ digits. version.ctime ≡ digits_value 10 digits)
  pub blockpool : value_of BlockpoolId lines ≡ Some version.blockpool
  pub layout : IsSomeAnd (value_of LayoutVersion lines) (λ text. version.layout ≡ neg_ℤ (pos (digits_value 10 (drop 1 text))))

-- a text without a fault, whose lines say it
pub record IsVersionText (bytes : List ℕ) (version : Version) : Type 0 where
  pub sound : fault_of bytes ≡ None
  pub says : Says (lines bytes) version

-- each text without a fault says something
abbrev pub FaultlessSays : Type 0
FaultlessSays = (bytes : List ℕ) → fault_of bytes ≡ None → (version : Version) × IsVersionText bytes version

-- the value of a key as it is written
abbrev pub value_text : Version → Key → List ℕ
value_text version NamespaceId = decimal version.namespace
value_text version ClusterId = version.cluster
value_text version CTime = decimal version.ctime
value_text version StorageType = codes "NAME_NODE"
value_text version BlockpoolId = version.blockpool
value_text version LayoutVersion = signed_decimal version.layout

abbrev pub line_text : Version → Key → List ℕ
line_text version key = front_of key ++ (value_text version key ++ codes "\n")

-- a line for each key, in their order
abbrev pub version_text_of : Version → List ℕ
version_text_of version = flat_map (line_text version) keys
