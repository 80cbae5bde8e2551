-- A name directory before, while and after it is formatted, and what a stop leaves of it.
use Rattle.std.specs.Prelude.{◌⊎◌, ℕ, ◌<◌, None}
use Rattle.nn_host.specs.Disk.{Disk, Reads}
use Rattle.nn_state.specs.Typed.{FitsFresh}
use Rattle.nn_marks.specs.declared.version.Version.{Version}
use Rattle.nn_tree.specs.Namespace.{empty_namespace}
use Rattle.nn_remake.specs.Made.{IsMade, ReadsMade}
use Rattle.nn_pick.specs.Dirs.{Dirs, HasFormatted, EachChoice}
use Rattle.nn_pick.specs.Opening.{OpensAlone, OpenSoundly}

-- just VERSION, seen_txid of the id 0, the image of the empty namespace and its MD5 file, all synced
abbrev pub IsFormatted : Version → Disk → Type 0
IsFormatted version d = IsMade version 0 empty_namespace d

-- the same, as it reads
abbrev pub ReadsFormatted : Version → Reads → Type 0
ReadsFormatted version r = ReadsMade version 0 empty_namespace r

abbrev pub FreshOrNew : Version → Disk → Type 0
FreshOrNew version d = FitsFresh d ⊎ IsFormatted version d

-- what a stop leaves of that
abbrev pub LeftFreshOrNew : Version → Reads → Type 0
LeftFreshOrNew version c = FitsFresh c ⊎ ReadsFormatted version c

-- it alone opens to the empty namespace, at the id 0 with nothing saved
abbrev pub OpensEmpty : Reads → Type 0
OpensEmpty c = OpensAlone c 0 (record { ns = empty_namespace; saved = None })

-- ---- several of them

-- they open to the empty namespace, at the id 0 with nothing saved, and are sound
abbrev pub OpenEmptySoundly : Dirs → Type 0
OpenEmptySoundly dirs = OpenSoundly dirs 0 (record { ns = empty_namespace; saved = None })

-- so does each choice of the first `count` directories that has one that is formatted
abbrev pub EachChoiceOpensEmpty : ℕ → (ℕ → Reads) → Type 0
EachChoiceOpensEmpty count contents = EachChoice count contents (λ dirs. HasFormatted dirs → OpenEmptySoundly dirs)

-- each is NOT_FORMATTED, or alone opens to the empty namespace; and so do choices of them
pub record LeftFreshOrOpen (count : ℕ) (contents : ℕ → Reads) : Type 0 where
  pub each : (i : ℕ) → i < count → FitsFresh (contents i) ⊎ OpensEmpty (contents i)
  pub choices : EachChoiceOpensEmpty count contents
