-- What follows from the definitions of opening and refusing alone.
use Rattle.std.specs.Prelude.{◌≡◌, ◌⊎◌, ℕ, ◌+◌, ◌<◌, ◌≤◌, false, None, Ok}
use Rattle.nn_base.specs.declared.sub.Sub.TheVariants.{Current, Previous}
use Rattle.nn_host.specs.Disk.{Reads}
use Rattle.nn_marks.specs.declared.version.Version.{Version}
use Rattle.nn_state.specs.declared.state.StorageState.TheVariants.{Normal}
use Rattle.nn_state.specs.Table.{seven_of, table_of}
use Rattle.nn_state.specs.Typed.{FitsFresh}
use Rattle.nn_tree.specs.Namespace.{Namespace}
use Rattle.nn_chain.specs.Folder.{HasVersion, HasSeen}
use Rattle.nn_chain.specs.Images.{IsIntact}
use Rattle.nn_chain.specs.Chain.{HasNoSegment, HasNoLater}
use Rattle.nn_pick.specs.declared.intent.Intent.{Intent}
use Rattle.nn_pick.specs.declared.refusal.Refusal.{Refusal}
use Rattle.nn_pick.specs.Dirs.{Dirs, HasFormatted}
use Rattle.nn_pick.specs.Refusing.{Refuses, IsOurLayout, spent_from}
use Rattle.nn_pick.specs.Opening.{Opening, Opens, OpensAlone, OpenSoundly}

-- at most one refusal is the answer
abbrev pub OneRefuses : Type 0
OneRefuses = (dirs : Dirs) (intent : Intent) (r s : Refusal) → Refuses dirs intent r → Refuses dirs intent s → r ≡ s

-- directories that open aren't refused
abbrev pub NoneOpensRefused : Type 0
NoneOpensRefused = (dirs : Dirs) (intent : Intent) (opened : Opening) (refusal : Refusal) → Opens dirs intent opened → ¬ Refuses dirs intent refusal

-- Directories open in at most one way, whatever they are opened for: the chosen ones, the last id, the namespace and what is saved are the same.
abbrev pub OneOpens : Type 0
OneOpens = (dirs : Dirs) (intent other : Intent) (a b : Opening) → Opens dirs intent a → Opens dirs other b → a ≡ b

-- ---- a directory whose `current` has a whole image and no record

-- no image is above it and no segment is there, and nothing is saved or under way
pub record HoldsImage (c : Reads) (version : Version) (id : ℕ) (ns : Namespace) : Type 0 where
  pub normal : table_of (seven_of c) ≡ Ok Normal
  pub nothing_saved : c.has Previous ≡ false
  pub says : HasVersion (c.file Current) version
  pub ours : IsOurLayout version.layout
  pub intact : IsIntact (c.file Current) version id ns
  pub later : HasNoLater (c.file Current) id
  pub segments : HasNoSegment (c.file Current)
  pub seen : (seen : ℕ) → HasSeen (c.file Current) seen → seen ≤ id + 1
  pub room : id < spent_from

-- it alone opens to the namespace of that image
abbrev pub AnImageOpensAlone : Type 0
AnImageOpensAlone = (c : Reads) (version : Version) (id : ℕ) (ns : Namespace) → HoldsImage c version id ns → OpensAlone c id (record { ns = ns; saved = None })

-- ---- several directories, as a format leaves them

-- each holds this image and no record, or is NOT_FORMATTED; and one is formatted
pub record HoldOneImage (dirs : Dirs) (version : Version) (id : ℕ) (ns : Namespace) : Type 0 where
  pub each : (i : ℕ) → i < dirs.count → FitsFresh (dirs.at i) ⊎ HoldsImage (dirs.at i) version id ns
  pub some : HasFormatted dirs

-- they open to the namespace of that image, and are sound
abbrev pub OneImageIsSound : Type 0
OneImageIsSound = (dirs : Dirs) (version : Version) (id : ℕ) (ns : Namespace) → HoldOneImage dirs version id ns → OpenSoundly dirs id (record { ns = ns; saved = None })
