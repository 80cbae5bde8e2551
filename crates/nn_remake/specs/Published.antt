-- What `publish` answers.
use Rattle.std.specs.Prelude.{◌≡◌, ◌⊎◌, ℕ}
use Rattle.nn_base.specs.declared.sub.Sub.TheVariants.{Current}
use Rattle.nn_host.specs.Moments.{State, disk_at}
use Rattle.nn_marks.specs.declared.version.Version.{Version}
use Rattle.nn_tree.specs.Namespace.{Namespace}
use Rattle.nn_chain.specs.Folder.{folder_at}
use Rattle.nn_chain.specs.Images.{HasIntact, IsIntact}
use Rattle.nn_remake.specs.Publishing.{WasWritten}

-- an intact image of this id was there already, and nothing was changed
pub record WasThere (version : Version) (id : ℕ) (i : ℕ) (old new : State) : Type 0 where
  pub intact : HasIntact (folder_at (old.reads i) Current) version id
  pub disk : disk_at new i ≡ disk_at old i
  pub reads : new.reads i ≡ old.reads i

-- no intact image of this id was there, and this one was written
pub record WasMissing (version : Version) (id : ℕ) (ns : Namespace) (i : ℕ) (old new : State) : Type 0 where
  pub unsound : ¬ HasIntact (folder_at (old.reads i) Current) version id
  pub written : WasWritten version id ns i old new

abbrev pub IsPublished : Version → ℕ → Namespace → ℕ → State → State → Type 0
IsPublished version id ns i old new = WasMissing version id ns i old new ⊎ WasThere version id i old new

-- an intact image of this id, if there is one in `current`, is of this namespace
abbrev pub IsOnlyOf : Version → ℕ → Namespace → ℕ → State → Type 0
IsOnlyOf version id ns i s = (other : Namespace) → IsIntact (folder_at (s.reads i) Current) version id other → other ≡ ns

-- the image of this id is intact in `current`, as it reads
abbrev pub ReadsIntact : Version → ℕ → Namespace → ℕ → State → Type 0
ReadsIntact version id ns i s = IsIntact (folder_at (s.reads i) Current) version id ns
