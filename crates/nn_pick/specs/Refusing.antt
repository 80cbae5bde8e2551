-- Why name directories can't be opened: the tests in their order, of which the first that applies is the answer, and within one the lowest directory.
use Rattle.std.specs.Prelude.{◌≡◌, ◌≢◌, ◌⊎◌, ℕ, ℤ, ◌+◌, ◌-◌, ◌<◌, ◌≤◌, ◌^◌, ◌<ℤ◌, not, ◌==◌, Option, Some, None, if◌then◌else◌}
use Rattle.std.specs.Str.{bytes_eq}
use Rattle.nn_base.specs.Limits.{program_layout}
use Rattle.nn_marks.specs.declared.key.Key.{Key}
use Rattle.nn_marks.specs.declared.key.Key.TheVariants.{NamespaceId, ClusterId, BlockpoolId}
use Rattle.nn_marks.specs.declared.version.Version.{Version}
use Rattle.nn_state.specs.Table.{seven_of, table_of}
use Rattle.nn_chain.specs.Folder.{Folder, HasVersion, HasSeen}
use Rattle.nn_chain.specs.Images.{HasIntact, HasNoImage}
use Rattle.nn_chain.specs.Chain.{Reached, IsChain}
use Rattle.nn_pick.specs.declared.intent.Intent.{Intent}
use Rattle.nn_pick.specs.declared.intent.Intent.TheVariants.{Upgrade, Rollback}
use Rattle.nn_pick.specs.declared.refusal.PreviousWhy.{PreviousWhy}
use Rattle.nn_pick.specs.declared.refusal.PreviousWhy.TheVariants as why
use Rattle.nn_pick.specs.declared.refusal.Refusal.{Refusal}
use Rattle.nn_pick.specs.declared.refusal.Refusal.TheVariants.{Missing, Inconsistent, Formatted, NotFormatted, BadVersion, Mismatch, FutureLayout, ForeignLayout, NoImage, Gap, Spent, PreviousExists, CtimeSpent, NoPrevious, BadPrevious}
use Rattle.nn_state.specs.Seat.{saved}
use Rattle.nn_pick.specs.Refused.{unusable, first_refused}
use Rattle.nn_pick.specs.Dirs.{Dirs, IsLowest, IsFormatted, ServesCurrent, ServesPrevious, ServesUnder, HasGreatestCtime, IsChosen, IsAmongChosen, IsGreatestSeen, version_fault}

-- the layouts that this program reads
abbrev pub IsOurLayout : ℤ → Type 0
IsOurLayout layout = layout ≡ program_layout

-- ---- VERSIONs

abbrev pub IsFaulty : Dirs → ℕ → Type 0
IsFaulty dirs i = (folder : Folder) × ServesCurrent (dirs.at i) folder × (version_fault folder ≢ None)

-- the first key of the three that tell clusters apart by which two VERSIONs differ
abbrev pub first_difference : Version → Version → Option Key
first_difference a b =
    if not (a.namespace == b.namespace) then Some NamespaceId
    else if not (bytes_eq a.cluster b.cluster) then Some ClusterId
    else if not (bytes_eq a.blockpool b.blockpool) then Some BlockpoolId
    else None

-- the VERSION of i differs from this one by this key
pub record Differs (dirs : Dirs) (version : Version) (i : ℕ) (key : Key) : Type 0 where
  pub other : Version
  pub folder : Folder
  pub under : ServesUnder (dirs.at i) other folder
  pub by : first_difference version other ≡ Some key

-- the VERSION of i has a layout of which P holds
pub record HasLayout (dirs : Dirs) (P : ℤ → Type 0) (i : ℕ) (found : ℤ) : Type 0 where
  pub version : Version
  pub folder : Folder
  pub under : ServesUnder (dirs.at i) version folder
  pub is : version.layout ≡ found
  pub so : P found

-- newer than this program
abbrev pub IsFuture : ℤ → Type 0
IsFuture layout = layout <ℤ program_layout

-- older, and none of ours
abbrev pub IsForeign : ℤ → Type 0
IsForeign layout = (program_layout <ℤ layout) × ¬ IsOurLayout layout

-- ---- the folder that serves as previous

-- what is wrong with it, beside what VERSION of the folder that serves as current says
abbrev pub IsWrong : PreviousWhy → Version → Folder → Type 0
IsWrong why.Version version folder = (own : Version) → ¬ HasVersion folder own
IsWrong why.Ids version folder = (own : Version) × HasVersion folder own × (first_difference version own ≢ None)
IsWrong why.Layout version folder = (own : Version) × HasVersion folder own × ((¬ IsOurLayout own.layout) ⊎ (own.layout <ℤ version.layout))
IsWrong why.Ctime version folder = (own : Version) × HasVersion folder own × (version.ctime ≤ own.ctime)
IsWrong why.Image version folder = (own : Version) × HasVersion folder own × ((id : ℕ) → ¬ HasIntact folder own id)
IsWrong why.Gap version folder = (own : Version) × (end : Reached) × (seen : ℕ) × HasVersion folder own × IsChain folder own end × HasSeen folder seen × (end.last + 1 < seen)

-- in the order in which it is looked for
abbrev pub order_of : PreviousWhy → ℕ
order_of why.Version = 0
order_of why.Ids = 1
order_of why.Layout = 2
order_of why.Ctime = 3
order_of why.Image = 4
order_of why.Gap = 5

abbrev pub IsFirstWrong : PreviousWhy → Version → Folder → Type 0
IsFirstWrong reason version folder = IsWrong reason version folder × ((earlier : PreviousWhy) → order_of earlier < order_of reason → ¬ IsWrong earlier version folder)

-- some folder of it serves as previous, whatever its name
abbrev pub HasServingPrevious : Dirs → ℕ → Type 0
HasServingPrevious dirs i = saved (dirs.at i) ≢ None

-- a chosen directory that has one
abbrev pub IsChosenWithPrevious : Dirs → ℕ → Type 0
IsChosenWithPrevious dirs i = IsAmongChosen dirs i × HasServingPrevious dirs i

-- a chosen directory whose previous can't be opened, for this reason
pub record HasBadPrevious (dirs : Dirs) (i : ℕ) (reason : PreviousWhy) : Type 0 where
  pub version : Version
  pub current : Folder
  pub end : Reached
  pub chosen : IsChosen dirs i version current end
  pub folder : Folder
  pub serves : ServesPrevious (dirs.at i) folder
  pub wrong : IsFirstWrong reason version folder

-- ---- the tests

-- the transaction id from which on no run starts
abbrev pub spent_from : ℕ
spent_from = 2 ^ 62

-- some chosen directory has this VERSION and this end of its chain
pub record SomeChosen (dirs : Dirs) (version : Version) (end : Reached) : Type 0 where
  pub dir : ℕ
  pub folder : Folder
  pub chosen : IsChosen dirs dir version folder end

-- the test of each refusal
abbrev pub Applies : Dirs → Intent → Refusal → Type 0
Applies dirs intent (Missing i) = first_refused (λ j. unusable j (table_of (seven_of (dirs.at j)))) dirs.count ≡ Some (Missing i)
Applies dirs intent (Inconsistent i reason) = first_refused (λ j. unusable j (table_of (seven_of (dirs.at j)))) dirs.count ≡ Some (Inconsistent i reason)
Applies dirs intent (Formatted i) = ⊥
Applies dirs intent NotFormatted = (i : ℕ) → i < dirs.count → ¬ IsFormatted (dirs.at i)
Applies dirs intent (BadVersion i fault) = IsLowest dirs.count (IsFaulty dirs) i.0 × (folder : Folder) × ServesCurrent (dirs.at i.0) folder × (version_fault folder ≡ Some fault)
Applies dirs intent (Mismatch first dir key) = IsLowest dirs.count (λ j. IsFormatted (dirs.at j)) first.0 × (version : Version) × (folder : Folder) × ServesUnder (dirs.at first.0) version folder × IsLowest dirs.count (λ j. (its : Key) × Differs dirs version j its) dir.0 × Differs dirs version dir.0 key
Applies dirs intent (FutureLayout i found) = IsLowest dirs.count (λ j. (layout : ℤ) × HasLayout dirs IsFuture j layout) i.0 × HasLayout dirs IsFuture i.0 found
Applies dirs intent (ForeignLayout i found) = IsLowest dirs.count (λ j. (layout : ℤ) × HasLayout dirs IsForeign j layout) i.0 × HasLayout dirs IsForeign i.0 found
Applies dirs intent (NoImage i reason) = IsLowest dirs.count (λ j. (version : Version) × (folder : Folder) × HasGreatestCtime dirs j version folder) i.0 × ((j : ℕ) (version : Version) (folder : Folder) (id : ℕ) → HasGreatestCtime dirs j version folder → ¬ HasIntact folder version id) × (version : Version) × (folder : Folder) × HasGreatestCtime dirs i.0 version folder × HasNoImage folder version reason
Applies dirs intent (Gap seen last) = (version : Version) × (end : Reached) × SomeChosen dirs version end × (last ≡ end.last) × IsGreatestSeen dirs seen × (last + 1 < seen)
Applies dirs intent (Spent last) = (version : Version) × (end : Reached) × SomeChosen dirs version end × (last ≡ end.last) × (spent_from ≤ last)
Applies dirs intent (PreviousExists i) = (intent ≡ Upgrade) × IsLowest dirs.count (IsChosenWithPrevious dirs) i.0
Applies dirs intent (CtimeSpent old) = (intent ≡ Upgrade) × (version : Version) × (end : Reached) × SomeChosen dirs version end × (version.ctime ≡ old) × (old ≡ 2 ^ 63 - 1) × ((i : ℕ) → ¬ IsChosenWithPrevious dirs i)
Applies dirs intent NoPrevious = (intent ≡ Rollback) × ((i : ℕ) → ¬ IsChosenWithPrevious dirs i)
Applies dirs intent (BadPrevious i reason) = (intent ≡ Rollback) × IsLowest dirs.count (λ j. (its : PreviousWhy) × HasBadPrevious dirs j its) i.0 × HasBadPrevious dirs i.0 reason

-- the order of the tests; refusals of one test exclude each other
abbrev pub test_of : Refusal → ℕ
test_of (Missing i) = 1
test_of (Inconsistent i reason) = 1
test_of (Formatted i) = 1
test_of NotFormatted = 2
test_of (BadVersion i fault) = 3
test_of (Mismatch first dir key) = 4
test_of (FutureLayout i found) = 5
test_of (ForeignLayout i found) = 6
test_of (NoImage i reason) = 7
test_of (Gap seen last) = 8
test_of (Spent last) = 9
test_of (PreviousExists i) = 10
test_of (CtimeSpent old) = 10
test_of NoPrevious = 11
test_of (BadPrevious i reason) = 12

-- ---- the answer

pub record Refuses (dirs : Dirs) (intent : Intent) (refusal : Refusal) : Type 0 where
  pub applies : Applies dirs intent refusal
  pub first : (earlier : Refusal) → test_of earlier < test_of refusal → ¬ Applies dirs intent earlier

abbrev pub IsUnrefused : Dirs → Intent → Type 0
IsUnrefused dirs intent = (refusal : Refusal) → ¬ Applies dirs intent refusal
