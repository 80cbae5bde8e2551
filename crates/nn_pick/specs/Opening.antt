-- What name directories open to: which of them are chosen, the last id, the namespace, and the one that an upgrade saved.
use Rattle.std.specs.Prelude.{◌≡◌, ◌↔◌, ℕ, ◌≤◌, ◌==◌, Bool, true, Option, Some, None}
use Rattle.nn_host.specs.Disk.{Reads}
use Rattle.nn_marks.specs.declared.version.Version.{Version}
use Rattle.nn_tree.specs.Namespace.{Namespace}
use Rattle.nn_chain.specs.Folder.{Folder, HasVersion}
use Rattle.nn_chain.specs.Chain.{Reached, IsChain, EndsBare}
use Rattle.nn_pick.specs.declared.intent.Intent.{Intent}
use Rattle.nn_pick.specs.declared.intent.Intent.TheVariants.{Start}
use Rattle.nn_pick.specs.declared.refusal.PreviousWhy.{PreviousWhy}
use Rattle.nn_pick.specs.Dirs.{Dirs, IsLowest, ServesPrevious, HasGreatestCtime, IsChosen, IsAmongChosen, formatted_in}
use Rattle.nn_pick.specs.Refusing.{IsWrong, IsChosenWithPrevious, IsUnrefused}

-- A namespace, and the one that the last upgrade saved, until a rollback returns it or finalize gives it up.
pub record Book : Type 0 where
  pub ns : Namespace
  pub saved : Option Namespace

-- the chain of the folder that serves as previous, read under its own VERSION
pub record IsSavedChain (c : Reads) (folder : Folder) (own : Version) (end : Reached) : Type 0 where
  pub serves : ServesPrevious c folder
  pub says : HasVersion folder own
  pub chain : IsChain folder own end

-- what is saved is in the lowest chosen directory that has a previous: none where none has one, or where that has no chain
pub data IsSaved (dirs : Dirs) (what : Option Namespace) : Type 0 where
  Unsaved : ((i : ℕ) → ¬ IsChosenWithPrevious dirs i) → what ≡ None → IsSaved dirs what
  Lost : (i : ℕ) → IsLowest dirs.count (IsChosenWithPrevious dirs) i → ((folder : Folder) (own : Version) (end : Reached) → ¬ IsSavedChain (dirs.at i) folder own end) → what ≡ None → IsSaved dirs what
  Kept : (i : ℕ) (folder : Folder) (own : Version) (end : Reached) → IsLowest dirs.count (IsChosenWithPrevious dirs) i → IsSavedChain (dirs.at i) folder own end → what ≡ Some end.ns → IsSaved dirs what

pub record Opening : Type 0 where
  pub chosen : ℕ → Bool
  pub last : ℕ
  pub book : Book

-- the lowest chosen directory has this chain
pub record IsFirstChosen (dirs : Dirs) (version : Version) (end : Reached) : Type 0 where
  pub dir : ℕ
  pub folder : Folder
  pub chosen : IsChosen dirs dir version folder end
  pub lowest : IsLowest dirs.count (IsAmongChosen dirs) dir

pub record Opens (dirs : Dirs) (intent : Intent) (opened : Opening) : Type 0 where
  pub unrefused : IsUnrefused dirs intent
  pub chosen : (i : ℕ) → IsAmongChosen dirs i ↔ (opened.chosen i ≡ true)
  pub version : Version
  pub end : Reached
  pub first : IsFirstChosen dirs version end
  pub last : opened.last ≡ end.last
  pub namespace : opened.book.ns ≡ end.ns
  pub saved : IsSaved dirs opened.book.saved

-- ---- one directory by itself

abbrev pub alone : Reads → Dirs
alone c = record { count = 1; at = λ i. c }

-- it opens to this Book, at this id
abbrev pub OpensAlone : Reads → ℕ → Book → Type 0
OpensAlone c last book = Opens (alone c) Start (record { chosen = λ i. i == 0; last = last; book = book })

-- ---- soundness: what every run leaves, and the next one stands on

-- the previous of each directory ahead can be opened, and holds what the Book has saved
pub record AgreesOnSaved (dirs : Dirs) (opened : Opening) : Type 0 where
  pub sound : (i : ℕ) (version : Version) (current folder : Folder) (reason : PreviousWhy) → HasGreatestCtime dirs i version current → ServesPrevious (dirs.at i) folder → ¬ IsWrong reason version folder
  pub chain : (i : ℕ) (version : Version) (current folder : Folder) → HasGreatestCtime dirs i version current → ServesPrevious (dirs.at i) folder → (own : Version) × (end : Reached) × IsSavedChain (dirs.at i) folder own end × (opened.book.saved ≡ Some end.ns) × (end.last ≤ opened.last) × EndsBare folder own end

-- The directories open, the chains of those chosen agree, and each ends before an id that has no record.
pub record AreSound (dirs : Dirs) (intent : Intent) : Type 0 where
  pub opened : Opening
  pub opens : Opens dirs intent opened
  pub one : (i : ℕ) (version : Version) (folder : Folder) (end : Reached) → IsChosen dirs i version folder end → (end.ns ≡ opened.book.ns) × EndsBare folder version end
  pub saved : (i : ℕ) → IsChosenWithPrevious dirs i → AgreesOnSaved dirs opened

-- They open for a start to this Book at this id, all that are formatted are chosen, and they are sound.
pub record OpenSoundly (dirs : Dirs) (last : ℕ) (book : Book) : Type 0 where
  pub opens : Opens dirs Start (record { chosen = formatted_in dirs; last = last; book = book })
  pub sound : AreSound dirs Start
