-- What follows from what a run keeps of each directory: of choices of them, and of what a stop leaves.
use Rattle.std.specs.Prelude.{◌≡◌, ℕ, ◌<◌, Bool, true, List, Contains}
use Rattle.nn_host.specs.Disk.{Disk, Reads, Leaves}
use Rattle.nn_host.specs.Moments.{Dir, Moment, State, Left, moment}
use Rattle.nn_host.specs.Runs.{EachDir, Throughout}
use Rattle.nn_marks.specs.declared.version.Version.{Version}
use Rattle.nn_chain.specs.Folder.{Folder}
use Rattle.nn_chain.specs.Fair.{IsFair, IsFairStop}
use Rattle.nn_pick.specs.declared.intent.Intent.TheVariants.{Start}
use Rattle.nn_pick.specs.Dirs.{Dirs, ServesUnder, IsAmongChosen, choice, EachChoice}
use Rattle.nn_pick.specs.Opening.{Book, AreSound}
use Rattle.nn_kept.specs.Kept.{Rank, Shared, IsOfWindow, IsBelowFloor, IsKept, IsOfRun, IsLedOfRun}

-- ---- the law

-- They are sound for a start and open to a Book of the window; with its saved part kept, where a leader is among them.
pub record OpenInto (window : List Book) (has_leader : Type 0) (dirs : Dirs) : Type 0 where
  pub sound : AreSound dirs Start
  pub inside : IsOfWindow window sound.opened.book
  pub kept : has_leader → Contains window sound.opened.book

-- some directory is of the run; some is a leader
abbrev pub HasOfRun : Shared → Dirs → Type 0
HasOfRun shared dirs = (i : ℕ) × (rank : Rank) × (i < dirs.count) × IsOfRun shared (dirs.at i) rank

abbrev pub HasLedOfRun : Shared → Dirs → Type 0
HasLedOfRun shared dirs = (i : ℕ) × (i < dirs.count) × IsLedOfRun shared (dirs.at i)

-- Where each directory is kept, every choice of them that has a directory of the run opens so.
abbrev pub KeptOpen : Type 0
KeptOpen = (shared : Shared) (count : ℕ) (contents : ℕ → Reads) → ((i : ℕ) → i < count → IsKept shared (contents i))
    → EachChoice count contents (λ dirs. HasOfRun shared dirs → OpenInto shared.window (HasLedOfRun shared dirs) dirs)

-- it ranks below the floor: the floor has left it behind
abbrev pub IsOutranked : Shared → Reads → Type 0
IsOutranked shared c = (version : Version) (folder : Folder) → ServesUnder c version folder → IsBelowFloor shared version folder

-- A chosen directory isn't left behind by the floor.
abbrev pub ChosenAreHigh : Type 0
ChosenAreHigh = (shared : Shared) (dirs : Dirs) → ((i : ℕ) → i < dirs.count → IsKept shared (dirs.at i)) → HasOfRun shared dirs → (i : ℕ) → IsAmongChosen dirs i → ¬ IsOutranked shared (dirs.at i)

-- ---- the law at a moment

-- P holds of each thing that a fair stop leaves of this disk
abbrev pub EachLeft : Disk → (Reads → Type 0) → Type 0
EachLeft d P = (c : Reads) → Leaves d c → IsFair d c → P c

-- a disk that is kept; of the run and a leader, if it counts as such
pub record IsKeptDisk (shared : Shared) (of_run leader : Bool) (d : Disk) : Type 0 where
  pub kept : EachLeft d (IsKept shared)
  pub run : of_run ≡ true → EachLeft d (λ c. (rank : Rank) × IsOfRun shared c rank)
  pub led : leader ≡ true → EachLeft d (IsLedOfRun shared)

-- each of the directories is so at this moment, by which of them count, with the faults that they have, as of the run and as leaders
abbrev pub AllKept : Shared → ℕ → (ℕ → Dir → Bool) → (ℕ → Dir → Bool) → Moment → Type 0
AllKept shared count run leaders = EachDir (λ i d. i < count → IsKeptDisk shared (run i d) (leaders i d) d.disk)

-- some number of a choice counts so at this moment
abbrev pub SomeCounts : (ℕ → Dir → Bool) → Moment → ℕ → (ℕ → ℕ) → Type 0
SomeCounts counts m n numbers = (k : ℕ) × (k < n) × (counts (numbers k) (m.dirs (numbers k)) ≡ true)

-- each Book of the one window is in the other
abbrev pub IsPartOf : List Book → List Book → Type 0
IsPartOf some all = (book : Book) → Contains some book → Contains all book

-- At this moment, for some shared things whose window is part of the run's, each directory is so. Which of them count, as of the run and as leaders, is told of the moment: others may do once a start has been said.
abbrev pub KeptInto : (Moment → List Book) → ℕ → (Moment → ℕ → Dir → Bool) → (Moment → ℕ → Dir → Bool) → Moment → Type 0
KeptInto window count run leaders m = (shared : Shared) × IsPartOf shared.window (window m) × AllKept shared count (run m) (leaders m) m

-- A fair stop at such a moment leaves directories of which every choice with one of the run opens so, into each window that has the shared one.
abbrev pub KeptStops : Type 0
KeptStops = (shared : Shared) (window : List Book) (count : ℕ) (run leaders : ℕ → Dir → Bool) (m : Moment) (contents : ℕ → Reads) → IsPartOf shared.window window
    → AllKept shared count run leaders m → ((i : ℕ) → Leaves (m.dirs i).disk (contents i)) → IsFairStop count m contents
    → (n : ℕ) (numbers : ℕ → ℕ) → ((k : ℕ) → k < n → numbers k < count) → SomeCounts run m n numbers → OpenInto window (SomeCounts leaders m n numbers) (choice contents n numbers)

-- So does each fair stop since a run of calls began of which each moment is so.
abbrev pub KeptRuns : Type 0
KeptRuns = (window : Moment → List Book) (count : ℕ) (run leaders : Moment → ℕ → Dir → Bool) (old new : State) → KeptInto window count run leaders old.now → KeptInto window count run leaders old.ended → Throughout (Unit {0}) old new (KeptInto window count run leaders)
    → (m : Moment) (contents : ℕ → Reads) → Left new (moment old) contents m → IsFairStop count m contents
    → (n : ℕ) (numbers : ℕ → ℕ) → ((k : ℕ) → k < n → numbers k < count) → SomeCounts (run m) m n numbers → OpenInto (window m) (SomeCounts (leaders m) m n numbers) (choice contents n numbers)
