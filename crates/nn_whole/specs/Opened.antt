-- How a run begins: what is shared where it does, that its opening was kept, and that it is said.
use Rattle.std.specs.Prelude.{◌≡◌, ◌⊎◌, ℕ, ◌<◌, ◌≤◌, Bool, true, false, ◌||◌, List, [], ◌∷◌, is_none}
use Rattle.nn_base.specs.Paths.{Bytes}
use Rattle.nn_host.specs.Moments.{State, faults_at}
use Rattle.nn_host.specs.Runs.{Throughout, Unspoken}
use Rattle.nn_marks.specs.declared.version.Version.{Version}
use Rattle.nn_tree.specs.Namespace.{Namespace}
use Rattle.nn_pick.specs.declared.intent.Intent.{Intent}
use Rattle.nn_pick.specs.Dirs.{Dirs}
use Rattle.nn_pick.specs.Opening.{Opening, AreSound}
use Rattle.nn_kept.specs.Kept.{Shared}
use Rattle.nn_kept.specs.Laws.{KeptInto}
use Rattle.nn_kept.specs.First.{IsFirst}
use Rattle.nn_run.specs.Window.{text_of, is_of_run, is_held}
use Rattle.nn_run.specs.Course.{RunAsked, begun_book, opening_of, IsAsAtEntry}
use Rattle.nn_run.specs.Steps.{BetweenLines}
use Rattle.nn_run.specs.Flights.{OnlySays}
use Rattle.nn_run.specs.Loop.{KeptSoFar}

-- ---- what is shared

-- what sound directories share where a run begins: their Book, which no further record changes, and the rank of those chosen
abbrev pub shared_of : (dirs : Dirs) (intent : Intent) → AreSound dirs intent → Shared
shared_of dirs intent sound = record {
  window = sound.opened.book ∷ [];
  ids = sound.opens.version;
  ns = λ ctime id. sound.opened.book.ns;
  saved = λ ctime. sound.opened.book.saved;
  floor = record { ctime = sound.opens.version.ctime; last = sound.opened.last };
  lead = record { ctime = sound.opens.version.ctime; last = sound.opened.last };
}

-- each sound choice has such a thing
abbrev pub SharedAtFirst : Type 0
SharedAtFirst = (dirs : Dirs) (intent : Intent) (sound : AreSound dirs intent) → IsFirst (shared_of dirs intent sound) dirs intent sound

-- ---- until the run has started

-- An opening that has said nothing, and of which each moment is as at entry or keeps the Book at entry, is one of the run, whatever lines are to come.
abbrev pub StartIsOfRun : Type 0
StartIsOfRun = (asked : RunAsked) (ctime : ℕ) (opened : Opening) (ahead : ℕ → Bool) (rest : List Bytes) (old s : State) → 1 ≤ asked.batch → Unspoken (Unit {0}) old s
    → Throughout (Unit {0}) old s (λ m. IsAsAtEntry old m ⊎ KeptInto (λ _. opened.book ∷ []) old.count (λ _. is_of_run opened.chosen false (λ i. faults_at old i)) (λ _. is_held ahead opened.chosen false old) m)
    → KeptSoFar asked ctime opened ahead [] rest old s

-- Then it is said that the run has started, where all directories are live and those that had a saved state ahead still have it: so each moment is kept.
abbrev pub OpeningIsSaid : Type 0
OpeningIsSaid = (asked : RunAsked) (ctime : ℕ) (opened : Opening) (ahead live holders : ℕ → Bool) (version : Version) (list : ℕ → Namespace) (last : ℕ) (rest : List Bytes) (old s new : State)
    → 1 ≤ asked.batch → KeptSoFar asked ctime opened ahead [] rest old s → s.now.said ≡ old.now.said
    → BetweenLines version list old.count live holders (begun_book asked opened.book) last s.now → ((i : ℕ) → i < old.count → live i ≡ true)
    → ((i : ℕ) → i < old.count → ahead i ≡ true → (is_none (begun_book asked opened.book).saved || holders i) ≡ true)
    → OnlySays (Unit {0}) (text_of (opening_of asked ctime opened)) s new
    → KeptSoFar asked ctime opened ahead [] rest old new × BetweenLines version list old.count live holders (begun_book asked opened.book) last new.now
