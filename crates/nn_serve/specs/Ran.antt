-- What a run over directories did: what it said, kept and left, which directories were seen to be live, and which counts rose.
use Rattle.std.specs.Prelude.{◌≡◌, ◌≢◌, ◌⊎◌, ℕ, ◌+◌, ◌-◌, ◌^◌, ◌<◌, ◌≤◌, Bool, true, false, None, List, [], ◌++◌, length, take, map, All}
use Rattle.nn_base.specs.FileText.{IsInRange}
use Rattle.nn_base.specs.Limits.{most_script}
use Rattle.nn_base.specs.Paths.{Bytes}
use Rattle.nn_base.specs.declared.ids.DirNo.{DirNo}
use Rattle.nn_base.specs.declared.sub.Sub.TheVariants.{Current}
use Rattle.nn_base.specs.declared.file_name.FileName.TheVariants.{InProgress}
use Rattle.nn_host.specs.Moments.{Moment, State, IsLawful, faults_at}
use Rattle.nn_host.specs.Calls.{next_count}
use Rattle.nn_host.specs.Runs.{Throughout, SameCounts}
use Rattle.nn_marks.specs.declared.version.Version.{Version}
use Rattle.nn_tree.specs.Namespace.{Namespace}
use Rattle.nn_pick.specs.declared.intent.Intent.TheVariants.{Start}
use Rattle.nn_pick.specs.declared.refusal.Refusal.{Refusal}
use Rattle.nn_pick.specs.Refusing.{Refuses, spent_from}
use Rattle.nn_pick.specs.Opening.{Opening, Opens, AreSound}
use Rattle.nn_reader.specs.Script.{ScriptRead}
use Rattle.nn_run.specs.Running.{Asked, SeeLive}
use Rattle.nn_run.specs.Window.{said_since, base_since}
use Rattle.nn_run.specs.Course.{started_line, RunAsked, dirs_of, answers_of, course_of, RunKept}
use Rattle.nn_whole.specs.Ended.{OpensToLast}
use Rattle.nn_begin.specs.Begun.{IsStarted}
use Rattle.nn_whole.specs.Counted.{IsPast, tries_of, SeenWithin}
use Rattle.nn_whole.specs.Served.{SeenTruly}
use Rattle.nn_serve.specs.declared.ending.RunEnd.{RunEnd}
use Rattle.nn_serve.specs.declared.ending.RunEnd.TheVariants.{Ended, Refused, HostFault, NoneLeft, SourceFault, ScriptTooLong, Memory, OutFault}
use Rattle.nn_serve.specs.Ended.{run_reached}
use Rattle.nn_serve.specs.Tried.{TriedTruly, NoneUnfit}

-- a run without an upgrade that begins at this time: each command is synced by itself
abbrev pub asked_at : ℕ → RunAsked
asked_at at = record { upgrade = false; at = at; batch = 1 }

abbrev pub lines_of_all : List Asked → List Bytes
lines_of_all seen = map (λ asked. asked.line) seen

-- ---- what is said

-- what was said, by the answers to some lines behind the opening: nothing, where the run never started; the answers to all lines that were read, where nothing else ended it; those to the lines that were answered; or, where the output failed, a front of them with those before the one over which it did
abbrev pub RunSays : (List Asked → Bytes) → List Asked → ℕ → RunEnd → Bytes → Type 0
RunSays answers seen reached Ended text = (reached ≡ length seen) × (text ≡ answers seen)
RunSays answers seen reached (Refused refusal) text = (text ≡ []) × (seen ≡ [])
RunSays answers seen reached (HostFault i) text = (text ≡ []) × (seen ≡ [])
RunSays answers seen reached NoneLeft text = text ≡ answers (take reached seen)
RunSays answers seen reached SourceFault text = (reached ≡ length seen) × (text ≡ answers seen)
RunSays answers seen reached ScriptTooLong text = (reached ≡ length seen) × (text ≡ answers seen)
RunSays answers seen reached Memory text = ((text ≡ []) × (seen ≡ [])) ⊎ (text ≡ answers (take reached seen))
RunSays answers seen reached OutFault text = ((later : Bytes) × (answers seen ≡ text ++ later)) × ((seen ≡ []) ⊎ ((more : Bytes) × (text ≡ answers (take reached seen) ++ more)))

-- ---- which directories are left

-- a moment has this if a part of it was said that the run has started, from this id on
abbrev pub AsItStarts : ℕ → State → (Moment → Type 0) → Moment → Type 0
AsItStarts last old Q m = 0 < length (said_since old m) → length (said_since old m) < length (started_line last) → Q m

-- no count has risen since
abbrev pub NoneFailed : State → Moment → Type 0
NoneFailed old m = (i : ℕ) → (m.dirs i).faults ≡ faults_at old i

-- As it is said that the run has started, each directory is NORMAL and tidied, with the image of this namespace at this id and one segment in progress behind it.
pub record StartsAll (old new : State) (last : ℕ) (ns : Namespace) : Type 0 where
  pub version : Version
  pub list : ℕ → Namespace
  pub stands : list last ≡ ns
  pub each : Throughout (Unit {0}) old new (AsItStarts last old (λ m. (i : ℕ) → i < old.count → IsStarted version list last (m.dirs i).disk))

-- a listed directory was live at this line
abbrev pub IsLeftAt : ℕ → Asked → Type 0
IsLeftAt count asked = (i : ℕ) × (i < count) × (asked.sight.live i ≡ true)

-- at each of these lines one was, where any is listed
abbrev pub SomeLeft : ℕ → List Asked → Type 0
SomeLeft count seen = 0 < count → All (IsLeftAt count) seen

-- ---- how it begins

-- The directories are sound at entry and have nothing saved, and there are ids for a whole script.
pub record BeginsSoundly (old : State) : Type 0 where
  pub sound : AreSound (dirs_of old) Start
  pub unsaved : sound.opened.book.saved ≡ None
  pub room : sound.opened.last < spent_from - 2 ^ 30

-- ---- what it leaves

-- As long as the directories are and read as then, every choice with one of the run opens to the Book after all lines, where what reads is fair; and no directory of the run has a segment in progress.
pub record LeavesLast (asked : RunAsked) (opened : Opening) (seen : List Asked) (old new : State) : Type 0 where
  pub opens : (after : State) → after.now.dirs ≡ new.now.dirs → after.count ≡ new.count → IsLawful after → OpensToLast asked opened seen old after
  pub ended : (i : ℕ) (first : ℕ) → i < old.count → base_since old seen i < 2 ^ 64 - 1 → faults_at new i ≤ base_since old seen i → IsInRange (InProgress first) → (new.reads i).file Current (InProgress first) ≡ None

-- ---- causes

-- which counts of directories rose, by the end, since the run began or since a line last took the directory back: each, where none is left; and not each, where the last segment was ended
abbrev pub CausedBy : State → State → List Asked → RunEnd → Type 0
CausedBy old new answered Ended = (i : ℕ) × (i < old.count) × (faults_at new i ≡ base_since old answered i)
CausedBy old new answered (Refused refusal) = SameCounts old new
CausedBy old new answered (HostFault i) = (i.0 < old.count) × (faults_at new i.0 ≡ next_count (faults_at old i.0))
CausedBy old new answered NoneLeft = (i : ℕ) → i < old.count → IsPast (base_since old answered i) (faults_at new i)
CausedBy old new answered end = Unit {0}

-- A directory is dropped at its first failure, and touched again only by a line that is to take it back: its count rose at most once, and once more for each such line. Before a run has started several can fail.
abbrev pub FailOnce : State → State → List Asked → RunEnd → Type 0
FailOnce old new lines end = ((j : DirNo) → end ≢ HostFault j) → (i : ℕ) → i < old.count → (faults_at old i ≤ faults_at new i) × (faults_at new i ≤ faults_at old i + 1 + tries_of lines i)

-- ---- directories that don't open

-- It is refused, but where a call failed or there was no memory before that was known.
abbrev pub EndsUnopened : Refusal → RunEnd → Type 0
EndsUnopened refusal end = (end ≡ Refused refusal) ⊎ ((end ≡ Memory) ⊎ ((i : DirNo) × (end ≡ HostFault i)))

-- ---- the whole

-- A run that begins at this time over a source with this script, of which so much is left, said this text and came to this end.
pub record RunRan (told_host told_source : Type 0) (at : ℕ) (script left : Bytes) (before after : ℕ) (old new : State) (text : Bytes) (end : RunEnd) : Type 0 where
  -- the lines that were read whole, with what was seen at each, and how many of them were answered: all but the last, at least
  pub seen : List Asked
  pub read : ScriptRead told_source script left before after (run_reached end) (lines_of_all seen)
  pub reached : ℕ
  pub most : length seen ≤ reached + 1
  -- what was said, where the directories open and nothing is saved; and that the directories were seen as their counts stood when each answer was said
  pub said : told_host → (opened : Opening) (opens : Opens (dirs_of old) Start opened) → opened.book.saved ≡ None → RunSays (answers_of (asked_at at) old.count opens.version.ctime opened) seen reached end text
      × SeenTruly (answers_of (asked_at at) old.count opens.version.ctime opened) (take reached seen) old new
  -- no call on a directory had failed when it was said that the run has started, so a count that rose did so since then
  pub opening : told_host → text ≢ [] → (opened : Opening) → Opens (dirs_of old) Start opened → opened.book.saved ≡ None → Throughout (Unit {0}) old new (AsItStarts opened.last old (NoneFailed old))
  -- and how each directory stood then
  pub started : told_host → text ≢ [] → (begins : BeginsSoundly old) → StartsAll old new begins.sound.opened.last begins.sound.opened.book.ns
  -- at every moment every choice with a directory of the run opens into its window, whatever lines come behind those that were read; and whichever directories are said to have had a saved state ahead, since nothing is saved
  pub kept : told_host → (begins : BeginsSoundly old) (ahead : ℕ → Bool) (rest : List Asked) → RunKept (Unit {0}) (course_of (asked_at at) old.count begins.sound.opens.version.ctime begins.sound.opened (seen ++ rest) ahead) old new
  -- and what done work leaves
  pub ended : told_host → end ≡ Ended → (begins : BeginsSoundly old) → LeavesLast (asked_at at) begins.sound.opened seen old new
  -- refused exactly by the first refusal of the table, and then nothing that reads is changed
  pub refused : told_host → (refusal : Refusal) → (end ≡ Refused refusal → Refuses (dirs_of old) Start refusal × ((i : ℕ) → new.reads i ≡ old.reads i)) × (Refuses (dirs_of old) Start refusal → EndsUnopened refusal end × (text ≡ []))
  -- for every host: which counts rose
  pub cause : CausedBy old new (take reached seen) end
  pub once : FailOnce old new seen end
  -- as far as the counts that were seen tell, that live are just those whose count hasn't risen since the run began or since it was last taken back; and what came of the lines that were to take one back
  pub live : SeeLive old.count (λ i. faults_at old i) (take reached seen) × SeenWithin (take reached seen) old new
  pub tried : TriedTruly old.count (λ i. faults_at old i) (take reached seen)
  -- over sound directories each listed one has a state at every moment: so none that is to be taken back is said to be missing or inconsistent
  pub fit : told_host → BeginsSoundly old → NoneUnfit old.count (take reached seen)
  -- and that no line is answered once none is left
  pub some : SomeLeft old.count (take reached seen)
  -- where the directories open, the script is short enough and neither the source nor the output failed, nothing else ends it while one directory has no failure, but want of memory or a failure before it started
  pub complete : told_host → told_source → (opened : Opening) → Opens (dirs_of old) Start opened → length script ≤ most_script → before < 2 ^ 64 - 1 → after ≡ before → old.now.out_faults < 2 ^ 64 - 1 → new.now.out_faults ≡ old.now.out_faults
      → (i : ℕ) → i < old.count → faults_at old i < 2 ^ 64 - 1 → faults_at new i ≡ faults_at old i → (end ≡ Ended) ⊎ ((end ≡ Memory) ⊎ ((j : DirNo) × (end ≡ HostFault j)))
