-- A run on its way: how it has begun, what holds between two of its lines, and what is known of its end but for its script.
use Rattle.std.specs.Prelude.{◌≡◌, ◌≢◌, ℕ, ◌+◌, ◌*◌, ◌^◌, ◌<◌, ◌≤◌, Bool, true, None, List, [], ◌++◌, length, take}
use Rattle.nn_base.specs.DirSets.{has, count_of}
use Rattle.nn_base.specs.Paths.{Bytes}
use Rattle.nn_host.specs.Moments.{State, disk_at, faults_at}
use Rattle.nn_host.specs.Runs.{Throughout, Unspoken, SameCounts}
use Rattle.nn_marks.specs.declared.version.Version.{Version}
use Rattle.nn_tree.specs.Namespace.{Namespace}
use Rattle.nn_begin.specs.Begun.{IsStarted}
use Rattle.nn_pick.specs.declared.intent.Intent.TheVariants.{Start}
use Rattle.nn_pick.specs.declared.refusal.Refusal.{Refusal}
use Rattle.nn_pick.specs.Refusing.{Refuses, spent_from}
use Rattle.nn_pick.specs.Opening.{Opening, Opens}
use Rattle.nn_journal.specs.declared.journal.JournalSet.{JournalSet}
use Rattle.nn_run.specs.Running.{Asked, SeeLive, after_asked}
use Rattle.nn_run.specs.Window.{base_since}
use Rattle.nn_run.specs.Course.{dirs_of, first_of, answers_of, course_of, RunKept}
use Rattle.nn_run.specs.Loop.{KeptSoFar}
use Rattle.nn_whole.specs.Counted.{HasSeen, SeenWithin}
use Rattle.nn_whole.specs.Served.{HasSaid, SeenTruly}
use Rattle.nn_core.specs.Ready.{IsReady}
use Rattle.nn_core.specs.Standing.{unsaved, Stands}
use Rattle.nn_core.specs.Events.{running, HasLive, GoesOut}
use Rattle.nn_server.specs.Came.{Speaks}
use Rattle.nn_serve.specs.declared.ending.RunEnd.{RunEnd}
use Rattle.nn_serve.specs.declared.ending.RunEnd.TheVariants.{Ended, Refused}
use Rattle.nn_serve.specs.Ended.{run_status}
use Rattle.nn_serve.specs.Tried.{counts_by, TriedTruly, NoneUnfit}
use Rattle.nn_serve.specs.Ran.{asked_at, RunSays, AsItStarts, NoneFailed, StartsAll, SomeLeft, BeginsSoundly, LeavesLast, CausedBy, FailOnce, EndsUnopened}

-- ---- on its way

-- It has begun, over so many directories that are all live, and has said nothing: they came to this namespace at this id, if they open so.
pub record HasBegun (told : Type 0) (at count : ℕ) (version : Version) (ns : Namespace) (journal : JournalSet) (last : ℕ) (old s : State) : Type 0 where
  pub listed : old.count ≡ count
  pub ready : IsReady journal count s
  pub all : (i : ℕ) → i < count → has journal.live i ≡ true
  pub counts : SameCounts old s
  pub quiet : Unspoken told old s
  pub room : last < 2 ^ 62
  pub last_id : journal.last ≡ last + 1
  pub opens : told → (opened : Opening) → Opens (dirs_of old) Start opened → opened.book.saved ≡ None → (opened.book ≡ unsaved ns) × (opened.last ≡ last)
  pub unrefused : told → (refusal : Refusal) → ¬ Refuses (dirs_of old) Start refusal
  pub started : told → (begins : BeginsSoundly old) → (version : Version) × (list : ℕ → Namespace) × (list last ≡ begins.sound.opened.book.ns) × ((i : ℕ) → i < old.count → IsStarted version list last (disk_at s i))
  pub kept : told → (begins : BeginsSoundly old) (ahead : ℕ → Bool) (rest : List Bytes) → KeptSoFar (asked_at at) begins.sound.opens.version.ctime begins.sound.opened ahead [] rest old s
  pub stands : told → BeginsSoundly old → Stands version journal ns s

-- It has answered these lines: which directories are live and how the output fared, of every host; what was said, and what the run has come to; and that each moment was kept, and the directories stand so.
pub record IsServing (told : Type 0) (at count : ℕ) (version : Version) (ns : Namespace) (time : ℕ) (journal : JournalSet) (seen : List Asked) (old s : State) : Type 0 where
  pub listed : old.count ≡ count
  pub ready : IsReady journal count s
  pub sees : HasSeen (has journal.live) seen old s
  pub counts : (i : ℕ) → counts_by (λ j. faults_at old j) seen i ≡ faults_at s i
  pub tried : TriedTruly old.count (λ i. faults_at old i) seen
  pub fit : told → BeginsSoundly old → NoneUnfit old.count seen
  pub some : 0 < old.count → HasLive journal
  pub left : SomeLeft old.count seen
  pub out : GoesOut told old s
  pub unrefused : told → (refusal : Refusal) → ¬ Refuses (dirs_of old) Start refusal
  pub grew : told → (text : Bytes) × (s.now.said ≡ old.now.said ++ text)
  pub said : told → (opened : Opening) (opens : Opens (dirs_of old) Start opened) → opened.book.saved ≡ None
      → HasSaid (asked_at at) opens.version.ctime opened (has journal.live) seen old s × (running ns time ≡ after_asked old.count (first_of (asked_at at) opened) seen)
  pub opening : told → (opened : Opening) → Opens (dirs_of old) Start opened → opened.book.saved ≡ None → Throughout (Unit {0}) old s (AsItStarts opened.last old (NoneFailed old))
  pub started : told → (begins : BeginsSoundly old) → StartsAll old s begins.sound.opened.last begins.sound.opened.book.ns
  pub kept : told → (begins : BeginsSoundly old) (ahead : ℕ → Bool) (rest : List Bytes) → KeptSoFar (asked_at at) begins.sound.opens.version.ctime begins.sound.opened ahead seen rest old s
  pub stands : told → BeginsSoundly old → Stands version journal ns s

-- there are ids for so many lines more
pub record HasRoom (told : Type 0) (old : State) (journal : JournalSet) (more : ℕ) : Type 0 where
  pub ids : journal.last + 2 * count_of journal.live + 8 * more + 128 < 2 ^ 63
  pub few : told → BeginsSoundly old → journal.last + 2 * count_of journal.live + 8 * more + 128 < spent_from

-- ---- at its end

-- what is known of its end, whatever the script: all of what a run tells but for how far it was read; and that no count from which on a directory is of the run is below that at entry
pub record EndsSo (told : Type 0) (at : ℕ) (old new : State) (seen : List Asked) (end : RunEnd) : Type 0 where
  pub text : Bytes
  pub speaks : Speaks told old new text (run_status end)
  pub reached : ℕ
  pub most : length seen ≤ reached + 1
  pub said : told → (opened : Opening) (opens : Opens (dirs_of old) Start opened) → opened.book.saved ≡ None → RunSays (answers_of (asked_at at) old.count opens.version.ctime opened) seen reached end text
      × SeenTruly (answers_of (asked_at at) old.count opens.version.ctime opened) (take reached seen) old new
  pub opening : told → text ≢ [] → (opened : Opening) → Opens (dirs_of old) Start opened → opened.book.saved ≡ None → Throughout (Unit {0}) old new (AsItStarts opened.last old (NoneFailed old))
  pub started : told → text ≢ [] → (begins : BeginsSoundly old) → StartsAll old new begins.sound.opened.last begins.sound.opened.book.ns
  pub some : SomeLeft old.count (take reached seen)
  pub kept : told → (begins : BeginsSoundly old) (ahead : ℕ → Bool) (rest : List Asked) → RunKept (Unit {0}) (course_of (asked_at at) old.count begins.sound.opens.version.ctime begins.sound.opened (seen ++ rest) ahead) old new
  pub ended : told → end ≡ Ended → (begins : BeginsSoundly old) → LeavesLast (asked_at at) begins.sound.opened seen old new
  pub refused : told → (refusal : Refusal) → (end ≡ Refused refusal → Refuses (dirs_of old) Start refusal × ((i : ℕ) → new.reads i ≡ old.reads i)) × (Refuses (dirs_of old) Start refusal → EndsUnopened refusal end × (text ≡ []))
  pub cause : CausedBy old new (take reached seen) end
  pub once : FailOnce old new seen end
  pub live : SeeLive old.count (λ i. faults_at old i) (take reached seen) × SeenWithin (take reached seen) old new
  pub tried : TriedTruly old.count (λ i. faults_at old i) (take reached seen)
  pub fit : told → BeginsSoundly old → NoneUnfit old.count (take reached seen)
  pub above : (i : ℕ) → faults_at old i ≤ base_since old (take reached seen) i
