-- What an event does: its answer, which directories are live then, and what each moment of it keeps.
use Rattle.std.specs.Prelude.{◌≡◌, ◌≢◌, ◌⊎◌, ℕ, ◌<◌, ◌≤◌, true, false, [], ◌∷◌, ◌++◌, take, Some, Ok, Err, Option, Result, OnOk, OnErr, IfErr}
use Rattle.nn_base.specs.DirSets.{Members, has}
use Rattle.nn_base.specs.Paths.{Bytes}
use Rattle.nn_host.specs.Moments.{Moment, State, disk_at, faults_at}
use Rattle.nn_host.specs.Calls.{next_count}
use Rattle.nn_host.specs.Runs.{Throughout, Unspoken, OutWhole, SilentAfter}
use Rattle.nn_host.specs.declared.host.Failed.{Failed as CallFailed}
use Rattle.nn_marks.specs.declared.version.Version.{Version}
use Rattle.nn_tree.specs.Namespace.{Namespace}
use Rattle.nn_script.specs.declared.command.ScriptCommand.{ScriptCommand}
use Rattle.nn_script.specs.declared.command.ScriptCommand.TheVariants.{Restore}
use Rattle.nn_script.specs.declared.syntax.Syntax.{Syntax}
use Rattle.nn_script.specs.declared.answer.Answer.TheVariants.{Unread}
use Rattle.nn_script.specs.Reading.{IsInRange, reading_of}
use Rattle.nn_script.specs.Spelling.{IsSaid}
use Rattle.nn_journal.specs.declared.journal.JournalSet.{JournalSet}
use Rattle.nn_journal.specs.Places.{Went}
use Rattle.nn_kept.specs.Laws.{KeptInto}
use Rattle.nn_restore.specs.declared.restoring.Restored.{Restored as Came}
use Rattle.nn_restore.specs.declared.restoring.Restored.TheVariants as came
use Rattle.nn_restore.specs.Restored.{IsAnswered, IsRefused}
use Rattle.nn_run.specs.Running.{Running, Asked, Restored, TakenBack, Missing, Inconsistent, Failed, reply_at, restored_dir}
use Rattle.nn_run.specs.Steps.{StepKept, StepCounts, HasAnswered, is_of_step}
use Rattle.nn_core.specs.declared.event.Event.{Event}
use Rattle.nn_core.specs.declared.event.Event.TheVariants.{Line, Bad}
use Rattle.nn_core.specs.declared.event.End.{End}
use Rattle.nn_core.specs.declared.event.End.TheVariants.{NoneLeft, Memory, OutFault}
use Rattle.nn_core.specs.Ready.{IsReady}
use Rattle.nn_core.specs.Standing.{unsaved, Stands, NoneGoes, HasIds}
use Rattle.nn_core.specs.Written.{IsChange, Writes, Saves, HasWritten}

-- ---- events

-- what a line reads as that is this event
abbrev pub read_as : Event → Result (Option ScriptCommand) Syntax
read_as (Line command) = Ok (Some command)
read_as (Bad fault) = Err fault

-- numbers in their ranges, and never want of memory
abbrev pub IsEvent : Event → Type 0
IsEvent (Line command) = IsInRange command
IsEvent (Bad fault) = IsSaid (Unread fault)

-- a run with nothing saved that has come to this namespace and this time
abbrev pub running : Namespace → ℕ → Running
running ns time = record { book = unsaved ns; now = time }

-- a line, and what is seen at it once it was answered: what came of it, if it is a `restore`
abbrev pub asked_at : Bytes → Restored → Members → State → Asked
asked_at line restored live s = record { line = line; sight = record { live = has live; faults = λ i. faults_at s i; restored = restored } }

abbrev pub seen_as : Came → Restored
seen_as came.TakenBack = TakenBack
seen_as came.Missing = Missing
seen_as came.Inconsistent = Inconsistent
seen_as came.Failed = Failed

-- ---- what each says

-- Whichever line it is, it was answered.
abbrev pub Answers : Type 0 → Result (Option ScriptCommand) Syntax → Restored → ℕ → Running → Running → Members → Members → State → State → Type 0
Answers told reading restored count run after live live_after old new = (line : Bytes) → reading_of line ≡ reading → HasAnswered told count run after (has live) (has live_after) (asked_at line restored live_after new) old new

-- Where the directories stand as the run has them in mind, each moment is kept, whichever line it is.
abbrev pub Keeps : Type 0 → Result (Option ScriptCommand) Syntax → Restored → Version → JournalSet → ℕ → Namespace → ℕ → Members → State → State → Type 0
Keeps told reading restored version journal count ns time live_after old new = told → HasIds journal → Stands version journal ns old → (line : Bytes) → reading_of line ≡ reading
    → StepKept (Unit {0}) count (running ns time) (has journal.live) (λ i. true) (asked_at line restored live_after new) old new

-- and so they do behind it
abbrev pub StaysStanding : Type 0 → Version → JournalSet → JournalSet → Namespace → Namespace → State → State → Type 0
StaysStanding told version journal after ns ns_after old new = told → HasIds journal → Stands version journal ns old → Stands version after ns_after new

-- ---- which directories are live

abbrev pub HasLive : JournalSet → Type 0
HasLive journal = (j : ℕ) × (has journal.live j ≡ true)

-- a call on each live directory failed, and none is live any more
abbrev pub AllFailed : JournalSet → JournalSet → State → State → Type 0
AllFailed journal after old new = (j : ℕ) → (has after.live j ≡ false) × (has journal.live j ≡ true → faults_at new j ≡ next_count (faults_at old j))

-- At a moment no count has fallen; and but for the directory that is to be taken back, each that isn't live is as it was, and one in which a call has failed is as it is in the end.
pub record IsLeftBut (dir : Option ℕ) (live : Members) (old new : State) (m : Moment) : Type 0 where
  pub grown : (j : ℕ) → faults_at old j ≤ (m.dirs j).faults
  pub others : (j : ℕ) → dir ≢ Some j → has live j ≡ false → m.dirs j ≡ old.now.dirs j
  pub failed : (j : ℕ) → dir ≢ Some j → faults_at old j < (m.dirs j).faults → m.dirs j ≡ new.now.dirs j

-- Each directory is live where it was and no call on it failed; the one that was to be taken back can be live too, where no call on it failed. The others aren't touched unless they are live, nor is one in which a call has failed. Once it was answered one is live, where one was or something was to be written.
pub record HasDropped (told : Type 0) (reading : Result (Option ScriptCommand) Syntax) (ns : Namespace) (journal after : JournalSet) (old new : State) (result : Result (Unit {0}) End) : Type 0 where
  pub counted : StepCounts (restored_dir reading) (has journal.live) (has after.live) old new
  pub left : Throughout told old new (IsLeftBut (restored_dir reading) journal.live old new)
  pub some : OnOk result (HasLive journal ⊎ Writes reading ns → HasLive after)

-- What came of a listed directory that was to be taken back, exactly by its count and by what the table said of it; where it was refused by the table, nothing has changed.
pub record CameOf (told : Type 0) (dir : ℕ) (restored : Restored) (journal after : JournalSet) (old new : State) : Type 0 where
  pub it : Came
  pub seen : restored ≡ seen_as it
  pub answered : IsAnswered told dir journal.live after.live old new (Ok it)
  pub refused : told → IsRefused dir journal.live old (Ok it)
  pub same : (it ≡ came.Missing) ⊎ (it ≡ came.Inconsistent) → after ≡ journal

-- ---- what goes out

-- Whichever line it is, at each moment a front of its answer was said, and that only once the directories are as at the end.
abbrev pub Speaks : Type 0 → Result (Option ScriptCommand) Syntax → Restored → ℕ → Running → Members → State → State → Type 0
Speaks told reading restored count run live_after old new = (line : Bytes) → reading_of line ≡ reading
    → Throughout told old new (λ m. ((n : ℕ) × (m.said ≡ old.now.said ++ take n (reply_at count run (asked_at line restored live_after new)).text)) × ((m.said ≡ old.now.said) ⊎ (m.dirs ≡ new.now.dirs)))

-- the output didn't fail
abbrev pub GoesOut : Type 0 → State → State → Type 0
GoesOut told old new = OutWhole told old new × (new.now.out_faults ≡ old.now.out_faults)

-- the output failed where that ended the run, and then nothing more was said; else it didn't
abbrev pub OutBy : Type 0 → Result (Unit {0}) End → State → State → Type 0
OutBy told (Ok done) old new = GoesOut told old new
OutBy told (Err NoneLeft) old new = GoesOut told old new
OutBy told (Err Memory) old new = GoesOut told old new
OutBy told (Err OutFault) old new = SilentAfter told old new × (new.now.out_faults ≡ next_count old.now.out_faults)

-- ---- why it ended a run

-- No directory is left, since each live one has failed, and nothing was said. Or there was no memory, and nothing was said: for a command, and nothing has changed, or for an image. Or the output failed.
abbrev pub EndsBy : Type 0 → End → Result (Option ScriptCommand) Syntax → JournalSet → JournalSet → Running → Running → State → State → Type 0
EndsBy told NoneLeft reading journal after run run_after old new = AllFailed journal after old new × Unspoken told old new × (run_after ≡ run)
EndsBy told Memory reading journal after run run_after old new = ((IsChange reading × (new ≡ old) × (after ≡ journal)) ⊎ Saves reading) × Unspoken told old new × (run_after ≡ run)
EndsBy told OutFault reading journal after run run_after old new = Unit {0}

-- the output failed over an answer, or it was said
abbrev pub unless_failed : Result (Unit {0}) CallFailed → Result (Unit {0}) End
unless_failed (Ok done) = Ok done
unless_failed (Err failed) = Err OutFault

-- ---- an event

-- From this namespace, time and journal to those behind it, over so many directories of this VERSION, an event that reads so came to this.
pub record HasStepped (told : Type 0) (reading : Result (Option ScriptCommand) Syntax) (count : ℕ) (version : Version) (ns ns_after : Namespace) (time time_after : ℕ) (journal after : JournalSet) (old new : State) (result : Result (Unit {0}) End) : Type 0 where
  -- what was seen to come of it, if it is a `restore` of a listed directory
  pub restored : Restored
  -- it was answered: what was said, what the run has come to, and who is live
  pub answered : OnOk result (Answers told reading restored count (running ns time) (running ns_after time_after) journal.live after.live old new)
  -- at each moment every choice of directories with a live one opens to the Book before it or after it, and to that after it once the answer is said
  pub kept : Keeps told reading restored version journal count ns time after.live old new
  -- and the directories stand so that the next one may come
  pub stands : OnOk result (StaysStanding told version journal after ns ns_after old new)
  pub ready : OnOk result (IsReady after count new)
  pub wrote : HasWritten told reading version ns journal after old new result
  pub live : HasDropped told reading ns journal after old new result
  -- and why it came so
  pub came : (dir : ℕ) → reading ≡ Ok (Some (Restore dir)) → dir < count → OnOk result (CameOf told dir restored journal after old new)
  pub spoken : Speaks told reading restored count (running ns time) after.live old new
  pub out : OutBy told result old new
  -- why it ended the run
  pub ended : IfErr result (λ end. EndsBy told end reading journal after (running ns time) (running ns_after time_after) old new)

-- ---- the end

-- Where they stand so, each moment is kept while the segment in progress is ended, in the one Book.
abbrev pub EndKeeps : Type 0 → Version → JournalSet → ℕ → Namespace → State → State → Type 0
EndKeeps told version journal count ns old new = told → HasIds journal → Stands version journal ns old
    → Throughout (Unit {0}) old new (KeptInto (λ _. unsaved ns ∷ []) count (λ _. is_of_step (has journal.live) old) (λ _. is_of_step (has journal.live) old))

-- The segment in progress was ended in each live directory: nothing was said, each is live where it was and no call on it failed, they stand as before, and none has a segment in progress.
pub record HasEnded {E : Type 0} (told : Type 0) (count : ℕ) (version : Version) (ns : Namespace) (journal after : JournalSet) (old new : State) (result : Result (Unit {0}) E) : Type 0 where
  pub kept : EndKeeps told version journal count ns old new
  pub stands : StaysStanding told version journal after ns ns old new
  pub went : Went told journal.live after.live old new
  pub some : OnOk result (HasLive after)
  pub failed : OnErr result (AllFailed journal after old new)
  pub closed : after.going ≡ false
  pub ended : told → HasIds journal → Stands version journal ns old → (j : ℕ) → has after.live j ≡ true → NoneGoes (disk_at new j)
