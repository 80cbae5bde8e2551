-- A change that was done or refused, and of which nothing was said.
use Rattle.std.specs.Prelude.{◌≡◌, ◌≢◌, ℕ, ◌+◌, ◌*◌, ◌≤◌, true, false, Option, Some, None, Result, Ok, Err, OnOk, IfOk, IfErr}
use Rattle.nn_base.specs.DirSets.{has, count_of}
use Rattle.nn_base.specs.Limits.{most_record}
use Rattle.nn_base.specs.Paths.{Bytes}
use Rattle.nn_host.specs.Moments.{State, moment}
use Rattle.nn_host.specs.Runs.{Unspoken}
use Rattle.nn_marks.specs.declared.version.Version.{Version}
use Rattle.nn_tree.specs.Namespace.{Namespace}
use Rattle.nn_ops.specs.declared.command.Command.{Command}
use Rattle.nn_ops.specs.declared.refusal.OpRefusal.{OpRefusal}
use Rattle.nn_ops.specs.declared.refusal.OpRefusal.TheVariants.{Memory as NoMemory}
use Rattle.nn_ops.specs.Bodies.{op_of}
use Rattle.nn_ops.specs.Effects.{effect}
use Rattle.nn_ops.specs.Step.{refusal_of}
use Rattle.nn_script.specs.declared.command.ScriptCommand.TheVariants.{Namespace as Change}
use Rattle.nn_script.specs.Answers.{change_text}
use Rattle.nn_script.specs.Reading.{reading_of}
use Rattle.nn_segment_file.specs.Log.{Shared}
use Rattle.nn_journal.specs.declared.journal.JournalSet.{JournalSet}
use Rattle.nn_journal.specs.Among.{EachCounted, LeavesAlone}
use Rattle.nn_journal.specs.Places.{Went, full_segment}
use Rattle.nn_run.specs.Running.{Sight, reply_read}
use Rattle.nn_run.specs.Steps.{StepKept}
use Rattle.nn_core.specs.declared.event.End.{End}
use Rattle.nn_core.specs.declared.event.End.TheVariants.{NoneLeft, Memory, OutFault}
use Rattle.nn_core.specs.Ready.{IsReady}
use Rattle.nn_core.specs.Standing.{Stands, Goes, Comes, HasIds}
use Rattle.nn_core.specs.Events.{running, HasLive, AllFailed, StaysStanding}

-- ---- what a caller is told

-- whichever line asks for it, each moment is kept as one of that line's
abbrev pub KeepsQuietly : Type 0 → Command → Version → JournalSet → ℕ → Namespace → ℕ → State → State → Type 0
KeepsQuietly told change version journal count ns time old new = told → HasIds journal → Stands version journal ns old → (line : Bytes) (sight : Sight) → reading_of line ≡ Ok (Some (Change change))
    → StepKept (Unit {0}) count (running ns time) (has journal.live) (λ i. true) (record { line = line; sight = sight }) old new

-- no directory is left; or there was no memory, and nothing has changed
abbrev pub CutsOff : End → JournalSet → JournalSet → State → State → Type 0
CutsOff NoneLeft journal after old new = AllFailed journal after old new
CutsOff Memory journal after old new = (new ≡ old) × (after ≡ journal)
CutsOff OutFault journal after old new = ⊥

-- From this namespace and journal to those behind it, over so many directories of this VERSION, a change was taken or refused, or ended the run; and nothing was said.
pub record HasPerformed (told : Type 0) (change : Command) (count : ℕ) (version : Version) (ns ns_after : Namespace) (time : ℕ) (journal after : JournalSet) (old new : State) (result : Result (Option OpRefusal) End) : Type 0 where
  -- what it is to be answered, whatever is seen of the directories, and what the run has come to
  pub replied : IfOk result (λ refusal. (sight : Sight) → reply_read count (running ns time) sight (Ok (Some (Change change))) ≡ record { text = change_text refusal; after = running ns_after time })
  pub quiet : Unspoken told old new
  -- at each moment every choice of directories with a live one opens to the Book before it or after it
  pub kept : KeepsQuietly told change version journal count ns time old new
  -- and the directories stand so that the next one may come
  pub stands : OnOk result (StaysStanding told version journal after ns ns_after old new)
  pub ready : OnOk result (IsReady after count new)
  -- how many ids it gave
  pub last : after.last + 2 * count_of after.live ≤ journal.last + 8 + 2 * count_of journal.live
  -- which directories are live, and which were left alone
  pub counted : EachCounted journal.live journal.live after.live old new
  pub left : LeavesAlone told journal.live old new
  pub some : OnOk result (HasLive journal → HasLive after)
  -- why it ended the run
  pub ended : IfErr result (λ end. CutsOff end journal after old new)

-- ---- how it went

-- what a record that was logged, or was to be, took: ids and calls
pub record LogsOne (told : Type 0) (journal after : JournalSet) (old new : State) : Type 0 where
  pub adds : after.live ≡ journal.live → journal.size + most_record ≤ full_segment → (after.last ≡ journal.last + 1) × (after.first ≡ journal.first)
  pub last : after.last + 2 * count_of after.live ≤ journal.last + 8 + 2 * count_of journal.live
  pub calls : told → after.live ≡ journal.live → journal.size + most_record ≤ full_segment → moment new ≤ moment old + 2 * count_of journal.live

-- it was taken: its record is synced in each directory that is live, and its effect is that of Step
pub record IsTaken (told : Type 0) (change : Command) (count : ℕ) (version : Version) (ns ns_after : Namespace) (time : ℕ) (journal after : JournalSet) (old new : State) : Type 0 where
  pub unrefused : refusal_of ns change ≡ None
  pub does : ns_after ≡ effect (op_of ns change time) ns
  pub comes : told → HasIds journal → Stands version journal ns old → Comes version journal after ns ns_after old new
  pub went : Went told journal.live after.live old new
  pub ready : IsReady after count new
  pub logs : LogsOne told journal after old new
  pub some : HasLive after

-- it was refused, and nothing has changed
pub record IsRefused (change : Command) (ns ns_after : Namespace) (journal after : JournalSet) (old new : State) (refusal : OpRefusal) : Type 0 where
  pub by : refusal_of ns change ≡ Some refusal
  pub told : refusal ≢ NoMemory
  pub namespace : ns_after ≡ ns
  pub journals : after ≡ journal
  pub states : new ≡ old

-- it was to be taken, and no directory is left
pub record IsLost (told : Type 0) (change : Command) (version : Version) (ns : Namespace) (time : ℕ) (journal after : JournalSet) (old new : State) : Type 0 where
  pub unrefused : refusal_of ns change ≡ None
  pub goes : told → HasIds journal → Stands version journal ns old → (list : Shared) × Goes version list journal after ns (effect (op_of ns change time) ns) old new
  pub went : Went told journal.live after.live old new
  pub logs : LogsOne told journal after old new
  pub none : (j : ℕ) → has after.live j ≡ false

-- there was no memory for it, and nothing has changed
pub record IsUndone (ns ns_after : Namespace) (journal after : JournalSet) (old new : State) : Type 0 where
  pub namespace : ns_after ≡ ns
  pub journals : after ≡ journal
  pub states : new ≡ old

-- one of these
abbrev pub Works : Type 0 → Command → ℕ → Version → Namespace → Namespace → ℕ → JournalSet → JournalSet → State → State → Result (Option OpRefusal) End → Type 0
Works told change count version ns ns_after time journal after old new (Ok None) = IsTaken told change count version ns ns_after time journal after old new
Works told change count version ns ns_after time journal after old new (Ok (Some refusal)) = IsRefused change ns ns_after journal after old new refusal
Works told change count version ns ns_after time journal after old new (Err NoneLeft) = (ns_after ≡ ns) × IsLost told change version ns time journal after old new
Works told change count version ns ns_after time journal after old new (Err Memory) = IsUndone ns ns_after journal after old new
Works told change count version ns ns_after time journal after old new (Err OutFault) = ⊥
