-- A run over generated files on its way: what holds between two of its lines, and what a line leads to.
use Rattle.std.specs.Prelude.{◌≡◌, ℕ, ◌+◌, ◌<◌, ◌≤◌, true, None, List, [], ◌++◌, length, ◌⊎◌, Result, Ok, Err}
use Rattle.nn_base.specs.DirSets.{has}
use Rattle.nn_base.specs.Paths.{Bytes}
use Rattle.nn_host.specs.Moments.{State}
use Rattle.nn_host.specs.Calls.{Spoke}
use Rattle.nn_host.specs.Runs.{Throughout}
use Rattle.nn_host.specs.declared.host.Failed.{Failed}
use Rattle.nn_marks.specs.declared.version.Version.{Version}
use Rattle.nn_tree.specs.Namespace.{Namespace}
use Rattle.nn_pick.specs.declared.intent.Intent.TheVariants.{Start}
use Rattle.nn_pick.specs.declared.refusal.Refusal.{Refusal}
use Rattle.nn_pick.specs.Refusing.{Refuses}
use Rattle.nn_pick.specs.Opening.{Opening, Opens}
use Rattle.nn_script.specs.Lines.{lines_of}
use Rattle.nn_journal.specs.declared.journal.JournalSet.{JournalSet}
use Rattle.nn_run.specs.Running.{Asked, after_asked}
use Rattle.nn_run.specs.Window.{said_since}
use Rattle.nn_run.specs.Course.{started_line, dirs_of, first_of}
use Rattle.nn_whole.specs.Counted.{HasSeen}
use Rattle.nn_whole.specs.Leaving.{unreached}
use Rattle.nn_fill.specs.Filled.{unseen, generated}
use Rattle.nn_fill.specs.Tally.{count_line, taken_of, commands_by}
use Rattle.nn_fill.specs.Tallying.{Tallying}
use Rattle.nn_generate.specs.Generated.{script_of}
use Rattle.nn_core.specs.declared.event.End.{End}
use Rattle.nn_core.specs.Ready.{IsReady}
use Rattle.nn_core.specs.Standing.{Stands}
use Rattle.nn_core.specs.Events.{running, HasLive, GoesOut}
use Rattle.nn_serve.specs.declared.ending.RunEnd.{RunEnd}
use Rattle.nn_serve.specs.declared.ending.RunEnd.TheVariants.{Memory, OutFault}
use Rattle.nn_serve.specs.declared.tally.Tally.{Tally}
use Rattle.nn_serve.specs.Ended.{run_end}
use Rattle.nn_serve.specs.Ran.{asked_at, AsItStarts, NoneFailed, StartsAll, BeginsSoundly}
use Rattle.nn_serve.specs.Serving.{HasRoom}
use Rattle.nn_serve.specs.Filled.{CameFilled}

-- From old to new directories that open with nothing saved were said no more of than that the run has started.
abbrev pub SaysLittle : Type 0 → State → State → Type 0
SaysLittle told old new = told → (opened : Opening) → Opens (dirs_of old) Start opened → opened.book.saved ≡ None → Throughout (Unit {0}) old new (λ m. length (said_since old m) ≤ length (started_line opened.last))

-- these lines, at which nothing is seen
abbrev pub unseen_at : List Bytes → List Asked
unseen_at lines = unreached unseen lines

-- So many commands there were in these lines, and so many of them were taken.
abbrev pub Tallies : ℕ → ℕ → Opening → List Bytes → Tally → Type 0
Tallies at count opened done tally = (tally.commands ≡ length (commands_by (asked_at at) count opened (unseen_at done))) × (tally.taken ≡ taken_of (commands_by (asked_at at) count opened (unseen_at done)))

-- It has done these lines and said that it has started: which directories are live and how the output fared, of every host; what was said, what the run has come to and how many commands there were; and that each moment was kept, and the directories stand so.
pub record IsFilling (told : Type 0) (at files count : ℕ) (version : Version) (ns : Namespace) (time : ℕ) (journal : JournalSet) (done : List Bytes) (tally : Tally) (old s : State) : Type 0 where
  pub listed : old.count ≡ count
  pub ready : IsReady journal count s
  pub sees : HasSeen (has journal.live) [] old s
  pub some : 0 < old.count → HasLive journal
  pub out : GoesOut told old s
  pub unrefused : told → (refusal : Refusal) → ¬ Refuses (dirs_of old) Start refusal
  pub grew : told → (text : Bytes) × (s.now.said ≡ old.now.said ++ text)
  pub said : told → (opened : Opening) → Opens (dirs_of old) Start opened → opened.book.saved ≡ None
      → (s.now.said ≡ old.now.said ++ started_line opened.last) × (running ns time ≡ after_asked old.count (first_of (asked_at at) opened) (unseen_at done)) × Tallies at old.count opened done tally
  pub little : SaysLittle told old s
  pub opening : told → (opened : Opening) → Opens (dirs_of old) Start opened → opened.book.saved ≡ None → Throughout (Unit {0}) old s (AsItStarts opened.last old (NoneFailed old))
  pub started : told → (begins : BeginsSoundly old) → StartsAll old s begins.sound.opened.last begins.sound.opened.book.ns
  pub tallying : told → (begins : BeginsSoundly old) (ahead : _) → Tallying (asked_at at) begins.sound.opens.version.ctime begins.sound.opened ahead (has journal.live) (λ i. true) (generated files) old s
  pub stands : told → BeginsSoundly old → Stands version journal ns s

-- one line was done, and the run goes on; or it ended over it
abbrev pub FillsTo : Type 0 → ℕ → ℕ → ℕ → Version → Namespace → ℕ → JournalSet → List Bytes → Tally → ℕ → State → State → Result (Unit {0}) End → Type 0
FillsTo told at files count version ns time journal done tally more old new (Ok v) = IsFilling told at files count version ns time journal done tally old new × HasRoom told old journal more
FillsTo told at files count version ns time journal done tally more old new (Err end) = CameFilled told at files old new (run_end end)

-- So it is with these lines in a run over generated files that has come to this state, whenever it began, wherever they stand in the script.
abbrev pub Fills : Type 0 → List Bytes → ℕ → Version → Namespace → Namespace → ℕ → ℕ → JournalSet → JournalSet → Tally → Tally → State → State → Result (Unit {0}) End → Type 0
Fills told lines count version ns ns_after time time_after journal after tally tally_after s new result = (at files : ℕ) (done later : List Bytes) (old : State) (more : ℕ) → lines_of (script_of files) ≡ done ++ (lines ++ later)
    → IsFilling told at files count version ns time journal done tally old s → HasRoom told old journal (length lines + more) → FillsTo told at files count version ns_after time_after after (done ++ lines) tally_after more old new result

-- it was said how many commands there were; or there was no memory for that, and nothing happened; or the output failed over it
abbrev pub SaysTally : Type 0 → Tally → State → State → Result (Unit {0}) RunEnd → Type 0
SaysTally told tally old new (Ok done) = Spoke {E = Failed} told (count_line tally.commands tally.taken) old new (Ok done)
SaysTally told tally old new (Err end) = ((end ≡ OutFault) × ((failed : Failed) × Spoke {T = Unit {0}} told (count_line tally.commands tally.taken) old new (Err failed))) ⊎ ((end ≡ Memory) × (new ≡ old))
