-- What a run over generated files did: what it said, kept and left, and which counts rose.
use Rattle.std.specs.Prelude.{◌≡◌, ◌≢◌, ◌⊎◌, ℕ, ◌-◌, ◌^◌, ◌<◌, Bool, None, List, [], ◌++◌, length}
use Rattle.nn_base.specs.Paths.{Bytes}
use Rattle.nn_base.specs.declared.ids.DirNo.{DirNo}
use Rattle.nn_host.specs.Moments.{Entry, State, faults_at}
use Rattle.nn_host.specs.Runs.{Throughout, Undisturbed}
use Rattle.nn_pick.specs.declared.intent.Intent.TheVariants.{Start}
use Rattle.nn_pick.specs.declared.refusal.Refusal.{Refusal}
use Rattle.nn_pick.specs.Refusing.{Refuses}
use Rattle.nn_pick.specs.Opening.{Opening, Opens}
use Rattle.nn_run.specs.Window.{said_since}
use Rattle.nn_run.specs.Course.{started_line, dirs_of, RunKept}
use Rattle.nn_fill.specs.Filled.{generated}
use Rattle.nn_fill.specs.Tally.{tally_of, commands_by, tallied_course}
use Rattle.nn_server.specs.Came.{CameTo}
use Rattle.nn_serve.specs.declared.ending.RunEnd.{RunEnd}
use Rattle.nn_serve.specs.declared.ending.RunEnd.TheVariants.{Ended, Refused, HostFault, NoneLeft, SourceFault, ScriptTooLong, Memory, OutFault}
use Rattle.nn_serve.specs.Ended.{run_status}
use Rattle.nn_serve.specs.Ran.{asked_at, AsItStarts, NoneFailed, StartsAll, BeginsSoundly, LeavesLast, CausedBy, FailOnce, EndsUnopened}

-- what was said, by the opening and the tally: nothing, where the run never started; the opening alone, where it ended early; both, where its last segment was ended; or, where the output failed, a front of both. It has no script that could fail or be too long.
abbrev pub FilledSays : Bytes → Bytes → RunEnd → Bytes → Type 0
FilledSays opening tally Ended text = text ≡ opening ++ tally
FilledSays opening tally (Refused refusal) text = text ≡ []
FilledSays opening tally (HostFault i) text = text ≡ []
FilledSays opening tally NoneLeft text = text ≡ opening
FilledSays opening tally SourceFault text = ⊥
FilledSays opening tally ScriptTooLong text = ⊥
FilledSays opening tally Memory text = (text ≡ []) ⊎ (text ≡ opening)
FilledSays opening tally OutFault text = (later : Bytes) × (opening ++ tally ≡ text ++ later)

-- A run over so many generated files that begins at this time said this text and came to this end.
pub record RunFilled (told : Type 0) (at files : ℕ) (old new : State) (text : Bytes) (end : RunEnd) : Type 0 where
  -- what was said, where the directories open and nothing is saved: that it has started, and how many commands there were and how many were taken
  pub said : told → (opened : Opening) → Opens (dirs_of old) Start opened → opened.book.saved ≡ None → FilledSays (started_line opened.last) (tally_of (commands_by (asked_at at) old.count opened (generated files))) end text
  -- no call on a directory had failed when it was said that the run has started, so a count that rose did so since then
  pub opening : told → text ≢ [] → (opened : Opening) → Opens (dirs_of old) Start opened → opened.book.saved ≡ None → Throughout (Unit {0}) old new (AsItStarts opened.last old (NoneFailed old))
  -- and how each directory stood then
  pub started : told → text ≢ [] → (begins : BeginsSoundly old) → StartsAll old new begins.sound.opened.last begins.sound.opened.book.ns
  -- once a byte of how many commands there were was said, each directory is as it stays: the last segment was ended before that
  pub closed : told → (opened : Opening) → Opens (dirs_of old) Start opened → opened.book.saved ≡ None → Throughout (Unit {0}) old new (λ m. length (started_line opened.last) < length (said_since old m) → Undisturbed new m)
  -- at every moment every choice with a directory of the run opens into its window: to a Book after some first ones of the lines, and to that after all of them once it was said how many commands there were
  pub kept : told → (begins : BeginsSoundly old) (ahead : ℕ → Bool) → RunKept (Unit {0}) (tallied_course (asked_at at) old.count begins.sound.opens.version.ctime begins.sound.opened (generated files) ahead) old new
  -- and what done work leaves
  pub ended : told → end ≡ Ended → (begins : BeginsSoundly old) → LeavesLast (asked_at at) begins.sound.opened (generated files) old new
  -- refused exactly by the first refusal of the table, and then nothing that reads is changed
  pub refused : told → (refusal : Refusal) → (end ≡ Refused refusal → Refuses (dirs_of old) Start refusal × ((i : ℕ) → new.reads i ≡ old.reads i)) × (Refuses (dirs_of old) Start refusal → EndsUnopened refusal end × (text ≡ []))
  -- for every host: no script is read, so none fails or is too long; and which counts rose
  pub unread : (end ≢ SourceFault) × (end ≢ ScriptTooLong)
  pub cause : CausedBy old new [] end
  pub once : FailOnce old new [] end
  -- where the directories open and the output didn't fail, nothing else ends it while one directory has no failure, but want of memory or a failure before it started
  pub complete : told → (opened : Opening) → Opens (dirs_of old) Start opened → old.now.out_faults < 2 ^ 64 - 1 → new.now.out_faults ≡ old.now.out_faults
      → (i : ℕ) → i < old.count → faults_at old i < 2 ^ 64 - 1 → faults_at new i ≡ faults_at old i → (end ≡ Ended) ⊎ ((end ≡ Memory) ⊎ ((j : DirNo) × (end ≡ HostFault j)))

-- it came to this end
abbrev pub CameFilled : Type 0 → ℕ → ℕ → State → State → RunEnd → Type 0
CameFilled told at files old new end = CameTo told old new run_status (λ (lines : Bytes) (trace : List Entry). RunFilled told at files old new lines) end
