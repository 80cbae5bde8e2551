-- Each way out of a run over generated files: what is known of its end.
use Rattle.std.proofs.Common.{◌≡◌, ◌≢◌, ◌⊎◌, inl, inr, ⊎_elim, ℕ, ◌-◌, ◌<◌, ◌≤◌, ◌^◌, Bool, false, List, [], ◌++◌, length, None, refl, sym, ◌∙◌, ap, arith}
use Rattle.std.proofs.lemmas.List.{append-nil, length-append, length-drop}
use Rattle.nn_base.specs.Paths.{Bytes}
use Rattle.nn_base.specs.declared.ids.DirNo.{DirNo}
use Rattle.nn_host.specs.Moments.{State, faults_at}
use Rattle.nn_host.specs.Runs.{Throughout, Undisturbed, Unspoken}
use Rattle.nn_host.proofs.RunsLemmas.{out_whole_unspoken, throughout_told, throughout_trans, throughout_weaker}
use Rattle.nn_marks.specs.declared.version.Version.{Version}
use Rattle.nn_tree.specs.Namespace.{Namespace}
use Rattle.nn_pick.specs.declared.intent.Intent.TheVariants.{Start}
use Rattle.nn_pick.specs.declared.refusal.Refusal.{Refusal}
use Rattle.nn_pick.specs.Opening.{Opening, Opens}
use Rattle.nn_journal.specs.declared.journal.JournalSet.{JournalSet}
use Rattle.nn_run.specs.Window.{said_since}
use Rattle.nn_run.specs.Course.{dirs_of, started_line, RunKept}
use Rattle.nn_whole.specs.Counted.{HasSeen}
use Rattle.nn_fill.specs.Filled.{generated}
use Rattle.nn_fill.specs.Tally.{tally_of, commands_by, tallied_course}
use Rattle.nn_server.specs.Came.{Speaks, is_out_fault}
use Rattle.nn_serve.specs.declared.ending.RunEnd.{RunEnd}
use Rattle.nn_serve.specs.declared.ending.RunEnd.TheVariants.{Ended, Refused, HostFault, NoneLeft, SourceFault, ScriptTooLong, Memory}
use Rattle.nn_serve.specs.declared.tally.Tally.{Tally}
use Rattle.nn_serve.specs.Ended.{run_status}
use Rattle.nn_serve.specs.Ran.{asked_at, BeginsSoundly, NoneFailed, CausedBy, LeavesLast}
use Rattle.nn_serve.specs.Filled.{FilledSays, CameFilled}
use Rattle.nn_serve.specs.Filling.{IsFilling, SaysLittle}
use Rattle.nn_serve.proofs.SinceLemmas.{said_of, since_is, since_all, speaks_whole, goes_on, never_refused, opening_on, starts_on, counted_once}

-- nothing else ends it early
abbrev pub Completes : Type 0 → State → State → RunEnd → Type 0
Completes told old new end = told → (opened : Opening) → Opens (dirs_of old) Start opened → old.now.out_faults < 2 ^ 64 - 1 → new.now.out_faults ≡ old.now.out_faults
    → (i : ℕ) → i < old.count → faults_at old i < 2 ^ 64 - 1 → faults_at new i ≡ faults_at old i → (end ≡ Ended) ⊎ ((end ≡ Memory) ⊎ ((j : DirNo) × (end ≡ HostFault j)))

-- this is said only once each directory stays so
abbrev pub StaysClosed : Opening → State → State → State → Type 0
StaysClosed opened old a new = Throughout (Unit {0}) old a (λ m. length (started_line opened.last) < length (said_since old m) → Undisturbed new m)

pub never_said : (old a : State) (opened : Opening) (new : State) → Throughout (Unit {0}) old a (λ m. length (said_since old m) ≤ length (started_line opened.last)) → StaysClosed opened old a new
never_said old a opened new little = throughout_weaker little (λ u m short long. absurd (omega (arith, short, long)))

module _ {told : Type 0} (at files count : ℕ) (version : Version) (ns : Namespace) (time : ℕ) (journal : JournalSet) (done : List Bytes) (tally : Tally) (old s : State) (filling : IsFilling told at files count version ns time journal done tally old s) where
  pub here_said : told → s.now.said ≡ old.now.said ++ said_of old s
  here_said t = let grew = filling.grew t in since_all old s grew.0 grew.1

  pub here_started : (t : told) (opened : Opening) (opens : Opens (dirs_of old) Start opened) → opened.book.saved ≡ None → said_of old s ≡ started_line opened.last
  here_started t opened opens none = since_is old s (started_line opened.last) (filling.said t opened opens none).0

  -- nothing more was said since
  pub little_then : (new : State) → Unspoken told s new → SaysLittle told old new
  little_then new quiet t opened opens none =
      throughout_trans (filling.little t opened opens none)
      (throughout_weaker (throughout_told (λ (u : Unit {0}). t) quiet.each) (λ u m out.
      omega (arith, length-drop (length old.now.said) m.said, ap length out.said, ap length (filling.said t opened opens none).0, length-append old.now.said (started_line opened.last))))

  -- from there on something was said and something kept
  pub came_by : (new : State) (end : RunEnd) (text : Bytes) → Speaks told old new text (run_status end) → ((refusal : Refusal) → end ≢ Refused refusal) → (end ≢ SourceFault) × (end ≢ ScriptTooLong)
      → ((t : told) (opened : Opening) (opens : Opens (dirs_of old) Start opened) → opened.book.saved ≡ None → StaysClosed opened old new new)
      → (told → Throughout (Unit {0}) s new (λ m. (more : Bytes) × (m.said ≡ s.now.said ++ more)))
      → ((t : told) (opened : Opening) (opens : Opens (dirs_of old) Start opened) → opened.book.saved ≡ None → FilledSays (started_line opened.last) (tally_of (commands_by (asked_at at) old.count opened (generated files))) end text)
      → ((t : told) (begins : BeginsSoundly old) (ahead : ℕ → Bool) → RunKept (Unit {0}) (tallied_course (asked_at at) old.count begins.sound.opens.version.ctime begins.sound.opened (generated files) ahead) old new)
      → (told → end ≡ Ended → (begins : BeginsSoundly old) → LeavesLast (asked_at at) begins.sound.opened (generated files) old new)
      → CausedBy old new [] end → (live : ℕ → Bool) → HasSeen live [] old new → Completes told old new end → CameFilled told at files old new end
  came_by new end text speaks differs unread closed fronts says kept ended cause live sees complete = record {
    lines = text;
    speaks = speaks;
    ran = record {
      said = says;
      opening = λ t some opened opens none.
          opening_on (NoneFailed old) opened.last old s new (started_line opened.last) (filling.said t opened opens none).0 (omega arith) (filling.opening t opened opens none) (fronts t);
      started = λ t some begins.
          let opened = begins.sound.opened in
          starts_on opened.last opened.book.ns old s new (started_line opened.last) (filling.said t opened begins.sound.opens begins.unsaved).0 (omega arith) (filling.started t begins) (fronts t);
      closed = closed;
      kept = kept;
      ended = ended;
      refused = never_refused old new text end differs filling.unrefused;
      unread = unread;
      cause = cause;
      once = counted_once live [] old new end (λ i. omega (arith, (sees.based i).0, (sees.based i).1)) sees.few;
      complete = complete;
    };
  }

  -- nothing was said
  module _ (new : State) (quiet : Unspoken told s new) (kept : (t : told) (begins : BeginsSoundly old) (ahead : ℕ → Bool) → RunKept (Unit {0}) (tallied_course (asked_at at) old.count begins.sound.opens.version.ctime begins.sound.opened (generated files) ahead) old new)
      (live : ℕ → Bool) (sees : HasSeen live [] old new) where
    silent : told → Throughout (Unit {0}) s new (λ m. (more : Bytes) × (m.said ≡ s.now.said ++ more))
    silent t = throughout_weaker (throughout_told (λ (u : Unit {0}). t) quiet.each) (λ u m out. ([], out.said ∙ sym (append-nil s.now.said)))

    speaks_then : (end : RunEnd) → is_out_fault (run_status end) ≡ false → Speaks told old new (said_of old s) (run_status end)
    speaks_then end whole = speaks_whole old new (said_of old s) (run_status end) whole (goes_on old s new filling.out (out_whole_unspoken quiet, quiet.now.out_faults)) (λ t. quiet.now.said ∙ here_said t)

    unclosed : (t : told) (opened : Opening) (opens : Opens (dirs_of old) Start opened) → opened.book.saved ≡ None → StaysClosed opened old new new
    unclosed t opened opens none = never_said old new opened new (little_then new quiet t opened opens none)

    pub out_lost : CausedBy old new [] NoneLeft → CameFilled told at files old new NoneLeft
    out_lost cause =
        came_by new NoneLeft (said_of old s) (speaks_then NoneLeft refl) (λ r e. cc e) (λ e. cc e, λ e. cc e) unclosed silent here_started kept (λ t e. absurd (cc e)) cause live sees
        (λ t opened opens room same i below few still. absurd (⊎_elim (λ (past : faults_at old i < faults_at new i). omega (arith, still, past)) (λ (full : 2 ^ 64 - 1 ≤ faults_at new i). omega (arith, few, still, full)) (cause i below)))

    pub out_starved : CameFilled told at files old new Memory
    out_starved =
        came_by new Memory (said_of old s) (speaks_then Memory refl) (λ r e. cc e) (λ e. cc e, λ e. cc e) unclosed silent (λ t opened opens none. inr (here_started t opened opens none)) kept (λ t e. absurd (cc e)) tt live sees
        (λ t opened opens room same i below few still. inr (inl refl))
