-- What is known of a run on its way, for each way out of it.
use Rattle.nn_begin.specs.Begun.{IsStarted}
use Rattle.nn_run.specs.Window.{text_of, commands_of}
use Rattle.nn_host.specs.Runs.{Throughout}
use Rattle.std.proofs.Common.{◌≡◌, ◌≢◌, inl, inr, ℕ, Bool, false, if◌then◌else◌, List, [], ◌++◌, length, take, drop, map, None, refl, sym, ◌∙◌, ap, subst, arith, ◌≤◌, ◌<◌}
use Rattle.std.proofs.Math.Seq.{drop-append_seam}
use Rattle.std.proofs.lemmas.List.{take_all, length-append, length-drop}
use Rattle.nn_base.specs.DirSets.{has}
use Rattle.nn_base.specs.Paths.{Bytes}
use Rattle.nn_host.specs.Moments.{State, Moment, faults_at}
use Rattle.nn_host.specs.Calls.{next_count}
use Rattle.nn_host.proofs.RunsLemmas.{out_whole_trans, silent_whole, throughout_trans, throughout_weaker}
use Rattle.nn_marks.specs.declared.version.Version.{Version}
use Rattle.nn_tree.specs.Namespace.{Namespace}
use Rattle.nn_pick.specs.declared.intent.Intent.TheVariants.{Start}
use Rattle.nn_pick.specs.declared.refusal.Refusal.{Refusal}
use Rattle.nn_pick.specs.Refusing.{Refuses}
use Rattle.nn_pick.specs.Opening.{Opening, Opens}
use Rattle.nn_journal.specs.declared.journal.JournalSet.{JournalSet}
use Rattle.nn_journal.specs.Among.{EachCounted}
use Rattle.nn_run.specs.Running.{Asked}
use Rattle.nn_run.specs.Course.{dirs_of, answers_of, course_of, RunKept, started_line, first_of}
use Rattle.nn_run.specs.Steps.{StepCounts}
use Rattle.nn_whole.specs.Counted.{AreFew, AreGone}
use Rattle.nn_core.specs.Events.{GoesOut}
use Rattle.nn_server.specs.declared.status.Status.{Status}
use Rattle.nn_server.specs.Came.{Speaks, is_out_fault}
use Rattle.nn_serve.specs.declared.ending.RunEnd.{RunEnd}
use Rattle.nn_serve.specs.declared.ending.RunEnd.TheVariants.{Refused, NoneLeft}
use Rattle.nn_serve.specs.Ran.{asked_at, BeginsSoundly, CausedBy, FailOnce, EndsUnopened, AsItStarts, StartsAll}
use Rattle.nn_serve.specs.Serving.{IsServing}

-- ---- what was said since

abbrev pub said_of : State → State → Bytes
said_of old s = drop (length old.now.said) s.now.said

pub since_is : (old s : State) (text : Bytes) → s.now.said ≡ old.now.said ++ text → said_of old s ≡ text
since_is old s text e = ap (drop (length old.now.said)) e ∙ drop-append_seam old.now.said text

pub since_all : (old s : State) (text : Bytes) → s.now.said ≡ old.now.said ++ text → s.now.said ≡ old.now.said ++ said_of old s
since_all old s text e = e ∙ ap (λ t. old.now.said ++ t) (sym (since_is old s text e))

-- the output didn't fail, and this was said
pub speaks_whole : {told : Type 0} (old new : State) (text : Bytes) (status : Status) → is_out_fault status ≡ false → GoesOut told old new → (told → new.now.said ≡ old.now.said ++ text) → Speaks told old new text status
speaks_whole old new text status e out said = record {
  said = said;
  counted = subst (λ (f : Bool). new.now.out_faults ≡ (if f then next_count old.now.out_faults else old.now.out_faults)) (sym e) out.1;
  silent = silent_whole out.0;
  whole = λ e. out.0;
}

pub goes_on : {told : Type 0} (a b c : State) → GoesOut told a b → GoesOut told b c → GoesOut told a c
goes_on a b c p q = (out_whole_trans p.0 q.0, q.1 ∙ p.1)

-- directories that open aren't refused
pub never_refused : {told : Type 0} (old new : State) (text : Bytes) (end : RunEnd) → ((refusal : Refusal) → end ≢ Refused refusal) → (told → (refusal : Refusal) → ¬ Refuses (dirs_of old) Start refusal)
    → told → (refusal : Refusal) → (end ≡ Refused refusal → Refuses (dirs_of old) Start refusal × ((i : ℕ) → new.reads i ≡ old.reads i)) × (Refuses (dirs_of old) Start refusal → EndsUnopened refusal end × (text ≡ []))
never_refused old new text end differs opens t refusal = ((λ e. absurd (differs refusal e)), (λ refuses. absurd (opens t refusal refuses)))

pub all_of : {A : Type 0} (xs : List A) → take (length xs) xs ≡ xs
all_of xs = take_all (length xs) xs (omega arith)

-- ---- counts of an event

-- a step of no line
pub step_counts : (journal after : JournalSet) (s new : State) → EachCounted journal.live journal.live after.live s new → StepCounts None (has journal.live) (has after.live) s new
step_counts journal after s new counted i = elim (counted i) [
  | inl stays ↦ inl (stays.same_live, stays.faults)
  | inr dropped ↦ inr (inl (dropped.was_among, dropped.not_live, dropped.faults))
]

pub counted_once : (live : ℕ → Bool) (lines : List Asked) (old new : State) (end : RunEnd) → ((i : ℕ) → faults_at old i ≤ faults_at new i) → AreFew live lines old new → FailOnce old new lines end
counted_once live lines old new end rise few never i below = (rise i, omega (arith, few i below))

pub none_live : (after : JournalSet) (done : List Asked) (old new : State) → AreGone (has after.live) done old new → ((j : ℕ) → has after.live j ≡ false) → CausedBy old new done NoneLeft
none_live after done old new gone none i below = gone i below (none i)

module _ {told : Type 0} (at count : ℕ) (version : Version) (ns : Namespace) (time : ℕ) (journal : JournalSet) (seen : List Asked) (old s : State) (serving : IsServing told at count version ns time journal seen old s) where
  -- no count has fallen
  pub risen_here : (i : ℕ) → faults_at old i ≤ faults_at s i
  risen_here i = omega (arith, (serving.sees.based i).0, (serving.sees.based i).1)

  pub said_here : told → s.now.said ≡ old.now.said ++ said_of old s
  said_here t = let grew = serving.grew t in since_all old s grew.0 grew.1

  pub answers_here : (t : told) (opened : Opening) (opens : Opens (dirs_of old) Start opened) → opened.book.saved ≡ None → said_of old s ≡ answers_of (asked_at at) old.count opens.version.ctime opened seen
  answers_here t opened opens none = since_is old s (answers_of (asked_at at) old.count opens.version.ctime opened seen) (serving.said t opened opens none).0.said

  pub kept_here : (t : told) (begins : BeginsSoundly old) (ahead : ℕ → Bool) (rest : List Asked) → RunKept (Unit {0}) (course_of (asked_at at) old.count begins.sound.opens.version.ctime begins.sound.opened (seen ++ rest) ahead) old s
  kept_here t begins ahead rest = serving.kept t begins ahead (map (λ (a : Asked). a.line) rest) rest refl

-- ---- while it was said that the run has started

-- all answers begin with that
pub first_long : (at count ctime : ℕ) (opened : Opening) (seen : List Asked) → length (started_line opened.last) ≤ length (answers_of (asked_at at) count ctime opened seen)
first_long at count ctime opened seen = omega (arith, length-append (started_line opened.last) (text_of (commands_of count (first_of (asked_at at) opened) seen)))

-- so whatever is said behind answers, it isn't said then
pub opening_on : (Q : Moment → Type 0) (last : ℕ) (old s new : State) (text : Bytes) → s.now.said ≡ old.now.said ++ text → length (started_line last) ≤ length text → Throughout (Unit {0}) old s (AsItStarts last old Q)
    → Throughout (Unit {0}) s new (λ m. (more : Bytes) × (m.said ≡ s.now.said ++ more)) → Throughout (Unit {0}) old new (AsItStarts last old Q)
opening_on Q last old s new text said long first later = throughout_trans first (throughout_weaker later (λ u m is some few.
    absurd (omega (arith, few, long, length-drop (length old.now.said) m.said, ap length is.1, length-append s.now.said is.0, ap length said, length-append old.now.said text))))

-- nor then do directories change
pub starts_on : (last : ℕ) (ns : Namespace) (old s new : State) (text : Bytes) → s.now.said ≡ old.now.said ++ text → length (started_line last) ≤ length text → StartsAll old s last ns
    → Throughout (Unit {0}) s new (λ m. (more : Bytes) × (m.said ≡ s.now.said ++ more)) → StartsAll old new last ns
starts_on last ns old s new text said long first later = record {
  version = first.version;
  list = first.list;
  stands = first.stands;
  each = opening_on (λ m. (i : ℕ) → i < old.count → IsStarted first.version first.list last (m.dirs i).disk) last old s new text said long first.each later;
}
