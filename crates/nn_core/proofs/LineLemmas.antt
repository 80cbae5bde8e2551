-- Which lines have an answer, what a command is answered, and a step under other names.
use Rattle.std.proofs.Common.{◌≡◌, ◌≢◌, inl, inr, ⊎_elim, ℕ, ◌<◌, nat_lt, Bool, true, false, ◌&&◌, if◌then◌else◌, Option, Some, None, Result, Ok, refl, sym, ◌∙◌, ap, subst}
use Rattle.std.proofs.lemmas.Bool.{cases_Bool}
use Rattle.nn_base.specs.Paths.{Bytes}
use Rattle.nn_host.specs.Moments.{State}
use Rattle.nn_marks.specs.declared.version.Version.{Version}
use Rattle.nn_tree.specs.Namespace.{Namespace}
use Rattle.nn_journal.specs.declared.journal.JournalSet.{JournalSet}
use Rattle.nn_ops.specs.declared.command.Command.{Command}
use Rattle.nn_ops.specs.declared.refusal.OpRefusal.{OpRefusal}
use Rattle.nn_ops.specs.Bodies.{op_of}
use Rattle.nn_ops.specs.Effects.{effect}
use Rattle.nn_ops.specs.Step.{Outcome, refused, taken, refusal_of}
use Rattle.nn_script.specs.declared.answer.Answer.TheVariants.{Done, Refused}
use Rattle.nn_script.specs.Answers.{change_text}
use Rattle.nn_script.specs.Spelling.{answer_text}
use Rattle.nn_script.specs.declared.command.ScriptCommand.TheVariants.{Namespace as Change}
use Rattle.nn_script.specs.declared.command.ScriptCommand.{ScriptCommand}
use Rattle.nn_script.specs.declared.syntax.Syntax.{Syntax}
use Rattle.nn_script.specs.Lines.{has_no_answer}
use Rattle.nn_script.specs.Reading.{reading_of}
use Rattle.nn_run.specs.Running.{Running, Sight, Asked, RunReply, Failed, is_taken_back, restored_dir, back_of, back_at, is_back, reply_read, reply_at}
use Rattle.nn_run.specs.Flights.{IsBackIn}
use Rattle.nn_run.specs.Steps.{SeesRestored}
use Rattle.nn_run.proofs.LineLemmas.{read_none}
use Rattle.nn_core.specs.declared.event.End.{End}
use Rattle.nn_core.specs.Ready.{IsReady}
use Rattle.nn_core.specs.Written.{Writes}
use Rattle.nn_core.specs.Events.{running, HasStepped}

-- ---- which line it is

module _ (reading : Result (Option ScriptCommand) Syntax) (some : reading ≢ Ok None) (line : Bytes) (reads : reading_of line ≡ reading) where
  pub has_answer : has_no_answer line ≡ false
  has_answer = elim (cases_Bool (has_no_answer line)) [
    | inl none ↦ absurd (some (sym reads ∙ read_none line none))
    | inr answer ↦ answer
  ]

  pub reply_is : (count : ℕ) (run : Running) (sight : Sight) (reply : RunReply) → reply_read count run sight reading ≡ reply → reply_at count run (record { line = line; sight = sight }) ≡ reply
  reply_is count run sight reply is = ap (λ r. reply_read count run sight r) reads ∙ is

-- ---- a line by which no directory is taken back

-- none is, as it was seen at it
module _ (count : ℕ) (asked : Asked) (failed : asked.sight.restored ≡ Failed) where
  and_false : (b : Bool) → (b && false) ≡ false
  and_false true = refl
  and_false false = refl

  by_dir : (dir : Option ℕ) (i : ℕ) → is_back (back_of count asked.sight dir) i ≡ false
  by_dir None i = refl
  by_dir (Some dir) i = ap (λ b. is_back (if b then Some (record { dir = dir; faults = asked.sight.faults dir }) else None) i) (ap (λ r. nat_lt dir count && is_taken_back r) failed ∙ and_false (nat_lt dir count))

  pub none_taken : (i : ℕ) → is_back (back_at count asked) i ≡ false
  none_taken i = by_dir (restored_dir (reading_of asked.line)) i

  pub none_back : (live : ℕ → Bool) → IsBackIn count live asked
  none_back live i below e = absurd (let apart = sym (none_taken i) ∙ e in cc)

-- none was to be, whatever was seen
pub unasked_back : (count : ℕ) (live : ℕ → Bool) (asked : Asked) → restored_dir (reading_of asked.line) ≡ None → IsBackIn count live asked
unasked_back count live asked none i below e = absurd (let apart = sym (ap (λ dir. is_back (back_of count asked.sight dir) i) none) ∙ e in cc)

abbrev pub TakesNone : ℕ → Result (Option ScriptCommand) Syntax → Type 0
TakesNone count reading = (i : ℕ) → i < count → restored_dir reading ≢ Some i

pub sees_none : (count : ℕ) (reading : Result (Option ScriptCommand) Syntax) (live : ℕ → Bool) (asked : Asked) → TakesNone count reading → reading_of asked.line ≡ reading → SeesRestored count live asked
sees_none count reading live asked none reads i below e = absurd (none i below (sym (ap restored_dir reads) ∙ e))

-- ---- what a command is answered

module _ (ns : Namespace) (command : Command) (time : ℕ) where
  outcome_by : Option OpRefusal → Outcome
  outcome_by None = taken (op_of ns command time) ns
  outcome_by (Some refusal) = refused refusal ns

  replied : Outcome → RunReply
  replied outcome = record { text = change_text outcome.refusal; after = running outcome.after time }

  pub change_taken : (ns_after : Namespace) → refusal_of ns command ≡ None → ns_after ≡ effect (op_of ns command time) ns → (count : ℕ) (sight : Sight)
      → reply_read count (running ns time) sight (Ok (Some (Change command))) ≡ record { text = answer_text Done; after = running ns_after time }
  unfolding replied outcome_by
  change_taken ns_after none e count sight = ap (λ r. replied (outcome_by r)) none ∙ ap (λ x. record { text = answer_text Done; after = running x time }) (sym e)

  pub change_refused : (refusal : OpRefusal) → refusal_of ns command ≡ Some refusal → (count : ℕ) (sight : Sight) → reply_read count (running ns time) sight (Ok (Some (Change command))) ≡ record { text = answer_text (Refused refusal); after = running ns time }
  unfolding replied outcome_by
  change_refused refusal some count sight = ap (λ r. replied (outcome_by r)) some

-- a refused command is none that writes
pub refused_idle : (ns : Namespace) (command : Command) (refusal : OpRefusal) → refusal_of ns command ≡ Some refusal → ¬ Writes (Ok (Some (Change command))) ns
refused_idle ns command refusal some writes = ⊎_elim
    (λ begins. ⊎_elim (λ roll. absurd (cc roll)) (λ saves. absurd (cc saves)) begins)
    (λ takes. absurd (let apart = sym some in let none = takes.2 in let same = takes.1 in cc))
    writes

-- ---- the same, under other names

pub stepped_as : {told : Type 0} {reading : Result (Option ScriptCommand) Syntax} {count : ℕ} {version : Version} {ns ns_after : Namespace} {time time_after : ℕ} {journal after : JournalSet} {old new : State} {r s : Result (Unit {0}) End} → r ≡ s
    → HasStepped told reading count version ns ns_after time time_after journal after old new s → HasStepped told reading count version ns ns_after time time_after journal after old new r
stepped_as {told} {reading} {count} {version} {ns} {ns_after} {time} {time_after} {journal} {after} {old} {new} same is = subst (λ r. HasStepped told reading count version ns ns_after time time_after journal after old new r) (sym same) is

pub stepped_reading : {told : Type 0} {reading other : Result (Option ScriptCommand) Syntax} {count : ℕ} {version : Version} {ns ns_after : Namespace} {time time_after : ℕ} {journal after : JournalSet} {old new : State} {r : Result (Unit {0}) End} → reading ≡ other
    → HasStepped told other count version ns ns_after time time_after journal after old new r → HasStepped told reading count version ns ns_after time time_after journal after old new r
stepped_reading {told} {count = count} {version} {ns} {ns_after} {time} {time_after} {journal} {after} {old} {new} {r} same is = subst (λ x. HasStepped told x count version ns ns_after time time_after journal after old new r) (sym same) is

pub stepped_to : {told : Type 0} {reading : Result (Option ScriptCommand) Syntax} {count : ℕ} {version : Version} {ns ns_after other : Namespace} {time time_after : ℕ} {journal after : JournalSet} {old new : State} {r : Result (Unit {0}) End} → ns_after ≡ other
    → HasStepped told reading count version ns other time time_after journal after old new r → HasStepped told reading count version ns ns_after time time_after journal after old new r
stepped_to {told} {reading} {count} {version} {ns} {time = time} {time_after} {journal} {after} {old} {new} {r} same is = subst (λ x. HasStepped told reading count version ns x time time_after journal after old new r) (sym same) is

-- over as many directories
pub ready_as : {journal : JournalSet} {n m : ℕ} {s : State} → n ≡ m → IsReady journal n s → IsReady journal m s
ready_as {journal} {s = s} same is = subst (λ k. IsReady journal k s) same is
