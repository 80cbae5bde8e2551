-- A run over generated files from its start on: before the first of its lines, file after file, and where it never started.
use Rattle.std.proofs.Common.{◌≡◌, inl, inr, ⊎_elim, ℕ, suc, zero, ◌+◌, ◌*◌, ◌-◌, ◌<◌, ◌≤◌, ◌^◌, true, List, [], ◌++◌, length, take, map, Ok, Err, None, Result, refl, sym, ◌∙◌, ap, subst, arith, append_assoc}
use Rattle.std.proofs.lemmas.List.{append-nil, length-append, length-drop, length-take}
use Rattle.nn_base.specs.DirSets.{has}
use Rattle.nn_base.specs.Paths.{Bytes}
use Rattle.nn_host.specs.Moments.{State, faults_at}
use Rattle.nn_host.specs.Calls.{Spoke}
use Rattle.nn_host.specs.Runs.{Unspoken}
use Rattle.nn_host.proofs.RunsLemmas.{said_front, throughout_told, throughout_trans, throughout_weaker}
use Rattle.nn_marks.specs.declared.version.Version.{Version}
use Rattle.nn_tree.specs.Namespace.{Namespace}
use Rattle.nn_pick.specs.declared.intent.Intent.TheVariants.{Start}
use Rattle.nn_pick.specs.Opening.{Opening, Opens}
use Rattle.nn_reader.specs.Script.{OnTheWay}
use Rattle.nn_script.specs.Lines.{lines_of}
use Rattle.nn_generate.specs.Generated.{script_of, file_lines}
use Rattle.nn_journal.specs.declared.journal.JournalSet.{JournalSet}
use Rattle.nn_run.specs.Running.{Asked}
use Rattle.nn_run.specs.Window.{text_of}
use Rattle.nn_run.specs.Course.{dirs_of, opening_of, answers_of, started_line}
use Rattle.nn_whole.specs.Served.{Serving}
use Rattle.nn_fill.specs.Filled.{generated}
use Rattle.nn_fill.specs.Tally.{tally_of, commands_by}
use Rattle.nn_fill.proofs.ScriptLemmas.{stands, file_is_short}
use Rattle.nn_fill.proofs.TallyLemmas.{tallying_first, opening_is_tallied}
use Rattle.nn_core.specs.declared.event.End.{End}
use Rattle.nn_serve.specs.declared.ending.RunEnd.{RunEnd}
use Rattle.nn_serve.specs.declared.ending.RunEnd.TheVariants.{Ended, Refused, HostFault, NoneLeft, SourceFault, ScriptTooLong, Memory, OutFault}
use Rattle.nn_serve.specs.declared.tally.Tally.{Tally}
use Rattle.nn_serve.specs.Ended.{run_end, run_reached}
use Rattle.nn_serve.specs.Ran.{asked_at, CausedBy}
use Rattle.nn_serve.specs.Serving.{HasBegun, IsServing, HasRoom, EndsSo}
use Rattle.nn_serve.specs.Turns.{SaysStarted}
use Rattle.nn_serve.specs.Filled.{FilledSays, CameFilled}
use Rattle.nn_serve.specs.Filling.{IsFilling, FillsTo, Fills, SaysLittle}
use Rattle.nn_serve.proofs.LoopLemmas.{room_less}
use Rattle.nn_serve.proofs.OpeningLemmas.{out_begun, out_unsaid}
use Rattle.nn_serve.proofs.FillOutLemmas.{Completes, never_said}

-- ---- before the first line

pub filling_first : {told : Type 0} (at files count : ℕ) (version : Version) (ns : Namespace) (time : ℕ) (journal : JournalSet) (tally : Tally) (old s : State) → tally.commands ≡ 0 → tally.taken ≡ 0 → IsServing told at count version ns time journal [] old s → SaysLittle told old s
    → IsFilling told at files count version ns time journal (lines_of (script_of 0)) tally old s
filling_first at files count version ns time journal tally old s commands taken serving little = record {
  listed = serving.listed;
  ready = serving.ready;
  sees = serving.sees;
  some = serving.some;
  out = serving.out;
  unrefused = serving.unrefused;
  grew = serving.grew;
  said = λ t opened opens none.
      let come = serving.said t opened opens none in
      (come.0.said ∙ ap (λ text. old.now.said ++ text) (append-nil (started_line opened.last)), come.1, (commands, taken));
  little = little;
  opening = serving.opening;
  started = serving.started;
  tallying = λ t begins ahead.
      let opened = begins.sound.opened in
      let carried : Serving (asked_at at) begins.sound.opens.version.ctime opened ahead (has journal.live) (λ i. true) [] old s = record {
        said = (serving.said t opened begins.sound.opens begins.unsaved).0;
        held = λ i below is same. refl;
        kept = λ later. serving.kept t begins ahead (map (λ (a : Asked). a.line) later) later refl;
      } in
      tallying_first (asked_at at) begins.sound.opens.version.ctime opened ahead (has journal.live) (λ i. true) (generated files) old s carried;
  stands = serving.stands;
}

-- ---- file after file

module _ {told : Type 0} (at files count k : ℕ) (version : Version) (ns : Namespace) (time : ℕ) (journal : JournalSet) (tally : Tally) (old s : State) (filling : IsFilling told at files count version ns time journal (lines_of (script_of k)) tally old s)
    (room : HasRoom told old journal (4 * (files - k))) (below : k < files) (few : files ≤ 500000) where
  file_done : (ns_after : Namespace) (time_after : ℕ) (after : JournalSet) (tally_after : Tally) (new : State) (result : Result (Unit {0}) End) → Fills told (lines_of (file_lines k)) count version ns ns_after time time_after journal after tally tally_after s new result
      → FillsTo told at files count version ns_after time_after after (lines_of (script_of k) ++ lines_of (file_lines k)) tally_after (4 * (files - suc k)) old new result
  file_done ns_after time_after after tally_after new result fills =
      let it = stands k files below (omega (arith, few)) in
      fills at files (lines_of (script_of k)) it.later old (4 * (files - suc k)) it.are filling
      (room_less (length (lines_of (file_lines k)) + 4 * (files - suc k)) (omega (arith, below, file_is_short k (omega (arith, below, few)))) room)

  pub next_file : (n : ℕ) → n ≡ suc k → (ns_after : Namespace) (time_after : ℕ) (after : JournalSet) (tally_after : Tally) (new : State) (v : Unit {0}) → Fills told (lines_of (file_lines k)) count version ns ns_after time time_after journal after tally tally_after s new (Ok v)
      → IsFilling told at files count version ns_after time_after after (lines_of (script_of n)) tally_after old new × HasRoom told old after (4 * (files - n))
  next_file n is ns_after time_after after tally_after new v fills =
      let it = stands k files below (omega (arith, few)) in
      let then = file_done ns_after time_after after tally_after new (Ok v) fills in (
        subst (λ (d : List Bytes). IsFilling told at files count version ns_after time_after after d tally_after old new) (sym (ap (λ m. lines_of (script_of m)) is ∙ it.grown)) then.0,
        subst (λ m. HasRoom told old after (4 * (files - m))) (sym is) then.1,
      )

  pub last_file : (ns_after : Namespace) (time_after : ℕ) (after : JournalSet) (tally_after : Tally) (new : State) (why : End) (end : RunEnd) → end ≡ run_end why → Fills told (lines_of (file_lines k)) count version ns ns_after time time_after journal after tally tally_after s new (Err why)
      → CameFilled told at files old new end
  last_file ns_after time_after after tally_after new why end is fills = subst (λ (e : RunEnd). CameFilled told at files old new e) (sym is) (file_done ns_after time_after after tally_after new (Err why) fills)

-- ---- where it never started

take_none : {A : Type 0} (n : ℕ) → take {A = A} n [] ≡ []
take_none zero = refl
take_none (suc n) = refl

-- nothing was answered but the opening
bare : (at count ctime : ℕ) (opened : Opening) (reached : ℕ) → answers_of (asked_at at) count ctime opened (take reached []) ≡ started_line opened.last
bare at count ctime opened reached = ap (λ (seen : List Asked). answers_of (asked_at at) count ctime opened seen) (take_none reached) ∙ append-nil (started_line opened.last)

early_unlike : (other end : RunEnd) → run_reached end ≡ OnTheWay → end ≡ other → (run_reached other ≡ OnTheWay → ⊥) → ⊥
early_unlike other end way is not = not (sym (ap run_reached is) ∙ way)

early_ended : (end : RunEnd) → run_reached end ≡ OnTheWay → end ≡ Ended → ⊥
early_ended end way is = let at_end = sym (ap run_reached is) ∙ way in cc at_end

module _ {told : Type 0} (at files : ℕ) (old new : State) where
  early_says : (tally : Bytes) (end : RunEnd) → run_reached end ≡ OnTheWay → (so : EndsSo told at old new [] end) → told → (opened : Opening) → Opens (dirs_of old) Start opened → opened.book.saved ≡ None → FilledSays (started_line opened.last) tally end so.text
  early_says tally Ended way so t opened opens none = absurd (cc way)
  early_says tally (Refused refusal) way so t opened opens none = (so.said t opened opens none).0.0
  early_says tally (HostFault i) way so t opened opens none = (so.said t opened opens none).0.0
  early_says tally NoneLeft way so t opened opens none = (so.said t opened opens none).0 ∙ bare at old.count opens.version.ctime opened so.reached
  early_says tally SourceFault way so t opened opens none = absurd (cc way)
  early_says tally ScriptTooLong way so t opened opens none = absurd (cc way)
  early_says tally Memory way so t opened opens none = elim (so.said t opened opens none).0 [
    | inl nothing ↦ inl nothing.0
    | inr opening ↦ inr (opening ∙ bare at old.count opens.version.ctime opened so.reached)
  ]
  early_says tally OutFault way so t opened opens none =
      let front = (so.said t opened opens none).0.0 in
      (front.0 ++ tally, ap (λ x. x ++ tally) (sym (append-nil (started_line opened.last)) ∙ front.1) ∙ append_assoc so.text front.0 tally)

  early_completes : (end : RunEnd) → run_reached end ≡ OnTheWay → EndsSo told at old new [] end → Completes told old new end
  early_completes Ended way so t opened opens out same i below few still = inl refl
  early_completes (Refused refusal) way so t opened opens out same i below few still = absurd (opens.unrefused refusal ((so.refused t refusal).0 refl).0.applies)
  early_completes (HostFault j) way so t opened opens out same i below few still = inr (inr (j, refl))
  early_completes NoneLeft way so t opened opens out same i below few still =
      let cause : CausedBy old new [] NoneLeft = subst (λ (lines : List Asked). CausedBy old new lines NoneLeft) (take_none so.reached) so.cause in
      absurd (⊎_elim (λ (past : faults_at old i < faults_at new i). omega (arith, still, past)) (λ (full : 2 ^ 64 - 1 ≤ faults_at new i). omega (arith, few, still, full)) (cause i below))
  early_completes SourceFault way so t opened opens out same i below few still = absurd (cc way)
  early_completes ScriptTooLong way so t opened opens out same i below few still = absurd (cc way)
  early_completes Memory way so t opened opens out same i below few still = inr (inl refl)
  early_completes OutFault way so t opened opens out same i below few still = absurd (omega (arith, out, same, so.speaks.counted))

  pub filled_early : (end : RunEnd) → run_reached end ≡ OnTheWay → EndsSo told at old new [] end → SaysLittle told old new → CameFilled told at files old new end
  filled_early end way so little = record {
    lines = so.text;
    speaks = so.speaks;
    ran = record {
      said = λ t opened opens none. early_says (tally_of (commands_by (asked_at at) old.count opened (generated files))) end way so t opened opens none;
      opening = so.opening;
      started = so.started;
      closed = λ t opened opens none. never_said old new opened new (little t opened opens none);
      kept = λ t begins ahead.
          let opened = begins.sound.opened in
          let long : length (text_of (opening_of (asked_at at) begins.sound.opens.version.ctime opened)) ≡ length (started_line opened.last) = ap length (append-nil (started_line opened.last)) in
          opening_is_tallied (asked_at at) begins.sound.opens.version.ctime opened ahead (generated files) old new
          (throughout_weaker (little t opened begins.sound.opens begins.unsaved) (λ u m short. omega (arith, short, long))) (so.kept t begins ahead []);
      ended = λ t is. absurd (early_ended end way is);
      refused = so.refused;
      unread = (λ is. early_unlike SourceFault end way is (λ e. cc e), λ is. early_unlike ScriptTooLong end way is (λ e. cc e));
      cause = subst (λ (lines : List Asked). CausedBy old new lines end) (take_none so.reached) so.cause;
      once = so.once;
      complete = early_completes end way so;
    };
  }

-- nothing was said
pub little_quiet : {told : Type 0} (old new : State) → Unspoken told old new → SaysLittle told old new
little_quiet old new quiet t opened opens none = throughout_weaker (throughout_told (λ (u : Unit {0}). t) quiet.each) (λ u m out. omega (arith, length-drop (length old.now.said) m.said, ap length out.said))

-- or a front of the opening
pub little_front : {told : Type 0} {at : ℕ} (count : ℕ) (version : Version) (ns : Namespace) (journal : JournalSet) (last : ℕ) (old s new : State) → HasBegun told at count version ns journal last old s → {T E : Type 0} {result : Result T E} → Spoke told (started_line last) s new result → SaysLittle told old new
little_front {told} {at} count version ns journal last old s new begun spoke t opened opens none =
    let same = (begun.opens t opened opens none).1 in
    let line = started_line last in
    let long : length (started_line opened.last) ≡ length line = ap length (ap started_line same) in
    throughout_trans (little_quiet old s begun.quiet t opened opens none)
    (throughout_weaker (throughout_told (λ (u : Unit {0}). t) (said_front spoke)) (λ u m is.
    omega (arith, long, length-drop (length old.now.said) m.said, ap length is.1, length-append s.now.said (take is.0 line), ap length begun.quiet.now.said, length-take is.0 line)))

-- it wasn't said that the run has started
pub filled_unsaid : {told : Type 0} (at files count : ℕ) (version : Version) (ns : Namespace) (journal : JournalSet) (last : ℕ) (old s : State) → HasBegun told at count version ns journal last old s → (new : State) (end : RunEnd) → SaysStarted told last s new (Err end) → CameFilled told at files old new end
filled_unsaid {told} at files count version ns journal last old s begun new end (inl failed) =
    subst (λ (e : RunEnd). CameFilled told at files old new e) (sym failed.0)
    (filled_early at files old new OutFault refl (out_unsaid at count version ns journal last old s begun (started_line last) refl new failed.1.0 failed.1.1) (little_front count version ns journal last old s new begun failed.1.1))
filled_unsaid {told} at files count version ns journal last old s begun new end (inr none) =
    subst (λ (e : RunEnd). CameFilled told at files old new e) (sym none.0)
    (subst (λ (z : State). CameFilled told at files old z Memory) (sym none.1) (filled_early at files old s Memory refl (out_begun at count version ns journal last old s begun) (little_quiet old s begun.quiet)))

-- the same, under other names
pub filling_as : {told : Type 0} {at files n m : ℕ} {version other : Version} {ns : Namespace} {time : ℕ} {journal : JournalSet} {done all : List Bytes} {tally : Tally} {old s : State} → n ≡ m → version ≡ other → done ≡ all
    → IsFilling told at files n version ns time journal done tally old s → IsFilling told at files m other ns time journal all tally old s
filling_as {told} {at} {files} {m = m} {version = version} {other = other} {ns = ns} {time} {journal} {done} {tally = tally} {old} {s} same alike whole is =
    subst (λ (d : List Bytes). IsFilling told at files m other ns time journal d tally old s) whole
    (subst (λ (v : Version). IsFilling told at files m v ns time journal done tally old s) alike (subst (λ k. IsFilling told at files k version ns time journal done tally old s) same is))
