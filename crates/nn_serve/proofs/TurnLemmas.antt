-- One line of a run, and then the next.
use Rattle.std.proofs.lemmas.List.Elements.{All-append, All-cons, All-nil}
use Rattle.std.proofs.Common.{◌≡◌, ◌≢◌, inl, inr, ℕ, ◌+◌, ◌*◌, ◌≤◌, Bool, true, List, [], ◌∷◌, ◌++◌, take, Ok, Err, None, Some, Option, Result, refl, sym, ◌∙◌, ap, subst, arith, append_assoc, All}
use Rattle.std.proofs.lemmas.Bool.{cases_Bool}
use Rattle.nn_base.specs.DirSets.{has, count_of}
use Rattle.nn_base.specs.Paths.{Bytes}
use Rattle.nn_host.specs.Moments.{State, IsLawful, faults_at}
use Rattle.nn_host.proofs.RunsLemmas.{throughout_told, throughout_weaker}
use Rattle.nn_marks.specs.declared.version.Version.{Version}
use Rattle.nn_tree.specs.Namespace.{Namespace}
use Rattle.nn_pick.specs.declared.intent.Intent.TheVariants.{Start}
use Rattle.nn_pick.specs.Opening.{Opening, Opens}
use Rattle.nn_script.specs.declared.command.ScriptCommand.{ScriptCommand}
use Rattle.nn_script.specs.declared.syntax.Syntax.{Syntax}
use Rattle.nn_script.specs.Lines.{has_no_answer}
use Rattle.nn_script.specs.Reading.{reading_of}
use Rattle.nn_journal.specs.declared.journal.JournalSet.{JournalSet}
use Rattle.nn_run.specs.Running.{Running, Sight, Asked, Failed, reply_read, reply_at, after_asked, restored_dir}
use Rattle.nn_run.specs.Course.{dirs_of, first_of, course_of, RunKept, answers_of}
use Rattle.nn_run.proofs.LineLemmas.{read_some}
use Rattle.nn_run.specs.Loop.{KeptSoFar}
use Rattle.nn_run.specs.Steps.{StepKept, StepCounts, SeesRestored, HasAnswered}
use Rattle.nn_run.proofs.BaseLemmas.{is_back_there}
use Rattle.nn_run.proofs.LoopLemmas.{next_is_kept}
use Rattle.nn_whole.specs.Served.{HasSaid, SaysLast}
use Rattle.nn_whole.proofs.CountedLemmas.{next_is_seen, step_rises, step_narrows}
use Rattle.nn_whole.proofs.ServedLemmas.{next_is_said, silent_is_said}
use Rattle.nn_core.specs.declared.event.End.{End}
use Rattle.nn_core.specs.declared.event.Event.{Event}
use Rattle.nn_core.specs.declared.event.Event.TheVariants.{Line, Bad}
use Rattle.nn_core.specs.Events.{asked_at as seen_at, read_as, running, HasStepped}
use Rattle.nn_core.specs.Standing.{HasIds}
use Rattle.nn_core.proofs.LineLemmas.{has_answer}
use Rattle.nn_serve.specs.Ran.{asked_at, IsLeftAt, BeginsSoundly, NoneFailed}
use Rattle.nn_serve.specs.Serving.{IsServing, HasRoom}
use Rattle.nn_serve.specs.Turns.{TurnsTo}
use Rattle.nn_serve.proofs.TriedLemmas.{counts_next, counts_silent, tried_next, fit_next, restore_is, came_tried, stands_fit, came_fit}
use Rattle.nn_serve.proofs.SinceLemmas.{goes_on, first_long, opening_on, starts_on}
use Rattle.nn_serve.proofs.OutLemmas.{out_stepped}

-- ---- ids

pub room_ids : {told : Type 0} {old : State} {journal : JournalSet} {more : ℕ} → HasRoom told old journal more → told → BeginsSoundly old → HasIds journal
room_ids room tells begins = omega (arith, room.few tells begins)

-- a line takes at most so many ids
pub room_after : {told : Type 0} {old : State} {journal after : JournalSet} (more : ℕ) → HasRoom told old journal (more + 1) → after.last + 2 * count_of after.live ≤ journal.last + 8 + 2 * count_of journal.live → HasRoom told old after more
room_after more room last = record { ids = omega (arith, room.ids, last); few = λ tells begins. omega (arith, room.few tells begins, last) }

-- ---- a line that was answered

-- a directory was live at it too
one_more : (count : ℕ) (seen : List Asked) (next : Asked) → All (IsLeftAt count) seen → IsLeftAt count next → All (IsLeftAt count) (seen ++ next ∷ [])
one_more count seen next all one = All-append (IsLeftAt count) seen (next ∷ []) all (All-cons (IsLeftAt count) next [] one (All-nil (IsLeftAt count)))

module _ {told : Type 0} (at count : ℕ) (version : Version) (ns ns_after : Namespace) (time time_after : ℕ) (journal after : JournalSet) (seen : List Asked) (old s new : State) (serving : IsServing told at count version ns time journal seen old s)
    (reading : Result (Option ScriptCommand) Syntax) (line : Bytes) (reads : reading_of line ≡ reading) (v : Unit {0}) (stepped : HasStepped told reading count version ns ns_after time time_after journal after s new (Ok v)) where
  abbrev next : Asked
  next = seen_at line stepped.restored after.live new

  counts : StepCounts (restored_dir (reading_of line)) (has journal.live) (has after.live) s new
  counts = subst (λ r. StepCounts (restored_dir r) (has journal.live) (has after.live) s new) (sym reads) stepped.live.counted

  module _ (tells : told) (opened : Opening) (opens : Opens (dirs_of old) Start opened) (none : opened.book.saved ≡ None) where
    abbrev before : Running
    before = after_asked old.count (first_of (asked_at at) opened) seen

    here : running ns time ≡ before
    here = (serving.said tells opened opens none).1

    -- as many directories, and the run that the lines have come to
    renamed : (P : ℕ → Running → Type 0) → P count (running ns time) → P old.count before
    renamed P p = subst (λ run. P old.count run) here (subst (λ k. P k (running ns time)) (sym serving.listed) p)

    answered : HasAnswered (Unit {0}) old.count before (running ns_after time_after) (has journal.live) (has after.live) next s new
    answered = renamed (λ k run. HasAnswered (Unit {0}) k run (running ns_after time_after) (has journal.live) (has after.live) next s new) (
        let it = stepped.answered line reads in
        record { said = λ u. it.said tells; goes_on = it.goes_on; counted = it.counted; sees_live = it.sees_live; sees_faults = it.sees_faults; sees_restored = it.sees_restored })

    spoken : SaysLast (reply_at old.count before next).text s new
    spoken = renamed (λ k run. SaysLast (reply_at k run next).text s new) (throughout_told (λ u. tells) (stepped.spoken line reads))

    said_next : HasSaid (asked_at at) opens.version.ctime opened (has after.live) (seen ++ next ∷ []) old new × (running ns_after time_after ≡ after_asked old.count (first_of (asked_at at) opened) (seen ++ next ∷ []))
    said_next =
        next_is_said (asked_at at) opens.version.ctime opened (has journal.live) (has after.live) seen next (running ns_after time_after) old s new (serving.said tells opened opens none).0 answered spoken
        (step_rises (restored_dir (reading_of line)) (has journal.live) (has after.live) s new counts) (λ i below e. elim (step_narrows (restored_dir (reading_of line)) (has journal.live) (has after.live) s new counts i e) [
          | inl was ↦ inl was
          | inr is ↦ inr (is_back_there old.count next i below is ((answered.sees_restored i below is).1 e))
        ])

  kept_next : (ids : told → BeginsSoundly old → HasIds journal) → told → (begins : BeginsSoundly old) (ahead : ℕ → Bool) (rest : List Bytes)
      → KeptSoFar (asked_at at) begins.sound.opens.version.ctime begins.sound.opened ahead (seen ++ next ∷ []) rest old new
  kept_next ids tells begins ahead rest =
      let opened = begins.sound.opened in
      let opens = begins.sound.opens in
      let said = (serving.said tells opened opens begins.unsaved).0 in
      next_is_kept (asked_at at) opens.version.ctime opened ahead (has journal.live) (λ i. true) seen next rest old s new
      (record { batch = omega arith; said = said.said; based = said.based; alive = said.alive; held = λ i below e same. refl })
      (serving.kept tells begins ahead (line ∷ rest))
      (renamed tells opened opens begins.unsaved (λ k run. StepKept (Unit {0}) k run (has journal.live) (λ i. true) next s new) (stepped.kept tells (ids tells begins) (serving.stands tells begins) line reads))

  pub turned : (told → IsLawful s) → reading ≢ Ok None → (more : ℕ) → HasRoom told old journal (more + 1) → IsServing told at count version ns_after time_after after (seen ++ next ∷ []) old new × HasRoom told old after more
  turned lawful some more room = (
    record {
      listed = serving.listed;
      ready = stepped.ready;
      sees = next_is_seen (has journal.live) (has after.live) seen next old s new serving.sees counts (λ i. refl) (λ i. refl)
          (subst (λ k. SeesRestored k (has after.live) next) (sym serving.listed) (stepped.answered line reads).sees_restored);
      counts = λ i. counts_next (λ j. faults_at old j) seen next i (has_answer reading some line reads);
      tried = tried_next old.count (λ i. faults_at old i) seen next serving.tried (λ i below is. came_tried line (serving.counts i)
          (stepped.came i (sym reads ∙ restore_is (reading_of line) i is) (omega (arith, below, serving.listed))));
      fit = λ tells begins. fit_next old.count seen next (serving.fit tells begins) (λ i below is.
          came_fit tells (stands_fit (serving.stands tells begins) (lawful tells) i (omega (arith, below, serving.listed, serving.ready.listed)))
          (stepped.came i (sym reads ∙ restore_is (reading_of line) i is) (omega (arith, below, serving.listed))));
      some = λ there. stepped.live.some (inl (serving.some there));
      left = λ there. one_more old.count seen next (serving.left there)
          (let live = stepped.live.some (inl (serving.some there)) in (live.0, (let below = stepped.ready.below live.0 live.1 in omega (arith, below, serving.listed)), live.1));
      opening = λ tells opened opens none.
          let come = (serving.said tells opened opens none).0 in
          opening_on (NoneFailed old) opened.last old s new (answers_of (asked_at at) old.count opens.version.ctime opened seen) come.said (first_long at old.count opens.version.ctime opened seen) (serving.opening tells opened opens none)
          (throughout_weaker (spoken tells opened opens none) (λ u m is. (take is.0.0 (reply_at old.count (after_asked old.count (first_of (asked_at at) opened) seen) next).text, is.0.1)));
      started = λ tells begins.
          let opened = begins.sound.opened in
          let opens = begins.sound.opens in
          let come = (serving.said tells opened opens begins.unsaved).0 in
          starts_on opened.last opened.book.ns old s new (answers_of (asked_at at) old.count opens.version.ctime opened seen) come.said (first_long at old.count opens.version.ctime opened seen) (serving.started tells begins)
          (throughout_weaker (spoken tells opened opens begins.unsaved) (λ u m is. (take is.0.0 (reply_at old.count (after_asked old.count (first_of (asked_at at) opened) seen) next).text, is.0.1)));
      out = goes_on old s new serving.out stepped.out;
      unrefused = serving.unrefused;
      grew = λ tells.
          let grew = serving.grew tells in
          let front = ((stepped.spoken line reads).ends tells).0 in
          (grew.0 ++ take front.0 (reply_at count (running ns time) next).text, front.1 ∙ ap (λ (x : Bytes). x ++ take front.0 (reply_at count (running ns time) next).text) grew.1 ∙ append_assoc old.now.said grew.0 (take front.0 (reply_at count (running ns time) next).text));
      said = said_next;
      kept = kept_next (room_ids room);
      stands = λ tells begins. stepped.stands tells (room_ids room tells begins) (serving.stands tells begins);
    },
    room_after more room stepped.wrote.last,
  )

-- ---- a line without an answer

silent_line : (count : ℕ) (run : Running) (sight : Sight) (line : Bytes) → reading_of line ≡ Ok None → has_no_answer line ≡ true
silent_line count run sight line reads = elim (cases_Bool (has_no_answer line)) [
  | inl silence ↦ silence
  | inr spoken ↦ absurd (read_some count run sight line spoken (ap (λ r. (reply_read count run sight r).text) reads))
]

pub silent : {told : Type 0} (at count : ℕ) (version : Version) (ns : Namespace) (time : ℕ) (journal : JournalSet) (seen : List Asked) (old s : State) → IsServing told at count version ns time journal seen old s → (line : Bytes) → reading_of line ≡ Ok None → (more : ℕ) → HasRoom told old journal (more + 1)
    → IsServing told at count version ns time journal (seen ++ seen_at line Failed journal.live s ∷ []) old s × HasRoom told old journal more
silent at count version ns time journal seen old s serving line reads more room = (
  record {
    listed = serving.listed;
    ready = serving.ready;
    sees = next_is_seen (has journal.live) (has journal.live) seen (seen_at line Failed journal.live s) old s s serving.sees (λ i. inl (refl, refl)) (λ i. refl) (λ i. refl) (λ i below e. absurd (none_asked i e));
    counts = λ i. counts_silent (λ j. faults_at old j) seen (seen_at line Failed journal.live s) i (silent_line count (running ns time) (seen_at line Failed journal.live s).sight line reads) ∙ serving.counts i;
    tried = tried_next old.count (λ i. faults_at old i) seen (seen_at line Failed journal.live s) serving.tried (λ i below e. absurd (none_asked i e));
    fit = λ tells begins. fit_next old.count seen (seen_at line Failed journal.live s) (serving.fit tells begins) (λ i below e. absurd (none_asked i e));
    some = serving.some;
    left = λ there. one_more old.count seen (seen_at line Failed journal.live s) (serving.left there)
        (let live = serving.some there in (live.0, (let below = serving.ready.below live.0 live.1 in omega (arith, below, serving.listed)), live.1));
    opening = serving.opening;
    started = serving.started;
    out = serving.out;
    unrefused = serving.unrefused;
    grew = serving.grew;
    said = λ tells opened opens none.
        let it = serving.said tells opened opens none in
        let next = silent_is_said (asked_at at) opens.version.ctime opened (has journal.live) seen (seen_at line Failed journal.live s) old s (silent_line count (running ns time) (seen_at line Failed journal.live s).sight line reads) (λ i. refl) (λ i. refl) it.0 in
        (next.0, it.1 ∙ sym next.1);
    kept = λ tells begins ahead rest later lines.
        subst (λ (l : List Asked). RunKept (Unit {0}) (course_of (asked_at at) old.count begins.sound.opens.version.ctime begins.sound.opened l ahead) old s) (sym (append_assoc seen (seen_at line Failed journal.live s ∷ []) later))
        (serving.kept tells begins ahead (line ∷ rest) (seen_at line Failed journal.live s ∷ later) (ap (λ l. line ∷ l) lines));
    stands = serving.stands;
  },
  record { ids = omega (arith, room.ids); few = λ tells begins. omega (arith, room.few tells begins) },
)
  where
    none_asked : (i : ℕ) → restored_dir (reading_of line) ≡ Some i → ⊥
    none_asked i e = let no : None ≡ Some i = sym (ap restored_dir reads) ∙ e in absurd (cc no)

-- ---- whatever an event came to

-- an event is no line without an answer
pub event_some : (event : Event) → read_as event ≢ Ok None
event_some (Line command) e = cc e
event_some (Bad fault) e = cc e

pub turned_to : {told : Type 0} (at count : ℕ) (version : Version) (ns ns_after : Namespace) (time time_after : ℕ) (journal after : JournalSet) (seen : List Asked) (old s new : State) → IsServing told at count version ns time journal seen old s
    → (told → IsLawful s) → (reading : Result (Option ScriptCommand) Syntax) (line : Bytes) → reading_of line ≡ reading → reading ≢ Ok None → (result : Result (Unit {0}) End) → HasStepped told reading count version ns ns_after time time_after journal after s new result
    → (more : ℕ) → HasRoom told old journal (more + 1) → TurnsTo told at count version ns_after time_after after seen line more old new result
turned_to at count version ns ns_after time time_after journal after seen old s new serving lawful reading line reads some (Ok v) stepped more room =
    let it = turned at count version ns ns_after time time_after journal after seen old s new serving reading line reads v stepped lawful some more room in
    (seen_at line stepped.restored after.live new, refl, it.0, it.1)
turned_to at count version ns ns_after time time_after journal after seen old s new serving lawful reading line reads some (Err end) stepped more room =
    (seen_at line stepped.restored after.live new, refl, out_stepped at count version ns time journal seen old s serving reading ns_after time_after after new (room_ids room) line reads end stepped)
