-- Each way out of a run over one of its lines: what is known of its end.
use Rattle.std.proofs.Common.{◌≡◌, ◌≢◌, inl, inr, ℕ, ◌≤◌, Bool, true, false, List, [], ◌∷◌, ◌++◌, length, take, drop, map, Err, None, Option, Result, refl, sym, ◌∙◌, ap, subst, arith, append_assoc}
use Rattle.std.proofs.Math.Seq.{take-append_seam}
use Rattle.std.proofs.lemmas.List.{length-append, take-append-drop}
use Rattle.nn_base.specs.DirSets.{has}
use Rattle.nn_base.specs.Paths.{Bytes}
use Rattle.nn_host.specs.Moments.{State, faults_at}
use Rattle.nn_host.specs.Calls.{next_count}
use Rattle.nn_host.specs.Runs.{Throughout}
use Rattle.nn_host.proofs.RunsLemmas.{silent_after, throughout_told, throughout_weaker}
use Rattle.nn_marks.specs.declared.version.Version.{Version}
use Rattle.nn_tree.specs.Namespace.{Namespace}
use Rattle.nn_pick.specs.declared.intent.Intent.TheVariants.{Start}
use Rattle.nn_pick.specs.declared.refusal.Refusal.{Refusal}
use Rattle.nn_pick.specs.Opening.{Opening, Opens}
use Rattle.nn_script.specs.declared.command.ScriptCommand.{ScriptCommand}
use Rattle.nn_script.specs.declared.syntax.Syntax.{Syntax}
use Rattle.nn_script.specs.Reading.{reading_of}
use Rattle.nn_journal.specs.declared.journal.JournalSet.{JournalSet}
use Rattle.nn_run.specs.Running.{Running, Asked, SeeLive, Restored, Failed, reply_at, after_asked, restored_dir}
use Rattle.nn_run.specs.Window.{base_since}
use Rattle.nn_run.specs.Course.{dirs_of, first_of, answers_of, course_of, RunKept}
use Rattle.nn_run.specs.Steps.{StepKept, StepCounts}
use Rattle.nn_run.proofs.LoopLemmas.{next_is_kept}
use Rattle.nn_whole.specs.Counted.{SeenWithin, HasSeenOut}
use Rattle.nn_whole.specs.Served.{SeenTruly}
use Rattle.nn_whole.proofs.CountedLemmas.{step_rises, out_is_counted}
use Rattle.nn_whole.proofs.LeavingLemmas.{more_is_said}
use Rattle.nn_whole.proofs.ServedLemmas.{answers_next}
use Rattle.nn_core.specs.declared.event.End.{End}
use Rattle.nn_core.specs.declared.event.End.TheVariants as end
use Rattle.nn_core.specs.Events.{asked_at as seen_at, running, HasStepped}
use Rattle.nn_core.specs.Standing.{HasIds}
use Rattle.nn_server.specs.Came.{Speaks, is_out_fault}
use Rattle.nn_serve.specs.declared.ending.RunEnd.{RunEnd}
use Rattle.nn_serve.specs.declared.ending.RunEnd.TheVariants.{Ended, Refused, NoneLeft, SourceFault, ScriptTooLong, Memory, OutFault}
use Rattle.nn_serve.specs.Ended.{run_status, run_end}
use Rattle.nn_serve.specs.Ran.{asked_at, RunSays, BeginsSoundly, CausedBy, SomeLeft, NoneFailed}
use Rattle.nn_serve.specs.Serving.{IsServing, EndsSo}
use Rattle.nn_serve.specs.Tried.{TriedTruly, NoneUnfit}
use Rattle.nn_serve.proofs.SinceLemmas.{said_of, since_is, since_all, speaks_whole, goes_on, never_refused, all_of, none_live, risen_here, said_here, answers_here, kept_here, first_long, opening_on, starts_on, counted_once}

module _ {told : Type 0} (at count : ℕ) (version : Version) (ns : Namespace) (time : ℕ) (journal : JournalSet) (seen : List Asked) (old s : State) (serving : IsServing told at count version ns time journal seen old s) where
  -- what is known on its way
  here_said : told → s.now.said ≡ old.now.said ++ said_of old s
  here_said = said_here at count version ns time journal seen old s serving

  here_answers : (t : told) (opened : Opening) (opens : Opens (dirs_of old) Start opened) → opened.book.saved ≡ None → said_of old s ≡ answers_of (asked_at at) old.count opens.version.ctime opened seen
  here_answers = answers_here at count version ns time journal seen old s serving

  here_kept : (t : told) (begins : BeginsSoundly old) (ahead : ℕ → Bool) (rest : List Asked) → RunKept (Unit {0}) (course_of (asked_at at) old.count begins.sound.opens.version.ctime begins.sound.opened (seen ++ rest) ahead) old s
  here_kept = kept_here at count version ns time journal seen old s serving

  -- ---- where the script gave no more lines

  -- so many lines were read, and all were answered
  out_read : (end : RunEnd) → is_out_fault (run_status end) ≡ false → end ≢ Ended → ((refusal : Refusal) → end ≢ Refused refusal) → CausedBy old s seen end
      → ((answers : List Asked → Bytes) (text : Bytes) → text ≡ answers seen → RunSays answers seen (length seen) end text) → EndsSo told at old s seen end
  out_read end whole goes differs cause says = record {
    text = said_of old s;
    speaks = speaks_whole old s (said_of old s) (run_status end) whole serving.out here_said;
    reached = length seen;
    most = omega arith;
    said = λ t opened opens none. (
      says (answers_of (asked_at at) old.count opens.version.ctime opened) (said_of old s) (here_answers t opened opens none),
      subst (λ l. SeenTruly (answers_of (asked_at at) old.count opens.version.ctime opened) l old s) (sym (all_of seen)) (serving.said t opened opens none).0.seen,
    );
    opening = λ t some opened opens none. serving.opening t opened opens none;
    started = λ t some begins. serving.started t begins;
    some = subst (SomeLeft old.count) (sym (all_of seen)) serving.left;
    kept = here_kept;
    ended = λ t is begins. absurd (goes is);
    refused = never_refused old s (said_of old s) end differs serving.unrefused;
    cause = subst (λ l. CausedBy old s l end) (sym (all_of seen)) cause;
    once = counted_once (has journal.live) seen old s end (risen_here at count version ns time journal seen old s serving) serving.sees.few;
    tried = subst (TriedTruly old.count (λ i. faults_at old i)) (sym (all_of seen)) serving.tried;
    fit = λ t begins. subst (NoneUnfit old.count) (sym (all_of seen)) (serving.fit t begins);
    above = λ i. subst (λ l. faults_at old i ≤ base_since old l i) (sym (all_of seen)) (serving.sees.based i).0;
    live = (subst (SeeLive old.count (λ i. faults_at old i)) (sym (all_of seen)) serving.sees.sees, subst (λ l. SeenWithin l old s) (sym (all_of seen)) serving.sees.within);
  }

  pub out_source : EndsSo told at old s seen SourceFault
  out_source = out_read SourceFault refl (λ e. cc e) (λ r e. cc e) tt (λ answers text e. (refl, e))

  pub out_long : EndsSo told at old s seen ScriptTooLong
  out_long = out_read ScriptTooLong refl (λ e. cc e) (λ r e. cc e) tt (λ answers text e. (refl, e))

  -- ---- a line that was not answered

  module _ (next : Asked) where
    all_but_next : take (length seen) (seen ++ next ∷ []) ≡ seen
    all_but_next = take-append_seam seen (next ∷ [])

    -- behind the answers to all lines but this one a part of its answer was said, or nothing
    unanswered : (new : State) (end : RunEnd) (text : Bytes) → Speaks told old new text (run_status end) → end ≢ Ended → ((refusal : Refusal) → end ≢ Refused refusal) → CausedBy old new seen end
        → (live : ℕ → Bool) → HasSeenOut live seen next old new → ((i : ℕ) → faults_at s i ≤ faults_at new i)
        → ((t : told) (opened : Opening) (opens : Opens (dirs_of old) Start opened) → opened.book.saved ≡ None → RunSays (answers_of (asked_at at) old.count opens.version.ctime opened) (seen ++ next ∷ []) (length seen) end text)
        → (told → (said : Bytes) × Throughout (Unit {0}) s new (λ m. (n : ℕ) × (m.said ≡ s.now.said ++ take n said)))
        → (told → (begins : BeginsSoundly old) → StepKept (Unit {0}) old.count (after_asked old.count (first_of (asked_at at) begins.sound.opened) seen) (has journal.live) (λ i. true) next s new)
        → EndsSo told at old new (seen ++ next ∷ []) end
    unanswered new end text speaks goes differs cause live sees rise says fronts step = record {
      text = text;
      speaks = speaks;
      reached = length seen;
      most = omega (arith, length-append seen (next ∷ []));
      said = λ t opened opens none. (
        says t opened opens none,
        subst (λ l. SeenTruly (answers_of (asked_at at) old.count opens.version.ctime opened) l old new) (sym all_but_next)
            (let come = (serving.said t opened opens none).0 in more_is_said (asked_at at) opens.version.ctime opened seen (fronts t).0 old s new come.said come.seen (fronts t).1),
      );
      opening = λ t some opened opens none.
          let come = (serving.said t opened opens none).0 in
          opening_on (NoneFailed old) opened.last old s new (answers_of (asked_at at) old.count opens.version.ctime opened seen) come.said (first_long at old.count opens.version.ctime opened seen) (serving.opening t opened opens none)
          (throughout_weaker (fronts t).1 (λ u m is. (take is.0 (fronts t).0, is.1)));
      started = λ t some begins.
          let opened = begins.sound.opened in
          let ctime = begins.sound.opens.version.ctime in
          let come = (serving.said t opened begins.sound.opens begins.unsaved).0 in
          starts_on opened.last opened.book.ns old s new (answers_of (asked_at at) old.count ctime opened seen) come.said (first_long at old.count ctime opened seen) (serving.started t begins)
          (throughout_weaker (fronts t).1 (λ u m is. (take is.0 (fronts t).0, is.1)));
      some = subst (SomeLeft old.count) (sym all_but_next) serving.left;
      kept = λ t begins ahead rest. kept_next t begins ahead rest (step t begins);
      ended = λ t is begins. absurd (goes is);
      refused = never_refused old new text end differs serving.unrefused;
      cause = subst (λ l. CausedBy old new l end) (sym all_but_next) cause;
      once = counted_once live (seen ++ next ∷ []) old new end (λ i. omega (arith, risen_here at count version ns time journal seen old s serving i, rise i)) sees.few;
      tried = subst (TriedTruly old.count (λ i. faults_at old i)) (sym all_but_next) serving.tried;
      fit = λ t begins. subst (NoneUnfit old.count) (sym all_but_next) (serving.fit t begins);
      above = λ i. subst (λ l. faults_at old i ≤ base_since old l i) (sym all_but_next) (serving.sees.based i).0;
      live = (subst (SeeLive old.count (λ i. faults_at old i)) (sym all_but_next) sees.sees, subst (λ l. SeenWithin l old new) (sym all_but_next) sees.within);
    }
      where
        kept_next : (t : told) (begins : BeginsSoundly old) (ahead : ℕ → Bool) (rest : List Asked) → StepKept (Unit {0}) old.count (after_asked old.count (first_of (asked_at at) begins.sound.opened) seen) (has journal.live) (λ i. true) next s new
            → RunKept (Unit {0}) (course_of (asked_at at) old.count begins.sound.opens.version.ctime begins.sound.opened ((seen ++ next ∷ []) ++ rest) ahead) old new
        kept_next t begins ahead rest is =
            let come = (serving.said t begins.sound.opened begins.sound.opens begins.unsaved).0 in
            next_is_kept (asked_at at) begins.sound.opens.version.ctime begins.sound.opened ahead (has journal.live) (λ i. true) seen next (map (λ (a : Asked). a.line) rest) old s new (record {
              batch = omega arith;
              said = come.said;
              based = come.based;
              alive = come.alive;
              held = λ i below is same. refl;
            }) (serving.kept t begins ahead (next.line ∷ map (λ (a : Asked). a.line) rest)) is rest refl

  -- the step of an event, as one of the run
  step_of : (t : told) (begins : BeginsSoundly old) (line : Asked) (new : State) → StepKept (Unit {0}) count (running ns time) (has journal.live) (λ i. true) line s new
      → StepKept (Unit {0}) old.count (after_asked old.count (first_of (asked_at at) begins.sound.opened) seen) (has journal.live) (λ i. true) line s new
  step_of t begins line new is =
      let same = (serving.said t begins.sound.opened begins.sound.opens begins.unsaved).1 in
      subst (λ (c : ℕ). StepKept (Unit {0}) c (after_asked old.count (first_of (asked_at at) begins.sound.opened) seen) (has journal.live) (λ i. true) line s new) (sym serving.listed)
      (subst (λ (r : Running). StepKept (Unit {0}) count r (has journal.live) (λ i. true) line s new) same is)

  -- the answer that it would have got, as the run says it
  text_of_next : (t : told) (opened : Opening) (opens : Opens (dirs_of old) Start opened) → opened.book.saved ≡ None → (line : Asked)
      → answers_of (asked_at at) old.count opens.version.ctime opened (seen ++ line ∷ []) ≡ answers_of (asked_at at) old.count opens.version.ctime opened seen ++ (reply_at count (running ns time) line).text
  text_of_next t opened opens none line =
      answers_next (asked_at at) old.count opens.version.ctime opened seen line
      ∙ ap (λ (r : Running). answers_of (asked_at at) old.count opens.version.ctime opened seen ++ (reply_at old.count r line).text) (sym (serving.said t opened opens none).1)
      ∙ ap (λ (c : ℕ). answers_of (asked_at at) old.count opens.version.ctime opened seen ++ (reply_at c (running ns time) line).text) serving.listed

  -- ---- want of memory, before anything was done

  pub out_memory : (line : Bytes) → EndsSo told at old s (seen ++ seen_at line Failed journal.live s ∷ []) Memory
  out_memory line = record {
    text = said_of old s;
    speaks = speaks_whole old s (said_of old s) (run_status Memory) refl serving.out here_said;
    reached = length seen;
    most = omega (arith, length-append seen (seen_at line Failed journal.live s ∷ []));
    said = λ t opened opens none. (
      inr (here_answers t opened opens none ∙ ap (answers_of (asked_at at) old.count opens.version.ctime opened) (sym (all_but_next (seen_at line Failed journal.live s)))),
      subst (λ l. SeenTruly (answers_of (asked_at at) old.count opens.version.ctime opened) l old s) (sym (all_but_next (seen_at line Failed journal.live s))) (serving.said t opened opens none).0.seen,
    );
    opening = λ t some opened opens none. serving.opening t opened opens none;
    started = λ t some begins. serving.started t begins;
    some = subst (SomeLeft old.count) (sym (all_but_next (seen_at line Failed journal.live s))) serving.left;
    kept = λ t begins ahead rest. subst (λ l. RunKept (Unit {0}) (course_of (asked_at at) old.count begins.sound.opens.version.ctime begins.sound.opened l ahead) old s)
        (sym (append_assoc seen (seen_at line Failed journal.live s ∷ []) rest)) (here_kept t begins ahead (seen_at line Failed journal.live s ∷ rest));
    ended = λ t is begins. absurd (cc is);
    refused = never_refused old s (said_of old s) Memory (λ r e. cc e) serving.unrefused;
    cause = tt;
    once = counted_once (has journal.live) (seen ++ seen_at line Failed journal.live s ∷ []) old s Memory (risen_here at count version ns time journal seen old s serving)
        (out_is_counted (has journal.live) (has journal.live) seen (seen_at line Failed journal.live s) old s s serving.sees (λ i. inl (refl, refl))).few;
    tried = subst (TriedTruly old.count (λ i. faults_at old i)) (sym (all_but_next (seen_at line Failed journal.live s))) serving.tried;
    fit = λ t begins. subst (NoneUnfit old.count) (sym (all_but_next (seen_at line Failed journal.live s))) (serving.fit t begins);
    above = λ i. subst (λ l. faults_at old i ≤ base_since old l i) (sym (all_but_next (seen_at line Failed journal.live s))) (serving.sees.based i).0;
    live = (
      subst (SeeLive old.count (λ i. faults_at old i)) (sym (all_but_next (seen_at line Failed journal.live s))) serving.sees.sees,
      subst (λ l. SeenWithin l old s) (sym (all_but_next (seen_at line Failed journal.live s))) serving.sees.within,
    );
  }

  -- ---- an event that ended the run

  module _ (reading : Result (Option ScriptCommand) Syntax) (ns_after : Namespace) (time_after : ℕ) (after : JournalSet) (new : State) (ids : told → BeginsSoundly old → HasIds journal) (line : Bytes) (reads : reading_of line ≡ reading) where
    abbrev next : Restored → Asked
    next restored = seen_at line restored after.live new

    module _ (why : End) (stepped : HasStepped told reading count version ns ns_after time time_after journal after s new (Err why)) where
      sees_after : HasSeenOut (has after.live) seen (next stepped.restored) old new
      sees_after = out_is_counted (has journal.live) (has after.live) seen (next stepped.restored) old s new serving.sees
          (subst (λ r. StepCounts (restored_dir r) (has journal.live) (has after.live) s new) (sym reads) stepped.live.counted)

      rise_after : (i : ℕ) → faults_at s i ≤ faults_at new i
      rise_after = step_rises (restored_dir reading) (has journal.live) (has after.live) s new stepped.live.counted

      fronts_of : told → (said : Bytes) × Throughout (Unit {0}) s new (λ m. (n : ℕ) × (m.said ≡ s.now.said ++ take n said))
      fronts_of t = ((reply_at count (running ns time) (next stepped.restored)).text, throughout_told (λ (u : Unit {0}). t) (throughout_weaker (stepped.spoken line reads) (λ t m is. is.0)))

      step_kept : (t : told) (begins : BeginsSoundly old) → StepKept (Unit {0}) old.count (after_asked old.count (first_of (asked_at at) begins.sound.opened) seen) (has journal.live) (λ i. true) (next stepped.restored) s new
      step_kept t begins = step_of t begins (next stepped.restored) new (stepped.kept t (ids t begins) (serving.stands t begins) line reads)

    out_none : (stepped : HasStepped told reading count version ns ns_after time time_after journal after s new (Err end.NoneLeft)) → EndsSo told at old new (seen ++ next stepped.restored ∷ []) NoneLeft
    out_none stepped =
        let ends = stepped.ended in
        let said : told → new.now.said ≡ old.now.said ++ said_of old s = λ t. ends.1.now.said ∙ here_said t in
        unanswered (next stepped.restored) new NoneLeft (said_of old s) (speaks_whole old new (said_of old s) (run_status NoneLeft) refl (goes_on old s new serving.out stepped.out) said) (λ e. cc e) (λ r e. cc e)
        (none_live after seen old new (sees_after end.NoneLeft stepped).gone (λ j. (ends.0 j).0)) (has after.live) (sees_after end.NoneLeft stepped) (rise_after end.NoneLeft stepped)
        (λ t opened opens none. here_answers t opened opens none ∙ ap (answers_of (asked_at at) old.count opens.version.ctime opened) (sym (all_but_next (next stepped.restored))))
        (fronts_of end.NoneLeft stepped) (step_kept end.NoneLeft stepped)

    -- want of memory, before anything was done or over a checkpoint
    out_unsaved : (stepped : HasStepped told reading count version ns ns_after time time_after journal after s new (Err end.Memory)) → EndsSo told at old new (seen ++ next stepped.restored ∷ []) Memory
    out_unsaved stepped =
        let ends = stepped.ended in
        let said : told → new.now.said ≡ old.now.said ++ said_of old s = λ t. ends.1.now.said ∙ here_said t in
        unanswered (next stepped.restored) new Memory (said_of old s) (speaks_whole old new (said_of old s) (run_status Memory) refl (goes_on old s new serving.out stepped.out) said) (λ e. cc e) (λ r e. cc e)
        tt (has after.live) (sees_after end.Memory stepped) (rise_after end.Memory stepped)
        (λ t opened opens none. inr (here_answers t opened opens none ∙ ap (answers_of (asked_at at) old.count opens.version.ctime opened) (sym (all_but_next (next stepped.restored)))))
        (fronts_of end.Memory stepped) (step_kept end.Memory stepped)

    out_output : (stepped : HasStepped told reading count version ns ns_after time time_after journal after s new (Err end.OutFault)) → EndsSo told at old new (seen ++ next stepped.restored ∷ []) OutFault
    out_output stepped =
        let text = said_of old new in
        let front : told → (n : ℕ) × (new.now.said ≡ old.now.said ++ (said_of old s ++ take n (reply_at count (running ns time) (next stepped.restored)).text)) = (λ t.
        let it = ((stepped.spoken line reads).ends t).0 in
        (it.0, it.1 ∙ ap (λ x. x ++ take it.0 (reply_at count (running ns time) (next stepped.restored)).text) (here_said t) ∙ append_assoc old.now.said (said_of old s) (take it.0 (reply_at count (running ns time) (next stepped.restored)).text))) in
        unanswered (next stepped.restored) new OutFault text (record {
          said = λ t. since_all old new (said_of old s ++ take (front t).0 (reply_at count (running ns time) (next stepped.restored)).text) (front t).1;
          counted = stepped.out.1 ∙ ap next_count serving.out.1;
          silent = silent_after serving.out.0 stepped.out.0;
          whole = λ e. absurd (cc e);
        }) (λ e. cc e) (λ r e. cc e) tt (has after.live) (sees_after end.OutFault stepped) (rise_after end.OutFault stepped)
        (λ t opened opens none. (
        let all = answers_of (asked_at at) old.count opens.version.ctime opened seen in
        let answer = (reply_at count (running ns time) (next stepped.restored)).text in
        let n = (front t).0 in
        let is : said_of old new ≡ all ++ take n answer = since_is old new (said_of old s ++ take n answer) (front t).1 ∙ ap (λ x. x ++ take n answer) (here_answers t opened opens none) in (
          (drop n answer, text_of_next t opened opens none (next stepped.restored) ∙ ap (λ x. all ++ x) (sym (take-append-drop n answer)) ∙ sym (append_assoc all (take n answer) (drop n answer)) ∙ ap (λ x. x ++ drop n answer) (sym is)),
          inr (take n answer, is ∙ ap (λ l. answers_of (asked_at at) old.count opens.version.ctime opened l ++ take n answer) (sym (all_but_next (next stepped.restored)))),
        )))
        (fronts_of end.OutFault stepped) (step_kept end.OutFault stepped)

    pub out_stepped : (why : End) → (stepped : HasStepped told reading count version ns ns_after time time_after journal after s new (Err why)) → EndsSo told at old new (seen ++ next stepped.restored ∷ []) (run_end why)
    out_stepped end.NoneLeft stepped = out_none stepped
    out_stepped end.OutFault stepped = out_output stepped
    out_stepped end.Memory stepped = out_unsaved stepped
