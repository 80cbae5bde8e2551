-- The end of a run behind all of its lines: what is known of it.
use Rattle.std.proofs.Common.{◌≡◌, ℕ, ◌<◌, ◌≤◌, Bool, true, false, List, [], ◌∷◌, ◌++◌, length, take, Ok, Err, None, Some, Option, Result, refl, sym, ◌∙◌, ap, subst, arith}
use Rattle.std.proofs.lemmas.List.{append-nil}
use Rattle.nn_base.specs.DirSets.{has}
use Rattle.nn_base.specs.declared.sub.Sub.TheVariants.{Current}
use Rattle.nn_base.specs.declared.file_name.FileName.TheVariants.{InProgress}
use Rattle.nn_host.specs.Disk.{Disk, File, Reads, Leaves, LeavesFile}
use Rattle.nn_host.specs.Moments.{Dir, State, IsLawful, disk_at, faults_at}
use Rattle.nn_host.specs.Runs.{Throughout, Unspoken}
use Rattle.nn_host.proofs.RunsLemmas.{out_whole_unspoken, throughout_told, throughout_weaker}
use Rattle.nn_marks.specs.declared.version.Version.{Version}
use Rattle.nn_tree.specs.Namespace.{Namespace}
use Rattle.nn_pick.specs.declared.intent.Intent.TheVariants.{Start}
use Rattle.nn_pick.specs.Opening.{Book, Opening, Opens}
use Rattle.nn_kept.specs.Laws.{KeptInto}
use Rattle.nn_journal.specs.declared.journal.JournalSet.{JournalSet}
use Rattle.nn_run.specs.Running.{Running, Asked, SeeLive}
use Rattle.nn_run.specs.Window.{base_since}
use Rattle.nn_run.specs.Course.{dirs_of, answers_of, course_of, RunKept}
use Rattle.nn_run.specs.Steps.{BetweenLines, is_of_step}
use Rattle.nn_run.proofs.SyncLemmas.{between_same}
use Rattle.nn_whole.specs.Counted.{HasSeen, SeenWithin}
use Rattle.nn_whole.specs.Ended.{book_after}
use Rattle.nn_whole.specs.Served.{SeenTruly, Serving}
use Rattle.nn_whole.proofs.CountedLemmas.{next_is_counted, live_by_count, none_narrows}
use Rattle.nn_whole.proofs.EndedLemmas.{ended_opens}
use Rattle.nn_whole.proofs.LeavingLemmas.{more_is_said, ending_is_kept}
use Rattle.nn_core.specs.Events.{HasEnded}
use Rattle.nn_core.specs.Standing.{unsaved, HasIds}
use Rattle.nn_serve.specs.declared.ending.RunEnd.TheVariants.{Ended, NoneLeft}
use Rattle.nn_serve.specs.Ended.{run_status}
use Rattle.nn_serve.specs.Ran.{asked_at, BeginsSoundly, LeavesLast, AsItStarts, NoneFailed, StartsAll, SomeLeft, CausedBy}
use Rattle.nn_serve.specs.Serving.{IsServing, EndsSo}
use Rattle.nn_serve.specs.Tried.{TriedTruly, NoneUnfit}
use Rattle.nn_serve.proofs.SinceLemmas.{said_of, speaks_whole, goes_on, never_refused, all_of, step_counts, none_live, said_here, answers_here, kept_here, first_long, opening_on, starts_on, counted_once}

module _ {told : Type 0} (at count : ℕ) (version : Version) (ns : Namespace) (time : ℕ) (journal : JournalSet) (seen : List Asked) (old s : State) (serving : IsServing told at count version ns time journal seen old s) where
  -- what is known on its way
  here_said : told → s.now.said ≡ old.now.said ++ said_of old s
  here_said = said_here at count version ns time journal seen old s serving

  here_answers : (t : told) (opened : Opening) (opens : Opens (dirs_of old) Start opened) → opened.book.saved ≡ None → said_of old s ≡ answers_of (asked_at at) old.count opens.version.ctime opened seen
  here_answers = answers_here at count version ns time journal seen old s serving

  here_kept : (t : told) (begins : BeginsSoundly old) (ahead : ℕ → Bool) (rest : List Asked) → RunKept (Unit {0}) (course_of (asked_at at) old.count begins.sound.opens.version.ctime begins.sound.opened (seen ++ rest) ahead) old s
  here_kept = kept_here at count version ns time journal seen old s serving

  -- what the loop carries, as the laws of a run have it
  serves : (t : told) (begins : BeginsSoundly old) (ahead : ℕ → Bool) → Serving (asked_at at) begins.sound.opens.version.ctime begins.sound.opened ahead (has journal.live) (λ i. true) seen old s
  serves t begins ahead = record {
    said = (serving.said t begins.sound.opened begins.sound.opens begins.unsaved).0;
    held = λ i below is same. refl;
    kept = here_kept t begins ahead;
  }

  book_is : (t : told) (begins : BeginsSoundly old) → unsaved ns ≡ book_after (asked_at at) old.count begins.sound.opened seen
  book_is t begins = ap (λ (r : Running). r.book) (serving.said t begins.sound.opened begins.sound.opens begins.unsaved).1

  module _ {E : Type 0} (after : JournalSet) (new : State) (ids : told → BeginsSoundly old → HasIds journal) where
    ended_sees : (result : Result (Unit {0}) E) → HasEnded told count version ns journal after s new result → HasSeen (has after.live) seen old new
    ended_sees result ended = next_is_counted (has journal.live) (has after.live) seen old s new serving.sees (step_counts journal after s new ended.went.counted)

    ended_rise : (result : Result (Unit {0}) E) → HasEnded told count version ns journal after s new result → (i : ℕ) → faults_at old i ≤ faults_at new i
    ended_rise result ended i = let based = (ended_sees result ended).based i in omega (arith, based.0, based.1)

    ended_kept : {result : Result (Unit {0}) E} → HasEnded told count version ns journal after s new result → (t : told) (begins : BeginsSoundly old) (ahead : ℕ → Bool) (rest : List Asked)
        → RunKept (Unit {0}) (course_of (asked_at at) old.count begins.sound.opens.version.ctime begins.sound.opened (seen ++ rest) ahead) old new
    ended_kept ended t begins ahead rest =
        let moments = ended.kept t (ids t begins) (serving.stands t begins) in
        let book = subst (λ (b : Book). Throughout (Unit {0}) s new (KeptInto (λ _. b ∷ []) count (λ _. is_of_step (has journal.live) s) (λ _. is_of_step (has journal.live) s))) (book_is t begins) moments in
        let whole = subst (λ (c : ℕ). Throughout (Unit {0}) s new (KeptInto (λ _. book_after (asked_at at) old.count begins.sound.opened seen ∷ []) c (λ _. is_of_step (has journal.live) s) (λ _. is_of_step (has journal.live) s))) (sym serving.listed) book in
        let quiet : Unspoken (Unit {0}) s new = record { now = ended.went.quiet.now; each = throughout_told (λ (u : Unit {0}). t) ended.went.quiet.each } in
        let rise = throughout_told (λ (u : Unit {0}). t) (throughout_weaker ended.went.left (λ t m is. is.grown)) in
        ending_is_kept (asked_at at) begins.sound.opens.version.ctime begins.sound.opened ahead (has journal.live) (λ i. true) seen rest old s new (omega arith) (serves t begins ahead) quiet rise whole

    ended_opening : {result : Result (Unit {0}) E} → HasEnded told count version ns journal after s new result → (t : told) (opened : Opening) (opens : Opens (dirs_of old) Start opened) → opened.book.saved ≡ None → Throughout (Unit {0}) old new (AsItStarts opened.last old (NoneFailed old))
    ended_opening ended t opened opens none =
        let come = (serving.said t opened opens none).0 in
        opening_on (NoneFailed old) opened.last old s new (answers_of (asked_at at) old.count opens.version.ctime opened seen) come.said (first_long at old.count opens.version.ctime opened seen) (serving.opening t opened opens none)
        (throughout_weaker (throughout_told (λ (u : Unit {0}). t) ended.went.quiet.each) (λ u m out. ([], out.said ∙ sym (append-nil s.now.said))))

    ended_started : {result : Result (Unit {0}) E} → HasEnded told count version ns journal after s new result → (t : told) (begins : BeginsSoundly old) → StartsAll old new begins.sound.opened.last begins.sound.opened.book.ns
    ended_started ended t begins =
        let opened = begins.sound.opened in
        let ctime = begins.sound.opens.version.ctime in
        let come = (serving.said t opened begins.sound.opens begins.unsaved).0 in
        starts_on opened.last opened.book.ns old s new (answers_of (asked_at at) old.count ctime opened seen) come.said (first_long at old.count ctime opened seen) (serving.started t begins)
        (throughout_weaker (throughout_told (λ (u : Unit {0}). t) ended.went.quiet.each) (λ u m out. ([], out.said ∙ sym (append-nil s.now.said))))

    ended_said : {result : Result (Unit {0}) E} → HasEnded told count version ns journal after s new result → told → new.now.said ≡ old.now.said ++ said_of old s
    ended_said ended t = ended.went.quiet.now.said ∙ here_said t

    ended_seen : {result : Result (Unit {0}) E} → HasEnded told count version ns journal after s new result → (t : told) (opened : Opening) (opens : Opens (dirs_of old) Start opened) → opened.book.saved ≡ None
        → SeenTruly (answers_of (asked_at at) old.count opens.version.ctime opened) (take (length seen) seen) old new
    ended_seen ended t opened opens none =
        let come = (serving.said t opened opens none).0 in
        subst (λ l. SeenTruly (answers_of (asked_at at) old.count opens.version.ctime opened) l old new) (sym (all_of seen))
        (more_is_said (asked_at at) opens.version.ctime opened seen [] old s new come.said come.seen
        (throughout_told (λ (u : Unit {0}). t) (throughout_weaker ended.went.quiet.each (λ t m is. (0, is.said ∙ sym (append-nil s.now.said))))))

    -- who is live in the end has not failed since it is of the run
    live_same : {result : Result (Unit {0}) E} → HasEnded told count version ns journal after s new result → (i : ℕ) → has after.live i ≡ true → (i < old.count) × (faults_at new i ≡ base_since old seen i)
    live_same {result} ended i e =
        let was = none_narrows (has journal.live) (has after.live) s new (step_counts journal after s new ended.went.counted) i e in
        let below : i < old.count = subst (λ (c : ℕ). i < c) (sym serving.listed) (serving.ready.below i was.0) in
        (below, (ended_sees result ended).same i below e)

    -- what it leaves, as long as the directories are so
    leaves_last : {result : Result (Unit {0}) E} → HasEnded told count version ns journal after s new result → IsLawful new → (t : told) (begins : BeginsSoundly old)
        → LeavesLast (asked_at at) begins.sound.opened seen old new
    leaves_last {result} ended lawful t begins =
        let stands = ended.stands t (ids t begins) (serving.stands t begins) in
        let count_is : new.count ≡ old.count = ended.went.quiet.each.count ∙ serving.ready.listed ∙ sym serving.listed in
        let sees = ended_sees result ended in record {
          opens = λ later dirs count law. (
              let there = subst (λ (b : Book). BetweenLines version stands.list old.count (has after.live) (λ i. false) b after.last new.now) (book_is t begins)
              (subst (λ (c : ℕ). BetweenLines version stands.list c (has after.live) (λ i. false) (unsaved ns) after.last new.now) count_is stands.between) in
              ended_opens (asked_at at) begins.sound.opened (has after.live) (λ i. false) seen version stands.list after.last old later law
              (ap (λ (b : Book). b.saved) (sym (book_is t begins))) (between_same new.now later.now dirs there)
              (λ i below room few. live_by_count (has after.live) seen old new sees i below room
              (let same : faults_at later i ≡ faults_at new i = ap (λ (d : ℕ → Dir). (d i).faults) dirs in omega (arith, few, same))));
          ended = λ i first below room few ranged. none_reads (disk_at new i) (new.reads i) first (lawful.reads i)
              (ended.ended t (ids t begins) (serving.stands t begins) i (live_by_count (has after.live) seen old new sees i below room few) first ranged);
        }
      where
        none_file : (f : Option File) (g : Option (List ℕ)) → LeavesFile f g → f ≡ None → g ≡ None
        none_file None None left e = refl
        none_file None (Some bytes) left e = absurd left
        none_file (Some f) g left e = absurd (cc e)

        none_reads : (d : Disk) (c : Reads) (first : ℕ) → Leaves d c → d.file Current (InProgress first) ≡ None → c.file Current (InProgress first) ≡ None
        none_reads d c first left e = none_file (d.file Current (InProgress first)) (c.file Current (InProgress first)) (left.files Current (InProgress first)) e

    pub out_ended : (done : Unit {0}) → HasEnded {E = E} told count version ns journal after s new (Ok done) → (told → IsLawful new) → EndsSo told at old new seen Ended
    out_ended done ended lawful = record {
      text = said_of old s;
      speaks = speaks_whole old new (said_of old s) (run_status Ended) refl (goes_on old s new serving.out (out_whole_unspoken ended.went.quiet, ended.went.quiet.now.out_faults)) (ended_said ended);
      reached = length seen;
      most = omega arith;
      said = λ t opened opens none. ((refl, here_answers t opened opens none), ended_seen ended t opened opens none);
      opening = λ t some opened opens none. ended_opening ended t opened opens none;
      started = λ t some begins. ended_started ended t begins;
      some = subst (SomeLeft old.count) (sym (all_of seen)) serving.left;
      kept = ended_kept ended;
      ended = λ t is begins. leaves_last ended (lawful t) t begins;
      refused = never_refused old new (said_of old s) Ended (λ r e. cc e) serving.unrefused;
      cause = subst (λ l. CausedBy old new l Ended) (sym (all_of seen)) (let some = ended.some in let same = live_same ended some.0 some.1 in (some.0, same.0, same.1));
      once = counted_once (has after.live) seen old new Ended (ended_rise (Ok done) ended) (ended_sees (Ok done) ended).few;
      tried = subst (TriedTruly old.count (λ i. faults_at old i)) (sym (all_of seen)) serving.tried;
      fit = λ t begins. subst (NoneUnfit old.count) (sym (all_of seen)) (serving.fit t begins);
      above = λ i. subst (λ l. faults_at old i ≤ base_since old l i) (sym (all_of seen)) (serving.sees.based i).0;
      live = (let sees = ended_sees (Ok done) ended in (subst (SeeLive old.count (λ i. faults_at old i)) (sym (all_of seen)) sees.sees, subst (λ l. SeenWithin l old new) (sym (all_of seen)) sees.within));
    }

    pub out_none_left : (e : E) → HasEnded {E = E} told count version ns journal after s new (Err e) → EndsSo told at old new seen NoneLeft
    out_none_left e ended = record {
      text = said_of old s;
      speaks = speaks_whole old new (said_of old s) (run_status NoneLeft) refl (goes_on old s new serving.out (out_whole_unspoken ended.went.quiet, ended.went.quiet.now.out_faults)) (ended_said ended);
      reached = length seen;
      most = omega arith;
      said = λ t opened opens none. (here_answers t opened opens none ∙ ap (answers_of (asked_at at) old.count opens.version.ctime opened) (sym (all_of seen)), ended_seen ended t opened opens none);
      opening = λ t some opened opens none. ended_opening ended t opened opens none;
      started = λ t some begins. ended_started ended t begins;
      some = subst (SomeLeft old.count) (sym (all_of seen)) serving.left;
      kept = ended_kept ended;
      ended = λ t is begins. absurd (cc is);
      refused = never_refused old new (said_of old s) NoneLeft (λ r e. cc e) serving.unrefused;
      cause = subst (λ l. CausedBy old new l NoneLeft) (sym (all_of seen)) (none_live after seen old new (ended_sees (Err e) ended).gone (λ j. (ended.failed j).0));
      once = counted_once (has after.live) seen old new NoneLeft (ended_rise (Err e) ended) (ended_sees (Err e) ended).few;
      tried = subst (TriedTruly old.count (λ i. faults_at old i)) (sym (all_of seen)) serving.tried;
      fit = λ t begins. subst (NoneUnfit old.count) (sym (all_of seen)) (serving.fit t begins);
      above = λ i. subst (λ l. faults_at old i ≤ base_since old l i) (sym (all_of seen)) (serving.sees.based i).0;
      live = (let sees = ended_sees (Err e) ended in (subst (SeeLive old.count (λ i. faults_at old i)) (sym (all_of seen)) sees.sees, subst (λ l. SeenWithin l old new) (sym (all_of seen)) sees.within));
    }
