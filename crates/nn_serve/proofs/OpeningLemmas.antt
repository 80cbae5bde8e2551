-- How a run begins: it comes to nothing, or says that it has started.
use Rattle.std.proofs.Common.{◌≡◌, ◌≢◌, inl, inr, ℕ, ◌<◌, ◌≤◌, Bool, true, false, ◌||◌, List, [], ◌∷◌, ◌++◌, length, take, drop, map, Ok, Err, Result, refl, sym, ◌∙◌, ap, subst, arith, All}
use Rattle.std.specs.Prelude.{is_none}
use Rattle.std.proofs.lemmas.List.{append-nil, length-append, take-append-drop, length-drop}
use Rattle.std.proofs.lemmas.List.Elements.{All-nil}
use Rattle.nn_base.specs.DirSets.{has}
use Rattle.nn_base.specs.Paths.{Bytes}
use Rattle.nn_host.specs.Moments.{Dir, Moment, State, faults_at}
use Rattle.nn_host.specs.Calls.{Spoke, next_count}
use Rattle.nn_host.specs.Runs.{Throughout, Unspoken}
use Rattle.nn_host.proofs.RunsLemmas.{out_whole_trans, out_whole_unspoken, out_spoke, silent_spoke, silent_after, spoke_front, said_front, unspoken_refl, throughout_refl, throughout_both, throughout_told, throughout_weaker, throughout_trans}
use Rattle.nn_host.proofs.WorkLemmas.{throughout_said}
use Rattle.nn_marks.specs.declared.version.Version.{Version}
use Rattle.nn_tree.specs.Namespace.{Namespace}
use Rattle.nn_segment_file.specs.Stages.{StandsAt, IsAlone}
use Rattle.nn_journal.specs.declared.journal.JournalSet.{JournalSet}
use Rattle.nn_pick.specs.declared.intent.Intent.TheVariants.{Start}
use Rattle.nn_pick.specs.declared.fault.OpenFault.{OpenFault}
use Rattle.nn_pick.specs.declared.fault.OpenFault.TheVariants as fault
use Rattle.nn_pick.specs.declared.refusal.Refusal.{Refusal}
use Rattle.nn_pick.specs.Refusing.{Refuses}
use Rattle.nn_pick.specs.Opening.{Book, Opening}
use Rattle.nn_pick.proofs.LawLemmas.{one_refuses}
use Rattle.nn_choose.specs.Picking.{IsRefusedTruly}
use Rattle.nn_start.specs.Entry.{ReadsWhereRefused}
use Rattle.nn_begin.specs.Begun.{IsCountedIn, IsStarted}
use Rattle.nn_begin.specs.Started.{StartsKept}
use Rattle.nn_run.specs.Running.{Asked, SeeLive}
use Rattle.nn_run.specs.Window.{text_of}
use Rattle.nn_run.specs.Course.{dirs_of, opening_of, started_line, answers_of}
use Rattle.nn_run.specs.Flights.{OnlySays}
use Rattle.nn_run.specs.Loop.{KeptSoFar}
use Rattle.nn_run.specs.Steps.{BetweenLines}
use Rattle.nn_run.proofs.SyncLemmas.{between_same}
use Rattle.nn_whole.specs.Counted.{SeenWithin}
use Rattle.nn_whole.specs.Served.{SeenTruly}
use Rattle.nn_whole.proofs.CountedLemmas.{first_is_seen}
use Rattle.nn_whole.proofs.OpenedLemmas.{start_is_of_run, opening_is_said}
use Rattle.nn_whole.proofs.ServedLemmas.{first_is_said}
use Rattle.nn_ckpt.specs.Checkpointed.{HasLastImage}
use Rattle.nn_core.specs.Standing.{unsaved, Stands}
use Rattle.nn_server.specs.Came.{is_out_fault}
use Rattle.nn_serve.specs.declared.ending.RunEnd.{RunEnd}
use Rattle.nn_serve.specs.declared.ending.RunEnd.TheVariants.{Ended, Refused, HostFault, Memory, OutFault}
use Rattle.nn_serve.specs.Ended.{run_status, unstarted}
use Rattle.nn_serve.specs.Ran.{asked_at, RunSays, BeginsSoundly, CausedBy, EndsUnopened, AsItStarts, NoneFailed, StartsAll, IsLeftAt, FailOnce}
use Rattle.nn_serve.specs.Serving.{HasBegun, IsServing, EndsSo}
use Rattle.nn_serve.proofs.TriedLemmas.{none_tried, none_unfit}
use Rattle.nn_serve.proofs.SinceLemmas.{said_of, since_is, since_all, speaks_whole, never_refused}
use Rattle.nn_serve.proofs.StartLemmas.{quiet_too, start_kept}

-- ---- it ends before it has said that it started

none_before : {A : Type 0} (before : List A) (y : A) (later : List A) → [] ≡ before ++ y ∷ later → ⊥
none_before before y later e = absurd (omega (arith, ap length e, length-append before (y ∷ later)))

-- no line was answered, so none was seen
none_live : (old : State) → SeeLive old.count (λ i. faults_at old i) []
none_live old before asked later e = absurd (none_before before asked later e)

none_within : (old new : State) → SeenWithin [] old new
none_within old new = All-nil (λ (asked : Asked). (i : ℕ) → (faults_at old i ≤ asked.sight.faults i) × (asked.sight.faults i ≤ faults_at new i))

none_left : (count : ℕ) → All (IsLeftAt count) []
none_left count = All-nil (IsLeftAt count)

any_moment : {told : Type 0} {a b : State} {Q : Moment → Type 0} → Throughout told a b Q → Throughout told a b (λ m. Unit {0})
any_moment through = throughout_weaker through (λ t m is. tt)

none_seen : {Q : Moment → Type 0} (answers : List Asked → Bytes) (old new : State) → Throughout (Unit {0}) old new Q → SeenTruly answers [] old new
none_seen answers old new through = record { live = none_live old; at = throughout_weaker through (λ t m is before asked later e low high i. absurd (none_before before asked later e)) }

abbrev no_bytes : Bytes
no_bytes = []

-- nothing was said, and it ended by an end of which this is so
unstarted_so : {told : Type 0} (at : ℕ) (old s : State) (end : RunEnd) → is_out_fault (run_status end) ≡ false → end ≢ Ended → Unspoken told old s
    → (told → (begins : BeginsSoundly old) (ahead : ℕ → Bool) (rest : List Bytes) → KeptSoFar (asked_at at) begins.sound.opens.version.ctime begins.sound.opened ahead [] rest old s)
    → ((answers : List Asked → Bytes) → RunSays answers [] 0 end [])
    → (told → (refusal : Refusal) → (end ≡ Refused refusal → Refuses (dirs_of old) Start refusal × ((i : ℕ) → s.reads i ≡ old.reads i)) × (Refuses (dirs_of old) Start refusal → EndsUnopened refusal end × (no_bytes ≡ [])))
    → CausedBy old s [] end → FailOnce old s [] end → EndsSo told at old s [] end
unstarted_so at old s end whole goes quiet kept says refused cause once = record {
  text = [];
  speaks = speaks_whole old s [] (run_status end) whole (out_whole_unspoken quiet, quiet.now.out_faults) (λ t. quiet.now.said ∙ sym (append-nil old.now.said));
  reached = 0;
  most = omega arith;
  said = λ t opened opens none. (says (answers_of (asked_at at) old.count opens.version.ctime opened), none_seen (answers_of (asked_at at) old.count opens.version.ctime opened) old s (quiet_too old s quiet t).each);
  opening = λ t some. absurd (some refl);
  started = λ t some. absurd (some refl);
  some = λ there. none_left old.count;
  kept = λ t begins ahead rest. kept t begins ahead (map (λ (a : Asked). a.line) rest) rest refl;
  ended = λ t is begins. absurd (goes is);
  refused = refused;
  cause = cause;
  once = once;
  live = (none_live old, none_within old s);
  tried = none_tried old.count (λ i. faults_at old i);
  fit = λ t begins. none_unfit old.count;
  above = λ i. omega arith;
}

-- there was no memory before anything was done
pub out_unbegun : {told : Type 0} (at : ℕ) (old : State) → EndsSo told at old old [] Memory
out_unbegun at old = unstarted_so at old old Memory refl (λ e. cc e) unspoken_refl
    (λ t begins ahead rest. start_is_of_run (asked_at at) begins.sound.opens.version.ctime begins.sound.opened ahead rest old old (omega arith) unspoken_refl (throughout_refl (λ t. inl (record { at = λ j. inl refl }))))
    (λ answers. inl (refl, refl)) (λ t refusal. ((λ e. cc e), (λ refuses. (inr (inl refl), refl)))) tt (λ never i below. (omega arith, omega arith))

-- nor once it had begun
pub out_begun : {told : Type 0} (at count : ℕ) (version : Version) (ns : Namespace) (journal : JournalSet) (last : ℕ) (old s : State) → HasBegun told at count version ns journal last old s → EndsSo told at old s [] Memory
out_begun at count version ns journal last old s begun = unstarted_so at old s Memory refl (λ e. cc e) begun.quiet begun.kept
    (λ answers. inl (refl, refl)) (λ t refusal. ((λ e. cc e), (λ refuses. absurd (begun.unrefused t refusal refuses)))) tt (λ never i below. (omega (arith, begun.counts.faults i), omega (arith, begun.counts.faults i)))

-- the start came to nothing
pub out_unstarted : {told : Type 0} (at : ℕ) (old s : State) (why : OpenFault) → (told → IsRefusedTruly (dirs_of old) Start why) → (told → ReadsWhereRefused old s why) → StartsKept told old s → Unspoken told old s
    → IsCountedIn {T = Unit {0}} old s (Err why) → EndsSo told at old s [] (unstarted why)
out_unstarted at old s (fault.Refused refusal) truly reads kept quiet counted = unstarted_so at old s (Refused refusal) refl (λ e. cc e) quiet (start_kept at old s kept quiet) (λ answers. (refl, refl))
    (λ t other. (
      (λ e. let same : refusal ≡ other = cc e in (subst (Refuses (dirs_of old) Start) same (truly t), reads t)),
      (λ refuses. (inl (ap Refused (one_refuses (dirs_of old) Start refusal other (truly t) refuses)), refl)),
    )) counted (λ never i below. (omega (arith, counted.faults i), omega (arith, counted.faults i)))
out_unstarted at old s (fault.Failed i) truly reads kept quiet counted = unstarted_so at old s (HostFault i) refl (λ e. cc e) quiet (start_kept at old s kept quiet) (λ answers. (refl, refl))
    (λ t other. ((λ e. cc e), (λ refuses. (inr (inr (i, refl)), refl)))) counted (λ never. absurd (never i refl))
out_unstarted at old s fault.Memory truly reads kept quiet counted = unstarted_so at old s Memory refl (λ e. cc e) quiet (start_kept at old s kept quiet) (λ answers. inl (refl, refl))
    (λ t other. ((λ e. cc e), (λ refuses. (inr (inl refl), refl)))) tt (λ never i below. (omega (arith, counted.faults i), omega (arith, counted.faults i)))

-- ---- it says that it has started

module _ {told : Type 0} (at count : ℕ) (version : Version) (ns : Namespace) (journal : JournalSet) (last : ℕ) (old s : State) (has_begun : HasBegun told at count version ns journal last old s) (bytes : Bytes) (line : bytes ≡ started_line last) (new : State) where
  says_line : {T E : Type 0} {result : Result T E} → Spoke told bytes s new result → Throughout told s new (λ m. (m.dirs ≡ s.now.dirs) × ((n : ℕ) × (m.said ≡ s.now.said ++ take n bytes)))
  says_line spoke = throughout_both (throughout_said spoke) (said_front spoke)

  -- the line is the opening
  opening_is : (opened : Opening) → opened.last ≡ last → (ctime : ℕ) → text_of (opening_of (asked_at at) ctime opened) ≡ bytes
  opening_is opened same ctime = append-nil (started_line opened.last) ∙ ap started_line same ∙ sym line

  says_opening : {T E : Type 0} {result : Result T E} → Spoke told bytes s new result → told → (opened : Opening) → opened.last ≡ last → (ctime : ℕ) → OnlySays (Unit {0}) (text_of (opening_of (asked_at at) ctime opened)) s new
  says_opening spoke t opened same ctime = throughout_told (λ (u : Unit {0}). t) (throughout_weaker (says_line spoke) (λ t m is. (is.0, is.1.0, is.1.1 ∙ ap (λ x. s.now.said ++ take is.1.0 x) (sym (opening_is opened same ctime)))))

  -- the directories stand so as long as they are the same
  stands_on : {T E : Type 0} {result : Result T E} → Spoke told bytes s new result → Stands version journal ns s → Stands version journal ns new
  stands_on spoke stands = record {
    list = stands.list;
    stage = stands.stage;
    matches = stands.matches;
    disks = λ j e. subst (λ (dirs : ℕ → Dir). StandsAt version stands.list stands.stage (dirs j).disk) (sym spoke.dirs) (stands.disks j e);
    alone = λ j e. subst (λ (dirs : ℕ → Dir). IsAlone stands.stage (dirs j).disk) (sym spoke.dirs) (stands.alone j e);
    images = λ j e. subst (λ (dirs : ℕ → Dir). HasLastImage version stands.list journal.last (dirs j).disk) (sym spoke.dirs) (stands.images j e);
    between = subst (λ k. BetweenLines version stands.list k (has journal.live) (λ i. false) (unsaved ns) journal.last new.now) (sym spoke.count) (between_same s.now new.now spoke.dirs stands.between);
  }

  started_kept : {T E : Type 0} {result : Result T E} → Spoke told bytes s new result → told → (begins : BeginsSoundly old) (ahead : ℕ → Bool) (rest : List Bytes) → KeptSoFar (asked_at at) begins.sound.opens.version.ctime begins.sound.opened ahead [] rest old new
  started_kept spoke t begins ahead rest =
      let opened = begins.sound.opened in
      let is = has_begun.opens t opened begins.sound.opens begins.unsaved in
      let stands = has_begun.stands t begins in
      let counted = subst (λ k. BetweenLines version stands.list k (has journal.live) (λ i. false) (unsaved ns) journal.last s.now) (has_begun.ready.listed ∙ sym has_begun.listed) stands.between in
      let between = subst (λ b. BetweenLines version stands.list old.count (has journal.live) (λ i. false) b journal.last s.now) (sym is.0) counted in
      (opening_is_said (asked_at at) begins.sound.opens.version.ctime opened ahead (has journal.live) (λ i. false) version stands.list journal.last rest old s new (omega arith) (has_begun.kept t begins ahead rest) has_begun.quiet.now.said between
      (λ i below. has_begun.all i (subst (λ k. i < k) has_begun.listed below)) (λ i below e. ap (λ w. is_none w || false) begins.unsaved) (says_opening spoke t opened is.1 begins.sound.opens.version.ctime)).0

  same_now : {T E : Type 0} {result : Result T E} → Spoke told bytes s new result → (i : ℕ) → faults_at new i ≡ faults_at old i
  same_now spoke i = ap (λ (dirs : ℕ → Dir). (dirs i).faults) spoke.dirs ∙ has_begun.counts.faults i

  all_live : (i : ℕ) → i < old.count → has journal.live i ≡ true
  all_live i below = has_begun.all i (subst (λ k. i < k) has_begun.listed below)

  -- no count rose by then
  opening_at : {T E : Type 0} {result : Result T E} → Spoke told bytes s new result → told → (opened : Opening) → Throughout (Unit {0}) old new (AsItStarts opened.last old (NoneFailed old))
  opening_at spoke t opened = throughout_trans
      (throughout_weaker (quiet_too old s has_begun.quiet t).each (λ u m out some few i. absurd (omega (arith, some, length-drop (length old.now.said) m.said, ap length out.said))))
      (throughout_weaker (throughout_told (λ (u : Unit {0}). t) (says_line spoke)) (λ u m is some few i. ap (λ (dirs : ℕ → Dir). (dirs i).faults) is.0 ∙ has_begun.counts.faults i))

  -- and each directory stood so
  starting_at : {T E : Type 0} {result : Result T E} → Spoke told bytes s new result → told → (begins : BeginsSoundly old) → StartsAll old new begins.sound.opened.last begins.sound.opened.book.ns
  starting_at spoke t begins =
      let is = has_begun.opens t begins.sound.opened begins.sound.opens begins.unsaved in
      let it = has_begun.started t begins in
      subst (λ n. StartsAll old new n begins.sound.opened.book.ns) (sym is.1) (record {
        version = it.0;
        list = it.1;
        stands = it.2;
        each = throughout_trans
            (throughout_weaker (quiet_too old s has_begun.quiet t).each (λ u m out some few i below. absurd (omega (arith, some, length-drop (length old.now.said) m.said, ap length out.said))))
            (throughout_weaker (throughout_told (λ (u : Unit {0}). t) (says_line spoke)) (λ u m is some few i below. subst (λ (dirs : ℕ → Dir). IsStarted it.0 it.1 last (dirs i).disk) (sym is.0) (it.3 i below)));
      })

  pub said_so : {T E : Type 0} (done : T) → Spoke {T = T} {E = E} told bytes s new (Ok done) → IsServing told at count version ns at journal [] old new
  said_so {T} {E} done spoke = record {
    listed = has_begun.listed;
    ready = record { listed = spoke.count ∙ has_begun.ready.listed; below = has_begun.ready.below; going = has_begun.ready.going; empty = has_begun.ready.empty; fit = has_begun.ready.fit };
    sees = first_is_seen (has journal.live) old new all_live (record { faults = same_now spoke });
    counts = λ i. sym (same_now spoke i);
    tried = none_tried old.count (λ i. faults_at old i);
    fit = λ t begins. none_unfit old.count;
    some = λ there. (0, all_live 0 there);
    left = λ there. none_left old.count;
    opening = λ t opened opens none. opening_at spoke t opened;
    started = starting_at spoke;
    out = (out_whole_trans (out_whole_unspoken has_begun.quiet) (out_spoke spoke), spoke.counted_ok ∙ has_begun.quiet.now.out_faults);
    grew = λ t. (bytes, (spoke.ok t).said ∙ ap (λ x. x ++ bytes) has_begun.quiet.now.said);
    unrefused = has_begun.unrefused;
    said = λ t opened opens none. (
        let is = has_begun.opens t opened opens none in (
          first_is_said (asked_at at) opens.version.ctime opened (has journal.live) old s new all_live has_begun.counts.faults (quiet_too old s has_begun.quiet t) (says_opening spoke t opened is.1 opens.version.ctime)
              ((spoke.ok t).said ∙ ap (λ x. s.now.said ++ x) (sym (opening_is opened is.1 opens.version.ctime))),
          ap (λ (b : Book). record { book = b; now = at }) (sym is.0),
        ));
    kept = started_kept spoke;
    stands = λ t begins. stands_on spoke (has_begun.stands t begins);
  }

  pub out_unsaid : {T E : Type 0} (e : E) → Spoke {T = T} {E = E} told bytes s new (Err e) → EndsSo told at old new [] OutFault
  out_unsaid {T} {E} e spoke =
      let front : told → (n : ℕ) × (new.now.said ≡ old.now.said ++ take n bytes) = (λ t. let it = spoke_front spoke t in (it.0, it.1 ∙ ap (λ x. x ++ take it.0 bytes) has_begun.quiet.now.said)) in record {
        text = said_of old new;
        speaks = record {
          said = λ t. since_all old new (take (front t).0 bytes) (front t).1;
          counted = spoke.counted_err ∙ ap next_count has_begun.quiet.now.out_faults;
          silent = silent_after (out_whole_unspoken has_begun.quiet) (silent_spoke spoke);
          whole = λ e. absurd (cc e);
        };
        reached = 0;
        most = omega arith;
        said = λ t opened opens none. (
            let is = has_begun.opens t opened opens none in
            let all = answers_of (asked_at at) old.count opens.version.ctime opened [] in
            let whole : all ≡ bytes = ap text_of (append-nil (opening_of (asked_at at) opens.version.ctime opened)) ∙ opening_is opened is.1 opens.version.ctime in (
              ((drop (front t).0 bytes, whole ∙ sym (take-append-drop (front t).0 bytes) ∙ ap (λ x. x ++ drop (front t).0 bytes) (sym (since_is old new (take (front t).0 bytes) (front t).1))), inl refl),
              none_seen (answers_of (asked_at at) old.count opens.version.ctime opened) old new
                  (throughout_trans (any_moment (quiet_too old s has_begun.quiet t).each) (any_moment (throughout_told (λ (u : Unit {0}). t) (says_line spoke)))),
            ));
        opening = λ t some opened opens none. opening_at spoke t opened;
        started = λ t some begins. starting_at spoke t begins;
        some = λ there. none_left old.count;
        kept = λ t begins ahead rest. started_kept spoke t begins ahead (map (λ (a : Asked). a.line) rest) rest refl;
        ended = λ t is begins. absurd (cc is);
        refused = never_refused old new (said_of old new) OutFault (λ r e. cc e) has_begun.unrefused;
        cause = tt;
        once = λ never i below. (omega (arith, same_now spoke i), omega (arith, same_now spoke i));
        live = (none_live old, none_within old new);
        tried = none_tried old.count (λ i. faults_at old i);
        fit = λ t begins. none_unfit old.count;
        above = λ i. omega arith;
      }
