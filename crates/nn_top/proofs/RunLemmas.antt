-- The record of a run over directories, from its command's end to the return: the last line keeps what was kept.
use Rattle.std.proofs.Common.{◌≡◌, ◌≢◌, inl, inr, ℕ, ◌≤◌, ◌<◌, Bool, List, [], ◌∷◌, ◌++◌, take, drop, length, refl, sym, ◌∙◌, ap, subst, append_assoc, arith}
use Rattle.std.specs.List.{Contains}
use Rattle.std.proofs.lemmas.List.{append-nil, take-append-drop, take_all}
use Rattle.std.proofs.lemmas.List.Elements.{All-weaker}
use Rattle.nn_base.specs.Paths.{Bytes}
use Rattle.nn_host.specs.Moments.{Moment, State, IsLawful, faults_at}
use Rattle.nn_host.specs.Runs.{Throughout}
use Rattle.nn_host.proofs.RunsLemmas.{throughout_told, throughout_trans, throughout_weaker}
use Rattle.nn_pick.specs.Opening.{Opening}
use Rattle.nn_say.specs.Saying.{SaysFronts}
use Rattle.nn_run.specs.Running.{Asked}
use Rattle.nn_run.specs.Course.{RunAsked, answers_of, course_of, RunKept}
use Rattle.nn_begin.specs.Begun.{IsStarted}
use Rattle.nn_whole.specs.Closed.{closing_lines, IsEarlyLine}
use Rattle.nn_whole.specs.Counted.{SeenWithin}
use Rattle.nn_whole.specs.Served.{SeenTruly}
use Rattle.nn_whole.proofs.ClosedLemmas.{closed_is_kept, early_is_kept}
use Rattle.nn_whole.proofs.LeavingLemmas.{more_is_said}
use Rattle.nn_whole.proofs.StoppedLemmas.{run_kept_leaves}
use Rattle.nn_server.specs.declared.status.Status.{Status}
use Rattle.nn_server.specs.declared.status.Status.TheVariants as outcome
use Rattle.nn_server.specs.Came.{Speaks, CameTo}
use Rattle.nn_serve.specs.declared.ending.RunEnd.{RunEnd}
use Rattle.nn_serve.specs.declared.ending.RunEnd.TheVariants.{Ended, Refused, HostFault, NoneLeft, SourceFault, ScriptTooLong, Memory, OutFault}
use Rattle.nn_serve.specs.Ended.{run_status}
use Rattle.nn_serve.specs.Ran.{AsItStarts, NoneFailed, RunSays, RunRan, asked_at}
use Rattle.nn_serve.proofs.SinceLemmas.{first_long, opening_on}
use Rattle.nn_top.specs.Lines.{last_line}
use Rattle.nn_top.specs.Closes.{Closes, Closing}
use Rattle.nn_top.specs.Runs.{RunDid}
use Rattle.nn_top.proofs.ClosesLemmas.{closes_after}
use Rattle.nn_top.proofs.EndingLemmas.{says_stopped, says_none_left, says_source_fault, says_too_long, says_memory, says_early, silent_same, caused_on, once_on, out_before, leaves_on, stopped_so}

-- ---- what was kept

-- the lines that were answered, and the others
split_seen : (reached : ℕ) (seen rest : List Asked) → take reached seen ++ (drop reached seen ++ rest) ≡ seen ++ rest
split_seen reached seen rest = sym (append_assoc (take reached seen) (drop reached seen) rest) ∙ ap (λ lines. lines ++ rest) (take-append-drop reached seen)

module _ (asked : RunAsked) (ctime : ℕ) (opened : Opening) (seen : List Asked) (reached : ℕ) (a b c : State) where
  abbrev answers : List Asked → Bytes
  answers lines = answers_of asked a.count ctime opened lines

  -- with the answers to all lines that were read
  whole_kept : (ahead : ℕ → Bool) (rest : List Asked) (text : Bytes) (last : Status) → b.now.said ≡ a.now.said ++ text → text ≡ answers seen → Contains closing_lines (last_line last) → SaysFronts (Unit {0}) b c (last_line last)
      → RunKept (Unit {0}) (course_of asked a.count ctime opened (seen ++ rest) ahead) a b → RunKept (Unit {0}) (course_of asked a.count ctime opened (seen ++ rest) ahead) a c
  whole_kept ahead rest text last said is closing fronts kept =
      closed_is_kept asked ctime opened ahead seen rest (last_line last) a b c (said ∙ ap (λ (t : Bytes). a.now.said ++ t) is) closing kept fronts

  -- with those to some
  some_kept : (ahead : ℕ → Bool) (rest : List Asked) (text : Bytes) (last : Status) → b.now.said ≡ a.now.said ++ text → text ≡ answers (take reached seen) → Contains closing_lines (last_line last) → SaysFronts (Unit {0}) b c (last_line last)
      → RunKept (Unit {0}) (course_of asked a.count ctime opened (seen ++ rest) ahead) a b → RunKept (Unit {0}) (course_of asked a.count ctime opened (seen ++ rest) ahead) a c
  some_kept ahead rest text last said is closing fronts kept =
      let split = split_seen reached seen rest in
      subst (λ (lines : List Asked). RunKept (Unit {0}) (course_of asked a.count ctime opened lines ahead) a c) split
      (closed_is_kept asked ctime opened ahead (take reached seen) (drop reached seen ++ rest) (last_line last) a b c (said ∙ ap (λ (t : Bytes). a.now.said ++ t) is) closing
      (subst (λ (lines : List Asked). RunKept (Unit {0}) (course_of asked a.count ctime opened lines ahead) a b) (sym split) kept) fronts)

  -- with none
  none_kept : (ahead : ℕ → Bool) (rest : List Asked) (text : Bytes) (last : Status) → b.now.said ≡ a.now.said ++ text → text ≡ [] → IsEarlyLine (last_line last) → SaysFronts (Unit {0}) b c (last_line last)
      → RunKept (Unit {0}) (course_of asked a.count ctime opened (seen ++ rest) ahead) a b → RunKept (Unit {0}) (course_of asked a.count ctime opened (seen ++ rest) ahead) a c
  none_kept ahead rest text last said none early fronts kept =
      early_is_kept asked ctime opened ahead (seen ++ rest) (last_line last) a b c (said ∙ (ap (λ (t : Bytes). a.now.said ++ t) none ∙ append-nil a.now.said)) early kept fronts

  pub kept_on : {told : Type 0} {result : Status} (ahead : ℕ → Bool) (rest : List Asked) (text : Bytes) (end : RunEnd) → told → b.now.said ≡ a.now.said ++ text → RunSays answers seen reached end text → Closing told b c (run_status end) result
      → RunKept (Unit {0}) (course_of asked a.count ctime opened (seen ++ rest) ahead) a b → RunKept (Unit {0}) (course_of asked a.count ctime opened (seen ++ rest) ahead) a c
  kept_on ahead rest text Ended tells said says closing kept = whole_kept ahead rest text closing.last said says.1 (says_stopped closing.is_last) (throughout_told (λ u. tells) closing.fronts) kept
  kept_on ahead rest text (Refused refusal) tells said says closing kept =
      none_kept ahead rest text closing.last said says.0 (says_early (outcome.Refused refusal) (inl (refusal, refl)) closing.is_last) (throughout_told (λ u. tells) closing.fronts) kept
  kept_on ahead rest text (HostFault i) tells said says closing kept =
      none_kept ahead rest text closing.last said says.0 (says_early (outcome.HostFault i) (inr (inl (i.0, refl))) closing.is_last) (throughout_told (λ u. tells) closing.fronts) kept
  kept_on ahead rest text NoneLeft tells said says closing kept = some_kept ahead rest text closing.last said says (says_none_left closing.is_last) (throughout_told (λ u. tells) closing.fronts) kept
  kept_on ahead rest text SourceFault tells said says closing kept = whole_kept ahead rest text closing.last said says.1 (says_source_fault closing.is_last) (throughout_told (λ u. tells) closing.fronts) kept
  kept_on ahead rest text ScriptTooLong tells said says closing kept = whole_kept ahead rest text closing.last said says.1 (says_too_long closing.is_last) (throughout_told (λ u. tells) closing.fronts) kept
  kept_on ahead rest text Memory tells said (inl none) closing kept =
      none_kept ahead rest text closing.last said none.0 (inr (inr (says_memory closing.is_last))) (throughout_told (λ u. tells) closing.fronts) kept
  kept_on ahead rest text Memory tells said (inr is) closing kept = some_kept ahead rest text closing.last said is (says_memory closing.is_last) (throughout_told (λ u. tells) closing.fronts) kept
  kept_on ahead rest text OutFault tells said says closing kept =
      subst (λ (s : State). RunKept (Unit {0}) (course_of asked a.count ctime opened (seen ++ rest) ahead) a s) (sym (silent_same closing)) kept

  -- ---- what was seen

  all_reached : reached ≡ length seen → take reached seen ≡ seen
  all_reached all = take_all reached seen (omega (arith, all))

  none_reached : seen ≡ [] → take reached seen ≡ []
  none_reached none = take_all reached seen (omega (arith, ap length none)) ∙ none

  fronts_said : (last : Status) → SaysFronts (Unit {0}) b c (last_line last) → Throughout (Unit {0}) b c (λ m. (n : ℕ) × (m.said ≡ b.now.said ++ take n (last_line last)))
  fronts_said last fronts = throughout_weaker fronts (λ u m is. (is.1, is.2))

  seen_more : (text : Bytes) (last : Status) → b.now.said ≡ a.now.said ++ text → text ≡ answers (take reached seen) → SaysFronts (Unit {0}) b c (last_line last) → SeenTruly answers (take reached seen) a b → SeenTruly answers (take reached seen) a c
  seen_more text last said is fronts truly =
      more_is_said asked ctime opened (take reached seen) (last_line last) a b c (said ∙ ap (λ (t : Bytes). a.now.said ++ t) is) truly (fronts_said last fronts)

  no_line : (before later : List Asked) (next : Asked) → [] ≡ before ++ next ∷ later → ⊥
  no_line [] later next is = cc
  no_line (first ∷ before) later next is = cc

  seen_none : (last : Status) → seen ≡ [] → SaysFronts (Unit {0}) b c (last_line last) → SeenTruly answers (take reached seen) a b → SeenTruly answers (take reached seen) a c
  seen_none last none fronts truly = record {
    live = truly.live;
    at = throughout_trans truly.at (throughout_weaker fronts (λ u m is. λ before next later split. absurd (no_line before later next (sym (none_reached none) ∙ split))));
  }

  pub seen_on : {told : Type 0} {result : Status} (text : Bytes) (end : RunEnd) → told → b.now.said ≡ a.now.said ++ text → RunSays answers seen reached end text → Closing told b c (run_status end) result
      → SeenTruly answers (take reached seen) a b → SeenTruly answers (take reached seen) a c
  seen_on text Ended tells said says closing truly = seen_more text closing.last said (says.1 ∙ ap answers (sym (all_reached says.0))) (throughout_told (λ u. tells) closing.fronts) truly
  seen_on text (Refused refusal) tells said says closing truly = seen_none closing.last says.1 (throughout_told (λ u. tells) closing.fronts) truly
  seen_on text (HostFault i) tells said says closing truly = seen_none closing.last says.1 (throughout_told (λ u. tells) closing.fronts) truly
  seen_on text NoneLeft tells said says closing truly = seen_more text closing.last said says (throughout_told (λ u. tells) closing.fronts) truly
  seen_on text SourceFault tells said says closing truly = seen_more text closing.last said (says.1 ∙ ap answers (sym (all_reached says.0))) (throughout_told (λ u. tells) closing.fronts) truly
  seen_on text ScriptTooLong tells said says closing truly = seen_more text closing.last said (says.1 ∙ ap answers (sym (all_reached says.0))) (throughout_told (λ u. tells) closing.fronts) truly
  seen_on text Memory tells said (inl none) closing truly = seen_none closing.last none.1 (throughout_told (λ u. tells) closing.fronts) truly
  seen_on text Memory tells said (inr is) closing truly = seen_more text closing.last said is (throughout_told (λ u. tells) closing.fronts) truly
  seen_on text OutFault tells said says closing truly = subst (λ (s : State). SeenTruly answers (take reached seen) a s) (sym (silent_same closing)) truly

-- ---- while it was said that the run has started

opening_more : (Q : Moment → Type 0) (at ctime : ℕ) (opened : Opening) (done : List Asked) (a b c : State) (text last : Bytes) → b.now.said ≡ a.now.said ++ text → text ≡ answers_of (asked_at at) a.count ctime opened done → SaysFronts (Unit {0}) b c last
    → Throughout (Unit {0}) a b (AsItStarts opened.last a Q) → Throughout (Unit {0}) a c (AsItStarts opened.last a Q)
opening_more Q at ctime opened done a b c text last said is fronts first =
    opening_on Q opened.last a b c text said (omega (arith, ap length is, first_long at a.count ctime opened done)) first (throughout_weaker fronts (λ u m is. (take is.1 last, is.2)))

opening_after : (Q : Moment → Type 0) {told : Type 0} {result : Status} (at ctime : ℕ) (opened : Opening) (seen : List Asked) (reached : ℕ) (a b c : State) (text : Bytes) (end : RunEnd) → told → b.now.said ≡ a.now.said ++ text
    → RunSays (answers_of (asked_at at) a.count ctime opened) seen reached end text → Closing told b c (run_status end) result → text ≢ []
    → Throughout (Unit {0}) a b (AsItStarts opened.last a Q) → Throughout (Unit {0}) a c (AsItStarts opened.last a Q)
opening_after Q at ctime opened seen reached a b c text Ended tells said says closing some first = opening_more Q at ctime opened seen a b c text (last_line closing.last) said says.1 (throughout_told (λ u. tells) closing.fronts) first
opening_after Q at ctime opened seen reached a b c text (Refused refusal) tells said says closing some first = absurd (some says.0)
opening_after Q at ctime opened seen reached a b c text (HostFault i) tells said says closing some first = absurd (some says.0)
opening_after Q at ctime opened seen reached a b c text NoneLeft tells said says closing some first = opening_more Q at ctime opened (take reached seen) a b c text (last_line closing.last) said says (throughout_told (λ u. tells) closing.fronts) first
opening_after Q at ctime opened seen reached a b c text SourceFault tells said says closing some first = opening_more Q at ctime opened seen a b c text (last_line closing.last) said says.1 (throughout_told (λ u. tells) closing.fronts) first
opening_after Q at ctime opened seen reached a b c text ScriptTooLong tells said says closing some first = opening_more Q at ctime opened seen a b c text (last_line closing.last) said says.1 (throughout_told (λ u. tells) closing.fronts) first
opening_after Q at ctime opened seen reached a b c text Memory tells said (inl none) closing some first = absurd (some none.0)
opening_after Q at ctime opened seen reached a b c text Memory tells said (inr is) closing some first = opening_more Q at ctime opened (take reached seen) a b c text (last_line closing.last) said is (throughout_told (λ u. tells) closing.fronts) first
opening_after Q at ctime opened seen reached a b c text OutFault tells said says closing some first = subst (λ (s : State). Throughout (Unit {0}) a s (AsItStarts opened.last a Q)) (sym (silent_same closing)) first

-- ---- the record

within_on : (a b c : State) (seen : List Asked) → ((j : ℕ) → faults_at c j ≡ faults_at b j) → SeenWithin seen a b → SeenWithin seen a c
within_on a b c seen same within =
    All-weaker (λ (asked : Asked). (i : ℕ) → (faults_at a i ≤ asked.sight.faults i) × (asked.sight.faults i ≤ faults_at b i)) (λ (asked : Asked). (i : ℕ) → (faults_at a i ≤ asked.sight.faults i) × (asked.sight.faults i ≤ faults_at c i))
    (λ asked is i. ((is i).0, subst (λ (n : ℕ). asked.sight.faults i ≤ n) (sym (same i)) (is i).1)) seen within

module _ {told told_source : Type 0} {at : ℕ} {script left : Bytes} {before after : ℕ} {a b c : State} {text : Bytes} {result : Status} (end : RunEnd)
    (speaks : Speaks told a b text (run_status end)) (ran : RunRan told told_source at script left before after a b text end) (closing : Closing told b c (run_status end) result) where
  abbrev same_faults : (j : ℕ) → faults_at c j ≡ faults_at b j
  same_faults = closing.dirs.faults

  pub run_on : RunRan told told_source at script left before after a c text end
  run_on = record {
    seen = ran.seen;
    read = ran.read;
    reached = ran.reached;
    most = ran.most;
    said = λ tells opened opens unsaved.
        let says = ran.said tells opened opens unsaved in
        (says.0, seen_on (asked_at at) opens.version.ctime opened ran.seen ran.reached a b c text end tells (speaks.said tells) says.0 closing says.1);
    opening = λ tells some opened opens unsaved.
        let says = ran.said tells opened opens unsaved in
        opening_after (NoneFailed a) at opens.version.ctime opened ran.seen ran.reached a b c text end tells (speaks.said tells) says.0 closing some (ran.opening tells some opened opens unsaved);
    started = λ tells some begins.
        let opened = begins.sound.opened in
        let opens = begins.sound.opens in
        let says = ran.said tells opened opens begins.unsaved in
        let all = ran.started tells some begins in record {
          version = all.version;
          list = all.list;
          stands = all.stands;
          each = opening_after (λ m. (i : ℕ) → i < a.count → IsStarted all.version all.list opened.last (m.dirs i).disk) at opens.version.ctime opened ran.seen ran.reached a b c text end tells (speaks.said tells) says.0 closing some all.each;
        };
    some = ran.some;
    kept = λ tells begins ahead rest.
        let says = ran.said tells begins.sound.opened begins.sound.opens begins.unsaved in
        kept_on (asked_at at) begins.sound.opens.version.ctime begins.sound.opened ran.seen ran.reached a b c ahead rest text end tells (speaks.said tells) says.0 closing (ran.kept tells begins ahead rest);
    ended = λ tells is begins. leaves_on at a b c begins ran.seen (closing.fronts.ends tells).0 closing.fronts.count (λ i. closing.dirs.reads tells i) (ran.ended tells is begins);
    refused = λ tells refusal.
        let refused = ran.refused tells refusal in
        (λ is. let by = refused.0 is in (by.0, λ i. closing.dirs.reads tells i ∙ by.1 i), refused.1);
    cause = caused_on a b c (take ran.reached ran.seen) end same_faults ran.cause;
    once = once_on a b c ran.seen end same_faults ran.once;
    tried = ran.tried;
    fit = ran.fit;
    live = (ran.live.0, within_on a b c (take ran.reached ran.seen) same_faults ran.live.1);
    complete = λ tells tells' opened opens short early unread fresh unsaid i below counted kept.
        ran.complete tells tells' opened opens short early unread fresh (out_before (run_status end) speaks closing unsaid) i below counted (sym (same_faults i) ∙ kept);
  }

-- a run over directories was closed
pub run_did : {told told_source : Type 0} {at : ℕ} {script left : Bytes} {before after : ℕ} {a b c : State} (end : RunEnd) (result : Status) → (told → IsLawful a) → (told → IsLawful c)
    → CameTo told a b run_status (λ lines trace. RunRan told told_source at script left before after a b lines) end → Closing told b c (run_status end) result → RunDid told told_source at script left before after a c result
run_did {told} {told_source} {at} {script} {left} {before} {after} {a} {b} {c} end result lawful lawful_after came closing = record {
  ended = record { end = end; lines = came.lines; trace = b.trace; ran = whole; closes = closes };
  stops = λ tells begins ahead rest.
      run_kept_leaves (asked_at at) begins.sound.opens.version.ctime begins.sound.opened (whole.seen ++ rest) ahead a c (lawful tells) (whole.kept tells begins ahead rest);
  stopped = λ tells is begins. (whole.ended tells (stopped_so end closes is) begins).opens c refl refl (lawful_after tells);
}
  where
    whole : RunRan told told_source at script left before after a c came.lines end
    whole = run_on end came.speaks came.ran closing

    closes : Closes told b.trace a c came.lines (run_status end) result
    closes = closes_after (run_status end) result came.speaks closing
