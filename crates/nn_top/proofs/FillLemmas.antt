-- The record of a run over generated files, from its command's end to the return: the last line keeps what was kept.
use Rattle.std.proofs.Common.{◌≡◌, ◌≢◌, inl, inr, ℕ, ◌≤◌, ◌<◌, Bool, [], ◌++◌, take, length, sym, ◌∙◌, ap, subst, length-append, refl, arith}
use Rattle.std.proofs.lemmas.List.{append-nil}
use Rattle.nn_base.specs.Paths.{Bytes}
use Rattle.nn_host.specs.Moments.{Moment, State, IsLawful, faults_at}
use Rattle.nn_host.specs.Runs.{Throughout, Undisturbed}
use Rattle.nn_host.proofs.RunsLemmas.{throughout_told, throughout_trans, throughout_weaker}
use Rattle.nn_pick.specs.Opening.{Opening}
use Rattle.nn_say.specs.Saying.{SaysFronts}
use Rattle.nn_run.specs.Window.{text_of}
use Rattle.nn_run.specs.Course.{opening_of, started_line, RunKept}
use Rattle.nn_begin.specs.Begun.{IsStarted}
use Rattle.nn_whole.specs.Closed.{IsEarlyLine}
use Rattle.nn_fill.specs.Filled.{generated}
use Rattle.nn_fill.specs.Tally.{tally_of, commands_by, tallied_course}
use Rattle.nn_fill.specs.Tallying.{HasTold}
use Rattle.nn_fill.proofs.TallyEndLemmas.{tally_is_closed, early_tally_is_kept, tally_leaves}
use Rattle.nn_server.specs.declared.status.Status.{Status}
use Rattle.nn_server.specs.declared.status.Status.TheVariants as outcome
use Rattle.nn_server.specs.Came.{Speaks}
use Rattle.nn_serve.specs.declared.ending.RunEnd.{RunEnd}
use Rattle.nn_serve.specs.declared.ending.RunEnd.TheVariants.{Ended, Refused, HostFault, NoneLeft, SourceFault, ScriptTooLong, Memory, OutFault}
use Rattle.nn_serve.specs.Ended.{run_status}
use Rattle.nn_serve.specs.Ran.{AsItStarts, NoneFailed, asked_at}
use Rattle.nn_serve.specs.Filled.{FilledSays, RunFilled, CameFilled}
use Rattle.nn_serve.proofs.SinceLemmas.{opening_on}
use Rattle.nn_top.specs.Lines.{last_line}
use Rattle.nn_top.specs.Closes.{Closes, Closing}
use Rattle.nn_top.specs.Runs.{FillDid}
use Rattle.nn_top.proofs.ClosesLemmas.{closes_after}
use Rattle.nn_top.proofs.EndingLemmas.{says_stopped, says_none_left, says_memory, says_early, silent_same, caused_on, once_on, out_before, leaves_on, stopped_so}

module _ (at files ctime : ℕ) (opened : Opening) (a b c : State) where
  abbrev tally : Bytes
  tally = tally_of (commands_by (asked_at at) a.count opened (generated files))

  -- ---- what was kept

  abbrev IsKept : (ℕ → Bool) → State → Type 0
  IsKept ahead s = RunKept (Unit {0}) (tallied_course (asked_at at) a.count ctime opened (generated files) ahead) a s

  -- a run without an upgrade says one line first
  opening_text : text_of (opening_of (asked_at at) ctime opened) ≡ started_line opened.last
  opening_text = append-nil (started_line opened.last)

  told_start : (text : Bytes) → b.now.said ≡ a.now.said ++ text → text ≡ started_line opened.last → HasTold (asked_at at) ctime opened (generated files) a b
  told_start text said is = inl (said ∙ ap (λ (t : Bytes). a.now.said ++ t) (is ∙ sym opening_text))

  told_tally : (text : Bytes) → b.now.said ≡ a.now.said ++ text → text ≡ started_line opened.last ++ tally → HasTold (asked_at at) ctime opened (generated files) a b
  told_tally text said is = inr (said ∙ ap (λ (t : Bytes). a.now.said ++ t) (is ∙ ap (λ (t : Bytes). t ++ tally) (sym opening_text)))

  -- a run that never started
  early_kept : (ahead : ℕ → Bool) (text : Bytes) (last : Status) → b.now.said ≡ a.now.said ++ text → text ≡ [] → IsEarlyLine (last_line last) → SaysFronts (Unit {0}) b c (last_line last) → IsKept ahead b → IsKept ahead c
  early_kept ahead text last said none early fronts kept =
      early_tally_is_kept (asked_at at) ctime opened ahead (generated files) (last_line last) a b c (said ∙ (ap (λ (t : Bytes). a.now.said ++ t) none ∙ append-nil a.now.said)) early kept fronts

  pub fill_kept : {told : Type 0} {result : Status} (ahead : ℕ → Bool) (text : Bytes) (end : RunEnd) → told → b.now.said ≡ a.now.said ++ text → FilledSays (started_line opened.last) tally end text → Closing told b c (run_status end) result → IsKept ahead b → IsKept ahead c
  fill_kept ahead text Ended tells said says closing kept =
      tally_is_closed (asked_at at) ctime opened ahead (generated files) (last_line closing.last) a b c (told_tally text said says) (says_stopped closing.is_last) kept (throughout_told (λ u. tells) closing.fronts)
  fill_kept ahead text (Refused refusal) tells said says closing kept =
      early_kept ahead text closing.last said says (says_early (outcome.Refused refusal) (inl (refusal, refl)) closing.is_last) (throughout_told (λ u. tells) closing.fronts) kept
  fill_kept ahead text (HostFault i) tells said says closing kept =
      early_kept ahead text closing.last said says (says_early (outcome.HostFault i) (inr (inl (i.0, refl))) closing.is_last) (throughout_told (λ u. tells) closing.fronts) kept
  fill_kept ahead text NoneLeft tells said says closing kept =
      tally_is_closed (asked_at at) ctime opened ahead (generated files) (last_line closing.last) a b c (told_start text said says) (says_none_left closing.is_last) kept (throughout_told (λ u. tells) closing.fronts)
  fill_kept ahead text SourceFault tells said says closing kept = absurd says
  fill_kept ahead text ScriptTooLong tells said says closing kept = absurd says
  fill_kept ahead text Memory tells said (inl none) closing kept = early_kept ahead text closing.last said none (inr (inr (says_memory closing.is_last))) (throughout_told (λ u. tells) closing.fronts) kept
  fill_kept ahead text Memory tells said (inr is) closing kept =
      tally_is_closed (asked_at at) ctime opened ahead (generated files) (last_line closing.last) a b c (told_start text said is) (says_memory closing.is_last) kept (throughout_told (λ u. tells) closing.fronts)
  fill_kept ahead text OutFault tells said says closing kept = subst (λ (s : State). IsKept ahead s) (sym (silent_same closing)) kept

  -- ---- while it was said that the run has started

  start_more : (Q : Moment → Type 0) (text last : Bytes) → b.now.said ≡ a.now.said ++ text → length (started_line opened.last) ≤ length text → SaysFronts (Unit {0}) b c last → Throughout (Unit {0}) a b (AsItStarts opened.last a Q) → Throughout (Unit {0}) a c (AsItStarts opened.last a Q)
  start_more Q text last said long fronts first = opening_on Q opened.last a b c text said long first (throughout_weaker fronts (λ u m is. (take is.1 last, is.2)))

  pub start_after : (Q : Moment → Type 0) {told : Type 0} {result : Status} (text : Bytes) (end : RunEnd) → told → b.now.said ≡ a.now.said ++ text → FilledSays (started_line opened.last) tally end text → Closing told b c (run_status end) result → text ≢ []
      → Throughout (Unit {0}) a b (AsItStarts opened.last a Q) → Throughout (Unit {0}) a c (AsItStarts opened.last a Q)
  start_after Q text Ended tells said says closing some first =
      start_more Q text (last_line closing.last) said (omega (arith, ap length says, length-append (started_line opened.last) tally)) (throughout_told (λ u. tells) closing.fronts) first
  start_after Q text (Refused refusal) tells said says closing some first = absurd (some says)
  start_after Q text (HostFault i) tells said says closing some first = absurd (some says)
  start_after Q text NoneLeft tells said says closing some first = start_more Q text (last_line closing.last) said (omega (arith, ap length says)) (throughout_told (λ u. tells) closing.fronts) first
  start_after Q text SourceFault tells said says closing some first = absurd says
  start_after Q text ScriptTooLong tells said says closing some first = absurd says
  start_after Q text Memory tells said (inl none) closing some first = absurd (some none)
  start_after Q text Memory tells said (inr is) closing some first = start_more Q text (last_line closing.last) said (omega (arith, ap length is)) (throughout_told (λ u. tells) closing.fronts) first
  start_after Q text OutFault tells said says closing some first = subst (λ (s : State). Throughout (Unit {0}) a s (AsItStarts opened.last a Q)) (sym (silent_same closing)) first

-- ---- the record

module _ {told : Type 0} {at files : ℕ} {a b c : State} {text : Bytes} {result : Status} (end : RunEnd) (speaks : Speaks told a b text (run_status end)) (ran : RunFilled told at files a b text end) (closing : Closing told b c (run_status end) result) where
  abbrev same_faults : (j : ℕ) → faults_at c j ≡ faults_at b j
  same_faults = closing.dirs.faults

  -- closing changes no disk
  undisturbed_on : told → {m : Moment} → Undisturbed b m → Undisturbed c m
  undisturbed_on tells same = record { disks = λ j. same.disks j ∙ sym ((closing.dirs.kept.ends tells).disks j) }

  pub fill_on : RunFilled told at files a c text end
  fill_on = record {
    said = ran.said;
    opening = λ tells some opened opens unsaved.
        start_after at files opens.version.ctime opened a b c (NoneFailed a) text end tells (speaks.said tells) (ran.said tells opened opens unsaved) closing some (ran.opening tells some opened opens unsaved);
    started = λ tells some begins.
        let opened = begins.sound.opened in
        let opens = begins.sound.opens in
        let all = ran.started tells some begins in record {
          version = all.version;
          list = all.list;
          stands = all.stands;
          each = start_after at files opens.version.ctime opened a b c (λ m. (i : ℕ) → i < a.count → IsStarted all.version all.list opened.last (m.dirs i).disk) text end tells (speaks.said tells) (ran.said tells opened opens begins.unsaved) closing some all.each;
        };
    closed = λ tells opened opens unsaved.
        throughout_trans (throughout_weaker (ran.closed tells opened opens unsaved) (λ u m is long. undisturbed_on tells (is long)))
        (throughout_weaker (throughout_told (λ (u : Unit {0}). tells) closing.dirs.kept) (λ u m same long. undisturbed_on tells same));
    kept = λ tells begins ahead.
        let opened = begins.sound.opened in
        let opens = begins.sound.opens in
        fill_kept at files opens.version.ctime opened a b c ahead text end tells (speaks.said tells) (ran.said tells opened opens begins.unsaved) closing (ran.kept tells begins ahead);
    ended = λ tells is begins. leaves_on at a b c begins (generated files) (closing.fronts.ends tells).0 closing.fronts.count (λ i. closing.dirs.reads tells i) (ran.ended tells is begins);
    refused = λ tells refusal.
        let refused = ran.refused tells refusal in
        (λ is. let by = refused.0 is in (by.0, λ i. closing.dirs.reads tells i ∙ by.1 i), refused.1);
    unread = ran.unread;
    cause = caused_on a b c [] end same_faults ran.cause;
    once = once_on a b c [] end same_faults ran.once;
    complete = λ tells opened opens unsaid quiet i below counted kept. ran.complete tells opened opens unsaid (out_before (run_status end) speaks closing quiet) i below counted (sym (same_faults i) ∙ kept);
  }

-- a run over generated files was closed
pub fill_did : {told : Type 0} {at files : ℕ} {a b c : State} (end : RunEnd) (result : Status) → (told → IsLawful a) → (told → IsLawful c) → CameFilled told at files a b end → Closing told b c (run_status end) result → FillDid told at files a c result
fill_did {told} {at} {files} {a} {b} {c} end result lawful lawful_after came closing = record {
  ended = record { end = end; lines = came.lines; trace = b.trace; ran = whole; closes = closes };
  stops = λ tells begins ahead. tally_leaves (asked_at at) begins.sound.opens.version.ctime begins.sound.opened (generated files) ahead a c (lawful tells) (whole.kept tells begins ahead);
  stopped = λ tells is begins. (whole.ended tells (stopped_so end closes is) begins).opens c refl refl (lawful_after tells);
}
  where
    whole : RunFilled told at files a c came.lines end
    whole = fill_on end came.speaks came.ran closing

    closes : Closes told b.trace a c came.lines (run_status end) result
    closes = closes_after (run_status end) result came.speaks closing
