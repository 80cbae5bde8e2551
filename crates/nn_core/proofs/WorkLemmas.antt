-- A change that was done without a word: what its answer makes of it, and what it is without one.
use Rattle.std.proofs.Common.{◌≡◌, inr, ℕ, false, Option, Some, None, Result, Ok, Err, refl, sym, ap, subst, arith}
use Rattle.nn_base.specs.DirSets.{has}
use Rattle.nn_host.specs.Moments.{State}
use Rattle.nn_host.specs.declared.host.Failed.{Failed}
use Rattle.nn_host.specs.Runs.{Unspoken}
use Rattle.nn_host.proofs.RunsLemmas.{throughout_told, throughout_weaker, unspoken_refl}
use Rattle.nn_marks.specs.declared.version.Version.{Version}
use Rattle.nn_tree.specs.Namespace.{Namespace}
use Rattle.nn_segment_file.specs.Log.{Shared}
use Rattle.nn_journal.specs.declared.journal.JournalSet.{JournalSet}
use Rattle.nn_journal.specs.Places.{Went}
use Rattle.nn_pick.specs.Opening.{Book}
use Rattle.nn_ops.specs.declared.command.Command.{Command}
use Rattle.nn_ops.specs.declared.refusal.OpRefusal.{OpRefusal}
use Rattle.nn_ops.specs.Bodies.{op_of}
use Rattle.nn_ops.specs.Effects.{effect}
use Rattle.nn_ops.specs.Step.{refusal_of}
use Rattle.nn_script.specs.declared.answer.Answer.TheVariants.{Done, Refused}
use Rattle.nn_script.specs.declared.command.ScriptCommand.TheVariants.{Namespace as Change}
use Rattle.nn_script.specs.Spelling.{answer_text}
use Rattle.nn_say.specs.Saying.{Says}
use Rattle.nn_say.proofs.SayingLemmas.{some_answer}
use Rattle.nn_run.specs.Running.{Asked, RunReply, restored_dir, reply_at}
use Rattle.nn_run.specs.Steps.{BetweenLines}
use Rattle.nn_run.specs.Flights.{LeadsTo}
use Rattle.nn_run.proofs.SyncLemmas.{syncing_is_kept}
use Rattle.nn_core.specs.declared.event.End.{End}
use Rattle.nn_core.specs.declared.event.End.TheVariants.{NoneLeft, Memory, OutFault}
use Rattle.nn_core.specs.Ready.{IsReady}
use Rattle.nn_core.specs.Standing.{unsaved, Stands, Goes, HasIds}
use Rattle.nn_core.specs.Events.{running, unless_failed, HasStepped}
use Rattle.nn_core.specs.Performed.{HasPerformed, KeepsQuietly, IsTaken, IsLost, Works}
use Rattle.nn_core.proofs.CallsLemmas.{refused_short}
use Rattle.nn_core.proofs.EndLemmas.{comes_stand}
use Rattle.nn_core.proofs.LineLemmas.{has_answer, reply_is, unasked_back, stepped_to, change_taken, change_refused, refused_idle}
use Rattle.nn_core.proofs.PlainLemmas.{plain_step, memory_step, still_kept}
use Rattle.nn_core.proofs.SpokenLemmas.{no_fronts, all_failed, counted_none, left_none}
use Rattle.nn_core.proofs.StepLemmas.{synced_step, none_left_step, way_of}

module _ {told : Type 0} (change : Command) (count : ℕ) (version : Version) (ns ns_after : Namespace) (time : ℕ) (journal after : JournalSet) (a b : State) where
  -- ---- with its answer

  module _ (c : State) (said : Result (Unit {0}) Failed) where
    pub taken_step : IsTaken told change count version ns ns_after time journal after a b → IsReady journal count a → Says told b c (answer_text Done) said
        → HasStepped told (Ok (Some (Change change))) count version ns ns_after time time journal after a c (unless_failed said)
    taken_step is ready says =
        synced_step (Ok (Some (Change change))) version journal after count ns ns_after time a b c (answer_text Done) said
        (λ e. cc e) (λ i below e. cc e) (λ sight. change_taken ns change time ns_after is.unrefused is.does count sight) ready.listed is.comes is.went is.ready
        (record { writes = inr (change, refl, is.unrefused); adds = λ takes same small. is.logs.adds same small; last = is.logs.last; begins = λ roll. absurd (cc roll) })
        (λ tells same small it. is.logs.calls tells same small) (λ tells ids stands saves. absurd (cc saves)) is.some (omega arith, omega arith) says

    pub refused_step : (refusal : OpRefusal) → refusal_of ns change ≡ Some refusal → IsReady journal count a → Says told a c (answer_text (Refused refusal)) said
        → HasStepped told (Ok (Some (Change change))) count version ns ns time time journal journal a c (unless_failed said)
    refused_step refusal by ready says =
        plain_step (Ok (Some (Change change))) version journal count ns time time a c (answer_text (Refused refusal)) said
        (λ e. cc e) (λ i below e. cc e) (λ sight live. change_refused ns change time refusal by count sight) ready says (λ it. (some_answer (Refused refusal), refused_short refusal)) (refused_idle ns change refusal by)

  pub lost_step : IsLost told change version ns time journal after a b → IsReady journal count a → HasStepped told (Ok (Some (Change change))) count version ns ns time time journal after a b (Err NoneLeft)
  lost_step is ready =
      none_left_step (Ok (Some (Change change))) version journal after count ns (effect (op_of ns change time) ns) time a b (answer_text Done)
      (λ e. cc e) (λ i below e. cc e) (λ sight. change_taken ns change time (effect (op_of ns change time) ns) is.unrefused refl count sight) ready.listed is.goes is.went
      (record { writes = inr (change, refl, is.unrefused); adds = λ takes same small. is.logs.adds same small; last = is.logs.last; begins = λ roll. absurd (cc roll) })
      (λ tells same small it. is.logs.calls tells same small) is.none

  -- ---- without one

  quietly : (ns_then : Namespace) → (told → HasIds journal → Stands version journal ns a → (list : Shared) × Goes version list journal after ns ns_then a b) → Went told journal.live after.live a b → refusal_of ns change ≡ None → ns_then ≡ effect (op_of ns change time) ns
      → a.count ≡ count → KeepsQuietly told change version journal count ns time a b
  quietly ns_then goes went unrefused does listed tells ids stands line sight reads =
      let reading = Ok (Some (Change change)) in
      let asked : Asked = record { line = line; sight = sight } in
      let is : reply_at count (running ns time) asked ≡ record { text = answer_text Done; after = running ns_then time } = reply_is reading (λ e. cc e) line reads count (running ns time) sight _ (change_taken ns change time ns_then unrefused does count sight) in
      let it = goes tells ids stands in
      let quiet : Unspoken (Unit {0}) a b = record { now = went.quiet.now; each = throughout_told (λ u. tells) went.quiet.each } in
      (syncing_is_kept version it.0 count (has journal.live) (has after.live) (running ns time) asked journal.last after.last a b b
      (subst (λ k. BetweenLines version it.0 k (has journal.live) (λ i. false) (unsaved ns) journal.last a.now) listed it.1.before) (has_answer reading (λ e. cc e) line reads)
      (subst (λ (book : Book). LeadsTo it.0 (unsaved ns) book journal.last after.last) (sym (ap (λ (r : RunReply). r.after.book) is)) it.1.leads) it.1.flown quiet
      (throughout_told (λ u. tells) (throughout_weaker went.left (λ t m left. left.grown))) (unasked_back count (has after.live) asked (ap restored_dir reads))
      (throughout_told (λ u. tells) (no_fronts b (reply_at count (running ns time) asked).text))).0

  taken_performed : IsTaken told change count version ns ns_after time journal after a b → IsReady journal count a → HasPerformed told change count version ns ns_after time journal after a b (Ok None)
  taken_performed is ready = record {
    replied = λ sight. change_taken ns change time ns_after is.unrefused is.does count sight;
    quiet = is.went.quiet;
    kept = quietly ns_after (way_of version journal after ns ns_after a b is.comes) is.went is.unrefused is.does ready.listed;
    stands = λ tells ids stands. comes_stand version journal after ns ns_after a b is.went.quiet.each.count (is.comes tells ids stands);
    ready = is.ready;
    last = is.logs.last;
    counted = is.went.counted;
    left = is.went.left;
    some = λ live. is.some;
    ended = tt;
  }

  lost_performed : IsLost told change version ns time journal after a b → IsReady journal count a → HasPerformed told change count version ns ns time journal after a b (Err NoneLeft)
  lost_performed is ready = record {
    replied = tt;
    quiet = is.went.quiet;
    kept = quietly (effect (op_of ns change time) ns) is.goes is.went is.unrefused refl ready.listed;
    stands = tt;
    ready = tt;
    last = is.logs.last;
    counted = is.went.counted;
    left = is.went.left;
    some = tt;
    ended = all_failed journal after a b is.went.counted is.none;
  }

module _ {told : Type 0} (change : Command) (count : ℕ) (version : Version) (ns : Namespace) (time : ℕ) (journal : JournalSet) (a : State) where
  refused_performed : (refusal : OpRefusal) → refusal_of ns change ≡ Some refusal → IsReady journal count a → HasPerformed told change count version ns ns time journal journal a a (Ok (Some refusal))
  refused_performed refusal by ready = record {
    replied = λ sight. change_refused ns change time refusal by count sight;
    quiet = unspoken_refl;
    kept = λ tells ids stands line sight reads. still_kept (Ok (Some (Change change))) version journal count ns time a (λ e. cc e) ready.listed tells stands line sight reads;
    stands = λ tells ids stands. stands;
    ready = ready;
    last = omega arith;
    counted = counted_none journal.live a;
    left = left_none journal.live a;
    some = λ live. live;
    ended = tt;
  }

  undone_performed : IsReady journal count a → HasPerformed told change count version ns ns time journal journal a a (Err Memory)
  undone_performed ready = record {
    replied = tt;
    quiet = unspoken_refl;
    kept = λ tells ids stands line sight reads. still_kept (Ok (Some (Change change))) version journal count ns time a (λ e. cc e) ready.listed tells stands line sight reads;
    stands = tt;
    ready = tt;
    last = omega arith;
    counted = counted_none journal.live a;
    left = left_none journal.live a;
    some = tt;
    ended = (refl, refl);
  }

-- ---- however it went

pub performed : {told : Type 0} (change : Command) (count : ℕ) (version : Version) (ns ns_after : Namespace) (time : ℕ) (journal after : JournalSet) (a b : State) (result : Result (Option OpRefusal) End) → IsReady journal count a
    → Works told change count version ns ns_after time journal after a b result → HasPerformed told change count version ns ns_after time journal after a b result
performed change count version ns ns_after time journal after a b (Ok None) ready works = taken_performed change count version ns ns_after time journal after a b works ready
performed {told} change count version ns ns_after time journal after a b (Ok (Some refusal)) ready works =
    subst (λ (n : Namespace). HasPerformed told change count version ns n time journal after a b (Ok (Some refusal))) (sym works.namespace)
    (subst (λ (j : JournalSet). HasPerformed told change count version ns ns time journal j a b (Ok (Some refusal))) (sym works.journals)
    (subst (λ (s : State). HasPerformed told change count version ns ns time journal journal a s (Ok (Some refusal))) (sym works.states) (refused_performed change count version ns time journal a refusal works.by ready)))
performed {told} change count version ns ns_after time journal after a b (Err NoneLeft) ready works =
    subst (λ (n : Namespace). HasPerformed told change count version ns n time journal after a b (Err NoneLeft)) (sym works.0) (lost_performed change count version ns ns time journal after a b works.1 ready)
performed {told} change count version ns ns_after time journal after a b (Err Memory) ready works =
    subst (λ (n : Namespace). HasPerformed told change count version ns n time journal after a b (Err Memory)) (sym works.namespace)
    (subst (λ (j : JournalSet). HasPerformed told change count version ns ns time journal j a b (Err Memory)) (sym works.journals)
    (subst (λ (s : State). HasPerformed told change count version ns ns time journal journal a s (Err Memory)) (sym works.states) (undone_performed change count version ns time journal a ready)))
performed change count version ns ns_after time journal after a b (Err OutFault) ready works = absurd works

-- it ended the run
pub ended_step : {told : Type 0} (change : Command) (count : ℕ) (version : Version) (ns ns_after : Namespace) (time : ℕ) (journal after : JournalSet) (a b : State) (end : End) → IsReady journal count a
    → Works told change count version ns ns_after time journal after a b (Err end) → HasStepped told (Ok (Some (Change change))) count version ns ns_after time time journal after a b (Err end)
ended_step change count version ns ns_after time journal after a b NoneLeft ready works = stepped_to works.0 (lost_step change count version ns ns time journal after a b works.1 ready)
ended_step {told} change count version ns ns_after time journal after a b Memory ready works =
    stepped_to works.namespace
    (subst (λ (j : JournalSet). HasStepped told (Ok (Some (Change change))) count version ns ns time time journal j a b (Err Memory)) (sym works.journals)
    (subst (λ (s : State). HasStepped told (Ok (Some (Change change))) count version ns ns time time journal journal a s (Err Memory)) (sym works.states)
    (memory_step (Ok (Some (Change change))) version journal count ns time a (λ e. cc e) (λ i below e. cc e) (change, refl) ready)))
ended_step change count version ns ns_after time journal after a b OutFault ready works = absurd works

-- it is answered: that it was taken, or why it was refused
module _ {told : Type 0} (change : Command) (count : ℕ) (version : Version) (ns ns_after : Namespace) (time time_after : ℕ) (same : time_after ≡ time) (journal after : JournalSet) (a b c : State) (said : Result (Unit {0}) Failed) (ready : IsReady journal count a) where
  at_time : {ns_then : Namespace} {log : JournalSet} {old new : State} {r : Result (Unit {0}) End} → HasStepped told (Ok (Some (Change change))) count version ns ns_then time time journal log old new r → HasStepped told (Ok (Some (Change change))) count version ns ns_then time time_after journal log old new r
  at_time {ns_then} {log} {old} {new} {r} is = subst (λ (t : ℕ). HasStepped told (Ok (Some (Change change))) count version ns ns_then time t journal log old new r) (sym same) is

  pub done_step : (outcome : Option OpRefusal) → outcome ≡ None → Works told change count version ns ns_after time journal after a b (Ok outcome) → Says told b c (answer_text Done) said
      → HasStepped told (Ok (Some (Change change))) count version ns ns_after time time_after journal after a c (unless_failed said)
  done_step outcome none works says =
      at_time (taken_step change count version ns ns_after time journal after a b c said (subst (λ (o : Option OpRefusal). Works told change count version ns ns_after time journal after a b (Ok o)) none works) ready says)

  pub turned_down_step : (outcome : Option OpRefusal) (refusal : OpRefusal) → outcome ≡ Some refusal → Works told change count version ns ns_after time journal after a b (Ok outcome) → Says told b c (answer_text (Refused refusal)) said
      → HasStepped told (Ok (Some (Change change))) count version ns ns_after time time_after journal after a c (unless_failed said)
  turned_down_step outcome refusal some works says =
      let is = subst (λ (o : Option OpRefusal). Works told change count version ns ns_after time journal after a b (Ok o)) some works in
      at_time (stepped_to is.namespace
      (subst (λ (j : JournalSet). HasStepped told (Ok (Some (Change change))) count version ns ns time time journal j a c (unless_failed said)) (sym is.journals)
      (refused_step change count version ns ns time journal journal a a c said refusal is.by ready (subst (λ (s : State). Says told s c (answer_text (Refused refusal)) said) is.states says))))

  pub cut_step : (end : End) → Works told change count version ns ns_after time journal after a b (Err end) → HasStepped told (Ok (Some (Change change))) count version ns ns_after time time_after journal after a b (Err end)
  cut_step end works = at_time (ended_step change count version ns ns_after time journal after a b end ready works)
