-- What is known of a run's end, with how far its script was read.
use Rattle.std.proofs.Common.{◌≡◌, inl, inr, Result, Err, ◌⊎◌, ℕ, ◌-◌, ◌<◌, ◌≤◌, ◌^◌, List, [], ◌∷◌, ◌++◌, length, take, refl, sym, ◌∙◌, ap, subst, arith}
use Rattle.std.proofs.lemmas.List.{length-append, map-append}
use Rattle.nn_base.specs.Limits.{most_script}
use Rattle.nn_base.specs.Paths.{Bytes}
use Rattle.nn_base.specs.declared.ids.DirNo.{DirNo}
use Rattle.std.specs.Fmt.{decimal}
use Rattle.nn_host.specs.Moments.{State, faults_at}
use Rattle.nn_host.specs.Calls.{most_said, Spoke}
use Rattle.nn_marks.proofs.SeenLemmas.{length-decimal_id}
use Rattle.nn_marks.specs.declared.version.Version.{Version}
use Rattle.nn_tree.specs.Namespace.{Namespace}
use Rattle.nn_journal.specs.declared.journal.JournalSet.{JournalSet}
use Rattle.nn_pick.specs.declared.intent.Intent.TheVariants.{Start}
use Rattle.nn_pick.specs.Opening.{Opening, Opens}
use Rattle.nn_reader.specs.Script.{AtEnd, OnTheWay, ScriptRead}
use Rattle.nn_reader.proofs.ScriptLemmas.{on_the_way, unread}
use Rattle.nn_run.specs.Running.{Asked}
use Rattle.nn_run.specs.Window.{base_since}
use Rattle.nn_run.specs.Course.{dirs_of, started_line}
use Rattle.nn_server.specs.Came.{CameTo}
use Rattle.nn_serve.specs.declared.ending.RunEnd.{RunEnd}
use Rattle.nn_serve.specs.declared.ending.RunEnd.TheVariants.{Ended, Refused, HostFault, NoneLeft, SourceFault, ScriptTooLong, Memory, OutFault}
use Rattle.nn_serve.specs.Ended.{run_status, run_reached}
use Rattle.nn_serve.specs.Ran.{lines_of_all, CausedBy, RunRan}
use Rattle.nn_serve.specs.Serving.{HasBegun, IsServing, EndsSo}
use Rattle.nn_serve.specs.Turns.{SaysStarted}
use Rattle.nn_serve.proofs.OpeningLemmas.{out_begun, out_unsaid}

-- ---- nothing else ends it early

module _ {told_host told_source : Type 0} (at : ℕ) (script left : Bytes) (before after : ℕ) (old new : State) (seen : List Asked) (host : told_host) (source : told_source)
    (opened : Opening) (opens : Opens (dirs_of old) Start opened) (short : length script ≤ most_script) (source_room : before < 2 ^ 64 - 1) (source_same : after ≡ before) (out_room : old.now.out_faults < 2 ^ 64 - 1) (out_same : new.now.out_faults ≡ old.now.out_faults)
    (i : ℕ) (below : i < old.count) (room : faults_at old i < 2 ^ 64 - 1) (same : faults_at new i ≡ faults_at old i) where
  not_past : (lines : List Asked) → ((j : ℕ) → faults_at old j ≤ base_since old lines j) → CausedBy old new lines NoneLeft → ⊥
  not_past lines above past = elim (past i below) [
    | inl rose ↦ omega (arith, rose, same, above i)
    | inr last ↦ omega (arith, last, same, room)
  ]

  completes : (end : RunEnd) → EndsSo told_host at old new seen end → ScriptRead told_source script left before after (run_reached end) (lines_of_all seen) → (end ≡ Ended) ⊎ ((end ≡ Memory) ⊎ ((j : DirNo) × (end ≡ HostFault j)))
  completes Ended so read = inl refl
  completes (Refused refusal) so read = absurd (opens.unrefused refusal ((so.refused host refusal).0 refl).0.applies)
  completes (HostFault j) so read = inr (inr (j, refl))
  completes NoneLeft so read = absurd (not_past (take so.reached seen) so.above so.cause)
  completes SourceFault so read = absurd (omega (arith, source_room, source_same, read.counted))
  completes ScriptTooLong so read =
      let of = read.of_script source in
      absurd (omega (arith, short, read.fits, ap length of.split, length-append read.taken left))
  completes Memory so read = inr (inl refl)
  completes OutFault so read = absurd (omega (arith, out_room, out_same, so.speaks.counted))

pub came_to : {told_host told_source : Type 0} (at : ℕ) (script left : Bytes) (before after : ℕ) (old new : State) (seen : List Asked) (end : RunEnd) → EndsSo told_host at old new seen end
    → ScriptRead told_source script left before after (run_reached end) (lines_of_all seen) → CameTo told_host old new run_status (λ lines trace. RunRan told_host told_source at script left before after old new lines) end
came_to at script left before after old new seen end so read = record {
  lines = so.text;
  speaks = so.speaks;
  ran = record {
    seen = seen;
    read = read;
    reached = so.reached;
    most = so.most;
    said = so.said;
    opening = so.opening;
    started = so.started;
    some = so.some;
    kept = so.kept;
    ended = so.ended;
    refused = so.refused;
    cause = so.cause;
    once = so.once;
    live = so.live;
    tried = so.tried;
    fit = so.fit;
    complete = λ host source opened opens short source_room source_same out_room out_same i below room same.
        completes at script left before after old new seen host source opened opens short source_room source_same out_room out_same i below room same end so read;
  };
}

-- before anything of the script was read
pub came_early : {told_host told_source : Type 0} (at : ℕ) (script : Bytes) (count : ℕ) (old new : State) (end : RunEnd) → run_reached end ≡ OnTheWay → EndsSo told_host at old new [] end
    → CameTo told_host old new run_status (λ lines trace. RunRan told_host told_source at script script count count old new lines) end
came_early {told_source = told_source} at script count old new end early so = came_to at script script count count old new [] end so (subst (λ r. ScriptRead told_source script script count count r []) (sym early) (unread script count))

-- by an end that is told another way
pub came_as : {told_host told_source : Type 0} {at : ℕ} {script left : Bytes} {before after : ℕ} {old new : State} {result end : RunEnd} → result ≡ end
    → CameTo told_host old new run_status (λ lines trace. RunRan told_host told_source at script left before after old new lines) end → CameTo told_host old new run_status (λ lines trace. RunRan told_host told_source at script left before after old new lines) result
came_as {told_host} {told_source} {at} {script} {left} {before} {after} {old} {new} is came =
    subst (λ (e : RunEnd). CameTo told_host old new run_status (λ lines trace. RunRan told_host told_source at script left before after old new lines) e) (sym is) came

-- ---- its last segment

pub came_closed : {told_host told_source : Type 0} (at : ℕ) (script left : Bytes) (before after : ℕ) (old new : State) (seen : List Asked) (end : RunEnd) → (end ≡ Ended) ⊎ (end ≡ NoneLeft) → EndsSo told_host at old new seen end
    → ScriptRead told_source script left before after AtEnd (lines_of_all seen) → CameTo told_host old new run_status (λ lines trace. RunRan told_host told_source at script left before after old new lines) end
came_closed {told_host} {told_source} at script left before after old new seen end (inl is) so read =
    came_as is (came_to at script left before after old new seen Ended (subst (EndsSo told_host at old new seen) is so) read)
came_closed {told_host} {told_source} at script left before after old new seen end (inr is) so read =
    came_as is (came_to at script left before after old new seen NoneLeft (subst (EndsSo told_host at old new seen) is so) (on_the_way read))

-- the lines with one more
pub lines_more : (seen : List Asked) (next : Asked) (line : Bytes) → next.line ≡ line → lines_of_all (seen ++ next ∷ []) ≡ lines_of_all seen ++ line ∷ []
lines_more seen next line is = map-append (λ (asked : Asked). asked.line) seen (next ∷ []) ∙ ap (λ (l : Bytes). lines_of_all seen ++ l ∷ []) is

-- ---- what was to be said first

pub started_short : (last : ℕ) → last < 2 ^ 63 → length (started_line last) ≤ most_said
started_short last room = omega (arith, length-append (decimal last) (10 ∷ []), length-decimal_id last room)

pub spoke_as : {T E told : Type 0} {bytes line : Bytes} {s new : State} {result : Result T E} → bytes ≡ line → Spoke told bytes s new result → Spoke told line s new result
spoke_as {told = told} {s = s} {new} {result} same spoke = subst (λ (b : Bytes). Spoke told b s new result) same spoke

-- it wasn't said that the run has started
pub came_unsaid : {told_host told_source : Type 0} (at : ℕ) (script : Bytes) (faults count : ℕ) (version : Version) (ns : Namespace) (journal : JournalSet) (last : ℕ) (old s : State) → HasBegun told_host at count version ns journal last old s → (new : State) (end : RunEnd) → SaysStarted told_host last s new (Err end)
    → CameTo told_host old new run_status (λ lines trace. RunRan told_host told_source at script script faults faults old new lines) end
came_unsaid at script faults count version ns journal last old s begun new end (inl failed) =
    came_as failed.0 (came_early at script faults old new OutFault refl (out_unsaid at count version ns journal last old s begun (started_line last) refl new failed.1.0 failed.1.1))
came_unsaid {told_host} at script faults count version ns journal last old s begun new end (inr none) =
    came_as none.0 (came_early at script faults old new Memory refl (subst (λ z. EndsSo told_host at old z [] Memory) (sym none.1) (out_begun at count version ns journal last old s begun)))

-- at the same time
pub serving_as : {told : Type 0} {at count : ℕ} {version : Version} {ns : Namespace} {time other : ℕ} {journal : JournalSet} {seen : List Asked} {old s : State} → time ≡ other → IsServing told at count version ns time journal seen old s → IsServing told at count version ns other journal seen old s
serving_as {told} {at} {count} {version} {ns} {journal = journal} {seen} {old} {s} same is = subst (λ t. IsServing told at count version ns t journal seen old s) same is
