-- What a line comes to whose record was synced, or that made the journal roll.
use Rattle.std.proofs.Common.{◌≡◌, ◌≢◌, inl, inr, ⊎_elim, ℕ, ◌+◌, ◌*◌, ◌<◌, ◌≤◌, length, true, false, Option, Some, None, Result, Ok, Err, ◌++◌, refl, sym, ◌∙◌, ap, subst, arith}
use Rattle.nn_base.specs.DirSets.{has, count_of}
use Rattle.nn_base.specs.declared.sub.Sub.TheVariants.{Current}
use Rattle.nn_base.specs.Limits.{most_record}
use Rattle.nn_base.specs.Paths.{Bytes}
use Rattle.nn_host.specs.Moments.{Dir, State, moment, disk_at, faults_at}
use Rattle.nn_host.specs.Calls.{most_said}
use Rattle.nn_host.specs.Runs.{Unspoken}
use Rattle.nn_host.specs.declared.host.Failed.{Failed as CallFailed}
use Rattle.nn_host.proofs.RunsLemmas.{throughout_told, throughout_weaker}
use Rattle.nn_marks.specs.declared.version.Version.{Version}
use Rattle.nn_tree.specs.Namespace.{Namespace}
use Rattle.nn_chain.specs.Folder.{folder_at}
use Rattle.nn_segment_file.specs.Log.{Shared}
use Rattle.nn_journal.specs.declared.journal.JournalSet.{JournalSet}
use Rattle.nn_journal.specs.Among.{EachCounted, StaysLive, IsDropped}
use Rattle.nn_journal.specs.Places.{Went, full_segment}
use Rattle.nn_pick.specs.Opening.{Book}
use Rattle.nn_kept.specs.Laws.{EachLeft}
use Rattle.nn_ckpt.specs.Checkpointed.{IsCheckpointed}
use Rattle.nn_script.specs.declared.command.ScriptCommand.TheVariants.{Roll, Checkpoint, Restore}
use Rattle.nn_script.specs.declared.command.ScriptCommand.{ScriptCommand}
use Rattle.nn_script.specs.declared.syntax.Syntax.{Syntax}
use Rattle.nn_script.specs.Reading.{reading_of}
use Rattle.nn_say.specs.Saying.{SaysFronts, Says}
use Rattle.nn_say.proofs.SayingLemmas.{concat_pieces}
use Rattle.nn_run.specs.Running.{Asked, Sight, RunReply, Failed, restored_dir, back_at, is_back, reply_read, reply_at}
use Rattle.nn_run.specs.Steps.{BetweenLines, IsLiveAfter}
use Rattle.nn_run.specs.Flights.{OnlySays, LeadsTo}
use Rattle.nn_run.proofs.SyncLemmas.{syncing_is_kept}
use Rattle.nn_core.specs.declared.event.End.{End}
use Rattle.nn_core.specs.declared.event.End.TheVariants.{NoneLeft, Memory}
use Rattle.nn_core.specs.Ready.{IsReady}
use Rattle.nn_core.specs.Standing.{unsaved, GoesFrom, Stands, Goes, Comes, HasIds}
use Rattle.nn_core.specs.Written.{IsChange, Takes, Writes, AllCheckpointed, HasWritten}
use Rattle.nn_core.specs.Events.{running, asked_at, Answers, Keeps, StaysStanding, HasLive, HasDropped, Speaks, unless_failed, HasStepped}
use Rattle.nn_core.proofs.StandLemmas.{going_from}
use Rattle.nn_core.proofs.EndLemmas.{comes_stand}
use Rattle.nn_core.proofs.SpokenLemmas.{steps_of, left_but, fronts_of, no_fronts, speaks_by, spoken_as, any_ok, quiet_out, out_by, counts_of, counted_on, all_failed, left_on}
use Rattle.nn_core.proofs.CallsLemmas.{one_call}
use Rattle.nn_core.proofs.LineLemmas.{has_answer, reply_is, none_taken, none_back, TakesNone, sees_none}
use Rattle.nn_core.proofs.PlainLemmas.{stands_same}

-- who is live: those that were, and on which no call failed
live_by : (journal after : JournalSet) (count : ℕ) (asked : Asked) (a b c : State) → asked.sight.restored ≡ Failed → EachCounted journal.live journal.live after.live a b → ((j : ℕ) → faults_at c j ≡ faults_at b j)
    → IsLiveAfter count (has journal.live) (has after.live) asked a c
live_by journal after count asked a b c failed counted same i below room = ⊎_elim
    (λ (stays : StaysLive journal.live after.live a b i). ((λ e. inl (same i ∙ stays.faults, sym stays.same_live ∙ e)), (λ either. ⊎_elim (λ both. stays.same_live ∙ both.1) never either)))
    (λ (dropped : IsDropped journal.live after.live a b i). (
      (λ e. absurd (let apart = sym dropped.not_live ∙ e in cc)),
      (λ either. ⊎_elim (λ both. absurd (omega (arith, room, both.0, same i, dropped.faults))) never either),
    ))
    (counted i)
  where
    never : is_back (back_at count asked) i ≡ true → has after.live i ≡ true
    never e = absurd (let apart = sym (none_taken count asked failed i) ∙ e in cc)

module _ {told : Type 0} (reading : Result (Option ScriptCommand) Syntax) (version : Version) (journal after : JournalSet) (count : ℕ) (ns ns_after : Namespace) (time : ℕ) (a b c : State) (text : Bytes) (some : reading ≢ Ok None) (none : TakesNone count reading)
    (reply : (sight : Sight) → reply_read count (running ns time) sight reading ≡ record { text = text; after = running ns_after time }) (listed : a.count ≡ count)
    (goes : told → HasIds journal → Stands version journal ns a → (list : Shared) × Goes version list journal after ns ns_after a b) (went : Went told journal.live after.live a b) (fronts : SaysFronts told b c text) where
  synced_reply : (line : Bytes) → reading_of line ≡ reading → reply_at count (running ns time) (asked_at line Failed after.live c) ≡ record { text = text; after = running ns_after time }
  synced_reply line reads = reply_is reading some line reads count (running ns time) (asked_at line Failed after.live c).sight _ (reply (asked_at line Failed after.live c).sight)

  quiet : told → Unspoken (Unit {0}) a b
  quiet tells = record { now = went.quiet.now; each = throughout_told (λ u. tells) went.quiet.each }

  synced_kept : Keeps told reading Failed version journal count ns time after.live a c
  synced_kept tells ids stands line reads =
      let is = synced_reply line reads in
      let it = goes tells ids stands in
      (syncing_is_kept version it.0 count (has journal.live) (has after.live) (running ns time) (asked_at line Failed after.live c) journal.last after.last a b c
      (subst (λ k. BetweenLines version it.0 k (has journal.live) (λ i. false) (unsaved ns) journal.last a.now) listed it.1.before) (has_answer reading some line reads)
      (subst (λ (book : Book). LeadsTo it.0 (unsaved ns) book journal.last after.last) (sym (ap (λ (r : RunReply). r.after.book) is)) it.1.leads) it.1.flown (quiet tells)
      (throughout_told (λ u. tells) (throughout_weaker went.left (λ t m left. left.grown))) (none_back count (asked_at line Failed after.live c) refl (has after.live))
      (subst (λ x. OnlySays (Unit {0}) x b c) (sym (ap (λ (r : RunReply). r.text) is)) (throughout_told (λ u. tells) fronts))).0

  synced_answered : (told → c.now.said ≡ b.now.said ++ text) → ((j : ℕ) → faults_at c j ≡ faults_at b j) → Answers told reading Failed count (running ns time) (running ns_after time) journal.live after.live a c
  synced_answered said faults line reads =
      let is = synced_reply line reads in record {
        said = λ tells. said tells ∙ ap (λ x. x ++ text) went.quiet.now.said ∙ ap (λ x. a.now.said ++ x) (sym (ap (λ (r : RunReply). r.text) is));
        goes_on = sym (ap (λ (r : RunReply). r.after) is);
        counted = live_by journal after count (asked_at line Failed after.live c) a b c refl went.counted faults;
        sees_live = λ i. refl;
        sees_faults = λ i. refl;
        sees_restored = sees_none count reading (has after.live) (asked_at line Failed after.live c) none reads;
      }

-- how they went, where they came
pub way_of : {told : Type 0} (version : Version) (journal after : JournalSet) (ns ns_after : Namespace) (a b : State) → (told → HasIds journal → Stands version journal ns a → Comes version journal after ns ns_after a b)
    → told → HasIds journal → Stands version journal ns a → (list : Shared) × Goes version list journal after ns ns_after a b
way_of version journal after ns ns_after a b comes tells ids stands = let it = comes tells ids stands in (it.list, it.goes)

-- ---- what it wrote

-- what a call of the journal, or a checkpoint, wrote for a line
pub record Wrote (reading : Result (Option ScriptCommand) Syntax) (ns : Namespace) (journal after : JournalSet) : Type 0 where
  pub writes : Writes reading ns
  pub adds : Takes reading ns → after.live ≡ journal.live → journal.size + most_record ≤ full_segment → (after.last ≡ journal.last + 1) × (after.first ≡ journal.first)
  pub last : after.last + 2 * count_of after.live ≤ journal.last + 8 + 2 * count_of journal.live
  pub begins : reading ≡ Ok (Some Roll) → after.first ≡ after.last

-- What a checkpoint left, where the line asks for one.
abbrev pub Saved : Type 0 → Result (Option ScriptCommand) Syntax → Version → Namespace → JournalSet → JournalSet → State → State → Type 0
Saved told reading version ns journal after a b = told → HasIds journal → Stands version journal ns a → reading ≡ Ok (Some Checkpoint) → AllCheckpointed version ns journal after b

-- a line that writes so is no `restore`
pub none_restores : (reading : Result (Option ScriptCommand) Syntax) (ns : Namespace) (dir : ℕ) → reading ≡ Ok (Some (Restore dir)) → ¬ Writes reading ns
none_restores reading ns dir is writes = ⊎_elim
    (λ begins. ⊎_elim (λ roll. absurd (let apart = sym is ∙ roll in cc)) (λ saves. absurd (let apart = sym is ∙ saves in cc)) begins)
    (λ takes. absurd (let apart = sym is ∙ takes.1 in cc))
    writes

-- it took so many calls
abbrev pub Costs : Type 0 → Result (Option ScriptCommand) Syntax → JournalSet → JournalSet → State → State → Type 0
Costs told reading journal after a b = told → after.live ≡ journal.live → journal.size + most_record ≤ full_segment → IsChange reading → moment b ≤ moment a + 2 * count_of journal.live

module _ {told : Type 0} (reading : Result (Option ScriptCommand) Syntax) (version : Version) (journal after : JournalSet) (count : ℕ) (ns ns_after : Namespace) (time : ℕ) (a b c : State) (text : Bytes) (said : Result (Unit {0}) CallFailed) (some : reading ≢ Ok None) (none : TakesNone count reading)
    (reply : (sight : Sight) → reply_read count (running ns time) sight reading ≡ record { text = text; after = running ns_after time }) (listed : a.count ≡ count)
    (comes : told → HasIds journal → Stands version journal ns a → Comes version journal after ns ns_after a b) (went : Went told journal.live after.live a b) (ready : IsReady after count b) (wrote : Wrote reading ns journal after) (costs : Costs told reading journal after a b)
    (saved : Saved told reading version ns journal after a b) (left : HasLive after) (short : (0 < length text) × (length text ≤ most_said)) (says : Says told b c text said) where
  synced_fronts : SaysFronts told b c text
  synced_fronts = fronts_of text said says

  stands_then : StaysStanding told version journal after ns ns_after a c
  stands_then tells ids stands = stands_same text version after ns_after tells synced_fronts (comes_stand version journal after ns ns_after a b went.quiet.each.count (comes tells ids stands))

  synced_wrote : HasWritten told reading version ns journal after a c (unless_failed said)
  synced_wrote = record {
    idle = λ no_write no_back. absurd (no_write wrote.writes);
    adds = λ takes same small. any_ok (unless_failed said) (wrote.adds takes same small);
    last = wrote.last;
    calls = λ tells change same small. omega (arith, costs tells same small change, one_call b c text said short.0 short.1 says tells);
    begins = λ roll. any_ok (unless_failed said) (wrote.begins roll);
    rolled = λ tells ids stands roll. any_ok (unless_failed said) (
        let it = stands_then tells ids stands in
        subst (λ (first : ℕ). (j : ℕ) → has after.live j ≡ true → GoesFrom first (disk_at c j)) (wrote.begins roll) (going_from version it.list it.stage after c it.matches it.disks it.alone ready.going));
    checkpointed = λ tells ids stands saves. any_ok (unless_failed said) (
        let it = saved tells ids stands saves in
        (it.0, it.1, λ j e. subst (λ (dirs : ℕ → Dir). EachLeft (dirs j).disk (λ d. IsCheckpointed version it.0 after.last ns (folder_at d Current))) (sym (synced_fronts.ends tells).0) (it.2 j e)));
    restored = λ tells ids stands dir is. any_ok (unless_failed said) (absurd (none_restores reading ns dir is wrote.writes));
  }

  synced_live : HasDropped told reading ns journal after a c (unless_failed said)
  synced_live = record {
    counted = steps_of (restored_dir reading) journal.live after.live a c (counted_on journal.live after.live a b c went.counted (counts_of told b c text said says));
    left = left_but (restored_dir reading) journal.live a c (left_on journal.live a b c text went.left synced_fronts);
    some = any_ok (unless_failed said) (λ either. left);
  }

  synced_spoken : Speaks told reading Failed count (running ns time) after.live a c
  synced_spoken line reads =
      let is = synced_reply reading version journal after count ns ns_after time a b c text some none reply listed (way_of version journal after ns ns_after a b comes) went synced_fronts line reads in
      spoken_as (sym (ap (λ (r : RunReply). r.text) is)) (speaks_by a b c text went.quiet synced_fronts)

  synced_ready : IsReady after count c
  synced_ready = record { listed = synced_fronts.count ∙ ready.listed; below = ready.below; going = ready.going; empty = ready.empty; fit = ready.fit }

pub synced_step : {told : Type 0} (reading : Result (Option ScriptCommand) Syntax) (version : Version) (journal after : JournalSet) (count : ℕ) (ns ns_after : Namespace) (time : ℕ) (a b c : State) (text : Bytes) (said : Result (Unit {0}) CallFailed) → reading ≢ Ok None → TakesNone count reading
    → ((sight : Sight) → reply_read count (running ns time) sight reading ≡ record { text = text; after = running ns_after time }) → a.count ≡ count
    → (told → HasIds journal → Stands version journal ns a → Comes version journal after ns ns_after a b) → Went told journal.live after.live a b → IsReady after count b → Wrote reading ns journal after → Costs told reading journal after a b → Saved told reading version ns journal after a b
    → HasLive after → (0 < length text) × (length text ≤ most_said) → Says told b c text said → HasStepped told reading count version ns ns_after time time journal after a c (unless_failed said)
synced_step {told} reading version journal after count ns ns_after time a b c text (Ok v) some none reply listed comes went ready wrote costs saved left short says =
    let fronts = fronts_of text (Ok v) says in record {
      restored = Failed;
      came = λ dir is under. absurd (none dir under (ap restored_dir is));
      answered = synced_answered reading version journal after count ns ns_after time a b c text some none reply listed (way_of version journal after ns ns_after a b comes) went fronts (λ tells. says.said tells ∙ ap (λ x. b.now.said ++ x) (concat_pieces text)) says.answered.faults;
      kept = synced_kept reading version journal after count ns ns_after time a b c text some none reply listed (way_of version journal after ns ns_after a b comes) went fronts;
      stands = stands_then reading version journal after count ns ns_after time a b c text (Ok v) some none reply listed comes went ready wrote costs saved left short says;
      ready = synced_ready reading version journal after count ns ns_after time a b c text (Ok v) some none reply listed comes went ready wrote costs saved left short says;
      wrote = synced_wrote reading version journal after count ns ns_after time a b c text (Ok v) some none reply listed comes went ready wrote costs saved left short says;
      live = synced_live reading version journal after count ns ns_after time a b c text (Ok v) some none reply listed comes went ready wrote costs saved left short says;
      spoken = synced_spoken reading version journal after count ns ns_after time a b c text (Ok v) some none reply listed comes went ready wrote costs saved left short says;
      out = out_by a b c text (Ok v) went.quiet says;
      ended = tt;
    }
synced_step {told} reading version journal after count ns ns_after time a b c text (Err e) some none reply listed comes went ready wrote costs saved left short says =
    let fronts = fronts_of text (Err e) says in record {
      restored = Failed;
      came = λ dir is under. absurd (none dir under (ap restored_dir is));
      answered = tt;
      kept = synced_kept reading version journal after count ns ns_after time a b c text some none reply listed (way_of version journal after ns ns_after a b comes) went fronts;
      stands = tt;
      ready = tt;
      wrote = synced_wrote reading version journal after count ns ns_after time a b c text (Err e) some none reply listed comes went ready wrote costs saved left short says;
      live = synced_live reading version journal after count ns ns_after time a b c text (Err e) some none reply listed comes went ready wrote costs saved left short says;
      spoken = synced_spoken reading version journal after count ns ns_after time a b c text (Err e) some none reply listed comes went ready wrote costs saved left short says;
      out = out_by a b c text (Err e) went.quiet says;
      ended = tt;
    }

-- ---- nothing was said

module _ {told : Type 0} (reading : Result (Option ScriptCommand) Syntax) (version : Version) (journal after : JournalSet) (count : ℕ) (ns ns_after : Namespace) (time : ℕ) (a b : State) (text : Bytes) (some : reading ≢ Ok None) (none : TakesNone count reading)
    (reply : (sight : Sight) → reply_read count (running ns time) sight reading ≡ record { text = text; after = running ns_after time }) (listed : a.count ≡ count)
    (goes : told → HasIds journal → Stands version journal ns a → (list : Shared) × Goes version list journal after ns ns_after a b) (went : Went told journal.live after.live a b) (wrote : Wrote reading ns journal after) (costs : Costs told reading journal after a b) where
  unsaid_wrote : (end : End) → HasWritten told reading version ns journal after a b (Err end)
  unsaid_wrote end = record {
    idle = λ no_write no_back. absurd (no_write wrote.writes);
    adds = λ takes same small. tt;
    last = wrote.last;
    calls = λ tells change same small. omega (arith, costs tells same small change);
    begins = λ roll. tt;
    rolled = λ tells ids stands roll. tt;
    checkpointed = λ tells ids stands saves. tt;
    restored = λ tells ids stands dir is. tt;
  }

  unsaid_spoken : Speaks told reading Failed count (running ns time) after.live a b
  unsaid_spoken line reads =
      let is = synced_reply reading version journal after count ns ns_after time a b b text some none reply listed goes went (no_fronts b text) line reads in
      spoken_as (sym (ap (λ (r : RunReply). r.text) is)) (speaks_by a b b text went.quiet (no_fronts b text))

  -- no live directory is left
  pub none_left_step : ((j : ℕ) → has after.live j ≡ false) → HasStepped told reading count version ns ns time time journal after a b (Err NoneLeft)
  none_left_step gone = record {
    restored = Failed;
    came = λ dir is under. tt;
    answered = tt;
    kept = synced_kept reading version journal after count ns ns_after time a b b text some none reply listed goes went (no_fronts b text);
    stands = tt;
    ready = tt;
    wrote = unsaid_wrote NoneLeft;
    live = record { counted = steps_of (restored_dir reading) journal.live after.live a b went.counted; left = left_but (restored_dir reading) journal.live a b went.left; some = tt };
    spoken = unsaid_spoken;
    out = quiet_out went.quiet;
    ended = (all_failed journal after a b went.counted gone, went.quiet, refl);
  }

  -- there was no memory for a checkpoint that had begun
  pub unsaved_step : reading ≡ Ok (Some Checkpoint) → HasStepped told reading count version ns ns time time journal after a b (Err Memory)
  unsaved_step saves = record {
    restored = Failed;
    came = λ dir is under. tt;
    answered = tt;
    kept = synced_kept reading version journal after count ns ns_after time a b b text some none reply listed goes went (no_fronts b text);
    stands = tt;
    ready = tt;
    wrote = unsaid_wrote Memory;
    live = record { counted = steps_of (restored_dir reading) journal.live after.live a b went.counted; left = left_but (restored_dir reading) journal.live a b went.left; some = tt };
    spoken = unsaid_spoken;
    out = quiet_out went.quiet;
    ended = (inr (inl saves), went.quiet, refl);
  }
