-- What a line comes to by which a listed directory is to be taken back.
use Rattle.std.proofs.Common.{◌≡◌, ◌⊎◌, inl, inr, ⊎_elim, ◌↔◌, ℕ, ◌+◌, ◌*◌, ◌<◌, ◌≤◌, nat_lt, Bool, true, false, if◌then◌else◌, Option, Some, [], ◌++◌, Result, Ok, Err, refl, sym, ◌∙◌, ap, subst, arith}
use Rattle.std.proofs.lemmas.Bool.{cases_Bool}
use Rattle.std.proofs.lemmas.Bool.Decides.{eqb_tells, nat_tests}
use Rattle.nn_base.specs.DirSets.{Members, has, count_of}
use Rattle.nn_base.specs.Paths.{Bytes}
use Rattle.nn_host.specs.Moments.{Dir, State, faults_at}
use Rattle.nn_host.specs.Runs.{Throughout, Unspoken}
use Rattle.nn_host.specs.declared.host.Failed.{Failed as CallFailed}
use Rattle.nn_host.proofs.RunsLemmas.{throughout_told, throughout_trans, throughout_weaker, untouched_trans}
use Rattle.nn_marks.specs.declared.version.Version.{Version}
use Rattle.nn_tree.specs.Namespace.{Namespace}
use Rattle.nn_journal.specs.declared.journal.JournalSet.{JournalSet}
use Rattle.nn_journal.specs.Among.{StaysLive, IsDropped}
use Rattle.nn_pick.specs.Refusing.{spent_from}
use Rattle.nn_ckpt.specs.declared.fault.RunFault.{RunFault}
use Rattle.nn_ckpt.specs.declared.fault.RunFault.TheVariants as fault
use Rattle.nn_restore.specs.declared.restoring.Restored.{Restored as Came}
use Rattle.nn_restore.specs.declared.restoring.Restored.TheVariants as came
use Rattle.nn_restore.specs.Restored.{IsUnchanged, IsAnswered, IsRefused, IsLeftBeside, IsCountedOf, HasRestored, Restores}
use Rattle.nn_script.specs.declared.command.ScriptCommand.{ScriptCommand}
use Rattle.nn_script.specs.declared.command.ScriptCommand.TheVariants.{Restore}
use Rattle.nn_script.specs.declared.syntax.Syntax.{Syntax}
use Rattle.nn_script.specs.Reading.{reading_of}
use Rattle.nn_say.specs.Saying.{SaysFronts, Says}
use Rattle.nn_say.proofs.SayingLemmas.{concat_pieces}
use Rattle.nn_run.specs.Running.{Running, Restored, TakenBack, Failed, Asked, restored_text, restored_dir, back_at, is_back, reply_read, reply_at}
use Rattle.nn_run.specs.Steps.{BetweenLines, Stays, Drops, Joins, Fails, StepCounts, IsLiveAfter}
use Rattle.nn_run.specs.Flights.{OnlySays, IsBackIn}
use Rattle.nn_run.proofs.BaseLemmas.{back_is, is_back_there}
use Rattle.nn_run.proofs.SyncLemmas.{saying_is_kept}
use Rattle.nn_run.proofs.RestoreLemmas.{aside_between, begun, emptying_is_kept, restoring_is_kept}
use Rattle.nn_core.specs.declared.event.End.{End}
use Rattle.nn_core.specs.declared.event.End.TheVariants.{NoneLeft, Memory}
use Rattle.nn_core.specs.Ready.{IsReady}
use Rattle.nn_core.specs.Standing.{unsaved, Stands, HasIds}
use Rattle.nn_core.specs.Written.{HasWritten}
use Rattle.nn_core.specs.Events.{running, asked_at, seen_as, Answers, Keeps, StaysStanding, HasLive, IsLeftBut, HasDropped, CameOf, AllFailed, Speaks, unless_failed, HasStepped}
use Rattle.nn_core.proofs.StandLemmas.{leads_steadily}
use Rattle.nn_core.proofs.CheckpointLemmas.{imaged}
use Rattle.nn_core.proofs.SpokenLemmas.{any_ok, fronts_of, no_fronts, speaks_by, spoken_as, quiet_out, out_by, counts_of}
use Rattle.nn_core.proofs.LineLemmas.{has_answer}
use Rattle.nn_core.proofs.PlainLemmas.{stands_same, all_stand}
use Rattle.nn_core.proofs.StepLemmas.{none_restores}

-- ---- what came of it

-- as it is seen: it stays dropped where the run ends over it
abbrev pub seen_of : Result Came RunFault → Restored
seen_of (Ok it) = seen_as it
seen_of (Err end) = Failed

abbrev pub answers_with : Came → Result Came RunFault
answers_with it = Ok it

-- one that was taken back is live, and no other is
taken_live : (told : Type 0) (i : ℕ) (live after : Members) (a b : State) (result : Result Came RunFault) → IsAnswered told i live after a b result → seen_of result ≡ TakenBack → has after i ≡ true
taken_live told i live after a b (Ok came.TakenBack) own e = own.0
taken_live told i live after a b (Ok came.Missing) own e = absurd (cc e)
taken_live told i live after a b (Ok came.Inconsistent) own e = absurd (cc e)
taken_live told i live after a b (Ok came.Failed) own e = absurd (cc e)
taken_live told i live after a b (Err end) own e = absurd (cc e)

unchanged_live : (told : Type 0) (i : ℕ) (live after : Members) (a b : State) → has live i ≡ false → IsUnchanged told live after a b → has after i ≡ true → ⊥
unchanged_live told i live after a b out same e = let apart = sym out ∙ ap (λ (set : Members). has set i) (sym same.same_live) ∙ e in cc

live_taken : (told : Type 0) (i : ℕ) (live after : Members) (a b : State) (result : Result Came RunFault) → IsAnswered told i live after a b result → has after i ≡ true → seen_of result ≡ TakenBack
live_taken told i live after a b (Ok came.TakenBack) own e = refl
live_taken told i live after a b (Ok came.Missing) own e = absurd (unchanged_live told i live after a b own.0 own.1 e)
live_taken told i live after a b (Ok came.Inconsistent) own e = absurd (unchanged_live told i live after a b own.0 own.1 e)
live_taken told i live after a b (Ok came.Failed) own e = absurd (let apart = sym own.1 ∙ e in cc)
live_taken told i live after a b (Err fault.NoneLeft) own e = absurd (let apart = sym own.1 ∙ e in cc)
live_taken told i live after a b (Err fault.Memory) own e = absurd (let apart = sym own.1 ∙ e in cc)

-- its count
abbrev StepsAt : ℕ → Members → Members → State → State → ℕ → Type 0
StepsAt i live after a b j = Stays (has live) (has after) a b j ⊎ (Drops (has live) (has after) a b j ⊎ ((Some i ≡ Some j) × (Joins (has live) (has after) a b j ⊎ Fails (has live) (has after) a b j)))

own_steps : (told : Type 0) (i : ℕ) (live after : Members) (a b : State) (result : Result Came RunFault) → IsAnswered told i live after a b result → StepsAt i live after a b i
own_steps told i live after a b (Ok came.TakenBack) own = elim (cases_Bool (has live i)) [
  | inl was ↦ inl (own.0 ∙ sym was, own.1)
  | inr out ↦ inr (inr (refl, inl (out, own.0, own.1)))
]
own_steps told i live after a b (Ok came.Missing) own = inl (ap (λ (set : Members). has set i) own.1.same_live, own.1.counts.faults i)
own_steps told i live after a b (Ok came.Inconsistent) own = inl (ap (λ (set : Members). has set i) own.1.same_live, own.1.counts.faults i)
own_steps told i live after a b (Ok came.Failed) own = inr (inr (refl, inr (own.0, own.1, own.2)))
own_steps told i live after a b (Err fault.NoneLeft) own = ⊎_elim (λ same. inl (own.1 ∙ sym own.0, same)) (λ rose. inr (inr (refl, inr (own.0, own.1, rose)))) own.2
own_steps told i live after a b (Err fault.Memory) own = inl (own.1 ∙ sym own.0, own.2)

steps_counted : (told : Type 0) (i : ℕ) (live after : Members) (a b c : State) (result : Result Came RunFault) → IsCountedOf told i live after a b result → ((j : ℕ) → faults_at c j ≡ faults_at b j) → StepCounts (Some i) (has live) (has after) a c
steps_counted told i live after a b c result counted same j = elim at_b [
  | inl stays ↦ inl (stays.0, same j ∙ stays.1)
  | inr other ↦ ⊎_elim
      (λ (drops : Drops (has live) (has after) a b j). inr (inl (drops.0, drops.1, same j ∙ drops.2)))
      (λ (own : (Some i ≡ Some j) × (Joins (has live) (has after) a b j ⊎ Fails (has live) (has after) a b j)). inr (inr (
        own.0,
        ⊎_elim
            (λ (joins : Joins (has live) (has after) a b j). inl (joins.0, joins.1, same j ∙ joins.2))
            (λ (fails : Fails (has live) (has after) a b j). inr (fails.0, fails.1, same j ∙ fails.2))
            own.1,
      )))
      other
]
  where
    at_b : StepsAt i live after a b j
    at_b = elim (eqb_tells j i) [
      | inl is ↦ subst (λ k. StepsAt i live after a b k) (sym is.1) (own_steps told i live after a b result counted.own)
      | inr differs ↦ ⊎_elim
          (λ (stays : StaysLive live after a b j). inl (stays.same_live, stays.faults))
          (λ (dropped : IsDropped live after a b j). inr (inl (dropped.was_among, dropped.not_live, dropped.faults)))
          (counted.others j differs.1)
    ]

-- which are left alone while it is done and answered
left_beside : (told : Type 0) (i : ℕ) (live : Members) (a b c : State) (text : Bytes) → Throughout told a b (IsLeftBeside i live a b) → SaysFronts told b c text → Throughout told a c (IsLeftBut (Some i) live a c)
left_beside told i live a b c text left fronts = throughout_trans
    (throughout_weaker left (λ tells m is. record {
      grown = is.grown;
      others = λ j apart out. is.others j (λ same. apart (ap Some (sym same))) out;
      failed = λ j apart high. is.failed j (λ same. apart (ap Some (sym same))) high ∙ ap (λ (dirs : ℕ → Dir). dirs j) (sym (fronts.ends tells).0);
    }))
    (throughout_weaker fronts (λ tells m is. let end = left.ends tells in record {
      grown = λ j. subst (λ (dirs : ℕ → Dir). faults_at a j ≤ (dirs j).faults) (sym is.0) (end.grown j);
      others = λ j apart out. ap (λ (dirs : ℕ → Dir). dirs j) is.0 ∙ end.others j (λ same. apart (ap Some (sym same))) out;
      failed = λ j apart high. ap (λ (dirs : ℕ → Dir). dirs j) (is.0 ∙ sym (fronts.ends tells).0);
    }))

-- ---- each moment is kept

module _ {told : Type 0} (version : Version) (journal after : JournalSet) (count i : ℕ) (ns : Namespace) (time : ℕ) (a b : State) (result : Result Came RunFault) (listed : a.count ≡ count) (high : i < count)
    (among : (j : ℕ) → has journal.live j ≡ true → j < a.count) (restores : Restores told version ns i journal after a b result) (counted : IsCountedOf told i journal.live after.live a b result)
    (idle : has journal.live i ≡ true → (result ≡ Ok came.TakenBack) × (after ≡ journal) × (b ≡ a)) (onward : journal.last ≤ after.last) (few : HasIds journal → after.last < spent_from) where
  abbrev asks : Result (Option ScriptCommand) Syntax
  asks = Ok (Some (Restore i))

  abbrev it_asks : Bytes → State → Asked
  it_asks line c = asked_at line (seen_of result) after.live c

  abbrev run : Running
  run = running ns time

  done : told → HasIds journal → (stands : Stands version journal ns a) → HasRestored version stands.list i journal after a b result
  done tells ids stands = restores tells stands.list stands.stage (imaged version journal ns a among stands) stands.between.stands ids stands.between.ours.layout

  -- the one that the line took back is live
  back_in : (line : Bytes) (c : State) → reading_of line ≡ asks → IsBackIn count (has after.live) (it_asks line c)
  back_in line c reads k below e =
      let is = back_is count (it_asks line c) k e in
      let same : i ≡ k = (let one = sym (ap restored_dir reads) ∙ is.0 in cc) in
      subst (λ n. has after.live n ≡ true) same (taken_live told i journal.live after.live a b result counted.own is.1)

  same_book : (line : Bytes) (c : State) → reading_of line ≡ asks → (reply_at count run (it_asks line c)).after.book ≡ run.book
  same_book line c reads = ap (λ r. (reply_read count run (it_asks line c).sight r).after.book) reads

  quiet : told → Unspoken (Unit {0}) a b
  quiet tells = record { now = counted.quiet.now; each = throughout_told (λ u. tells) counted.quiet.each }

  before : (stands : Stands version journal ns a) → BetweenLines version stands.list count (has journal.live) (λ j. false) (unsaved ns) journal.last a.now
  before stands = subst (λ k. BetweenLines version stands.list k (has journal.live) (λ j. false) (unsaved ns) journal.last a.now) listed stands.between

  restore_kept : (c : State) → (told → (line : Bytes) → reading_of line ≡ asks → OnlySays (Unit {0}) (reply_at count run (it_asks line c)).text b c) → Keeps told asks (seen_of result) version journal count ns time after.live a c
  restore_kept c says tells ids stands line reads = elim (cases_Bool (has journal.live i)) [
    | inl was ↦ (
        let same = idle was in
        (saying_is_kept version stands.list count (has journal.live) run (it_asks line c) journal.last a c (before stands) refl (has_answer asks (λ e. cc) line reads) (same_book line c reads)
        (λ k below e. subst (λ (log : JournalSet). has log.live k ≡ true) same.1 (back_in line c reads k below e))
        (subst (λ s. OnlySays (Unit {0}) (reply_at count run (it_asks line c)).text s c) same.2 (says tells line reads))).0)
    | inr out ↦ ⊎_elim
        (λ emptied. (emptying_is_kept version stands.list count (has journal.live) run (it_asks line c) journal.last i a b c out (before stands) refl (has_answer asks (λ e. cc) line reads) (same_book line c reads)
        emptied.1 (quiet tells) (throughout_told (λ u. tells) (throughout_weaker counted.left (λ t m is. is.grown)))
        (λ k below e. subst (λ (log : JournalSet). has log.live k ≡ true) emptied.0 (back_in line c reads k below e)) (says tells line reads)).0)
        (λ taken. (restoring_is_kept version stands.list count (has journal.live) (has after.live) run (it_asks line c) journal.last after.last i a b c out (before stands) (has_answer asks (λ e. cc) line reads) (same_book line c reads)
        (leads_steadily version journal after a ns stands onward (few ids)) taken.0 (quiet tells) (throughout_told (λ u. tells) (throughout_weaker counted.left (λ t m is. is.grown)))
        (back_in line c reads) (says tells line reads)).0)
        (done tells ids stands).comes
  ]

-- ---- it was answered

module _ {told : Type 0} (version : Version) (journal after : JournalSet) (count i : ℕ) (ns : Namespace) (time : ℕ) (a b c : State) (it : Came) (text : Bytes) (said : Result (Unit {0}) CallFailed) (listed : a.count ≡ count) (high : i < count)
    (among : (j : ℕ) → has journal.live j ≡ true → j < a.count) (restores : Restores told version ns i journal after a b (Ok it)) (counted : IsCountedOf told i journal.live after.live a b (Ok it))
    (idle : has journal.live i ≡ true → (answers_with it ≡ answers_with came.TakenBack) × (after ≡ journal) × (b ≡ a)) (onward : journal.last ≤ after.last) (few : HasIds journal → after.last < spent_from)
    (ready : IsReady after count b) (last : after.last + 2 * count_of after.live ≤ journal.last + 8 + 2 * count_of journal.live) (some : HasLive journal → HasLive after) (unchanged : (it ≡ came.Missing) ⊎ (it ≡ came.Inconsistent) → after ≡ journal)
    (text_is : text ≡ restored_text (seen_as it)) (says : Says told b c text said) where
  abbrev line_of : Bytes → Asked
  line_of line = asked_at line (seen_as it) after.live c

  abbrev start : Running
  start = running ns time

  abbrev asking : Result (Option ScriptCommand) Syntax
  asking = Ok (Some (Restore i))

  fronts : SaysFronts told b c text
  fronts = fronts_of text said says

  same_counts : (j : ℕ) → faults_at c j ≡ faults_at b j
  same_counts j = counts_of told b c text said says j

  listed_text : (below : Bool) (one other : Bytes) → below ≡ true → (if below then one else other) ≡ one
  listed_text true one other e = refl
  listed_text false one other e = absurd (cc e)

  says_so : (line : Bytes) → reading_of line ≡ asking → (reply_at count start (line_of line)).text ≡ text
  says_so line reads = ap (λ r. (reply_read count start (line_of line).sight r).text) reads ∙ listed_text (nat_lt i count) _ _ (grind (high, arith, nat_tests)) ∙ sym text_is

  kept_answered : Keeps told asking (seen_as it) version journal count ns time after.live a c
  kept_answered = restore_kept version journal after count i ns time a b (Ok it) listed high among restores counted idle onward few c
      (λ tells line reads. subst (λ x. OnlySays (Unit {0}) x b c) (sym (says_so line reads)) (throughout_told (λ u. tells) fronts))

  -- ---- they stand

  made : told → HasIds journal → (stands : Stands version journal ns a) → HasRestored version stands.list i journal after a b (Ok it)
  made = done version journal after count i ns time a b (Ok it) listed high among restores counted idle onward few

  between_then : told → HasIds journal → (stands : Stands version journal ns a) → BetweenLines version stands.list a.count (has after.live) (λ j. false) (unsaved ns) after.last b.now
  between_then tells ids stands = elim (cases_Bool (has journal.live i)) [
    | inl was ↦ (
        let same = idle was in
        subst (λ (log : JournalSet). BetweenLines version stands.list a.count (has log.live) (λ j. false) (unsaved ns) log.last b.now) (sym same.1)
        (subst (λ (s : State). BetweenLines version stands.list a.count (has journal.live) (λ j. false) (unsaved ns) journal.last s.now) (sym same.2) stands.between))
    | inr out ↦ ⊎_elim
        (λ emptied. subst (λ (log : JournalSet). BetweenLines version stands.list a.count (has log.live) (λ j. false) (unsaved ns) log.last b.now) (sym emptied.0) (aside_between i a b.now out stands.between (emptied.1.ends tt)))
        (λ taken. begun version stands.list a.count (has journal.live) (has after.live) (unsaved ns) journal.last after.last i a b out stands.between (leads_steadily version journal after a ns stands onward (few ids)) taken.0 taken.1)
        (made tells ids stands).comes
  ]

  stand_then : StaysStanding told version journal after ns ns a c
  stand_then tells ids stands =
      let there = (made tells ids stands).stands in
      let at_b : Stands version after ns b = record {
        list = stands.list;
        stage = there.0;
        matches = there.1.matches;
        disks = there.1.disks;
        alone = there.1.alone;
        images = there.1.images;
        between = subst (λ k. BetweenLines version stands.list k (has after.live) (λ j. false) (unsaved ns) after.last b.now) (sym counted.quiet.each.count) (between_then tells ids stands);
      } in
      stands_same text version after ns tells fronts at_b

  -- ---- who is live, and what was seen

  in_line : (line : Bytes) → reading_of line ≡ asking → IsBackIn count (has after.live) (line_of line)
  in_line line reads = back_in version journal after count i ns time a b (Ok it) listed high among restores counted idle onward few line c reads

  own_live : (line : Bytes) → reading_of line ≡ asking → (has after.live i ≡ true) ↔ (((faults_at c i ≡ faults_at a i) × (has journal.live i ≡ true)) ⊎ (is_back (back_at count (line_of line)) i ≡ true))
  own_live line reads = (
    (λ e. inr (is_back_there count (line_of line) i high (ap restored_dir reads) (live_taken told i journal.live after.live a b (Ok it) counted.own e))),
    (λ either. ⊎_elim (λ both. ap (λ (log : JournalSet). has log.live i) (idle both.1).1 ∙ both.1) (λ e. in_line line reads i high e) either),
  )

  live_then : (line : Bytes) → reading_of line ≡ asking → IsLiveAfter count (has journal.live) (has after.live) (line_of line) a c
  live_then line reads k below room = elim (eqb_tells k i) [
    | inl is ↦ subst (λ n. (has after.live n ≡ true) ↔ (((faults_at c n ≡ faults_at a n) × (has journal.live n ≡ true)) ⊎ (is_back (back_at count (line_of line)) n ≡ true))) (sym is.1) (own_live line reads)
    | inr differs ↦ ⊎_elim
        (λ (stays : StaysLive journal.live after.live a b k). (
          (λ e. inl (same_counts k ∙ stays.faults, sym stays.same_live ∙ e)),
          (λ either. ⊎_elim (λ both. stays.same_live ∙ both.1) (λ e. in_line line reads k below e) either),
        ))
        (λ (dropped : IsDropped journal.live after.live a b k). (
          (λ e. absurd (let apart = sym dropped.not_live ∙ e in cc)),
          (λ either. ⊎_elim (λ both. absurd (omega (arith, room, both.0, same_counts k, dropped.faults))) (λ e. in_line line reads k below e) either),
        ))
        (counted.others k differs.1)
  ]

  answered_then : (told → c.now.said ≡ b.now.said ++ text) → Answers told asking (seen_as it) count start start journal.live after.live a c
  answered_then out line reads = record {
    said = λ tells. out tells ∙ ap (λ x. x ++ text) counted.quiet.now.said ∙ ap (λ x. a.now.said ++ x) (sym (says_so line reads));
    goes_on = sym (ap (λ r. (reply_read count start (line_of line).sight r).after) reads);
    counted = live_then line reads;
    sees_live = λ j. refl;
    sees_faults = λ j. refl;
    sees_restored = λ k below e.
        let same : i ≡ k = (let one = sym (ap restored_dir reads) ∙ e in cc) in
        subst (λ n. (seen_as it ≡ TakenBack) ↔ (has after.live n ≡ true)) same (taken_live told i journal.live after.live a b (Ok it) counted.own, live_taken told i journal.live after.live a b (Ok it) counted.own);
  }

  -- ---- the rest of it

  wrote_then : HasWritten told asking version ns journal after a c (unless_failed said)
  wrote_then = record {
    idle = λ no_write no_back. elim (cases_Bool (has journal.live i)) [
      | inl was ↦ ((idle was).1, throughout_weaker (subst (λ s. SaysFronts told s c text) (idle was).2 fronts) (λ tells m is. is.0))
      | inr out ↦ absurd (no_back (i, refl, omega (arith, high, listed), out))
    ];
    adds = λ takes. absurd (cc takes.1);
    last = last;
    calls = λ tells change. absurd (cc change.1);
    begins = λ roll. absurd (cc roll);
    rolled = λ tells ids stands roll. absurd (cc roll);
    checkpointed = λ tells ids stands saves. absurd (cc saves);
    restored = λ tells ids stands dir is. any_ok (unless_failed said) (all_stand version after c ns (λ j e. (let below = ready.below j e in omega (arith, below, ready.listed, fronts.count))) (stand_then tells ids stands));
  }

  dropped_then : HasDropped told asking ns journal after a c (unless_failed said)
  dropped_then = record {
    counted = steps_counted told i journal.live after.live a b c (Ok it) counted same_counts;
    left = left_beside told i journal.live a b c text counted.left fronts;
    some = any_ok (unless_failed said) (λ either. ⊎_elim (λ live. some live) (λ writes. absurd (none_restores asking ns i refl writes)) either);
  }

  spoken_then : Speaks told asking (seen_as it) count start after.live a c
  spoken_then line reads = spoken_as (sym (says_so line reads)) (speaks_by a b c text counted.quiet fronts)

  ready_then : IsReady after count c
  ready_then = record { listed = fronts.count ∙ ready.listed; below = ready.below; going = ready.going; empty = ready.empty; fit = ready.fit }

-- what it came to is so once it was said, too
unchanged_on : (told : Type 0) (live after : Members) (a b c : State) (text : Bytes) → IsUnchanged told live after a b → Says told b c text (Ok tt) → IsUnchanged told live after a c
unchanged_on told live after a b c text same says = record {
  same_live = same.same_live;
  counts = record { faults = λ j. says.answered.faults j ∙ same.counts.faults j };
  disks = untouched_trans same.disks says.answered.untouched;
  reads = λ tells j. says.answered.reads tells j ∙ same.reads tells j;
}

answered_on : (told : Type 0) (i : ℕ) (live after : Members) (a b c : State) (text : Bytes) (it : Came) → IsAnswered told i live after a b (Ok it) → Says told b c text (Ok tt) → IsAnswered told i live after a c (Ok it)
answered_on told i live after a b c text came.TakenBack own says = (own.0, says.answered.faults i ∙ own.1)
answered_on told i live after a b c text came.Missing own says = (own.0, unchanged_on told live after a b c text own.1 says, own.2)
answered_on told i live after a b c text came.Inconsistent own says = (own.0, unchanged_on told live after a b c text own.1 says, own.2)
answered_on told i live after a b c text came.Failed own says = (own.0, own.1, says.answered.faults i ∙ own.2)

pub restored_step : {told : Type 0} (version : Version) (journal after : JournalSet) (count i : ℕ) (ns : Namespace) (time : ℕ) (a b c : State) (it : Came) (text : Bytes) (said : Result (Unit {0}) CallFailed) (listed : a.count ≡ count) (high : i < count)
    (among : (j : ℕ) → has journal.live j ≡ true → j < a.count) (restores : Restores told version ns i journal after a b (Ok it)) (counted : IsCountedOf told i journal.live after.live a b (Ok it))
    (idle : has journal.live i ≡ true → (answers_with it ≡ answers_with came.TakenBack) × (after ≡ journal) × (b ≡ a)) (onward : journal.last ≤ after.last) (few : HasIds journal → after.last < spent_from)
    (ready : IsReady after count b) (last : after.last + 2 * count_of after.live ≤ journal.last + 8 + 2 * count_of journal.live) (some : HasLive journal → HasLive after) (unchanged : (it ≡ came.Missing) ⊎ (it ≡ came.Inconsistent) → after ≡ journal)
    (refused : told → IsRefused i journal.live a (Ok it)) (text_is : text ≡ restored_text (seen_as it)) (says : Says told b c text said) → HasStepped told (Ok (Some (Restore i))) count version ns ns time time journal after a c (unless_failed said)
restored_step {told} version journal after count i ns time a b c it text (Ok v) listed high among restores counted idle onward few ready last some unchanged refused text_is says = record {
  restored = seen_as it;
  answered = answered_then version journal after count i ns time a b c it text (Ok v) listed high among restores counted idle onward few ready last some unchanged text_is says (λ tells. says.said tells ∙ ap (λ x. b.now.said ++ x) (concat_pieces text));
  kept = kept_answered version journal after count i ns time a b c it text (Ok v) listed high among restores counted idle onward few ready last some unchanged text_is says;
  stands = stand_then version journal after count i ns time a b c it text (Ok v) listed high among restores counted idle onward few ready last some unchanged text_is says;
  ready = ready_then version journal after count i ns time a b c it text (Ok v) listed high among restores counted idle onward few ready last some unchanged text_is says;
  wrote = wrote_then version journal after count i ns time a b c it text (Ok v) listed high among restores counted idle onward few ready last some unchanged text_is says;
  live = dropped_then version journal after count i ns time a b c it text (Ok v) listed high among restores counted idle onward few ready last some unchanged text_is says;
  came = λ dir is under.
      let same : i ≡ dir = cc is in
      subst (λ n. CameOf told n (seen_as it) journal after a c) same (record { it = it; seen = refl; answered = answered_on told i journal.live after.live a b c text it counted.own says; refused = refused; same = unchanged });
  spoken = spoken_then version journal after count i ns time a b c it text (Ok v) listed high among restores counted idle onward few ready last some unchanged text_is says;
  out = out_by a b c text (Ok v) counted.quiet says;
  ended = tt;
}
restored_step {told} version journal after count i ns time a b c it text (Err e) listed high among restores counted idle onward few ready last some unchanged refused text_is says = record {
  restored = seen_as it;
  answered = tt;
  kept = kept_answered version journal after count i ns time a b c it text (Err e) listed high among restores counted idle onward few ready last some unchanged text_is says;
  stands = tt;
  ready = tt;
  wrote = wrote_then version journal after count i ns time a b c it text (Err e) listed high among restores counted idle onward few ready last some unchanged text_is says;
  live = dropped_then version journal after count i ns time a b c it text (Err e) listed high among restores counted idle onward few ready last some unchanged text_is says;
  came = λ dir is under. tt;
  spoken = spoken_then version journal after count i ns time a b c it text (Err e) listed high among restores counted idle onward few ready last some unchanged text_is says;
  out = out_by a b c text (Err e) counted.quiet says;
  ended = tt;
}

-- ---- the run ends over it

all_gone : (told : Type 0) (i : ℕ) (journal after : JournalSet) (a b : State) (end : RunFault) → IsCountedOf told i journal.live after.live a b (Err end) → has journal.live i ≡ false → ((j : ℕ) → has after.live j ≡ false) → AllFailed journal after a b
all_gone told i journal after a b end counted out none j = (
  none j,
  λ e. ⊎_elim
      (λ (stays : StaysLive journal.live after.live a b j). absurd (let apart = sym (none j) ∙ stays.same_live ∙ e in cc))
      (λ (dropped : IsDropped journal.live after.live a b j). dropped.faults)
      (counted.others j (λ same. absurd (let apart = sym out ∙ ap (has journal.live) (sym same) ∙ e in cc))),
)

was_out : (told : Type 0) (i : ℕ) (live after : Members) (a b : State) (end : RunFault) → IsAnswered told i live after a b (Err end) → has live i ≡ false
was_out told i live after a b fault.NoneLeft own = own.0
was_out told i live after a b fault.Memory own = own.0

module _ {told : Type 0} (version : Version) (journal after : JournalSet) (count i : ℕ) (ns : Namespace) (time : ℕ) (a b : State) (end : RunFault) (listed : a.count ≡ count) (high : i < count)
    (among : (j : ℕ) → has journal.live j ≡ true → j < a.count) (restores : Restores told version ns i journal after a b (Err end)) (counted : IsCountedOf told i journal.live after.live a b (Err end)) (onward : journal.last ≤ after.last)
    (few : HasIds journal → after.last < spent_from) (last : after.last + 2 * count_of after.live ≤ journal.last + 8 + 2 * count_of journal.live) where
  out : has journal.live i ≡ false
  out = was_out told i journal.live after.live a b end counted.own

  unanswered_kept : Keeps told (Ok (Some (Restore i))) Failed version journal count ns time after.live a b
  unanswered_kept = restore_kept version journal after count i ns time a b (Err end) listed high among restores counted (λ was. absurd (let apart = sym out ∙ was in cc)) onward few b
      (λ tells line reads. no_fronts b (reply_at count (running ns time) (asked_at line Failed after.live b)).text)

  unanswered_wrote : (why : End) → HasWritten told (Ok (Some (Restore i))) version ns journal after a b (Err why)
  unanswered_wrote why = record {
    idle = λ no_write no_back. absurd (no_back (i, refl, omega (arith, high, listed), out));
    adds = λ takes same small. tt;
    last = last;
    calls = λ tells change. absurd (cc change.1);
    begins = λ roll. tt;
    rolled = λ tells ids stands roll. tt;
    checkpointed = λ tells ids stands saves. tt;
    restored = λ tells ids stands dir is. tt;
  }

  unanswered_live : (why : End) → HasDropped told (Ok (Some (Restore i))) ns journal after a b (Err why)
  unanswered_live why = record {
    counted = steps_counted told i journal.live after.live a b b (Err end) counted (λ j. refl);
    left = left_beside told i journal.live a b b [] counted.left (no_fronts b []);
    some = tt;
  }

  unanswered_spoken : Speaks told (Ok (Some (Restore i))) Failed count (running ns time) after.live a b
  unanswered_spoken line reads = speaks_by a b b (reply_at count (running ns time) (asked_at line Failed after.live b)).text counted.quiet (no_fronts b (reply_at count (running ns time) (asked_at line Failed after.live b)).text)

  -- no live directory is left
  pub none_restored_step : ((j : ℕ) → has after.live j ≡ false) → HasStepped told (Ok (Some (Restore i))) count version ns ns time time journal after a b (Err NoneLeft)
  none_restored_step none = record {
    restored = Failed;
    answered = tt;
    kept = unanswered_kept;
    stands = tt;
    ready = tt;
    wrote = unanswered_wrote NoneLeft;
    live = unanswered_live NoneLeft;
    came = λ dir is under. tt;
    spoken = unanswered_spoken;
    out = quiet_out counted.quiet;
    ended = (all_gone told i journal after a b end counted out none, counted.quiet, refl);
  }

  -- there was no memory for it
  pub unrestored_step : HasStepped told (Ok (Some (Restore i))) count version ns ns time time journal after a b (Err Memory)
  unrestored_step = record {
    restored = Failed;
    answered = tt;
    kept = unanswered_kept;
    stands = tt;
    ready = tt;
    wrote = unanswered_wrote Memory;
    live = unanswered_live Memory;
    came = λ dir is under. tt;
    spoken = unanswered_spoken;
    out = quiet_out counted.quiet;
    ended = (inr (inr (i, refl)), counted.quiet, refl);
  }
