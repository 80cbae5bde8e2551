-- What a line comes to that changes no directory.
use Rattle.std.proofs.Common.{◌≡◌, ◌≢◌, ◌⊎◌, inl, inr, ⊎_elim, ℕ, ◌<◌, ◌≤◌, length, true, false, Option, None, Result, Ok, Err, OnOk, ◌&&◌, List, [], ◌∷◌, ◌++◌, refl, sym, ◌∙◌, ap, subst, arith}
use Rattle.std.specs.Prelude.{Contains}
use Rattle.std.proofs.lemmas.List.{append-nil}
use Rattle.std.proofs.lemmas.List.Elements.{Contains-append_left}
use Rattle.nn_base.specs.DirSets.{has}
use Rattle.nn_base.specs.Paths.{Bytes}
use Rattle.nn_host.specs.Moments.{Dir, State, faults_at}
use Rattle.nn_host.specs.Calls.{most_said}
use Rattle.nn_host.specs.declared.host.Failed.{Failed as CallFailed}
use Rattle.nn_host.proofs.RunsLemmas.{throughout_refl, throughout_told, throughout_weaker, unspoken_refl}
use Rattle.nn_marks.specs.declared.version.Version.{Version}
use Rattle.nn_tree.specs.Namespace.{Namespace}
use Rattle.nn_segment_file.specs.Stages.{StandsAt, IsAlone}
use Rattle.nn_journal.specs.declared.journal.JournalSet.{JournalSet}
use Rattle.nn_pick.specs.Opening.{Book}
use Rattle.nn_kept.specs.Ends.{EndsAt}
use Rattle.nn_ckpt.specs.Checkpointed.{HasLastImage}
use Rattle.nn_script.specs.declared.command.ScriptCommand.{ScriptCommand}
use Rattle.nn_script.specs.declared.syntax.Syntax.{Syntax}
use Rattle.nn_script.specs.Reading.{reading_of}
use Rattle.nn_say.specs.Saying.{SaysFronts, Says}
use Rattle.nn_say.proofs.SayingLemmas.{concat_pieces}
use Rattle.nn_run.specs.Running.{Sight, Asked, RunReply, Failed, restored_dir, reply_read, reply_at}
use Rattle.nn_run.specs.Steps.{BetweenLines, StepKept, is_of_step, is_of_line}
use Rattle.nn_run.specs.Flights.{OnlySays}
use Rattle.nn_run.proofs.BetweenLemmas.{kept_whichever}
use Rattle.nn_run.proofs.SyncLemmas.{between_same, both_part, has_text, not_of_line, not_held, saying_is_kept}
use Rattle.nn_core.specs.declared.event.End.{End}
use Rattle.nn_core.specs.declared.event.End.TheVariants.{Memory}
use Rattle.nn_core.specs.Ready.{IsReady}
use Rattle.nn_core.specs.Standing.{unsaved, Stands}
use Rattle.nn_core.specs.Written.{IsChange, Writes, AllStand, HasWritten}
use Rattle.nn_core.specs.Events.{running, asked_at, Answers, Keeps, HasLive, HasDropped, Speaks, unless_failed, HasStepped}
use Rattle.nn_core.proofs.SpokenLemmas.{any_ok, steps_of, left_but, fronts_of, speaks_by, spoken_as, quiet_out, out_by, counts_of, counted_on, counted_none, left_none, left_on}
use Rattle.nn_core.proofs.CallsLemmas.{one_call}
use Rattle.nn_core.proofs.LineLemmas.{has_answer, reply_is, none_taken, none_back, TakesNone, sees_none}

-- what stood still stands
pub stands_same : {told : Type 0} {a c : State} (text : Bytes) (version : Version) (journal : JournalSet) (ns : Namespace) → told → SaysFronts told a c text → Stands version journal ns a → Stands version journal ns c
stands_same {told} {a} {c} text version journal ns tells fronts stands = record {
  list = stands.list;
  stage = stands.stage;
  matches = stands.matches;
  disks = λ j e. subst (λ (dirs : ℕ → Dir). StandsAt version stands.list stands.stage (dirs j).disk) (sym (fronts.ends tells).0) (stands.disks j e);
  alone = λ j e. subst (λ (dirs : ℕ → Dir). IsAlone stands.stage (dirs j).disk) (sym (fronts.ends tells).0) (stands.alone j e);
  images = λ j e. subst (λ (dirs : ℕ → Dir). HasLastImage version stands.list journal.last (dirs j).disk) (sym (fronts.ends tells).0) (stands.images j e);
  between = subst (λ k. BetweenLines version stands.list k (has journal.live) (λ i. false) (unsaved ns) journal.last c.now) (sym fronts.count) (between_same a.now c.now (fronts.ends tells).0 stands.between);
}

-- each of the live directories ends at the last id, with the one namespace
pub all_stand : (version : Version) (journal : JournalSet) (s : State) (ns : Namespace) → ((j : ℕ) → has journal.live j ≡ true → j < s.count) → Stands version journal ns s → AllStand version ns journal s
all_stand version journal s ns below stands j e =
    let it = stands.between.lives j (below j e) e in record {
      normal = it.normal;
      ends = λ c leaves fair. let (n, low, high, at) = it.ends c leaves fair in (n, low, high, subst (λ x. EndsAt c version false None (record { last = n; ns = x })) (there n low high) at);
    }
  where
    there : (n : ℕ) → journal.last ≤ n → n ≤ journal.last → stands.list n ≡ ns
    there n low high = let e : n ≡ journal.last = omega (arith, low, high) in ap stands.list e ∙ stands.between.stands

module _ {told : Type 0} (reading : Result (Option ScriptCommand) Syntax) (version : Version) (journal : JournalSet) (count : ℕ) (ns : Namespace) (time time_after : ℕ) (a c : State) (text : Bytes) (some : reading ≢ Ok None) (none : TakesNone count reading)
    (reply : (sight : Sight) → ((i : ℕ) → sight.live i ≡ has journal.live i) → reply_read count (running ns time) sight reading ≡ record { text = text; after = running ns time_after }) (listed : a.count ≡ count) (fronts : SaysFronts told a c text) where
  plain_reply : (line : Bytes) → reading_of line ≡ reading → reply_at count (running ns time) (asked_at line Failed journal.live c) ≡ record { text = text; after = running ns time_after }
  plain_reply line reads = reply_is reading some line reads count (running ns time) (asked_at line Failed journal.live c).sight _ (reply (asked_at line Failed journal.live c).sight (λ i. refl))

  plain_kept : Keeps told reading Failed version journal count ns time journal.live a c
  plain_kept tells ids stands line reads =
      let is = plain_reply line reads in
      (saying_is_kept version stands.list count (has journal.live) (running ns time) (asked_at line Failed journal.live c) journal.last a c
      (subst (λ k. BetweenLines version stands.list k (has journal.live) (λ i. false) (unsaved ns) journal.last a.now) listed stands.between) refl (has_answer reading some line reads)
      (ap (λ (r : RunReply). r.after.book) is) (none_back count (asked_at line Failed journal.live c) refl (has journal.live)) (subst (λ x. OnlySays (Unit {0}) x a c) (sym (ap (λ (r : RunReply). r.text) is)) (throughout_told (λ u. tells) fronts))).0

  plain_ready : IsReady journal count a → IsReady journal count c
  plain_ready ready = record { listed = fronts.count ∙ ready.listed; below = ready.below; going = ready.going; empty = ready.empty; fit = ready.fit }

  plain_answered : (told → c.now.said ≡ a.now.said ++ text) → ((j : ℕ) → faults_at c j ≡ faults_at a j) → Answers told reading Failed count (running ns time) (running ns time_after) journal.live journal.live a c
  plain_answered said faults line reads =
      let is = plain_reply line reads in record {
        said = λ tells. said tells ∙ ap (λ x. a.now.said ++ x) (sym (ap (λ (r : RunReply). r.text) is));
        goes_on = sym (ap (λ (r : RunReply). r.after) is);
        counted = λ i below room. (λ live. inl (faults i, live), λ either. ⊎_elim (λ both. both.1) (λ back. absurd (let apart = sym (none_taken count (asked_at line Failed journal.live c) refl i) ∙ back in cc)) either);
        sees_live = λ i. refl;
        sees_faults = λ i. refl;
        sees_restored = sees_none count reading (has journal.live) (asked_at line Failed journal.live c) none reads;
      }

module _ {told : Type 0} (reading : Result (Option ScriptCommand) Syntax) (version : Version) (journal : JournalSet) (count : ℕ) (ns : Namespace) (time time_after : ℕ) (a c : State) (text : Bytes) (said : Result (Unit {0}) CallFailed) (some : reading ≢ Ok None) (none : TakesNone count reading)
    (reply : (sight : Sight) → ((i : ℕ) → sight.live i ≡ has journal.live i) → reply_read count (running ns time) sight reading ≡ record { text = text; after = running ns time_after }) (listed : a.count ≡ count) (says : Says told a c text said)
    (short : IsChange reading → (0 < length text) × (length text ≤ most_said)) (idle : ¬ Writes reading ns) (below : (j : ℕ) → has journal.live j ≡ true → j < count) where
  plain_wrote : HasWritten told reading version ns journal journal a c (unless_failed said)
  plain_wrote = record {
    idle = λ no_write no_back. (refl, throughout_weaker (fronts_of text said says) (λ tells m is. is.0));
    adds = λ takes. absurd (idle (inr takes));
    last = omega arith;
    calls = λ tells change same small. let is = short change in omega (arith, one_call a c text said is.0 is.1 says tells);
    begins = λ roll. absurd (idle (inl (inl roll)));
    rolled = λ tells ids stands roll. absurd (idle (inl (inl roll)));
    checkpointed = λ tells ids stands saves. absurd (idle (inl (inr saves)));
    restored = λ tells ids stands dir is. any_ok (unless_failed said) (
        let fronts = fronts_of text said says in
        all_stand version journal c ns (λ j e. (let high = below j e in omega (arith, high, listed, fronts.count))) (stands_same text version journal ns tells fronts stands));
  }

  plain_live : HasDropped told reading ns journal journal a c (unless_failed said)
  plain_live = record {
    counted = steps_of (restored_dir reading) journal.live journal.live a c (counted_on journal.live journal.live a a c (counted_none journal.live a) (counts_of told a c text said says));
    left = left_but (restored_dir reading) journal.live a c (left_on journal.live a a c text (left_none journal.live a) (fronts_of text said says));
    some = stays_live (unless_failed said);
  }
    where
      stays_live : (result : Result (Unit {0}) End) → OnOk result (HasLive journal ⊎ Writes reading ns → HasLive journal)
      stays_live (Ok v) = λ either. ⊎_elim (λ live. live) (λ writes. absurd (idle writes)) either
      stays_live (Err e) = tt

  plain_spoken : Speaks told reading Failed count (running ns time) journal.live a c
  plain_spoken line reads =
      let is = plain_reply reading version journal count ns time time_after a c text some none reply listed (fronts_of text said says) line reads in
      spoken_as (sym (ap (λ (r : RunReply). r.text) is)) (speaks_by a a c text unspoken_refl (fronts_of text said says))

pub plain_step : {told : Type 0} (reading : Result (Option ScriptCommand) Syntax) (version : Version) (journal : JournalSet) (count : ℕ) (ns : Namespace) (time time_after : ℕ) (a c : State) (text : Bytes) (said : Result (Unit {0}) CallFailed) → reading ≢ Ok None → TakesNone count reading
    → ((sight : Sight) → ((i : ℕ) → sight.live i ≡ has journal.live i) → reply_read count (running ns time) sight reading ≡ record { text = text; after = running ns time_after }) → IsReady journal count a → Says told a c text said
    → (IsChange reading → (0 < length text) × (length text ≤ most_said)) → ¬ Writes reading ns → HasStepped told reading count version ns ns time time_after journal journal a c (unless_failed said)
plain_step {told} reading version journal count ns time time_after a c text (Ok v) some none reply ready says short idle =
    let fronts = fronts_of text (Ok v) says in record {
      restored = Failed;
      came = λ dir is under. absurd (none dir under (ap restored_dir is));
      answered = plain_answered reading version journal count ns time time_after a c text some none reply ready.listed fronts (λ tells. says.said tells ∙ ap (λ x. a.now.said ++ x) (concat_pieces text)) says.answered.faults;
      kept = plain_kept reading version journal count ns time time_after a c text some none reply ready.listed fronts;
      stands = λ tells ids stands. stands_same text version journal ns tells fronts stands;
      ready = plain_ready reading version journal count ns time time_after a c text some none reply ready.listed fronts ready;
      wrote = plain_wrote reading version journal count ns time time_after a c text (Ok v) some none reply ready.listed says short idle ready.below;
      live = plain_live reading version journal count ns time time_after a c text (Ok v) some none reply ready.listed says short idle ready.below;
      spoken = plain_spoken reading version journal count ns time time_after a c text (Ok v) some none reply ready.listed says short idle ready.below;
      out = out_by a a c text (Ok v) unspoken_refl says;
      ended = tt;
    }
plain_step {told} reading version journal count ns time time_after a c text (Err e) some none reply ready says short idle =
    let fronts = fronts_of text (Err e) says in record {
      restored = Failed;
      came = λ dir is under. absurd (none dir under (ap restored_dir is));
      answered = tt;
      kept = plain_kept reading version journal count ns time time_after a c text some none reply ready.listed fronts;
      stands = tt;
      ready = tt;
      wrote = plain_wrote reading version journal count ns time time_after a c text (Err e) some none reply ready.listed says short idle ready.below;
      live = plain_live reading version journal count ns time time_after a c text (Err e) some none reply ready.listed says short idle ready.below;
      spoken = plain_spoken reading version journal count ns time time_after a c text (Err e) some none reply ready.listed says short idle ready.below;
      out = out_by a a c text (Err e) unspoken_refl says;
      ended = tt;
    }

-- ---- want of memory

-- before anything was written or said: this moment is one of the step
pub still_kept : {told : Type 0} (reading : Result (Option ScriptCommand) Syntax) (version : Version) (journal : JournalSet) (count : ℕ) (ns : Namespace) (time : ℕ) (a : State) → reading ≢ Ok None → a.count ≡ count → told → Stands version journal ns a
    → (line : Bytes) (sight : Sight) → reading_of line ≡ reading → StepKept (Unit {0}) count (running ns time) (has journal.live) (λ i. true) (record { line = line; sight = sight }) a a
still_kept reading version journal count ns time a some listed tells stands line sight reads =
    let asked : Asked = record { line = line; sight = sight } in
    let run = running ns time in
    let answers = has_answer reading some line reads in
    let between = subst (λ k. BetweenLines version stands.list k (has journal.live) (λ i. false) (unsaved ns) journal.last a.now) listed stands.between in
    throughout_refl (λ t. record {
      front = (0, sym (append-nil a.now.said));
      counted = λ i. omega arith;
      kept = (
        between.shared,
        (λ book there. both_part count run asked answers a a.now refl (has_text count run asked answers) book (first_of_two between.shared.window (unsaved ns) (reply_at count run asked).after.book between.window book there)),
        kept_whichever version stands.list count (has journal.live) (λ i. false) (unsaved ns) journal.last a.now between (is_of_line (has journal.live) count run asked a a.now) (λ i d. true && is_of_step (has journal.live) a i d) refl
            (λ i d e. not_of_line (has journal.live) count run asked answers a a.now i d refl e) (not_held (has journal.live) a),
      );
    })
  where
    first_of_two : (books : List Book) (one two : Book) → books ≡ one ∷ [] → (book : Book) → Contains books book → Contains (one ∷ two ∷ []) book
    first_of_two books one two is book there = Contains-append_left (one ∷ []) (two ∷ []) book (subst (λ bs. Contains bs book) is there)

pub memory_step : {told : Type 0} (reading : Result (Option ScriptCommand) Syntax) (version : Version) (journal : JournalSet) (count : ℕ) (ns : Namespace) (time : ℕ) (a : State) → reading ≢ Ok None → TakesNone count reading → IsChange reading → IsReady journal count a
    → HasStepped told reading count version ns ns time time journal journal a a (Err Memory)
memory_step {told} reading version journal count ns time a some none change ready = record {
  restored = Failed;
  came = λ dir is under. tt;
  answered = tt;
  kept = λ tells ids stands line reads. still_kept reading version journal count ns time a some ready.listed tells stands line (asked_at line Failed journal.live a).sight reads;
  stands = tt;
  ready = tt;
  wrote = record {
    idle = λ no_write no_back. (refl, throughout_refl (λ tells. refl));
    adds = λ takes same small. tt;
    last = omega arith;
    calls = λ tells change same small. omega arith;
    begins = λ roll. tt;
    rolled = λ tells ids stands roll. tt;
    checkpointed = λ tells ids stands saves. tt;
    restored = λ tells ids stands dir is. tt;
  };
  live = record { counted = steps_of (restored_dir reading) journal.live journal.live a a (counted_none journal.live a); left = left_but (restored_dir reading) journal.live a a (left_none journal.live a); some = tt };
  spoken = λ line reads. throughout_refl (λ tells. ((0, sym (append-nil a.now.said)), inl refl));
  out = quiet_out unspoken_refl;
  ended = (inl (change, refl, refl), unspoken_refl, refl);
}
