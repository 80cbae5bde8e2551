-- How a run over generated files ends: its last segment is ended, and it says how many commands there were.
use Rattle.std.proofs.Common.{◌≡◌, inl, inr, ℕ, ◌<◌, ◌≤◌, ◌^◌, Bool, true, false, List, [], ◌∷◌, ◌++◌, length, take, drop, codes, Ok, Err, None, Some, Option, Result, refl, sym, ◌∙◌, ap, subst, arith, lit<, append_assoc, length-append}
use Rattle.std.specs.Fmt.{decimal}
use Rattle.std.proofs.lemmas.Fmt.{length-decimal-le}
use Rattle.std.proofs.lemmas.List.{append-nil, take-append-drop}
use Rattle.nn_base.specs.DirSets.{has}
use Rattle.nn_base.specs.Paths.{Bytes}
use Rattle.nn_base.specs.declared.sub.Sub.TheVariants.{Current}
use Rattle.nn_base.specs.declared.file_name.FileName.TheVariants.{InProgress}
use Rattle.nn_host.specs.Disk.{Disk, File, Reads, Leaves, LeavesFile}
use Rattle.nn_host.specs.Moments.{Dir, State, IsLawful, disk_at, faults_at}
use Rattle.nn_host.specs.Calls.{Spoke, most_said, next_count}
use Rattle.nn_host.specs.Runs.{Throughout, Unspoken}
use Rattle.nn_host.proofs.RunsLemmas.{out_whole_trans, out_whole_unspoken, out_spoke, silent_after, silent_spoke, spoke_front, said_front, throughout_refl, throughout_both, throughout_trans, throughout_told, throughout_weaker}
use Rattle.nn_host.proofs.WorkLemmas.{throughout_said}
use Rattle.nn_marks.specs.declared.version.Version.{Version}
use Rattle.nn_tree.specs.Namespace.{Namespace}
use Rattle.nn_pick.specs.declared.intent.Intent.TheVariants.{Start}
use Rattle.nn_pick.specs.Opening.{Book, Opening, Opens}
use Rattle.nn_kept.specs.Laws.{KeptInto}
use Rattle.nn_script.specs.Lines.{lines_of}
use Rattle.nn_generate.specs.Generated.{script_of}
use Rattle.nn_journal.specs.declared.journal.JournalSet.{JournalSet}
use Rattle.nn_run.specs.Running.{Running}
use Rattle.nn_run.specs.Course.{dirs_of, RunKept}
use Rattle.nn_run.specs.Flights.{OnlySays}
use Rattle.nn_run.specs.Steps.{BetweenLines, is_of_step}
use Rattle.nn_run.proofs.SyncLemmas.{between_same}
use Rattle.nn_whole.specs.Counted.{HasSeen}
use Rattle.nn_whole.specs.Ended.{book_after}
use Rattle.nn_whole.proofs.CountedLemmas.{next_is_counted, live_by_count, none_narrows}
use Rattle.nn_whole.proofs.EndedLemmas.{ended_opens}
use Rattle.nn_fill.specs.Filled.{generated}
use Rattle.nn_fill.specs.Tally.{count_line, tally_of, commands_by, tallied_course}
use Rattle.nn_fill.specs.Tallying.{KeepBooks}
use Rattle.nn_fill.proofs.TallyEndLemmas.{tally_is_said}
use Rattle.nn_core.specs.Events.{HasEnded}
use Rattle.nn_core.specs.Standing.{unsaved, HasIds}
use Rattle.nn_serve.specs.declared.ending.RunEnd.{RunEnd}
use Rattle.nn_serve.specs.declared.ending.RunEnd.TheVariants.{Ended, NoneLeft, Memory, OutFault}
use Rattle.nn_serve.specs.declared.tally.Tally.{Tally}
use Rattle.nn_serve.specs.Ended.{run_status}
use Rattle.nn_serve.specs.Ran.{asked_at, BeginsSoundly, LeavesLast}
use Rattle.nn_serve.specs.Filled.{CameFilled}
use Rattle.nn_serve.specs.Filling.{IsFilling, SaysTally}
use Rattle.nn_serve.proofs.SinceLemmas.{said_of, since_is, since_all, speaks_whole, goes_on, step_counts, none_live}
use Rattle.nn_serve.proofs.FillLemmas.{unseen_base}
use Rattle.nn_serve.proofs.FillOutLemmas.{StaysClosed, never_said, little_then, here_said, here_started, came_by, out_lost, out_starved}

pub tally_short : (commands taken : ℕ) → commands < 2 ^ 64 → taken < 2 ^ 64 → length (count_line commands taken) ≤ most_said
tally_short commands taken one two =
    omega (
      arith,
      length-decimal-le 20 commands (lit< tt) (omega (arith, one)) one,
      length-decimal-le 20 taken (lit< tt) (omega (arith, two)) two,
      length-append (decimal commands) (32 ∷ (codes "ok" ++ 32 ∷ decimal taken)),
      length-append (decimal commands ++ 32 ∷ (codes "ok" ++ 32 ∷ decimal taken)) (codes "\n"),
      length-append (codes "commands" ++ 32 ∷ (decimal commands ++ 32 ∷ (codes "ok" ++ 32 ∷ decimal taken))) (codes "\n"),
    )

module _ {told : Type 0} (at files count : ℕ) (version : Version) (ns : Namespace) (time : ℕ) (journal : JournalSet) (tally : Tally) (old s : State) (filling : IsFilling told at files count version ns time journal (lines_of (script_of files)) tally old s)
    (after : JournalSet) (mid : State) (ids : told → BeginsSoundly old → HasIds journal) where
  module _ {E : Type 0} (result : Result (Unit {0}) E) (ended : HasEnded told count version ns journal after s mid result) where
    ended_sees : HasSeen (has after.live) [] old mid
    ended_sees = next_is_counted (has journal.live) (has after.live) [] old s mid filling.sees (step_counts journal after s mid ended.went.counted)

    book_is : (t : told) (begins : BeginsSoundly old) → unsaved ns ≡ book_after (asked_at at) old.count begins.sound.opened (generated files)
    book_is t begins = ap (λ (r : Running). r.book) (filling.said t begins.sound.opened begins.sound.opens begins.unsaved).1

    keeps : (t : told) (begins : BeginsSoundly old) → KeepBooks (book_after (asked_at at) old.count begins.sound.opened (generated files) ∷ []) old.count (has journal.live) (λ i. true) s mid
    keeps t begins =
        let moments = ended.kept t (ids t begins) (filling.stands t begins) in
        let book = subst (λ (b : Book). Throughout (Unit {0}) s mid (KeptInto (λ _. b ∷ []) count (λ _. is_of_step (has journal.live) s) (λ _. is_of_step (has journal.live) s))) (book_is t begins) moments in
        subst (λ (c : ℕ). Throughout (Unit {0}) s mid (KeptInto (λ _. book_after (asked_at at) old.count begins.sound.opened (generated files) ∷ []) c (λ _. is_of_step (has journal.live) s) (λ _. is_of_step (has journal.live) s))) (sym filling.listed) book

    -- each moment is kept, whatever front of the tally is said then
    tally_kept : (new : State) → (t : told) (begins : BeginsSoundly old) (ahead : ℕ → Bool) → OnlySays (Unit {0}) (tally_of (commands_by (asked_at at) old.count begins.sound.opened (generated files))) mid new
        → RunKept (Unit {0}) (tallied_course (asked_at at) old.count begins.sound.opens.version.ctime begins.sound.opened (generated files) ahead) old new
    tally_kept new t begins ahead says =
        let quiet : Unspoken (Unit {0}) s mid = record { now = ended.went.quiet.now; each = throughout_told (λ (u : Unit {0}). t) ended.went.quiet.each } in
        let rise = throughout_told (λ (u : Unit {0}). t) (throughout_weaker ended.went.left (λ t m is. is.grown)) in
        tally_is_said (asked_at at) begins.sound.opens.version.ctime begins.sound.opened ahead (has journal.live) (λ i. true) (generated files) old s mid new (filling.tallying t begins ahead) quiet rise (keeps t begins) says

    unsaid_kept : (t : told) (begins : BeginsSoundly old) (ahead : ℕ → Bool) → RunKept (Unit {0}) (tallied_course (asked_at at) old.count begins.sound.opens.version.ctime begins.sound.opened (generated files) ahead) old mid
    unsaid_kept t begins ahead = tally_kept mid t begins ahead (throughout_refl (λ u. (refl, 0, sym (append-nil mid.now.said))))

  -- no directory is left
  pub closed_lost : {E : Type 0} (e : E) → HasEnded {E = E} told count version ns journal after s mid (Err e) → CameFilled told at files old mid NoneLeft
  closed_lost e ended =
      let sees = ended_sees (Err e) ended in
      out_lost at files count version ns time journal (lines_of (script_of files)) tally old s filling mid ended.went.quiet (unsaid_kept (Err e) ended) (has after.live) sees (none_live after [] old mid sees.gone (λ j. (ended.failed j).0))

  module _ {E : Type 0} (done : Unit {0}) (ended : HasEnded {E = E} told count version ns journal after s mid (Ok done)) where
    -- there was no memory for the tally
    pub closed_starved : CameFilled told at files old mid Memory
    closed_starved = out_starved at files count version ns time journal (lines_of (script_of files)) tally old s filling mid ended.went.quiet (unsaid_kept (Ok done) ended) (has after.live) (ended_sees (Ok done) ended)

    module _ (new : State) (tally_bytes : Bytes) (bytes_are : tally_bytes ≡ count_line tally.commands tally.taken) where
      -- the tally is that of the commands
      tally_is : (t : told) (opened : Opening) (opens : Opens (dirs_of old) Start opened) → opened.book.saved ≡ None → tally_bytes ≡ tally_of (commands_by (asked_at at) old.count opened (generated files))
      tally_is t opened opens none = let counts = (filling.said t opened opens none).2 in bytes_are ∙ (λ i. count_line (counts.0 i) (counts.1 i))

      says_tally : {T F : Type 0} {result : Result T F} → Spoke told tally_bytes mid new result → (t : told) (opened : Opening) (opens : Opens (dirs_of old) Start opened) → opened.book.saved ≡ None
          → OnlySays (Unit {0}) (tally_of (commands_by (asked_at at) old.count opened (generated files))) mid new
      says_tally spoke t opened opens none =
          subst (λ (x : Bytes). OnlySays (Unit {0}) x mid new) (tally_is t opened opens none) (throughout_told (λ (u : Unit {0}). t) (throughout_weaker (throughout_both (throughout_said spoke) (said_front spoke)) (λ t m is. (is.0, is.1.0, is.1.1))))

      -- behind the opening a front of the tally was said
      behind : {T F : Type 0} {result : Result T F} → Spoke told tally_bytes mid new result → told → Throughout (Unit {0}) s new (λ m. (more : Bytes) × (m.said ≡ s.now.said ++ more))
      behind spoke t = throughout_trans
          (throughout_weaker (throughout_told (λ (u : Unit {0}). t) ended.went.quiet.each) (λ u m out. ([], out.said ∙ sym (append-nil s.now.said))))
          (throughout_weaker (throughout_told (λ (u : Unit {0}). t) (said_front spoke)) (λ u m is. (take is.0 tally_bytes, is.1 ∙ ap (λ x. x ++ take is.0 tally_bytes) ended.went.quiet.now.said)))

      -- counts are as they were
      sees_new : {T F : Type 0} {result : Result T F} → Spoke told tally_bytes mid new result → HasSeen (has after.live) [] old new
      sees_new spoke = next_is_counted (has after.live) (has after.live) [] old mid new (ended_sees (Ok done) ended) (λ i. inl (refl, ap (λ (dirs : ℕ → Dir). (dirs i).faults) spoke.dirs))

      live_same : {T F : Type 0} {result : Result T F} → Spoke told tally_bytes mid new result → (i : ℕ) → has after.live i ≡ true → (i < old.count) × (faults_at new i ≡ faults_at old i)
      live_same spoke i e =
          let was = none_narrows (has journal.live) (has after.live) s mid (step_counts journal after s mid ended.went.counted) i e in
          let below : i < old.count = subst (λ (c : ℕ). i < c) (sym filling.listed) (filling.ready.below i was.0) in
          (below, (sees_new spoke).same i below e)

      -- what it leaves, as long as the directories are so
      leaves_last : {F : Type 0} (v : Unit {0}) → Spoke {T = Unit {0}} {E = F} told tally_bytes mid new (Ok v) → IsLawful new → (t : told) (begins : BeginsSoundly old) → LeavesLast (asked_at at) begins.sound.opened (generated files) old new
      leaves_last v spoke lawful t begins =
          let stands = ended.stands t (ids t begins) (filling.stands t begins) in
          let count_is : mid.count ≡ old.count = ended.went.quiet.each.count ∙ filling.ready.listed ∙ sym filling.listed in
          let sees = sees_new spoke in
          let base = λ (i : ℕ). unseen_base old.count (λ j. faults_at old j) (lines_of (script_of files)) i in
          let book = book_is (Ok done) ended t begins in record {
            opens = λ later dirs count law. (
                let there = subst (λ (b : Book). BetweenLines version stands.list old.count (has after.live) (λ i. false) b after.last mid.now) book
                (subst (λ (c : ℕ). BetweenLines version stands.list c (has after.live) (λ i. false) (unsaved ns) after.last mid.now) count_is stands.between) in
                ended_opens (asked_at at) begins.sound.opened (has after.live) (λ i. false) (generated files) version stands.list after.last old later law
                (ap (λ (b : Book). b.saved) (sym book)) (between_same mid.now later.now (dirs ∙ spoke.dirs) there)
                (λ i below room few. live_by_count (has after.live) [] old new sees i below (omega (arith, room, base i))
                (let same : faults_at later i ≡ faults_at new i = ap (λ (d : ℕ → Dir). (d i).faults) dirs in omega (arith, few, same, base i))));
            ended = λ i first below room few ranged. none_reads (disk_at new i) (new.reads i) first (lawful.reads i)
                (subst (λ (d : ℕ → Dir). (d i).disk.file Current (InProgress first) ≡ None) (sym spoke.dirs)
                (ended.ended t (ids t begins) (filling.stands t begins) i (live_by_count (has after.live) [] old new sees i below (omega (arith, room, base i)) (omega (arith, few, base i))) first ranged));
          }
        where
          none_file : (f : Option File) (g : Option (List ℕ)) → LeavesFile f g → f ≡ None → g ≡ None
          none_file None None left e = refl
          none_file None (Some bytes) left e = absurd left
          none_file (Some f) g left e = absurd (cc e)

          none_reads : (d : Disk) (c : Reads) (first : ℕ) → Leaves d c → d.file Current (InProgress first) ≡ None → c.file Current (InProgress first) ≡ None
          none_reads d c first left e = none_file (d.file Current (InProgress first)) (c.file Current (InProgress first)) (left.files Current (InProgress first)) e

      -- before that each directory came to stay as it is
      stays_closed : {T F : Type 0} {result : Result T F} → Spoke told tally_bytes mid new result → (t : told) (opened : Opening) (opens : Opens (dirs_of old) Start opened) → opened.book.saved ≡ None → StaysClosed opened old new new
      stays_closed spoke t opened opens none =
          throughout_trans (never_said old mid opened new (little_then at files count version ns time journal (lines_of (script_of files)) tally old s filling mid ended.went.quiet t opened opens none))
          (throughout_weaker (throughout_told (λ (u : Unit {0}). t) (throughout_said spoke)) (λ u m same long. record { disks = λ j. ap (λ (d : ℕ → Dir). (d j).disk) (same ∙ sym spoke.dirs) }))

      -- it was said
      pub closed_told : {F : Type 0} (v : Unit {0}) → Spoke {T = Unit {0}} {E = F} told tally_bytes mid new (Ok v) → (told → IsLawful new) → CameFilled told at files old new Ended
      closed_told v spoke lawful =
          let said : told → new.now.said ≡ old.now.said ++ (said_of old s ++ tally_bytes) = λ t.
          (spoke.ok t).said ∙ ap (λ x. x ++ tally_bytes) (ended.went.quiet.now.said ∙ here_said at files count version ns time journal (lines_of (script_of files)) tally old s filling t) ∙ append_assoc old.now.said (said_of old s) tally_bytes in
          let out = goes_on old mid new (goes_on old s mid filling.out (out_whole_unspoken ended.went.quiet, ended.went.quiet.now.out_faults)) (out_spoke spoke, spoke.counted_ok) in
          came_by at files count version ns time journal (lines_of (script_of files)) tally old s filling new Ended (said_of old s ++ tally_bytes) (speaks_whole old new (said_of old s ++ tally_bytes) (run_status Ended) refl out said)
          (λ r e. cc e) (λ e. cc e, λ e. cc e) (stays_closed spoke) (behind spoke)
          (λ t opened opens none. (λ i. here_started at files count version ns time journal (lines_of (script_of files)) tally old s filling t opened opens none i ++ tally_is t opened opens none i))
          (λ t begins ahead. tally_kept (Ok done) ended new t begins ahead (says_tally spoke t begins.sound.opened begins.sound.opens begins.unsaved))
          (λ t e begins. leaves_last v spoke (lawful t) t begins)
          (let some = ended.some in let same = live_same spoke some.0 some.1 in (some.0, same.0, same.1))
          (has after.live) (sees_new spoke) (λ t opened opens room same i below few still. inl refl)

      -- the output failed over it
      pub closed_cut : {F : Type 0} (e : F) → Spoke {T = Unit {0}} {E = F} told tally_bytes mid new (Err e) → CameFilled told at files old new OutFault
      closed_cut e spoke =
          let front : told → (n : ℕ) × (new.now.said ≡ old.now.said ++ (said_of old s ++ take n tally_bytes)) = λ t.
          (let it = spoke_front spoke t in (it.0, it.1 ∙ ap (λ x. x ++ take it.0 tally_bytes) (ended.went.quiet.now.said ∙ here_said at files count version ns time journal (lines_of (script_of files)) tally old s filling t) ∙ append_assoc old.now.said (said_of old s) (take it.0 tally_bytes))) in
          let before = out_whole_trans filling.out.0 (out_whole_unspoken ended.went.quiet) in
          let faults : mid.now.out_faults ≡ old.now.out_faults = ended.went.quiet.now.out_faults ∙ filling.out.1 in
          came_by at files count version ns time journal (lines_of (script_of files)) tally old s filling new OutFault (said_of old new) (record {
            said = λ t. since_all old new (said_of old s ++ take (front t).0 tally_bytes) (front t).1;
            counted = spoke.counted_err ∙ ap next_count faults;
            silent = silent_after before (silent_spoke spoke);
            whole = λ e. absurd (cc e);
          })
          (λ r e. cc e) (λ e. cc e, λ e. cc e) (stays_closed spoke) (behind spoke)
          (λ t opened opens none.
          let text = since_is old new (said_of old s ++ take (front t).0 tally_bytes) (front t).1 in
          let start = here_started at files count version ns time journal (lines_of (script_of files)) tally old s filling t opened opens none in (
            drop (front t).0 tally_bytes,
            (λ i. sym start i ++ sym (tally_is t opened opens none) i) ∙ ap (λ x. said_of old s ++ x) (sym (take-append-drop (front t).0 tally_bytes)) ∙ sym (append_assoc (said_of old s) (take (front t).0 tally_bytes) (drop (front t).0 tally_bytes))
                ∙ ap (λ x. x ++ drop (front t).0 tally_bytes) (sym text),
          ))
          (λ t begins ahead. tally_kept (Ok done) ended new t begins ahead (says_tally spoke t begins.sound.opened begins.sound.opens begins.unsaved))
          (λ t e. absurd (cc e)) tt (has after.live) (sees_new spoke)
          (λ t opened opens room same i below few still. absurd (omega (arith, room, same, spoke.counted_err, faults)))

  -- or one of these ended it
  pub closed_by : {E : Type 0} (done : Unit {0}) (ended : HasEnded {E = E} told count version ns journal after s mid (Ok done)) (new : State) (end : RunEnd) → SaysTally told tally mid new (Err end) → CameFilled told at files old new end
  closed_by done ended new end (inl cut) =
      subst (λ (e : RunEnd). CameFilled told at files old new e) (sym cut.0) (closed_cut done ended new (count_line tally.commands tally.taken) refl cut.1.0 cut.1.1)
  closed_by done ended new end (inr starved) =
      subst (λ (e : RunEnd). CameFilled told at files old new e) (sym starved.0) (subst (λ (z : State). CameFilled told at files old z Memory) (sym starved.1) (closed_starved done ended))
