-- What a start leaves: what is to hold as a run begins.
use Rattle.std.proofs.Common.{◌≡◌, inl, inr, ℕ, ◌+◌, ◌<◌, ◌^◌, Bool, false, List, [], None, refl, sym, ap, subst, arith}
use Rattle.std.proofs.lemmas.Bool.{and_parts}
use Rattle.nn_base.specs.DirSets.{has}
use Rattle.nn_base.specs.Paths.{Bytes}
use Rattle.nn_host.specs.Moments.{State, faults_at}
use Rattle.nn_host.specs.Runs.{Unspoken, SameCounts}
use Rattle.nn_host.proofs.RunsLemmas.{throughout_told}
use Rattle.nn_marks.specs.declared.version.Version.{Version}
use Rattle.nn_state.specs.declared.typed.Settled.{Settled}
use Rattle.nn_tree.specs.Namespace.{Namespace}
use Rattle.nn_journal.specs.declared.journal.JournalSet.{JournalSet}
use Rattle.nn_pick.specs.declared.intent.Intent.TheVariants.{Start}
use Rattle.nn_pick.specs.Refusing.{spent_from}
use Rattle.nn_pick.specs.Opening.{Opening, Opens}
use Rattle.nn_pick.proofs.OneOpeningLemmas.{one_opens}
use Rattle.nn_kept.specs.Kept.{Shared}
use Rattle.nn_choose.specs.Picking.{Chooses}
use Rattle.nn_start.specs.Entry.{CountChosen}
use Rattle.nn_begin.specs.Begun.{IsNewJournal, first_stage}
use Rattle.nn_begin.specs.Started.{Starts, StartsFrom, HasStarted, StartsKept}
use Rattle.nn_begin.proofs.StandLemmas.{between_unsaved}
use Rattle.nn_run.specs.Window.{is_of_run, is_held, is_unfailed}
use Rattle.nn_run.specs.Course.{dirs_of}
use Rattle.nn_run.specs.Loop.{KeptSoFar}
use Rattle.nn_run.specs.Steps.{BetweenLines}
use Rattle.nn_whole.specs.Opened.{shared_of}
use Rattle.nn_whole.proofs.OpenedLemmas.{shared_at_first, start_is_of_run}
use Rattle.nn_core.specs.Standing.{unsaved, Stands}
use Rattle.nn_serve.specs.Ran.{asked_at, BeginsSoundly}
use Rattle.nn_base.specs.Limits.{most_script}
use Rattle.nn_base.proofs.DirSetLemmas.{at_most_eight}
use Rattle.nn_serve.specs.Serving.{HasBegun, HasRoom}

-- ---- each moment of a start

-- what sound directories share at first
abbrev shared_at : (old : State) → BeginsSoundly old → Shared
shared_at old begins = shared_of (dirs_of old) Start begins.sound

starts_from : (old : State) (begins : BeginsSoundly old) → StartsFrom (shared_at old begins) (dirs_of old) begins.sound
starts_from old begins = record { first = shared_at_first (dirs_of old) Start begins.sound; steady = λ n low. refl }

pub quiet_too : {told : Type 0} (a b : State) → Unspoken told a b → told → Unspoken (Unit {0}) a b
quiet_too a b quiet t = record { now = quiet.now; each = throughout_told (λ (u : Unit {0}). t) quiet.each }

pub start_kept : {told : Type 0} (at : ℕ) (old s : State) → StartsKept told old s → Unspoken told old s → told → (begins : BeginsSoundly old) (ahead : ℕ → Bool) (rest : List Bytes)
    → KeptSoFar (asked_at at) begins.sound.opens.version.ctime begins.sound.opened ahead [] rest old s
start_kept at old s kept quiet t begins ahead rest =
    let chosen = begins.sound.opened.chosen in
    let count : CountChosen (dirs_of old) begins.sound.opened.book (is_of_run chosen false (λ j. faults_at old j)) (is_held ahead chosen false old) = record {
      of_run = λ i d e. (begins.sound.opens.chosen i).1 (and_parts (chosen i) (is_unfailed old i d) e).0;
      led = λ i d e. ((begins.sound.opens.chosen i).1 (and_parts (chosen i) (is_unfailed old i d) (and_parts (ahead i) (is_of_run chosen false (λ j. faults_at old j) i d) e).1).0, inr begins.unsaved);
    } in
    let through = kept begins.sound (shared_at old begins) (is_of_run chosen false (λ j. faults_at old j)) (is_held ahead chosen false old) (starts_from old begins) (let few = begins.room in omega (arith, few)) count (λ i d e. inl begins.unsaved) in
    start_is_of_run (asked_at at) begins.sound.opens.version.ctime begins.sound.opened ahead rest old s (omega arith) (quiet_too old s quiet t) (throughout_told (λ (u : Unit {0}). t) through)

-- ---- a start that was answered

module _ {told : Type 0} (at : ℕ) (old s : State) (ns : Namespace) (last : ℕ) (version : Version) (states : List Settled) (journal : JournalSet)
    (ok : told → (chosen : ℕ → Bool) × Chooses (dirs_of old) Start ns last version chosen) (ready : IsNewJournal old.count last journal)
    (started : told → Starts (dirs_of old) (λ shared. HasStarted old shared version last ns states journal s)) (kept : StartsKept told old s) (quiet : Unspoken told old s) (same : SameCounts old s) (room : last < 2 ^ 62) where
  -- it opened what it chose
  opened_so : told → (opened : Opening) → Opens (dirs_of old) Start opened → (opened.book.ns ≡ ns) × (opened.last ≡ last)
  opened_so t opened opens =
      let chose = (ok t).1 in
      let other : Opens (dirs_of old) Start (record { chosen = (ok t).0; last = last; book = record { ns = ns; saved = opened.book.saved } }) = record {
        unrefused = chose.unrefused;
        chosen = chose.greatest;
        version = version;
        end = record { last = last; ns = ns };
        first = chose.first;
        last = refl;
        namespace = refl;
        saved = opens.saved;
      } in
      let one = one_opens (dirs_of old) Start Start opened (record { chosen = (ok t).0; last = last; book = record { ns = ns; saved = opened.book.saved } }) opens other in
      (ap (λ (o : Opening). o.book.ns) one, ap (λ (o : Opening). o.last) one)

  book_so : told → (opened : Opening) → Opens (dirs_of old) Start opened → opened.book.saved ≡ None → opened.book ≡ unsaved ns
  book_so t opened opens none = let ns_is = (opened_so t opened opens).0 in λ k. record { ns = ns_is k; saved = none k }

  begun_stands : told → BeginsSoundly old → Stands version journal ns s
  begun_stands t begins =
      let it = started t begins.sound (shared_at old begins) (starts_from old begins) in
      let list = (shared_at old begins).ns version.ctime in
      let few : last + 1 < spent_from = (let high = begins.room in omega (arith, high, (opened_so t begins.sound.opened begins.sound.opens).1)) in record {
        list = list;
        stage = first_stage last;
        matches = it.begun.matches;
        disks = it.begun.stand;
        alone = it.begun.alone;
        images = λ j e.
            let is = it.begun.each j (let below = ready.below j e in let count = quiet.each.count in omega (arith, below, count)) in
            let next = ready.last_id in
            record { id = last; whole = is.whole; low = omega (arith, next); later = is.later };
        between = subst (λ (n : ℕ). BetweenLines version list s.count (has journal.live) (λ i. false) (unsaved ns) n s.now) (sym ready.last_id) (between_unsaved (shared_at old begins) version last ns states journal s it.begun begins.unsaved few);
      }

  pub begun : HasBegun told at old.count version ns journal last old s
  begun = record {
    listed = refl;
    ready = record { listed = quiet.each.count; below = ready.below; going = ready.going; empty = ready.empty; fit = ready.fit };
    all = ready.listed;
    counts = same;
    quiet = quiet;
    room = room;
    last_id = ready.last_id;
    opens = λ t opened opens none. (book_so t opened opens none, (opened_so t opened opens).1);
    unrefused = λ t refusal refuses. (ok t).1.unrefused refusal refuses.applies;
    started = λ t begins.
        let it = started t begins.sound (shared_at old begins) (starts_from old begins) in
        (version, (shared_at old begins).ns version.ctime, refl, (λ i below. it.begun.each i (subst (λ k. i < k) (sym quiet.each.count) below)));
    kept = start_kept at old s kept quiet;
    stands = begun_stands;
  }

-- the same, under other names
pub begun_as : {told : Type 0} {at count other : ℕ} {version alike : Version} {ns renamed : Namespace} {journal log : JournalSet} {last : ℕ} {old s : State} → count ≡ other → version ≡ alike → ns ≡ renamed → journal ≡ log → HasBegun told at count version ns journal last old s → HasBegun told at other alike renamed log last old s
begun_as {told} {at} {other = other} {version = version} {alike = alike} {ns = ns} {renamed = renamed} {journal = journal} {last = last} {old} {s} same_count same_version same_ns same_journal is =
    subst (λ (j : JournalSet). HasBegun told at other alike renamed j last old s) same_journal
    (subst (λ (n : Namespace). HasBegun told at other alike n journal last old s) same_ns (subst (λ (v : Version). HasBegun told at other v ns journal last old s) same_version (subst (λ (k : ℕ). HasBegun told at k version ns journal last old s) same_count is)))

-- there are ids for a whole script
pub begun_room : {told : Type 0} {at count : ℕ} {version : Version} {ns : Namespace} {journal : JournalSet} {last : ℕ} {old s : State} → HasBegun told at count version ns journal last old s → HasRoom told old journal most_script
begun_room {journal = journal} it = record {
  ids = omega (arith, it.room, it.last_id, at_most_eight journal.live);
  few = λ tells begins. (let high = begins.room in let same = (it.opens tells begins.sound.opened begins.sound.opens begins.unsaved).1 in omega (arith, high, same, it.last_id, at_most_eight journal.live));
}
