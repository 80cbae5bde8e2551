-- A journal is begun over directories that rest at the floor: what each moment has, who is live, and how they stand then.
use Rattle.std.proofs.Common.{◌≡◌, ◌≢◌, ◌⊎◌, inl, inr, ⊎_elim, ℕ, ◌+◌, ◌*◌, ◌<◌, ◌≤◌, Bool, true, false, List, Option, Some, None, refl, sym, ◌∙◌, ap, subst, arith, true≢false, lt-ltb, ltb-true, nat_lt}
use Rattle.std.specs.Prelude.{is_some}
use Rattle.nn_base.specs.DirSets.{Members, has, count_of}
use Rattle.nn_base.proofs.DirSetLemmas.{same_members, at_most_eight}
use Rattle.nn_host.specs.Moments.{Dir, State, disk_at, faults_at}
use Rattle.nn_host.specs.Calls.{next_count}
use Rattle.nn_host.specs.Runs.{Throughout, SameCounts}
use Rattle.nn_host.proofs.RunsLemmas.{throughout_refl, throughout_both, throughout_weaker}
use Rattle.nn_marks.specs.declared.version.Version.{Version}
use Rattle.nn_state.specs.declared.typed.Settled.{Settled}
use Rattle.nn_state.specs.Bays.{AreSettled}
use Rattle.nn_state.specs.Seat.{saved}
use Rattle.nn_tree.specs.Namespace.{Namespace}
use Rattle.nn_record.specs.declared.transaction.Record.{Record}
use Rattle.nn_segment.specs.Segment.{header}
use Rattle.nn_segment_file.specs.Stages.{Stage, Ended, Going, last_of}
use Rattle.nn_journal.specs.declared.journal.JournalSet.{JournalSet}
use Rattle.nn_journal.specs.Among.{AllAt, AllAlone}
use Rattle.nn_journal.specs.Places.{Place, IsMarked, Matches, HasCome, BringsAhead, Went, place_of}
use Rattle.nn_journal.proofs.CarriedLemmas.{carried_alone}
use Rattle.nn_journal.proofs.JournalLemmas.{only_mark}
use Rattle.nn_pick.specs.Refusing.{spent_from}
use Rattle.nn_kept.specs.Kept.{Shared}
use Rattle.nn_kept.specs.Laws.{KeptInto}
use Rattle.nn_start.specs.Entry.{SettledFitNow}
use Rattle.nn_start.proofs.PhaseLemmas.{ends_kept}
use Rattle.nn_start.proofs.PublishLemmas.{fits_by_seven}
use Rattle.nn_start.proofs.KeepLemmas.{log_young, young_seven}
use Rattle.nn_begin.specs.Begun.{AreAtRest, LeadersHold, BeginsKept, IsBegun, OnlyLogged, first_stage}
use Rattle.nn_begin.proofs.AfterLemmas.{each_started, still_saved, between_now}
use Rattle.nn_begin.proofs.MomentLemmas.{HoldPrevious, normal_saves, unsaved_kept, saved_kept}

none_or : {A : Type 0} (o : Option A) → (o ≡ None) ⊎ (o ≢ None)
none_or None = inl refl
none_or (Some x) = inr (λ e. cc)

-- ---- the stage of a journal that was begun

last_matches : (version : Version) (list : ℕ → Namespace) (to : Stage) (place : Place) → Matches version list to place → place.last ≡ last_of to
last_matches version list (Ended end) place is = is.last
last_matches version list (Going base kept) place is = omega (arith, is.last)

-- a segment in progress from the next id on, whose first id is the last one, has its mark alone
begun_stage : (version : Version) (list : ℕ → Namespace) (id : ℕ) (place : Place) → place.going ≡ true → place.first ≡ id + 1 → place.first ≡ place.last → (to : Stage) → Matches version list to place → IsMarked to → to ≡ first_stage id
begun_stage version list id place on first begins (Ended end) matches marked = absurd (true≢false (sym on ∙ matches.going))
begun_stage version list id place on first begins (Going base kept) matches marked =
    let same : base ≡ id = (let it = matches.first in omega (arith, it, first)) in
    ap (λ (rs : List Record). Going base rs) (only_mark matches marked begins) ∙ ap (λ (n : ℕ). first_stage n) same

-- ---- which directories are live

-- the first ones are all of them
pub listed_all : {live0 live : Members} {n count : ℕ} → live0 ≡ live → ((j : ℕ) → has live j ≡ nat_lt j n) → n ≡ count → (j : ℕ) → has live0 j ≡ nat_lt j count
listed_all same first is j = ap (λ (set : Members). has set j) same ∙ first j ∙ ap (λ (k : ℕ). nat_lt j k) is

pub listed_below : {live : Members} {count : ℕ} → ((j : ℕ) → has live j ≡ nat_lt j count) → (j : ℕ) → has live j ≡ true → j < count
listed_below {live} {count} all j is = ltb-true j count (sym (all j) ∙ is)

pub listed_live : {live : Members} {count : ℕ} → ((j : ℕ) → has live j ≡ nat_lt j count) → (j : ℕ) → j < count → has live j ≡ true
listed_live {live} {count} all j below = all j ∙ lt-ltb j count below

module _ {told : Type 0} {live0 live : Members} {a b : State} (went : Went told live0 live a b) (all : (j : ℕ) → has live0 j ≡ nat_lt j a.count) where
  pub still_live : ((i : ℕ) → i < a.count → has live i ≡ true) → live ≡ live0
  still_live listed = same_members live live0 (λ j. ⊎_elim (λ stays. stays.same_live) (λ dropped. absurd (true≢false (sym (listed j (listed_below all j dropped.was_among)) ∙ dropped.not_live))) (went.counted j))

  pub none_rose : ((i : ℕ) → i < a.count → has live i ≡ true) → SameCounts a b
  none_rose listed = record { faults = λ j. ⊎_elim (λ stays. stays.faults) (λ dropped. absurd (true≢false (sym (listed j (listed_below all j dropped.was_among)) ∙ dropped.not_live))) (went.counted j) }

  pub one_rose : (i : ℕ) → i < a.count → has live i ≡ false → faults_at b i ≡ next_count (faults_at a i)
  one_rose i below not_live = ⊎_elim (λ stays. absurd (true≢false (sym (listed_live all i below) ∙ sym stays.same_live ∙ not_live))) (λ dropped. dropped.faults) (went.counted i)

-- ---- where nothing was done

pub none_begun : {told : Type 0} {version : Version} {id : ℕ} {a : State} → BeginsKept told version id a a
none_begun {told} {version} {id} {a} shared ns run leaders rest few hold = throughout_refl (λ tells. (
  shared,
  λ book b. b,
  record {
    at = λ j below.
        ends_kept shared version id ns (rest tells).aim (is_some (saved (disk_at a j))) (run j (a.now.dirs j)) (leaders j (a.now.dirs j)) (disk_at a j) ((rest tells).each j below).brought.stands.ends
        (λ e. ⊎_elim (λ none. inr none) (λ it. inl it.0) (hold tells j (a.now.dirs j) e));
  },
))

-- ---- all of them

module _ {told : Type 0} {version : Version} {id : ℕ} {before after : Place} {holders live0 live : Members} {a b : State}
    (brings : BringsAhead told before after holders live0 live a b) (went : Went told live0 live a b)
    (going : before.going ≡ false) (head : header version.layout ≡ before.head) (last : before.last ≡ id)
    (ids : after.last + 2 * count_of live ≤ before.last + 2 + 2 * count_of live0)
    (all : (j : ℕ) → has live0 j ≡ nat_lt j a.count) where
  module _ (shared : Shared) (ns : Namespace) (rest : AreAtRest shared version id ns a) where
    pub come : (below : ℕ) × (below < after.last) × HasCome told version (shared.ns version.ctime) (Ended id) after below holders live0 live a b
    come = brings version (shared.ns version.ctime) (Ended id) (record { going = going; head = head; last = last; steady = rest.steady }) (λ tells j live. (rest.each j (listed_below all j live)).rests)

    few : last_of come.2.to < id + 64
    few =
        let it = last_matches version (shared.ns version.ctime) come.2.to after come.2.matches in
        let eight = at_most_eight live0 in
        omega (arith, it, ids, last, eight)

    run_of : id + 64 < spent_from → (told → HoldPrevious holders a) → (run leaders : ℕ → Dir → Bool) → (told → LeadersHold shared version a leaders) → Throughout told a b (KeptInto (λ _. shared.window) a.count (λ _. run) (λ _. leaders))
    run_of ids_left holds run leaders hold = throughout_weaker (throughout_both come.2.carried.any_moment (throughout_both come.2.carried.ahead went.left)) (λ tells m is.
        let room : last_of come.2.to < spent_from = omega (arith, few, ids_left) in
        elim (none_or (shared.saved version.ctime)) [
          | inl none ↦ (shared, λ book b. b, record { at = λ j below. unsaved_kept shared version id ns (last_of come.2.to) a rest room none j below (m.dirs j).disk (run j (m.dirs j)) (leaders j (m.dirs j)) ((is.0.at j).logged (listed_live all j below)) })
          | inr some ↦ saved_kept shared version id ns (last_of come.2.to) a rest room m come.2.to refl (listed_live all) (λ j below. holds tells j below ∙ sym (normal_saves (disk_at a j) (rest.each j below).brought.stands.normal)) is.0.at is.1.0 is.1.1.grown run leaders
              (λ j d e. ⊎_elim (λ none. absurd (some none)) (λ it. it) (hold tells j d e)) come.2.carried.grows
        ])

  pub begins_kept : (told → HoldPrevious holders a) → BeginsKept told version id a b
  begins_kept holds shared ns run leaders rest ids_left hold = record {
    count = went.quiet.each.count;
    later = went.quiet.each.later;
    ends = λ tells. (run_of shared ns (rest tells) (ids_left tells) holds run leaders hold).ends tells;
    each = λ tells. (run_of shared ns (rest tells) (ids_left tells) holds run leaders hold).each tells;
  }

  module _ (shared : Shared) (ns : Namespace) (rest : AreAtRest shared version id ns a) (tells : told) where
    pub only_logged : OnlyLogged id a b
    only_logged j below = ((((come shared ns rest).2.carried.any_moment.ends tells).at j).logged (listed_live all j below)).beside

    -- where none was dropped the segment begins behind this id, with its mark alone
    module _ (on : after.going ≡ true) (first : after.first ≡ id + 1) (begins : after.first ≡ after.last) where
      it : HasCome told version (shared.ns version.ctime) (Ended id) after (come shared ns rest).0 holders live0 live a b
      it = (come shared ns rest).2

      stage_is : it.to ≡ first_stage id
      stage_is = begun_stage version (shared.ns version.ctime) id after on first begins it.to it.matches (it.marked tt)

      matches_now : Matches version (shared.ns version.ctime) (first_stage id) after
      matches_now = subst (λ (to : Stage). Matches version (shared.ns version.ctime) to after) stage_is it.matches

      stand_now : AllAt version (shared.ns version.ctime) (first_stage id) live b
      stand_now = subst (λ (to : Stage). AllAt version (shared.ns version.ctime) to live b) stage_is (it.carried.stands tells)

      alone_now : AllAlone (first_stage id) live b
      alone_now = subst (λ (to : Stage). AllAlone to live b) stage_is (carried_alone it.carried tells (λ j e first ranged none. (rest.each j (listed_below all j e)).clean.ended first))

-- ---- all that a journal leaves that was begun

module _ {told : Type 0} {version : Version} {id : ℕ} {before : Place} {holders live0 : Members} {a b : State} (journal : JournalSet)
    (brings : BringsAhead told before (place_of journal) holders live0 journal.live a b) (went : Went told live0 journal.live a b)
    (going : before.going ≡ false) (head : header version.layout ≡ before.head) (last : before.last ≡ id)
    (ids : journal.last + 2 * count_of journal.live ≤ before.last + 2 + 2 * count_of live0)
    (all : (j : ℕ) → has live0 j ≡ nat_lt j a.count) (shared : Shared) (ns : Namespace) (rest : AreAtRest shared version id ns a) (tells : told)
    (at : List Settled) (are : AreSettled a.count at) (fits : SettledFitNow at a) where
  touched : OnlyLogged id a b
  touched = only_logged brings went going head last ids all shared ns rest tells

  still_fits : SettledFitNow at b
  still_fits k state is = (
      let within = is.within in
      let long = are.all in
      fits_by_seven state (disk_at a k) (disk_at b k) (young_seven id (disk_at a k) (disk_at b k) (log_young id (disk_at a k) (disk_at b k) (touched k (omega (arith, within, long))))) (fits k state is)
      )

  pub begun_all : b.count ≡ a.count → ((i : ℕ) → i < a.count → has journal.live i ≡ true) → journal.going ≡ true → journal.first ≡ id + 1 → journal.first ≡ journal.last → HoldPrevious journal.holders a → IsBegun shared version id ns at journal b
  begun_all count listed on first begins holds =
      let stand = stand_now brings went going head last ids all shared ns rest tells on first begins in
      let alone = alone_now brings went going head last ids all shared ns rest tells on first begins in
      let saves : (i : ℕ) → i < b.count → has journal.holders i ≡ is_some (saved (disk_at b i)) = λ i below. (
      let inside : i < a.count = omega (arith, below, count) in
      holds i inside ∙ sym (normal_saves (disk_at a i) (rest.each i inside).brought.stands.normal) ∙ sym (still_saved shared version id ns a b rest count journal.live listed touched stand i below)
      ) in
      record {
        matches = matches_now brings went going head last ids all shared ns rest tells on first begins;
        stand = stand;
        alone = alone;
        each = each_started shared version id ns a b rest count journal.live listed touched stand alone;
        holders = saves;
        fits = still_fits;
        between = between_now shared version id ns a b rest count journal.live listed touched stand journal.holders saves;
      }
