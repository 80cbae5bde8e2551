-- Something was done in each live directory, and then those in which a call failed were dropped.
use Rattle.std.proofs.Common.{◌≡◌, inl, inr, ⊎_elim, ℕ, ◌<◌, ◌-◌, ◌^◌, ◌&&◌, not, Bool, true, false, if◌then◌else◌, max, refl, sym, ◌∙◌, ap, subst, arith}
use Rattle.std.proofs.lemmas.Bool.{and_parts, cases_Bool}
use Rattle.nn_base.specs.DirSets.{Members, has}
use Rattle.nn_host.specs.Disk.{Disk, Reads}
use Rattle.nn_host.specs.Moments.{Dir, State, disk_at, faults_at}
use Rattle.nn_host.specs.Calls.{next_count}
use Rattle.nn_host.specs.Runs.{Throughout, EachDir}
use Rattle.nn_host.proofs.RunsLemmas.{throughout_told, throughout_trans, throughout_weaker}
use Rattle.nn_marks.specs.declared.version.Version.{Version}
use Rattle.nn_segment_file.specs.Log.{Shared, Beside, IsOfLog}
use Rattle.nn_segment_file.specs.Stages.{Stage, base_of, last_of}
use Rattle.nn_segment_file.proofs.BesideLemmas.{beside_refl}
use Rattle.nn_journal.specs.declared.journal.JournalSet.{JournalSet}
use Rattle.nn_journal.specs.Places.{Matches, HasCome, Went, place_of}
use Rattle.nn_journal.specs.Rolling.{DropsAhead}
use Rattle.nn_journal.proofs.BringsLemmas.{went_both}
use Rattle.nn_run.specs.Flights.{Flies, FliesAt, Flown}
use Rattle.nn_ckpt.specs.Each.{IsDoing, DoneEach, DropsFailed}
use Rattle.nn_ckpt.specs.Checkpointed.{AreImaged, StayImaged, ComesOn, HasGoneOn}
use Rattle.nn_ckpt.proofs.FlownLemmas.{flies_wider}
use Rattle.nn_ckpt.proofs.ImagedLemmas.{ImagedDisk, AllImaged, last_matches, each_imaged, come_flown, come_beside, come_imaged}

-- an answer without a fault is none
pub none_is : false ≡ true → ⊥
none_is e = cc

-- ---- whatever they held

module _ {told : Type 0} {P : Reads → Disk → Disk → Type 0} {live failed : Members} {old mid : State} (done : DoneEach told P live failed old mid) where
  counted_whole : (j : ℕ) → has failed j ≡ false → faults_at mid j ≡ faults_at old j
  counted_whole j whole = done.counted j ∙ ap (λ (x : Bool). if x then next_count (faults_at old j) else faults_at old j) whole

  counted_failed : (j : ℕ) → has failed j ≡ true → faults_at mid j ≡ next_count (faults_at old j)
  counted_failed j fails = done.counted j ∙ ap (λ (x : Bool). if x then next_count (faults_at old j) else faults_at old j) fails

  -- in none a call failed
  went_whole : ((j : ℕ) → has failed j ≡ false) → Went told live live old mid
  went_whole none = record { counted = λ j. inl (record { same_live = refl; faults = counted_whole j (none j) }); left = done.left; quiet = done.quiet }

  module _ {rest : Members} (without : (j : ℕ) → has rest j ≡ (has live j && not (has failed j))) where
    rest_live : (j : ℕ) → has rest j ≡ true → has live j ≡ true
    rest_live j there = (and_parts (has live j) (not (has failed j)) (sym (without j) ∙ there)).0

    rest_whole : (j : ℕ) → has rest j ≡ true → has failed j ≡ false
    rest_whole j there = elim (cases_Bool (has failed j)) [
      | inl fails ↦ absurd (let apart = sym (and_parts (has live j) (not (has failed j)) (sym (without j) ∙ there)).1 ∙ ap not fails in cc)
      | inr whole ↦ whole
    ]

    same_rest : (j : ℕ) → has failed j ≡ false → has rest j ≡ has live j
    same_rest j whole = without j ∙ (λ k. has live j && not (whole k)) ∙ and_true (has live j)
      where
        and_true : (x : Bool) → (x && true) ≡ x
        and_true true = refl
        and_true false = refl

    gone_rest : (j : ℕ) → has failed j ≡ true → has rest j ≡ false
    gone_rest j fails = elim (cases_Bool (has rest j)) [
      | inl there ↦ absurd (let apart = sym fails ∙ rest_whole j there in cc)
      | inr gone ↦ gone
    ]

    went_rest : Went told live rest old mid
    went_rest = record {
      counted = λ j. elim (cases_Bool (has failed j)) [
        | inl fails ↦ inr (record { was_among = done.among j fails; not_live = gone_rest j fails; faults = counted_failed j fails })
        | inr whole ↦ inl (record { same_live = same_rest j whole; faults = counted_whole j whole })
      ];
      left = done.left;
      quiet = done.quiet;
    }
    -- those that failed are no longer live

-- those that failed are no longer live
pub went_dropped : {told : Type 0} {P : Reads → Disk → Disk → Type 0} {journal after : JournalSet} {failed : Members} {old mid new : State} → DoneEach told P journal.live failed old mid → DropsFailed told failed journal after mid new → Went told journal.live after.live old new
went_dropped {told} {P} {journal} {after} {failed} {old} {mid} {new} done drops = ⊎_elim
    (λ none. subst (λ (j : JournalSet). Went told journal.live j.live old new) (sym none.1) (subst (λ (s : State). Went told journal.live journal.live old s) (sym none.2) (went_whole done none.0)))
    (λ some. went_both (went_rest done some.1.without) some.1.went)
    drops

-- ---- where they stood at a stage, and stood there at each moment of it

counted_above : (n : ℕ) → n < 2 ^ 64 - 1 → n < next_count n
counted_above n room = omega (arith, room)

module _ {told : Type 0} (tells : told) {P : Reads → Disk → Disk → Type 0} {live failed : Members} {old mid : State} (done : DoneEach told P live failed old mid) (version : Version) (list : Shared) (stage : Stage) (keeps : (j : ℕ) → has live j ≡ true → (d : Disk) → P (old.reads j) (disk_at old j) d → ImagedDisk version list stage d) where
  abbrev last : ℕ
  last = last_of stage

  pub all_mid : AllImaged version list stage live mid
  all_mid j is_live = keeps j is_live (disk_at mid j) (((done.any_moment.ends tells).at j).doing is_live)

  flies_at : (j : ℕ) (dir : Dir) → IsDoing P live old j dir → FliesAt version list (has live) last last old j dir
  flies_at j dir is = record { flies = λ is_live. (keeps j is_live dir.disk (is.doing is_live)).flies; same = is.same }

  each_mid : Throughout (Unit {0}) old mid (EachDir (FliesAt version list (has live) last last old))
  each_mid = throughout_told (λ u. tells) (throughout_weaker done.any_moment (λ t m is. record { at = λ j. flies_at j (m.dirs j) (is.at j) }))

  -- none was dropped
  flown_whole : 0 < last → Flown (Unit {0}) version list (has live) (has live) last last old mid
  flown_whole some = record {
    each = each_mid;
    alive = λ j is_live. is_live;
    counted = λ j is_live gone room. absurd (let apart = sym gone ∙ is_live in cc);
    stand = λ u j is_live. (all_mid j is_live).flies;
    most = 0;
    fall = λ u j is_live gone. absurd (let apart = sym gone ∙ is_live in cc);
    below = some;
    onward = omega arith;
  }

  -- those that failed were dropped, and the rest went on
  module _ {rest : Members} (without : (j : ℕ) → has rest j ≡ (has live j && not (has failed j))) (live_after : Members) (after : ℕ) (new : State) (rose : last < after) (flown : Flown (Unit {0}) version list (has rest) (has live_after) last after mid new) where
    untouched : (j : ℕ) (dir : Dir) → FliesAt version list (has rest) last after mid j dir → FliesAt version list (has live) last after old j dir
    untouched j dir is = record {
      flies = λ is_live. elim (cases_Bool (has rest j)) [
        | inl there ↦ is.flies there
        | inr gone ↦ subst (λ (x : Dir). Flies version list last after x.disk) (sym (is.same gone)) (flies_wider version list last last last after (disk_at mid j) (omega arith) (omega (arith, rose)) (all_mid j is_live).flies)
      ];
      same = λ none. is.same (out j none) ∙ ((done.any_moment.ends tells).at j).same none;
    }
      where
        out : (x : ℕ) → has live x ≡ false → has rest x ≡ false
        out x none = without x ∙ ap (λ (y : Bool). y && not (has failed x)) none

    -- one that was dropped without a call
    failed_of : (j : ℕ) → has live j ≡ true → has rest j ≡ false → has failed j ≡ true
    failed_of j is_live gone = elim (cases_Bool (has failed j)) [
      | inl fails ↦ fails
      | inr whole ↦ absurd (let apart = sym gone ∙ same_rest done without j whole ∙ is_live in cc)
    ]

    still_there : (j : ℕ) → has rest j ≡ false → new.now.dirs j ≡ mid.now.dirs j
    still_there j gone = ((flown.each.ends tt).at j).same gone

    flown_rest : Flown (Unit {0}) version list (has live) (has live_after) last after old new
    flown_rest = record {
      each = throughout_trans (throughout_weaker each_mid (λ t m is. record { at = λ j. record { flies = λ is_live. flies_wider version list last last last after (m.dirs j).disk (omega arith) (omega (arith, rose)) ((is.at j).flies is_live); same = (is.at j).same } }))
          (throughout_weaker flown.each (λ t m is. record { at = λ j. untouched j (m.dirs j) (is.at j) }));
      alive = λ j there. rest_live done without j (flown.alive j there);
      counted = λ j is_live gone room. elim (cases_Bool (has rest j)) [
        | inl there ↦ (let same = counted_whole done j (rest_whole done without j there) in omega (arith, same, flown.counted j there gone (omega (arith, same, room))))
        | inr dropped ↦ (let rises = counted_failed done j (failed_of j is_live dropped) in let same = ap (λ (d : Dir). d.faults) (still_there j dropped) in omega (arith, same, rises, counted_above (faults_at old j) room))
      ];
      stand = flown.stand;
      most = max last flown.most;
      fall = λ u j is_live gone. elim (cases_Bool (has rest j)) [
        | inl there ↦ flies_wider version list last flown.most last (max last flown.most) (disk_at new j) (omega arith) (omega arith) (flown.fall tt j there gone)
        | inr dropped ↦ subst (λ (x : Dir). Flies version list last (max last flown.most) x.disk) (sym (still_there j dropped)) (flies_wider version list last last last (max last flown.most) (disk_at mid j) (omega arith) (omega arith) (all_mid j is_live).flies)
      ];
      below = omega (arith, rose, flown.below);
      onward = omega (arith, rose);
    }

-- they were dropped from a journal
module _ {told : Type 0} (tells : told) {P : Reads → Disk → Disk → Type 0} (journal after : JournalSet) {failed : Members} {old mid new : State} (done : DoneEach told P journal.live failed old mid) (drops : DropsFailed told failed journal after mid new)
    (version : Version) (list : Shared) (stage : Stage) (matches : Matches version list stage (place_of journal)) (keeps : (j : ℕ) → has journal.live j ≡ true → (d : Disk) → P (old.reads j) (disk_at old j) d → ImagedDisk version list stage d) where
  at_last : journal.last ≡ last_of stage
  at_last = last_matches version list stage (place_of journal) matches

  -- what is said of where the journal was, and what of where it is then
  unchanged : (Q : JournalSet → State → Type 0) → (after ≡ journal) × (new ≡ mid) → Q journal mid → Q after new
  unchanged Q same it = subst (λ (x : JournalSet). Q x new) (sym same.0) (subst (λ (s : State). Q journal s) (sym same.1) it)

  stays : 0 < journal.last → ComesOn version list journal journal old mid
  stays some = subst (λ (n : ℕ). Flown (Unit {0}) version list (has journal.live) (has journal.live) n n old mid) (sym at_last) (flown_whole tells done version list stage keeps (omega (arith, some, at_last)))

  module _ (rose : journal.last < after.last) (p : DropsAhead told failed (place_of journal) (place_of after) journal.holders journal.live after.live mid new) where
    rest_mid : AllImaged version list stage p.rest mid
    rest_mid j there = all_mid tells done version list stage keeps j (rest_live done p.without j there)

    ahead : (below : ℕ) × (below < after.last) × HasCome told version list stage (place_of after) below journal.holders p.rest after.live mid new
    ahead = p.ahead version list stage matches (λ t j there. (rest_mid j there).stands)

    to_last : after.last ≡ last_of ahead.2.to
    to_last = last_matches version list ahead.2.to (place_of after) ahead.2.matches

    flown : Flown (Unit {0}) version list (has p.rest) (has after.live) (last_of stage) (last_of ahead.2.to) mid new
    flown = come_flown tells version list stage (place_of after) ahead.0 journal.holders p.rest after.live mid new ahead.2 ahead.1 rest_mid

    moved : ComesOn version list journal after old new
    moved = subst (λ (n : ℕ). Flown (Unit {0}) version list (has journal.live) (has after.live) n after.last old new) (sym at_last)
        (subst (λ (n : ℕ). Flown (Unit {0}) version list (has journal.live) (has after.live) (last_of stage) n old new) (sym to_last)
        (flown_rest tells done version list stage keeps p.without after.live (last_of ahead.2.to) new (omega (arith, rose, at_last, to_last)) flown))

    moved_imaged : AreImaged version list ahead.2.to after new
    moved_imaged = each_imaged version list ahead.2.to after new ahead.2.matches (come_imaged tells version list stage (place_of after) ahead.0 journal.holders p.rest after.live mid new ahead.2 ahead.1 rest_mid)

  pub gone_on : HasGoneOn version list journal after old new
  gone_on = ⊎_elim
      (λ none. record {
        comes = λ some. unchanged (λ x s. ComesOn version list journal x old s) (none.1, none.2) (stays some);
        stands = unchanged (λ x s. StayImaged version list x s) (none.1, none.2) (stage, each_imaged version list stage journal mid matches (all_mid tells done version list stage keeps));
      })
      (λ some. record { comes = λ any. moved some.0 some.1; stands = ((ahead some.0 some.1).2.to, moved_imaged some.0 some.1) })
      drops

  -- in one that is live then no call has failed, and nothing but the log was written to since
  pub dropped_beside : (j : ℕ) → has after.live j ≡ true → (has journal.live j ≡ true) × (has failed j ≡ false) × Beside (IsOfLog (base_of stage)) (disk_at mid j) (disk_at new j)
  dropped_beside j there = ⊎_elim
      (λ none. unchanged (λ x s. has x.live j ≡ true → (has journal.live j ≡ true) × (has failed j ≡ false) × Beside (IsOfLog (base_of stage)) (disk_at mid j) (disk_at s j)) (none.1, none.2) (λ live. (live, none.0 j, beside_refl (disk_at mid j))) there)
      (λ some.
      let it = (flown some.0 some.1).alive j there in (
        rest_live done some.1.without j it,
        rest_whole done some.1.without j it,
        come_beside tells version list stage (place_of after) (ahead some.0 some.1).0 journal.holders some.1.rest after.live mid new (ahead some.0 some.1).2 (ahead some.0 some.1).1 (rest_mid some.0 some.1) j there,
      ))
      drops
