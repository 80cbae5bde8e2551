-- A directory that is taken back in parts, and how the live ones come on beside it.
use Rattle.std.proofs.Common.{◌≡◌, ◌≢◌, inl, inr, ⊎_elim, ℕ, ◌<◌, ◌-◌, ◌^◌, true, false, Result, refl, sym, ◌∙◌, ap, subst, arith}
use Rattle.std.proofs.lemmas.Bool.{cases_eq, cases_Bool}
use Rattle.nn_base.specs.Limits.{program_layout}
use Rattle.nn_base.specs.DirSets.{Members, has}
use Rattle.nn_host.specs.Disk.{Disk}
use Rattle.nn_host.specs.Moments.{Dir, State, disk_at, faults_at}
use Rattle.nn_host.specs.Runs.{Throughout, EachDir}
use Rattle.nn_host.proofs.RunsLemmas.{throughout_refl, throughout_trans, throughout_weaker}
use Rattle.nn_host.proofs.WorkLemmas.{work_weaker}
use Rattle.nn_marks.specs.declared.version.Version.{Version}
use Rattle.nn_tree.specs.Namespace.{Namespace}
use Rattle.nn_segment_file.specs.Log.{Shared}
use Rattle.nn_segment_file.specs.Stages.{Stage, Ended}
use Rattle.nn_journal.specs.declared.journal.JournalSet.{JournalSet}
use Rattle.nn_journal.specs.Places.{Place, Matches, BringsAhead, place_of}
use Rattle.nn_remake.specs.Made.{FreshOrMade, IsMade}
use Rattle.nn_pick.specs.Refusing.{spent_from}
use Rattle.nn_run.specs.Flights.{Flies, Flown}
use Rattle.nn_run.specs.Restoring.{IsAside, StaysBehind, IsMadeAt, Empties, TakesBack}
use Rattle.nn_ckpt.specs.declared.fault.RunFault.{RunFault}
use Rattle.nn_ckpt.specs.Checkpointed.{AreImaged, StayImaged, ComesOn}
use Rattle.nn_ckpt.proofs.ImagedLemmas.{ImagedDisk, imaged_each, each_imaged}
use Rattle.nn_ckpt.proofs.PublishesLemmas.{ended_at}
use Rattle.nn_ckpt.proofs.CheckpointLemmas.{brought_comes, brought_imaged, same_behind}
use Rattle.nn_restore.specs.declared.restoring.Restored.{Restored}
use Rattle.nn_restore.specs.Restored.{HasRestored}
use Rattle.nn_restore.specs.Making.{MakesIn}
use Rattle.nn_restore.proofs.AsideLemmas.{apart_in, aside, same_other}
use Rattle.nn_restore.proofs.MadeLemmas.{made_flies, making_made, made_imaged}

-- ---- where nothing is done

pub stays_refl : (d : Disk) → StaysBehind d d
stays_refl d shared was = was

pub empties_refl : (i : ℕ) (a : State) → Empties i a a
empties_refl i a = throughout_refl (λ u. record { at = λ j. record { own = λ e. subst (λ (x : ℕ). StaysBehind (disk_at a i) (disk_at a x)) (sym e) (stays_refl (disk_at a i)); others = λ ne. refl } })

flown_refl : (version : Version) (list : Shared) (live : Members) (last : ℕ) (a : State) → 0 < last → ((j : ℕ) → has live j ≡ true → Flies version list last last (disk_at a j)) → Flown (Unit {0}) version list (has live) (has live) last last a a
flown_refl version list live last a some flies = record {
  each = throughout_refl (λ u. record { at = λ j. record { flies = flies j; same = λ out. refl } });
  alive = λ j there. there;
  counted = λ j there out. absurd (let apart = sym out ∙ there in cc);
  stand = λ u j there. flies j there;
  most = 0;
  fall = λ u j there out. absurd (let apart = sym out ∙ there in cc);
  below = some;
  onward = omega arith;
}

-- ---- one after the other

-- it is emptied, and then what comes begins
module _ (i : ℕ) {a b : State} (first : Empties i a b) where
  same_first : (j : ℕ) → j ≢ i → b.now.dirs j ≡ a.now.dirs j
  same_first j ne = ((first.ends tt).at j).others ne

  behind_first : StaysBehind (disk_at a i) (disk_at b i)
  behind_first = ((first.ends tt).at i).own refl

  pub empties_then : {c : State} → Empties i b c → Empties i a c
  empties_then second = throughout_trans first (throughout_weaker second (λ u m is. record {
    at = λ j. record {
      own = λ e shared was. (is.at j).own e shared (behind_first shared was);
      others = λ ne. (is.at j).others ne ∙ same_first j ne;
    };
  }))

  pub takes_then : (version : Version) (list : Shared) (live live_after : Members) (last after : ℕ) {c : State} → has live i ≡ false → TakesBack version list i (has live) (has live_after) last after b c → TakesBack version list i (has live) (has live_after) last after a c
  takes_then version list live live_after last after out it = record {
    empty = it.empty;
    ended = it.ended;
    made = it.made;
    rest = it.rest;
    back = it.back;
    id = it.id;
    emptying = empties_then it.emptying;
    ending = it.ending;
    making = it.making;
    with_it = it.with_it;
    is_made = it.is_made;
    beginning = it.beginning;
    counted = λ j there gone room.
        let same = ap (λ (d : Dir). d.faults) (same_first j (apart_in live i j out there)) in
        let rose = it.counted j there gone (omega (arith, room, same)) in
        omega (arith, rose, same);
  }

  pub restored_then : (version : Version) (list : Shared) (journal after : JournalSet) {c : State} (result : Result Restored RunFault) → has journal.live i ≡ false → HasRestored version list i journal after b c result → HasRestored version list i journal after a c result
  unfolding takes_then
  restored_then version list journal after result out it = record {
    comes = ⊎_elim
        (λ no_more. inl (no_more.0, empties_then no_more.1))
        (λ parts. inr (takes_then version list journal.live after.live journal.last after.last out parts.0, parts.1))
        it.comes;
    stands = it.stands;
  }

-- ---- the parts

-- the segment in progress was ended
module _ {told : Type 0} (tells : told) (version : Version) (list : Shared) (ns : Namespace) (i : ℕ) (first ended : JournalSet) {a b : State} (out : has first.live i ≡ false) (stage : Stage) (is : AreImaged version list stage first a) (same : list first.last ≡ ns)
    (brought : BringsAhead told (place_of first) (place_of ended) first.holders first.live ended.live a b) (rose : first.last < ended.last) (going : ended.going ≡ false) where
  ending : ComesOn version list first ended a b
  ending = brought_comes tells first ended brought version list stage is

  pub ended_stands : StayImaged version list ended b
  ended_stands = brought_imaged tells first ended brought version list stage is

  ended_imaged : AreImaged version list (Ended ended.last) ended b
  ended_imaged = subst (λ (s : Stage). AreImaged version list s ended b) (ended_at version list ended_stands.0 (place_of ended) ended_stands.1.matches going) ended_stands.1

  out_ended : has ended.live i ≡ false
  out_ended = elim (cases_Bool (has ended.live i)) [
    | inl there ↦ absurd (let apart = sym out ∙ ending.alive i there in cc)
    | inr gone ↦ gone
  ]

  at_id : list ended.last ≡ ns
  at_id = same_behind version list stage (place_of first) is.matches ended.last (omega (arith, rose)) ∙ same

  some_id : 0 < ended.last
  some_id = omega (arith, rose)

  -- and that was all
  pub only_ended : FreshOrMade version ended.last ns (disk_at b i) → version.layout ≡ program_layout → ended.last < spent_from → ((j : ℕ) → has first.live j ≡ true → has ended.live j ≡ false → faults_at a j < 2 ^ 64 - 1 → faults_at a j < faults_at b j)
      → TakesBack version list i (has first.live) (has ended.live) first.last ended.last a b
  only_ended fresh layout room counted = record {
    empty = a;
    ended = b;
    made = b;
    rest = has ended.live;
    back = has ended.live;
    id = ended.last;
    emptying = empties_refl i a;
    ending = ending;
    making = throughout_refl (λ u. record {
      at = λ j. record {
        own = λ e. subst (λ (x : ℕ). IsMadeAt version list ended.last (disk_at b x)) (sym e) (making_made version list ended.last layout room (disk_at b i) (subst (λ (n : Namespace). FreshOrMade version ended.last n (disk_at b i)) (sym at_id) fresh));
        others = λ ne. refl;
      };
    });
    with_it = λ j ne. refl;
    is_made = λ there. absurd (let apart = sym out_ended ∙ there in cc);
    beginning = flown_refl version list ended.live ended.last b some_id (λ j there. ending.stand tt j there);
    counted = counted;
  }

  -- it was made, or not, and is taken back if so
  module _ {E : Type 0} (back : JournalSet) {c : State} (result : Result (Unit {0}) E) (makes : MakesIn told version ns i ended back b c result) (layout : version.layout ≡ program_layout) (room : ended.last < spent_from) where
    same_last : back.last ≡ ended.last
    same_last = ap (λ (p : Place). p.last) makes.place

    of_list : (d : Disk) → FreshOrMade version ended.last ns d → FreshOrMade version ended.last (list ended.last) d
    of_list d = subst (λ (n : Namespace). FreshOrMade version ended.last n d) (sym at_id)

    making : Throughout (Unit {0}) b c (EachDir (IsAside i (IsMadeAt version list ended.last) b))
    making = aside (work_weaker makes.any_moment (λ t d fresh. making_made version list ended.last layout room d (of_list d fresh))) tells

    is_made : has back.live i ≡ true → IsMade version ended.last (list ended.last) (disk_at c i)
    is_made there = subst (λ (n : Namespace). IsMade version ended.last n (disk_at c i)) (sym at_id) (makes.made tells there)

    each_back : (j : ℕ) → has back.live j ≡ true → ImagedDisk version list (Ended ended.last) (disk_at c j)
    each_back j there = elim (cases_eq j i) [
      | inl e ↦ subst (λ (x : ℕ). ImagedDisk version list (Ended ended.last) (disk_at c x)) (sym e) (made_imaged version list ended.last layout room (disk_at c i) (is_made (ap (has back.live) (sym e) ∙ there)))
      | inr ne ↦ subst (λ (x : Dir). ImagedDisk version list (Ended ended.last) x.disk) (sym (same_other makes.any_moment j ne)) (imaged_each version list (Ended ended.last) ended b ended_imaged j (sym (makes.others j ne) ∙ there))
    ]

    pub back_imaged : AreImaged version list (Ended ended.last) back c
    back_imaged = each_imaged version list (Ended ended.last) back c (subst (Matches version list (Ended ended.last)) (sym makes.place) ended_imaged.matches) each_back

    taken : (after : JournalSet) (d : State) → Flown (Unit {0}) version list (has back.live) (has after.live) ended.last after.last c d → ((j : ℕ) → has first.live j ≡ true → has after.live j ≡ false → faults_at a j < 2 ^ 64 - 1 → faults_at a j < faults_at d j)
        → TakesBack version list i (has first.live) (has after.live) first.last after.last a d
    taken after d beginning counted = record {
      empty = a;
      ended = b;
      made = c;
      rest = has ended.live;
      back = has back.live;
      id = ended.last;
      emptying = empties_refl i a;
      ending = ending;
      making = making;
      with_it = makes.others;
      is_made = λ there. made_flies version list ended.last layout room (disk_at c i) (is_made there);
      beginning = beginning;
      counted = counted;
    }

    -- there was no memory, and no segment was begun
    pub only_made : ((j : ℕ) → has first.live j ≡ true → has back.live j ≡ false → faults_at a j < 2 ^ 64 - 1 → faults_at a j < faults_at c j) → TakesBack version list i (has first.live) (has back.live) first.last back.last a c
    only_made counted = taken back c (subst (λ (n : ℕ). Flown (Unit {0}) version list (has back.live) (has back.live) ended.last n c c) (sym same_last) (flown_refl version list back.live ended.last c some_id (λ j there. (each_back j there).flies))) counted

    -- the next segment was begun
    module _ (after : JournalSet) {d : State} (begun : BringsAhead told (place_of back) (place_of after) back.holders back.live after.live c d) where
      beginning : Flown (Unit {0}) version list (has back.live) (has after.live) ended.last after.last c d
      beginning = subst (λ (n : ℕ). Flown (Unit {0}) version list (has back.live) (has after.live) n after.last c d) same_last (brought_comes tells back after begun version list (Ended ended.last) back_imaged)

      pub begun_stands : StayImaged version list after d
      begun_stands = brought_imaged tells back after begun version list (Ended ended.last) back_imaged

      all_parts : ((j : ℕ) → has first.live j ≡ true → has after.live j ≡ false → faults_at a j < 2 ^ 64 - 1 → faults_at a j < faults_at d j) → TakesBack version list i (has first.live) (has after.live) first.last after.last a d
      all_parts counted = taken after d beginning counted

      pub parts_onward : ((j : ℕ) → has first.live j ≡ true → has after.live j ≡ false → faults_at a j < 2 ^ 64 - 1 → faults_at a j < faults_at d j) → ended.last < after.last
          → (it : TakesBack version list i (has first.live) (has after.live) first.last after.last a d) × (it.id < after.last)
      unfolding all_parts taken
      parts_onward counted up = (all_parts counted, up)
