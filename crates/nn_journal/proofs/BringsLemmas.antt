-- What the journal has in mind after a step, and its live directories with it.
use Rattle.std.proofs.lemmas.Bool.{cases_Bool}
use Rattle.std.proofs.Common.{◌≡◌, inl, inr, ⊎_elim, ℕ, ◌+◌, ◌-◌, ◌<◌, ◌≤◌, Bool, true, false, List, [], ◌∷◌, ◌++◌, length, refl, sym, ◌∙◌, ap, subst, arith, length-append}
use Rattle.nn_base.specs.DirSets.{Members, has}
use Rattle.nn_base.specs.declared.file_name.FileName.TheVariants.{InProgress, Edits}
use Rattle.nn_host.specs.Moments.{State, Moment, Dir, disk_at}
use Rattle.nn_host.proofs.RunsLemmas.{throughout_refl, throughout_trans, throughout_weaker, unspoken_refl, unspoken_trans}
use Rattle.nn_marks.specs.declared.version.Version.{Version}
use Rattle.nn_record.specs.declared.transaction.Record.{Record}
use Rattle.nn_record.specs.Spelling.{spelling, IsRecord}
use Rattle.nn_segment.proofs.RunLemmas.{spelled-nil}
use Rattle.nn_segment_file.specs.Log.{Shared, IsFinalized}
use Rattle.nn_segment_file.specs.Stages.{Stage, Ended, Going, Ends, base_of}
use Rattle.nn_segment_file.specs.declared.step.Step.{Step}
use Rattle.nn_segment_file.specs.declared.step.Step.TheVariants as step
use Rattle.nn_journal.specs.Among.{AllAt, EachCounted, IsLeftAlone, SteppedAll}
use Rattle.nn_journal.specs.Carried.{Carried}
use Rattle.nn_journal.specs.Places.{Place, end_record, start_record, IsInProgress, IsBetween, Matches, HasCome, Brings, BringsLogged, BringsAhead, BringsLoggedAhead, Went, most_unended}
use Rattle.nn_journal.specs.Finalizing.{Finalizes}
use Rattle.nn_journal.specs.Rolling.{HasSettled}
use Rattle.nn_segment_file.proofs.BesideLemmas.{older_not_log}
use Rattle.nn_segment_file.proofs.StageLemmas.{ended_finalized}
use Rattle.nn_journal.proofs.CarriedLemmas.{carried_none, carried_step, carried_both, carried_lower, counted_both, still_live}
use Rattle.nn_journal.proofs.MarkLemmas.{one_spelled, none_logged, end_goes, end_count, start_does, logged_size, write_does}

-- ---- one step

clash : {b : Bool} → b ≡ true → b ≡ false → ⊥
clash t f = let apart = sym t ∙ f in cc

-- what a step makes of what the journal has in mind

pub record Began (old new : Place) : Type 0 where
  pub going : new.going ≡ true
  pub head : new.head ≡ old.head
  pub first : new.first ≡ old.last + 1
  pub last : new.last ≡ old.last + 1
  pub size : new.size ≡ length (old.head ++ spelling (start_record (old.last + 1)))

pub record Finished (old new : Place) : Type 0 where
  pub going : new.going ≡ false
  pub head : new.head ≡ old.head
  pub last : new.last ≡ old.last + 1

pub record Wrote (n : ℕ) (old new : Place) : Type 0 where
  pub going : new.going ≡ old.going
  pub head : new.head ≡ old.head
  pub first : new.first ≡ old.first
  pub last : new.last ≡ old.last
  pub size : new.size ≡ old.size + n

begun : (p0 p1 : Place) (version : Version) (list : Shared) (end : ℕ) → IsBetween version list end p0 → Began p0 p1 → IsInProgress version list p0.last (start_record (p0.last + 1) ∷ []) [] [] p1
begun p0 p1 version list end m placed =
    let r = start_record (p0.last + 1) in
    record {
      going = placed.going;
      head = m.head ∙ sym placed.head;
      first = placed.first;
      last = omega (arith, placed.last);
      some = omega arith;
      size = placed.size ∙ sym (ap length (λ i. m.head i ++ one_spelled r i));
      text = sym spelled-nil;
      ids = tt;
      follows = tt;
      steady = λ n le. m.steady n (omega (arith, le, placed.last, m.last));
    }

-- the records that were logged are kept once they are written
pub wrote_place : (p0 p1 : Place) (bytes : List ℕ) (version : Version) (list : Shared) (base : ℕ) (kept logged : List Record) → IsInProgress version list base kept logged bytes p0 → Wrote (length bytes) p0 p1 → IsInProgress version list base (kept ++ logged) [] [] p1
wrote_place p0 p1 bytes version list base kept logged m placed = record {
  going = placed.going ∙ m.going;
  head = m.head ∙ sym placed.head;
  first = placed.first ∙ m.first;
  last = omega (arith, placed.last, m.last, length-append kept logged);
  some = omega (arith, m.some, length-append kept logged);
  size = placed.size ∙ sym (logged_size version list base kept logged bytes p0 m);
  text = sym spelled-nil;
  ids = tt;
  follows = tt;
  steady = λ n le. m.steady n (omega (arith, le, placed.last));
}

module _ {told : Type 0} {holders live0 live1 : Members} {a b : State} (p0 p1 : Place) where
  pub start_brings : SteppedAll told step.Start (p0.last + 1) (p0.head ++ spelling (start_record (p0.last + 1))) holders live0 live1 a b → IsRecord (start_record (p0.last + 1)) → p0.going ≡ false → Began p0 p1 → Brings told p0 p1 p1.last holders live0 live1 a b
  start_brings stepped is idle placed version list (Going base kept) m start = absurd (clash m.going idle)
  start_brings stepped is idle placed version list (Ended end) m start =
      let from : Carried told version list (Ended p0.last) (Going p0.last (start_record (p0.last + 1) ∷ [])) (p0.last + 1) holders live0 live1 a b = carried_step
      (start_does version list p0.head p0.last m.head (λ n le. m.steady n (omega (arith, le, m.last))) is)
      (λ tells. subst (λ (n : ℕ). AllAt version list (Ended n) live0 a) (sym m.last) (start tells)) stepped in
      subst (λ (n : ℕ). HasCome told version list (Ended n) p1 p1.last holders live0 live1 a b) m.last (record {
        to = Going p0.last (start_record (p0.last + 1) ∷ []);
        matches = begun p0 p1 version list end m placed;
        marked = λ before. ([], refl);
        carried = subst (λ (n : ℕ). Carried told version list (Ended p0.last) (Going p0.last (start_record (p0.last + 1) ∷ [])) n holders live0 live1 a b) (sym placed.last) from;
      })

  pub end_brings : SteppedAll told (step.End (p0.last + 1)) p0.first (spelling (end_record (p0.last + 1))) holders live0 live1 a b → IsRecord (end_record (p0.last + 1)) → p0.size ≤ most_unended → p0.going ≡ true → Finished p0 p1 → Brings told p0 p1 p1.last holders live0 live1 a b
  end_brings stepped is small going placed version list (Ended end) m start = absurd (clash going m.going)
  end_brings stepped is small going placed version list (Going base kept) m start =
      let from : Carried told version list (Going base kept) (Ended (p0.last + 1)) (p0.last + 1) holders live0 live1 a b = carried_step (Ends (end_goes version list base kept p0 m small is) (end_count version list base kept p0 m)) start stepped in
      record {
        to = Ended (p0.last + 1);
        matches = record { going = placed.going; head = m.head ∙ sym placed.head; last = placed.last; steady = λ n le. m.steady n (omega (arith, le)) };
        marked = λ before. tt;
        carried = subst (λ (n : ℕ). Carried told version list (Going base kept) (Ended (p0.last + 1)) n holders live0 live1 a b) (sym placed.last) from;
      }

  pub write_brings : (bytes : List ℕ) → SteppedAll told step.Write p0.first bytes holders live0 live1 a b → 1 ≤ length bytes → p0.size + length bytes ≤ most_unended → Wrote (length bytes) p0 p1 → BringsLogged told bytes p0 p1 p1.last holders live0 live1 a b
  write_brings bytes stepped some small placed version list base kept logged m start =
      let at : base + length (kept ++ logged) ≡ p1.last = omega (arith, placed.last, m.last, length-append kept logged) in
      let from : Carried told version list (Going base kept) (Going base (kept ++ logged)) (base + length (kept ++ logged)) holders live0 live1 a b = carried_step (write_does version list base kept logged bytes p0 m some (omega (arith, small))) start stepped in
      record {
        to = Going base (kept ++ logged);
        matches = wrote_place p0 p1 bytes version list base kept logged m placed;
        marked = λ before. (before.0 ++ logged, ap (λ (rs : List Record). rs ++ logged) before.1);
        carried = subst (λ (n : ℕ). Carried told version list (Going base kept) (Going base (kept ++ logged)) n holders live0 live1 a b) at from;
      }

  -- the live ones have them
  pub write_stands : (bytes : List ℕ) → SteppedAll told step.Write p0.first bytes holders live0 live1 a b → 1 ≤ length bytes → p0.size + length bytes ≤ most_unended → (version : Version) (list : Shared) (base : ℕ) (kept logged : List Record) → IsInProgress version list base kept logged bytes p0
      → (told → AllAt version list (Going base kept) live0 a) → told → AllAt version list (Going base (kept ++ logged)) live1 b
  write_stands bytes stepped some small version list base kept logged m start tells = (carried_step (write_does version list base kept logged bytes p0 m some (omega (arith, small))) start stepped).stands tells

  -- ---- a segment that was ended

  pub end_finalizes : SteppedAll told (step.End (p0.last + 1)) p0.first (spelling (end_record (p0.last + 1))) holders live0 live1 a b → IsRecord (end_record (p0.last + 1)) → p0.size ≤ most_unended → Finalizes told p0 live0 live1 a b
  end_finalizes stepped is small version list base kept m start tells j is_live =
      let r = end_record (p0.last + 1) in
      subst (λ (n : ℕ). IsFinalized version.layout n (p0.last + 1) (kept ++ r ∷ []) (disk_at b j)) (sym m.first)
      (ended_finalized (stepped.done version list (Going base kept) (Ended (p0.last + 1)) (Ends (end_goes version list base kept p0 m small is) (end_count version list base kept p0 m)) tells (start tells) j (still_live stepped.counted j is_live) is_live))

-- where no segment is in progress
pub none_finalizes : {told : Type 0} (p0 : Place) (live0 live1 : Members) (a b : State) → p0.going ≡ false → Finalizes told p0 live0 live1 a b
none_finalizes p0 live0 live1 a b idle version list base kept m start = absurd (clash m.going idle)

-- the live ones come to another stage, however low those that are dropped are
abbrev pub BringsOn : Type 0 → Place → Place → Members → Members → Members → State → State → Type 0
BringsOn told old_place place holders old_live live old new = (version : Version) (list : Shared) (from : Stage) → Matches version list from old_place → (told → AllAt version list from old_live old) → (below : ℕ) × HasCome told version list from place below holders old_live live old new

pub brings_on : {told : Type 0} {p0 p1 : Place} {holders live0 live1 : Members} {a b : State} (below : ℕ) → Brings told p0 p1 below holders live0 live1 a b → BringsOn told p0 p1 holders live0 live1 a b
brings_on below p version list from m start = (below, p version list from m start)

pub ahead_on : {told : Type 0} {p0 p1 : Place} {holders live0 live1 : Members} {a b : State} → BringsAhead told p0 p1 holders live0 live1 a b → BringsOn told p0 p1 holders live0 live1 a b
ahead_on p version list from m start = let come = p version list from m start in (come.0, come.2)

-- what comes later doesn't touch it
pub finalized_then : {told : Type 0} {p0 p1 p2 : Place} {b1 : ℕ} {holders live0 live1 live2 : Members} {a b c : State} → Finalizes told p0 live0 live1 a b → Brings told p0 p1 b1 holders live0 live1 a b → BringsOn told p1 p2 holders live1 live2 b c
    → ((version : Version) (list : Shared) (stage : Stage) → Matches version list stage p1 → p0.going ≡ true → p0.first ≤ p0.last → p0.first ≤ base_of stage) → Finalizes told p0 live0 live2 a c
finalized_then {p0 = p0} done one two later version list base kept m start tells j is_live =
    let come = one version list (Going base kept) m start in
    let then = (two version list come.to come.matches come.carried.stands).1 in
    let was = still_live then.carried.counted j is_live in
    let at = done version list base kept m start tells j was in
    let beside = (((then.carried.any_moment.ends tells).at j).logged was).beside in
    let low = later version list come.to come.matches m.going (omega (arith, m.first, m.last, m.some)) in
    record {
      whole = beside.other_files (Edits (p0.first, p0.last + 1)) (older_not_log (Edits (p0.first, p0.last + 1)) p0.first refl low) ∙ at.whole;
      gone = beside.other_files (InProgress p0.first) (older_not_log (InProgress p0.first) p0.first refl low) ∙ at.gone;
    }

-- a place between two segments, and one in a later segment
pub idle_base : (version : Version) (list : Shared) (p : Place) (stage : Stage) → Matches version list stage p → p.going ≡ false → base_of stage ≡ p.last
idle_base version list p (Ended last) m idle = sym m.last
idle_base version list p (Going base kept) m idle = absurd (clash m.going idle)

pub going_base : (version : Version) (list : Shared) (p : Place) (stage : Stage) → Matches version list stage p → p.going ≡ true → base_of stage + 1 ≡ p.first
going_base version list p (Ended last) m going = absurd (clash going m.going)
going_base version list p (Going base kept) m going = sym m.first

-- nothing done
pub brings_none : {told : Type 0} {holders live : Members} {a : State} (p : Place) (below : ℕ) → Brings told p p below holders live live a a
brings_none p below version list from m start = record { to = from; matches = m; marked = λ before. before; carried = carried_none below start }

-- with an empty buffer no record was logged
pub empty_brings : {told : Type 0} {holders live : Members} {a : State} {bytes : List ℕ} (p : Place) → bytes ≡ [] → BringsLoggedAhead told bytes p p holders live live a a
empty_brings {told} {holders} {live} {a} {bytes} p empty version list base kept logged m start =
    let none : logged ≡ [] = none_logged logged (sym m.text ∙ empty) in (
      base,
      omega (arith, m.last, m.some),
      record {
        to = Going base kept;
        matches = subst (λ (t : List ℕ). IsInProgress version list base kept [] t p) empty (subst (λ (rs : List Record). IsInProgress version list base kept rs bytes p) none m);
        marked = λ before. before;
        carried = carried_none base start;
      },
    )

-- ---- one after another

module _ {told : Type 0} {p1 p2 : Place} {holders live0 live1 live2 : Members} {a b c : State} where
  come_both : {version : Version} {list : Shared} {from : Stage} {b1 b2 : ℕ} (below : ℕ) → b1 ≤ below → b2 ≤ below → HasCome told version list from p1 b1 holders live0 live1 a b → Brings told p1 p2 b2 holders live1 live2 b c → HasCome told version list from p2 below holders live0 live2 a c
  come_both {version} {list} below low high one two =
      let then = two version list one.to one.matches one.carried.stands in
      record { to = then.to; matches = then.matches; marked = λ before. then.marked (one.marked before); carried = carried_both one.carried then.carried below low high }

  pub brings_both : {p0 : Place} {b1 b2 : ℕ} (below : ℕ) → b1 ≤ below → b2 ≤ below → Brings told p0 p1 b1 holders live0 live1 a b → Brings told p1 p2 b2 holders live1 live2 b c → Brings told p0 p2 below holders live0 live2 a c
  brings_both below low high one two version list from m start = come_both below low high (one version list from m start) two

come_lower : {told : Type 0} {version : Version} {list : Shared} {from : Stage} {p : Place} {below : ℕ} {holders live0 live1 : Members} {a b : State} (low : ℕ) → live1 ≡ live0 → HasCome told version list from p below holders live0 live1 a b → HasCome told version list from p low holders live0 live1 a b
come_lower low same p = record { to = p.to; matches = p.matches; marked = p.marked; carried = carried_lower low same p.carried }

pub brings_lower : {told : Type 0} {p0 p1 : Place} {below : ℕ} {holders live0 live1 : Members} {a b : State} (low : ℕ) → live1 ≡ live0 → Brings told p0 p1 below holders live0 live1 a b → Brings told p0 p1 low holders live0 live1 a b
brings_lower low same p version list from m start = come_lower low same (p version list from m start)

pub went_refl : {told : Type 0} {live : Members} {a : State} → Went told live live a a
went_refl = record { counted = λ j. inl (record { same_live = refl; faults = refl }); left = throughout_refl (λ tells. record { grown = λ j. omega arith; others = λ j out. refl; failed = λ j rose. refl }); quiet = unspoken_refl }

-- one that isn't live stays so
stays_out : {among old_live live : Members} {a b : State} → EachCounted among old_live live a b → (j : ℕ) → has old_live j ≡ false → has live j ≡ false
stays_out {live = live} counted j out = elim (cases_Bool (has live j)) [
  | inl there ↦ absurd (clash (still_live counted j there) out)
  | inr none ↦ none
]

module _ {told : Type 0} {live0 live1 live2 : Members} {a b c : State} (one : Went told live0 live1 a b) (two : Went told live1 live2 b c) where
  left_first : told → (m : Moment) → IsLeftAlone live0 a b m → IsLeftAlone live0 a c m
  left_first tells m p = record {
    grown = p.grown;
    others = p.others;
    failed = λ j rose. ⊎_elim
        (λ stays. absurd (omega (arith, rose, ap (λ (d : Dir). d.faults) (p.failed j rose), stays.faults)))
        (λ dropped. p.failed j rose ∙ sym ((two.left.ends tells).others j dropped.not_live))
        (one.counted j);
  }

  left_second : told → (m : Moment) → IsLeftAlone live1 b c m → IsLeftAlone live0 a c m
  left_second tells m p = record {
    grown = λ j. omega (arith, p.grown j, (one.left.ends tells).grown j);
    others = λ j out. p.others j (stays_out one.counted j out) ∙ (one.left.ends tells).others j out;
    failed = λ j rose. ⊎_elim
        (λ stays. p.failed j (omega (arith, rose, stays.faults)))
        (λ dropped. p.others j dropped.not_live ∙ sym ((two.left.ends tells).others j dropped.not_live))
        (one.counted j);
  }

  pub went_both : Went told live0 live2 a c
  went_both = record { counted = counted_both one.counted two.counted; left = throughout_trans (throughout_weaker one.left left_first) (throughout_weaker two.left left_second); quiet = unspoken_trans one.quiet two.quiet }

pub went_step : {told : Type 0} {step : Step} {first : ℕ} {bytes : List ℕ} {holders live0 live1 : Members} {a b : State} → SteppedAll told step first bytes holders live0 live1 a b → Went told live0 live1 a b
went_step stepped = record { counted = stepped.counted; left = stepped.left; quiet = stepped.quiet }

-- a live directory is one of the host's
pub went_below : {told : Type 0} {live0 live1 : Members} {a b : State} → Went told live0 live1 a b → ((j : ℕ) → has live0 j ≡ true → j < a.count) → (j : ℕ) → has live1 j ≡ true → j < b.count
went_below went below j is_live = let low = below j (still_live went.counted j is_live) in omega (arith, low, went.quiet.each.count)

-- ---- a step and what follows it

module _ {told : Type 0} {p1 p2 : Place} {holders live0 live1 live2 : Members} {a b c : State} where
  settled_come : {version : Version} {list : Shared} {from : Stage} (again : Bool) → (again ≡ false → live1 ≡ live0) → 1 ≤ p1.last → HasCome told version list from p1 p1.last holders live0 live1 a b → HasSettled again told p1 p2 holders live1 live2 b c
      → (below : ℕ) × (below < p2.last) × HasCome told version list from p2 below holders live0 live2 a c
  settled_come {version} {list} {from} true one_set some one settled =
      let then = (settled.rolled refl).ahead version list one.to one.matches one.carried.stands in
      let rose = (settled.rolled refl).rose in (
        p2.last - 1,
        omega (arith, rose),
        record { to = then.2.to; matches = then.2.matches; marked = λ before. then.2.marked (one.marked before); carried = carried_both one.carried then.2.carried (p2.last - 1) (omega (arith, rose)) (omega (arith, then.1)) },
      )
  settled_come {version} {list} {from} false one_set some one settled =
      let low = come_lower (p1.last - 1) (one_set refl) one in
      let same = settled.stayed refl in
      let last : p2.last ≡ p1.last = ap (λ (p : Place). p.last) same.0 in (
        p1.last - 1,
        omega (arith, last, some),
        subst (λ (p : Place). HasCome told version list from p (p1.last - 1) holders live0 live2 a c) (sym same.0)
            (subst (λ (s : Members). HasCome told version list from p1 (p1.last - 1) holders live0 s a c) (sym same.1)
            (subst (λ (s : State). HasCome told version list from p1 (p1.last - 1) holders live0 live1 a s) (sym same.2) low)),
      )

  pub settled_ahead : {p0 : Place} (again : Bool) → (again ≡ false → live1 ≡ live0) → 1 ≤ p1.last → Brings told p0 p1 p1.last holders live0 live1 a b → HasSettled again told p1 p2 holders live1 live2 b c → BringsAhead told p0 p2 holders live0 live2 a c
  settled_ahead again one_set some one settled version list from m start = settled_come again one_set some (one version list from m start) settled

  pub logged_ahead : {p0 : Place} {bytes : List ℕ} (again : Bool) → (again ≡ false → live1 ≡ live0) → p1.last ≡ p0.last → BringsLogged told bytes p0 p1 p1.last holders live0 live1 a b → HasSettled again told p1 p2 holders live1 live2 b c → BringsLoggedAhead told bytes p0 p2 holders live0 live2 a c
  logged_ahead again one_set last one settled version list base kept logged m start = settled_come again one_set (omega (arith, last, m.last, m.some)) (one version list base kept logged m start) settled

-- and so after one step
pub step_below : {told : Type 0} {step : Step} {first : ℕ} {bytes : List ℕ} {holders live0 live1 : Members} {a b : State} → SteppedAll told step first bytes holders live0 live1 a b → ((j : ℕ) → has live0 j ≡ true → j < a.count) → (j : ℕ) → has live1 j ≡ true → j < b.count
step_below stepped below = went_below (went_step stepped) below
