-- One directory alone was touched: the live ones stand as they did, and are left beside it.
use Rattle.std.proofs.Common.{◌≡◌, ◌≢◌, ◌⊎◌, inl, inr, ⊎_elim, ℕ, ◌<◌, ◌≤◌, true, false, sym, ◌∙◌, ap, subst, arith}
use Rattle.std.proofs.lemmas.Bool.{cases_eq, cases_lt}
use Rattle.nn_base.specs.DirSets.{Members, has}
use Rattle.nn_host.specs.Disk.{Disk}
use Rattle.nn_host.specs.Moments.{Dir, Moment, State, faults_at}
use Rattle.nn_host.specs.Calls.{next_count}
use Rattle.nn_host.specs.Runs.{AtWork, OnlyAt, Throughout, EachDir}
use Rattle.nn_host.proofs.RunsLemmas.{throughout_told, throughout_trans, throughout_weaker}
use Rattle.nn_host.proofs.WorkLemmas.{throughout_work}
use Rattle.nn_marks.specs.declared.version.Version.{Version}
use Rattle.nn_segment_file.specs.Log.{Shared}
use Rattle.nn_segment_file.specs.Stages.{Stage}
use Rattle.nn_journal.specs.declared.journal.JournalSet.{JournalSet}
use Rattle.nn_journal.specs.Among.{StaysLive, IsDropped}
use Rattle.nn_journal.specs.Places.{Went}
use Rattle.nn_run.specs.Restoring.{IsAside}
use Rattle.nn_ckpt.specs.Checkpointed.{AreImaged}
use Rattle.nn_ckpt.proofs.ImagedLemmas.{ImagedDisk, imaged_each, each_imaged}
use Rattle.nn_restore.specs.Restored.{IsLeftBeside}

-- one that isn't in a set isn't one that is
pub apart_in : (live : Members) (i j : ℕ) → has live i ≡ false → has live j ≡ true → j ≢ i
apart_in live i j out there e = let apart = sym out ∙ ap (has live) (sym e) ∙ there in cc

-- ---- at each moment of it

module _ {told : Type 0} {i : ℕ} {a b : State} {P : Disk → Type 0} (work : OnlyAt told i a b P) where
  pub aside : told → Throughout (Unit {0}) a b (EachDir (IsAside i P a))
  aside tells = throughout_told (λ u. tells) (throughout_work work (λ t m is. record {
    at = λ j. record { own = λ e. subst (λ (x : ℕ). P (m.dirs x).disk) (sym e) is.disk; others = λ ne. is.others.dirs j ne };
  }))

  pub same_other : (j : ℕ) → j ≢ i → b.now.dirs j ≡ a.now.dirs j
  same_other j ne = work.frame.now.dirs j ne

  -- the live ones stand as they did
  pub still_imaged : (version : Version) (list : Shared) (stage : Stage) (journal : JournalSet) → has journal.live i ≡ false → AreImaged version list stage journal a → AreImaged version list stage journal b
  still_imaged version list stage journal out is = each_imaged version list stage journal b is.matches
      (λ j there. subst (λ (x : Dir). ImagedDisk version list stage x.disk) (sym (same_other j (apart_in journal.live i j out there))) (imaged_each version list stage journal a is j there))

  beside_at : (live : Members) (m : Moment) → AtWork i a m P → IsLeftBeside i live a b m
  beside_at live m is = record {
    grown = λ j. elim (cases_eq j i) [
      | inl same ↦ subst (λ (x : ℕ). faults_at a x ≤ (m.dirs x).faults) (sym same) is.counted
      | inr differs ↦ (let kept = ap (λ (d : Dir). d.faults) (is.others.dirs j differs) in omega (arith, kept))
    ];
    others = λ j ne out. is.others.dirs j ne;
    failed = λ j ne rose. is.others.dirs j ne ∙ sym (same_other j ne);
  }

  pub work_beside : (live : Members) → Throughout told a b (IsLeftBeside i live a b)
  work_beside live = throughout_work work (λ t m is. beside_at live m is)

  pub stays_other : (live live_after : Members) (j : ℕ) → j ≢ i → has live_after j ≡ has live j → StaysLive live live_after a b j ⊎ IsDropped live live_after a b j
  stays_other live live_after j ne same = inl (record { same_live = same; faults = ap (λ (d : Dir). d.faults) (same_other j ne) })

-- ---- beside a call of the journal

pub went_beside : {told : Type 0} {live live_after : Members} {a b : State} (i : ℕ) → Went told live live_after a b → Throughout told a b (IsLeftBeside i live a b)
went_beside i went = throughout_weaker went.left (λ t m p. record { grown = p.grown; others = λ j ne out. p.others j out; failed = λ j ne rose. p.failed j rose })

-- ---- one after the other

pub counted_then : {live mid_live live_after : Members} {a b c : State} (j : ℕ) → StaysLive live mid_live a b j ⊎ IsDropped live mid_live a b j → StaysLive mid_live live_after b c j ⊎ IsDropped mid_live live_after b c j
    → StaysLive live live_after a c j ⊎ IsDropped live live_after a c j
counted_then j (inl p) (inl q) = inl (record { same_live = q.same_live ∙ p.same_live; faults = q.faults ∙ p.faults })
counted_then j (inl p) (inr q) = inr (record { was_among = sym p.same_live ∙ q.was_among; not_live = q.not_live; faults = q.faults ∙ ap next_count p.faults })
counted_then j (inr p) (inl q) = inr (record { was_among = p.was_among; not_live = q.same_live ∙ p.not_live; faults = q.faults ∙ p.faults })
counted_then j (inr p) (inr q) = absurd (let apart = sym p.not_live ∙ q.was_among in cc)

module _ {told : Type 0} {i : ℕ} {live mid_live : Members} {a b c : State} (fewer : (j : ℕ) → j ≢ i → StaysLive live mid_live a b j ⊎ IsDropped live mid_live a b j) (first : Throughout told a b (IsLeftBeside i live a b)) (second : Throughout told b c (IsLeftBeside i mid_live b c)) where
  -- one on which a call failed was dropped
  gone : (j : ℕ) → j ≢ i → faults_at a j < faults_at b j → has mid_live j ≡ false
  gone j ne rose = ⊎_elim (λ stays. absurd (omega (arith, rose, stays.faults))) (λ dropped. dropped.not_live) (fewer j ne)

  out_too : (j : ℕ) → j ≢ i → has live j ≡ false → has mid_live j ≡ false
  out_too j ne out = ⊎_elim (λ stays. stays.same_live ∙ out) (λ dropped. dropped.not_live) (fewer j ne)

  untouched : told → (m : Moment) → IsLeftBeside i mid_live b c m → (j : ℕ) → j ≢ i → has mid_live j ≡ false → m.dirs j ≡ c.now.dirs j
  untouched tells m q j ne out = q.others j ne out ∙ sym ((second.ends tells).others j ne out)

  pub beside_trans : Throughout told a c (IsLeftBeside i live a c)
  beside_trans = throughout_trans
      (throughout_weaker first (λ tells m p. record {
        grown = p.grown;
        others = p.others;
        failed = λ j ne rose.
            let here = p.failed j ne rose in
            let risen = ap (λ (d : Dir). d.faults) here in
            here ∙ sym ((second.ends tells).others j ne (gone j ne (omega (arith, rose, risen))));
      }))
      (throughout_weaker second (λ tells m q. record {
        grown = λ j. (let before = (first.ends tells).grown j in let after = q.grown j in omega (arith, before, after));
        others = λ j ne out. q.others j ne (out_too j ne out) ∙ (first.ends tells).others j ne out;
        failed = λ j ne rose. elim (cases_lt (faults_at a j) (faults_at b j)) [
          | inl risen ↦ untouched tells m q j ne (gone j ne risen)
          | inr not_yet ↦ q.failed j ne (omega (arith, rose, not_yet))
        ];
      }))
