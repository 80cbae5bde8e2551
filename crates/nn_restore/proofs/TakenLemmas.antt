-- How often calls failed while a directory was taken back in parts, and what that says of the answer.
use Rattle.std.proofs.Common.{◌≡◌, ◌≢◌, ◌⊎◌, inl, inr, ⊎_elim, ℕ, ◌<◌, ◌-◌, ◌^◌, true, false, Result, Ok, Err, IsErr, OnOk, sym, ◌∙◌, ap, subst, arith}
use Rattle.std.specs.Prelude.{IsErrAnd}
use Rattle.std.proofs.lemmas.Bool.{cases_eq, cases_Bool}
use Rattle.nn_base.specs.DirSets.{Members, has}
use Rattle.nn_host.specs.Moments.{State, faults_at}
use Rattle.nn_host.specs.Calls.{next_count}
use Rattle.nn_host.specs.Runs.{Throughout, Unspoken}
use Rattle.nn_host.proofs.RunsLemmas.{unspoken_trans}
use Rattle.nn_host.proofs.WorkLemmas.{unspoken_work}
use Rattle.nn_marks.specs.declared.version.Version.{Version}
use Rattle.nn_tree.specs.Namespace.{Namespace}
use Rattle.nn_journal.specs.declared.journal.JournalSet.{JournalSet}
use Rattle.nn_journal.specs.Among.{StaysLive, IsDropped}
use Rattle.nn_journal.specs.Places.{Went}
use Rattle.nn_ckpt.specs.declared.fault.RunFault.{RunFault}
use Rattle.nn_ckpt.specs.declared.fault.RunFault.TheVariants.{NoneLeft, Memory}
use Rattle.nn_ckpt.proofs.DroppedLemmas.{none_is}
use Rattle.nn_restore.specs.declared.restoring.Restored.{Restored}
use Rattle.nn_restore.specs.Making.{MakesIn}
use Rattle.nn_restore.specs.Restored.{IsAnswered, IsLeftBeside, IsCountedOf}
use Rattle.nn_restore.proofs.AsideLemmas.{apart_in, work_beside, stays_other, went_beside, counted_then, beside_trans}

-- what is said of an answer is said of no fault
pub no_answer : {T E : Type 0} (X : Type 0) (result : Result T E) → IsErr result → OnOk result X
no_answer X (Ok v) fault = absurd (none_is fault)
no_answer X (Err e) fault = tt

-- the run ends for this fault
module _ (told : Type 0) (live live_after : Members) (a b : State) (i : ℕ) (out : has live i ≡ false) (gone : has live_after i ≡ false) where
  pub answered_memory : (result : Result Restored RunFault) → IsErrAnd result (λ e. e ≡ Memory) → faults_at b i ≡ faults_at a i → IsAnswered told i live live_after a b result
  answered_memory (Ok v) is same = absurd is
  answered_memory (Err e) is same = subst (λ (f : RunFault). IsAnswered told i live live_after a b (Err f)) (sym is) (out, gone, same)

  pub answered_none : (result : Result Restored RunFault) → IsErrAnd result (λ e. e ≡ NoneLeft) → (faults_at b i ≡ faults_at a i) ⊎ (faults_at b i ≡ next_count (faults_at a i)) → IsAnswered told i live live_after a b result
  answered_none (Ok v) is either = absurd is
  answered_none (Err e) is either = subst (λ (f : RunFault). IsAnswered told i live live_after a b (Err f)) (sym is) (out, gone, either)

-- ---- counts

next_above : (n : ℕ) → n < 2 ^ 64 - 1 → n < next_count n
next_above n room = omega (arith, room)

-- the count of one that was dropped has risen
pub dropped_rose : {live live_after : Members} {a b : State} (j : ℕ) → StaysLive live live_after a b j ⊎ IsDropped live live_after a b j → has live j ≡ true → has live_after j ≡ false → faults_at a j < 2 ^ 64 - 1 → faults_at a j < faults_at b j
dropped_rose j (inl stays) there gone room = absurd (let apart = sym gone ∙ stays.same_live ∙ there in cc)
dropped_rose {a = a} j (inr dropped) there gone room = (let rises = dropped.faults in omega (arith, rises, next_above (faults_at a j) room))

module _ {told : Type 0} (i : ℕ) {live live_after : Members} {a b : State} (out : has live i ≡ false) (went : Went told live live_after a b) where
  pub out_then : has live_after i ≡ false
  out_then = ⊎_elim (λ stays. stays.same_live ∙ out) (λ dropped. dropped.not_live) (went.counted i)

  pub same_count : faults_at b i ≡ faults_at a i
  same_count = ⊎_elim (λ stays. stays.faults) (λ dropped. absurd (let apart = sym out ∙ dropped.was_among in cc)) (went.counted i)

  pub same_dir : told → b.now.dirs i ≡ a.now.dirs i
  same_dir tells = (went.left.ends tells).others i out

-- ---- it was made, or not

module _ {told : Type 0} {version : Version} {ns : Namespace} {E : Type 0} (i : ℕ) (first ended back : JournalSet) {a b c : State} (out : has first.live i ≡ false) (went : Went told first.live ended.live a b) (result : Result (Unit {0}) E) (makes : MakesIn told version ns i ended back b c result) where
  others_made : (j : ℕ) → j ≢ i → StaysLive first.live back.live a c j ⊎ IsDropped first.live back.live a c j
  others_made j ne = counted_then j (went.counted j) (stays_other makes.any_moment ended.live back.live j ne (makes.others j ne))

  beside_made : Throughout told a c (IsLeftBeside i first.live a c)
  beside_made = beside_trans (λ j ne. went.counted j) (went_beside i went) (work_beside makes.any_moment ended.live)

  quiet_made : Unspoken told a c
  quiet_made = unspoken_trans went.quiet (unspoken_work makes.any_moment)

  pub made_counted : (answer : Result Restored RunFault) → IsAnswered told i first.live back.live a c answer → IsCountedOf told i first.live back.live a c answer
  made_counted answer own = record { own = own; others = others_made; left = beside_made; quiet = quiet_made }

  pub made_rose : (j : ℕ) → has first.live j ≡ true → has back.live j ≡ false → faults_at a j < 2 ^ 64 - 1 → faults_at a j < faults_at c j
  made_rose j there = dropped_rose j (others_made j (apart_in first.live i j out there)) there

  pub made_same : has back.live i ≡ true → faults_at c i ≡ faults_at a i
  made_same there = makes.whole there ∙ same_count i out went

  pub holders_made : (j : ℕ) → (has back.holders j ≡ has ended.holders j) ⊎ ((j ≡ i) × (has back.holders j ≡ false))
  holders_made j = elim (cases_eq j i) [
    | inl same ↦ elim (cases_Bool (has back.live i)) [
      | inl there ↦ inr (same, ap (has back.holders) same ∙ makes.no_holder.0 there)
      | inr gone ↦ inl (ap (has back.holders) same ∙ makes.no_holder.1 gone ∙ ap (has ended.holders) (sym same))
    ]
    | inr differs ↦ inl (makes.holders j differs)
  ]

  -- ---- the next segment was begun

  module _ (after : JournalSet) {d : State} (begun : Went told back.live after.live c d) where
    others_begun : (j : ℕ) → j ≢ i → StaysLive first.live after.live a d j ⊎ IsDropped first.live after.live a d j
    others_begun j ne = counted_then j (others_made j ne) (begun.counted j)

    beside_begun : Throughout told a d (IsLeftBeside i first.live a d)
    beside_begun = beside_trans others_made beside_made (went_beside i begun)

    pub begun_counted : (answer : Result Restored RunFault) → IsAnswered told i first.live after.live a d answer → IsCountedOf told i first.live after.live a d answer
    begun_counted answer own = record { own = own; others = others_begun; left = beside_begun; quiet = unspoken_trans quiet_made begun.quiet }

    pub begun_rose : (j : ℕ) → has first.live j ≡ true → has after.live j ≡ false → faults_at a j < 2 ^ 64 - 1 → faults_at a j < faults_at d j
    begun_rose j there = dropped_rose j (others_begun j (apart_in first.live i j out there)) there

    pub taken_same : has after.live i ≡ true → faults_at d i ≡ faults_at a i
    taken_same there = ⊎_elim
        (λ stays. stays.faults ∙ made_same (sym stays.same_live ∙ there))
        (λ dropped. absurd (let apart = sym dropped.not_live ∙ there in cc))
        (begun.counted i)

    pub failed_next : (has back.live i ≡ false → faults_at c i ≡ next_count (faults_at b i)) → has after.live i ≡ false → faults_at d i ≡ next_count (faults_at a i)
    failed_next failed gone = ⊎_elim
        (λ stays. stays.faults ∙ failed (sym stays.same_live ∙ gone) ∙ ap next_count (same_count i out went))
        (λ dropped. dropped.faults ∙ ap next_count (made_same dropped.was_among))
        (begun.counted i)

-- who holds a saved state then
pub holders_then : (first ended back after : JournalSet) (i : ℕ) → ended.holders ≡ first.holders → after.holders ≡ back.holders → ((j : ℕ) → (has back.holders j ≡ has ended.holders j) ⊎ ((j ≡ i) × (has back.holders j ≡ false)))
    → (j : ℕ) → (has after.holders j ≡ has first.holders j) ⊎ ((j ≡ i) × (has after.holders j ≡ false))
holders_then first ended back after i before behind made j = ⊎_elim
    (λ same. inl (ap (λ (s : Members). has s j) behind ∙ same ∙ ap (λ (s : Members). has s j) before))
    (λ it. inr (it.0, ap (λ (s : Members). has s j) behind ∙ it.1))
    (made j)
