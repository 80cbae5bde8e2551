-- From directory to directory: which are recovered so far.
use Rattle.std.proofs.Common.{◌≡◌, ◌≢◌, inl, inr, ℕ, zero, suc, ◌+◌, ◌<◌, ◌≤◌, List, [], ◌∷◌, ◌++◌, length, get_or, refl, sym, ◌∙◌, ap, subst, arith, length-append}
use Rattle.std.proofs.lemmas.Bool.Decides.{eqb_tells}
use Rattle.std.proofs.lemmas.Grind.{common_steps}
use Rattle.nn_base.specs.declared.ids.DirNo.{DirNo}
use Rattle.nn_host.specs.Disk.{Disk, Reads}
use Rattle.nn_host.specs.Moments.{State, Dir, disk_at, faults_at}
use Rattle.nn_host.specs.Calls.{next_count}
use Rattle.nn_host.specs.Runs.{OnlyAt, SameCounts, RoseAt, Unspoken}
use Rattle.nn_host.proofs.RunsLemmas.{throughout_refl, counts_refl, counts_trans, counts_once, unspoken_refl, unspoken_trans, rose_last}
use Rattle.nn_host.proofs.WorkLemmas.{each_dir_work, unspoken_work}
use Rattle.nn_state.specs.declared.state.StorageState.TheVariants.{NonExistent}
use Rattle.nn_state.specs.declared.typed.Found.{Found}
use Rattle.nn_state.specs.declared.typed.Settled.{Settled}
use Rattle.nn_state.specs.Typed.{state_of, dir_of, FitsFound, FitsSettled, dir_in}
use Rattle.nn_state.specs.Recovery.{HasServingVersion, KeepsSeat, IsRecovered, WasRecovered}
use Rattle.nn_state.specs.Bays.{IsAt, AreFound, FitAll, AreSettled, SettledFit, EachKeepsSeat, HasStoppedAt}
use Rattle.nn_state.proofs.RestLemmas.{found_old}

-- the first k directories are recovered, and the others as they were
pub record Recovering (told : Type 0) (k : ℕ) (start now : State) (at : List Settled) : Type 0 where
  pub run : EachKeepsSeat told start now
  pub quiet : Unspoken told start now
  pub counts : SameCounts start now
  pub settled : AreSettled k at
  pub recovered : told → (j : ℕ) → j < k → WasRecovered j start now
  pub fits : told → SettledFit at start now
  pub later : told → (j : ℕ) → k ≤ j → disk_at now j ≡ disk_at start j
  pub later_reads : (j : ℕ) → k ≤ j → now.reads j ≡ start.reads j

pub recovering_none : {told : Type 0} {a : State} {at : List Settled} → (told → (j : ℕ) → j < a.count → KeepsSeat (disk_at a j) (disk_at a j)) → at ≡ [] → Recovering told 0 a a at
recovering_none {told} {a} {at} start none = record {
  run = throughout_refl (λ tells. record { at = λ j below. start tells j below });
  quiet = unspoken_refl;
  counts = counts_refl;
  settled = record { all = ap length none; placed = λ k it is. absurd (omega (arith, is.within, ap length none)) };
  recovered = λ tells j below. absurd (omega (arith, below));
  fits = λ tells k it is. absurd (omega (arith, is.within, ap length none));
  later = λ tells j le. refl;
  later_reads = λ j le. refl;
}

-- the places of a list with one more
at_last : (xs : List Settled) (x it : Settled) (k : ℕ) → IsAt (xs ++ x ∷ []) k it → k ≡ length xs → it ≡ x
at_last xs x it k is last = let e = is.is in grind (arith, common_steps)

at_before : (xs : List Settled) (x it : Settled) (k : ℕ) → IsAt (xs ++ x ∷ []) k it → k < length xs → IsAt xs k it
at_before xs x it k is below = record { within = below; is = (let e = is.is in grind (arith, common_steps)) }

module _ {told : Type 0} {k : ℕ} {a b c : State} {at : List Settled} (so_far : Recovering told k a b at) (below : k < a.count) (one : OnlyAt told k b c (KeepsSeat (disk_at b k))) where
  pub recovering_run : EachKeepsSeat told a c
  recovering_run = each_dir_work so_far.run one (λ tells d is le inside. subst (λ (x : Disk). KeepsSeat x d.disk) (so_far.later tells k (omega arith)) is)

  pub recovering_quiet : Unspoken told a c
  recovering_quiet = unspoken_trans so_far.quiet (unspoken_work one)

  here : (told → WasRecovered k b c) → told → WasRecovered k a c
  here was tells = record {
    disk = subst (λ (d : Disk). IsRecovered d (disk_at c k)) (so_far.later tells k (omega arith)) (was tells).disk;
    reads = subst (λ (r : Reads). IsRecovered r (c.reads k)) (so_far.later_reads k (omega arith)) (was tells).reads;
  }

  same_disk : (j : ℕ) → j ≢ k → disk_at c j ≡ disk_at b j
  same_disk j ne = ap (λ (d : Dir). d.disk) (one.frame.now.dirs j ne)

  before : told → (j : ℕ) → j < k → WasRecovered j a c
  before tells j less = record {
    disk = subst (IsRecovered (disk_at a j)) (sym (same_disk j (λ same. omega (arith, same, less)))) (so_far.recovered tells j less).disk;
    reads = subst (IsRecovered (a.reads j)) (sym (one.frame.reads j (λ same. omega (arith, same, less)))) (so_far.recovered tells j less).reads;
  }

  long : length at ≡ k
  long = so_far.settled.all

  versioned_here : told → (j : ℕ) → j ≡ k → HasServingVersion (disk_at a j) → HasServingVersion (disk_at b k)
  versioned_here tells j same versioned = subst HasServingVersion (ap (disk_at a) same ∙ sym (so_far.later tells k (omega arith))) versioned

  module _ (x : Settled) (counted : faults_at c k ≡ faults_at b k) (placed : (dir_in x).0 ≡ k) (was : told → WasRecovered k b c)
      (fits : told → HasServingVersion (disk_at b k) → FitsSettled x (disk_at c k)) where
    fits_here : told → (j : ℕ) (it : Settled) → IsAt (at ++ x ∷ []) j it → j ≡ k → HasServingVersion (disk_at a j) → FitsSettled it (disk_at c j)
    fits_here tells j it is same versioned = subst (λ (n : ℕ). FitsSettled it (disk_at c n)) (sym same)
        (subst (λ (s : Settled). FitsSettled s (disk_at c k)) (sym (at_last at x it j is (same ∙ sym long))) (fits tells (versioned_here tells j same versioned)))

    pub recovering_more : Recovering told (k + 1) a c (at ++ x ∷ [])
    recovering_more = record {
      run = recovering_run;
      quiet = recovering_quiet;
      counts = counts_trans so_far.counts (counts_once one.frame counted);
      settled = record {
        all = length-append at (x ∷ []) ∙ ap (λ (n : ℕ). n + 1) long;
        placed = λ j it is. elim (eqb_tells j k) [
          | inl same ↦ ap (λ (s : Settled). (dir_in s).0) (at_last at x it j is (same.1 ∙ sym long)) ∙ placed ∙ sym same.1
          | inr differs ↦ so_far.settled.placed j it (at_before at x it j is (omega (arith, is.within, length-append at (x ∷ []), long, differs.1)))
        ];
      };
      recovered = λ tells j less. elim (eqb_tells j k) [
        | inl same ↦ subst (λ (n : ℕ). WasRecovered n a c) (sym same.1) (here was tells)
        | inr differs ↦ before tells j (omega (arith, less, differs.1))
      ];
      fits = λ tells j it is versioned. elim (eqb_tells j k) [
        | inl same ↦ fits_here tells j it is same.1 versioned
        | inr differs ↦ subst (FitsSettled it) (sym (same_disk j differs.1)) (so_far.fits tells j it (at_before at x it j is (omega (arith, is.within, length-append at (x ∷ []), long, differs.1))) versioned)
      ];
      later = λ tells j le. same_disk j (λ same. omega (arith, le, same)) ∙ so_far.later tells j (omega (arith, le));
      later_reads = λ j le. one.frame.reads j (λ same. omega (arith, le, same)) ∙ so_far.later_reads j (omega (arith, le));
    }

-- ---- before any of them is

-- what stands at a place
pub at_place : (xs : List Found) (k : ℕ) → k < length xs → (it : Found) × IsAt xs k it
at_place [] k within = absurd (omega (arith, within))
at_place (x ∷ xs) zero within = (x, record { within = within; is = refl })
at_place (x ∷ xs) (suc k) within =
    let later = at_place xs k (omega (arith, within)) in
    (later.0, record { within = within; is = later.1.is })

pub all_old : {told : Type 0} (a : State) {found : List Found} → AreFound a.count found → (told → FitAll found a) → told → (j : ℕ) → j < a.count → KeepsSeat (disk_at a j) (disk_at a j)
all_old {told} a {found} are fits tells j below versioned =
    let here = at_place found j (omega (arith, below, are.all)) in
    found_old (disk_at a j) here.0 (are.there j here.0 here.1) (fits tells j here.0 here.1)

-- ---- one directory more, by the state in which it was found

module _ {told : Type 0} {k : ℕ} {a b : State} {at : List Settled} {found : List Found} (it : Found) (so_far : Recovering told k a b at) (are : AreFound a.count found) (turn : (k < length found) × (it ≡ get_or found k it)) where
  place : IsAt found k it
  place = record { within = turn.0; is = turn.1 }

  placed : (dir_of it).0 ≡ k
  placed = are.placed k it place

  below : k < a.count
  below = omega (arith, turn.0, are.all)

  pub turn_below : (dir_of it).0 < b.count
  turn_below = omega (arith, placed, below, so_far.run.count)

  pub turn_there : state_of it ≢ NonExistent
  turn_there = are.there k it place

  pub turn_fits : (told → FitAll found a) → told → FitsFound it (disk_at b (dir_of it).0)
  turn_fits fits tells = subst (λ (n : ℕ). FitsFound it (disk_at b n)) (sym placed) (subst (FitsFound it) (sym (so_far.later tells k (omega arith))) (fits tells k it place))

  module _ {c : State} (one : OnlyAt told (dir_of it).0 b c (KeepsSeat (disk_at b (dir_of it).0))) where
    here_alone : OnlyAt told k b c (KeepsSeat (disk_at b k))
    here_alone = subst (λ (n : ℕ). OnlyAt told n b c (KeepsSeat (disk_at b n))) placed one

    pub turn_run : EachKeepsSeat told a c
    turn_run = recovering_run so_far below here_alone

    pub turn_quiet : Unspoken told a c
    turn_quiet = recovering_quiet so_far below here_alone

    pub turn_rose : (stuck : DirNo) → stuck ≡ dir_of it → faults_at c (dir_of it).0 ≡ next_count (faults_at b (dir_of it).0) → RoseAt stuck.0 a c
    turn_rose stuck same rose = subst (λ (i : DirNo). RoseAt i.0 a c) (sym same) (rose_last so_far.counts (omega (arith, placed, below)) one.frame rose)

    pub turn_stopped : (stuck : DirNo) → stuck ≡ dir_of it → told → HasStoppedAt stuck.0 a c
    turn_stopped stuck same tells = subst (λ (i : DirNo). HasStoppedAt i.0 a c) (sym same) (subst (λ (n : ℕ). HasStoppedAt n a c) (sym placed) (record {
      before = λ j less. before so_far below here_alone tells j less;
      behind = λ j more. same_disk so_far below here_alone j (λ e. omega (arith, e, more)) ∙ so_far.later tells j (omega (arith, more));
    }))

    pub turn_more : (x : Settled) → faults_at c (dir_of it).0 ≡ faults_at b (dir_of it).0 → dir_in x ≡ dir_of it → (told → WasRecovered (dir_of it).0 b c)
        → (told → HasServingVersion (disk_at b (dir_of it).0) → FitsSettled x (disk_at c (dir_of it).0)) → Recovering told (k + 1) a c (at ++ x ∷ [])
    turn_more x counted same was fits = recovering_more so_far below here_alone x
        (subst (λ (n : ℕ). faults_at c n ≡ faults_at b n) placed counted)
        (ap (λ (i : DirNo). i.0) same ∙ placed)
        (subst (λ (n : ℕ). told → WasRecovered n b c) placed was)
        (subst (λ (n : ℕ). told → HasServingVersion (disk_at b n) → FitsSettled x (disk_at c n)) placed fits)

-- all of them
pub turn_last : {told : Type 0} {k : ℕ} {a b : State} {at : List Settled} {found : List Found} → Recovering told k a b at → AreFound a.count found → k ≡ length found → Recovering told a.count a b at
turn_last {told} {k} {a} {b} {at} so_far are last = subst (λ (n : ℕ). Recovering told n a b at) (last ∙ are.all) so_far
