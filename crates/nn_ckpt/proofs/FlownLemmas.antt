-- What the journal says of its live directories, as what a run asks of records in flight, and one such run after the other.
use Rattle.std.proofs.Common.{◌≡◌, inl, inr, ⊎_elim, ℕ, ◌<◌, ◌≤◌, ◌-◌, ◌^◌, true, false, max, None, Option, is_some, refl, sym, ◌∙◌, ap, subst, arith}
use Rattle.std.proofs.lemmas.Bool.{cases_Bool, cases_lt}
use Rattle.nn_base.specs.DirSets.{Members, has}
use Rattle.nn_base.specs.declared.file_name.FileName.TheVariants as name
use Rattle.nn_host.specs.Disk.{Disk, File}
use Rattle.nn_host.specs.Moments.{Dir, State, disk_at, faults_at}
use Rattle.nn_host.specs.Calls.{next_count}
use Rattle.nn_host.proofs.RunsLemmas.{throughout_told, throughout_weaker, throughout_trans}
use Rattle.nn_marks.specs.declared.version.Version.{Version}
use Rattle.nn_state.specs.declared.state.StorageState.TheVariants.{Normal}
use Rattle.nn_state.specs.Table.{table_of}
use Rattle.nn_state.specs.Typed.{IsIn}
use Rattle.nn_state.proofs.TableLemmas.{seven_by}
use Rattle.nn_segment_file.specs.Log.{Shared, Beside, IsOfLog}
use Rattle.nn_segment_file.specs.Steps.{Logged}
use Rattle.nn_segment_file.specs.Stages.{Stage, base_of, last_of}
use Rattle.nn_segment_file.proofs.BesideLemmas.{not_log}
use Rattle.nn_segment_file.proofs.StageLemmas.{stage_logs}
use Rattle.nn_journal.specs.Among.{AmongAt, StaysLive, IsDropped}
use Rattle.nn_journal.specs.Carried.{Carried}
use Rattle.nn_steps.proofs.LoggedLemmas.{logging_ends}
use Rattle.nn_run.specs.Flights.{Flies, FliesAt, Flown}

-- a directory in which nothing but the log is written stays so
stays_normal : (base : ℕ) (old d : Disk) → Beside (IsOfLog base) old d → IsIn Normal old → IsIn Normal d
stays_normal base old d beside normal =
    ap table_of (seven_by old d beside.root beside.subs (ap (λ (o : Option File). is_some o) (beside.other_files name.Version (not_log name.Version refl (λ e. cc) (λ e. cc))))) ∙ normal

-- it ends where its log does
flies_on : (version : Version) (list : Shared) (base last lo hi : ℕ) (old d : Disk) → Flies version list last last old → last ≤ lo → Logged version list base lo hi old d → Flies version list lo hi d
flies_on version list base last lo hi old d was low is = record {
  normal = stays_normal base old d is.beside was.normal;
  ends = logging_ends version false None list last last base lo hi old d was.normal was.ends low is;
}

counted_higher : (n : ℕ) → n < 2 ^ 64 - 1 → n < next_count n
counted_higher n room = omega (arith, room)

module _ {told : Type 0} (tells : told) (version : Version) (list : Shared) (from to : Stage) (below : ℕ) (holders live live_after : Members) (a b : State) (carried : Carried told version list from to below holders live live_after a b) (low : below < last_of to)
    (start : (j : ℕ) → has live j ≡ true → Flies version list (last_of from) (last_of from) (disk_at a j)) where
  each_at : (j : ℕ) (dir : _) → AmongAt version list from to live a j dir → FliesAt version list (has live) (last_of from) (last_of to) a j dir
  each_at j dir is = record {
    flies = λ e. flies_on version list (base_of from) (last_of from) (last_of from) (last_of to) (disk_at a j) dir.disk (start j e) (omega arith) (is.logged e);
    same = is.same;
  }

  pub still : (j : ℕ) → has live_after j ≡ true → has live j ≡ true
  still j e = ⊎_elim
      (λ (stays : StaysLive live live_after a b j). sym stays.same_live ∙ e)
      (λ (dropped : IsDropped live live_after a b j). dropped.was_among)
      (carried.counted j)

  pub beside_end : (j : ℕ) → has live j ≡ true → Beside (IsOfLog (base_of from)) (disk_at a j) (disk_at b j)
  beside_end j e = (((carried.any_moment.ends tells).at j).logged e).beside

  pub flown_of : Flown (Unit {0}) version list (has live) (has live_after) (last_of from) (last_of to) a b
  flown_of = record {
    each = throughout_told (λ u. tells) (throughout_weaker carried.any_moment (λ t m is. record { at = λ j. each_at j (m.dirs j) (is.at j) }));
    alive = still;
    counted = λ j e gone room. ⊎_elim
        (λ (stays : StaysLive live live_after a b j). absurd (let apart = sym gone ∙ stays.same_live ∙ e in cc))
        (λ (dropped : IsDropped live live_after a b j). omega (arith, dropped.faults, counted_higher (faults_at a j) room))
        (carried.counted j);
    stand = λ u j e. flies_on version list (base_of from) (last_of from) (last_of to) (last_of to) (disk_at a j) (disk_at b j) (start j (still j e)) carried.grows
        (record { logs = stage_logs version list to (disk_at b j) (carried.stands tells j e); beside = beside_end j (still j e) });
    most = below;
    fall = λ u j e gone. flies_on version list (base_of from) (last_of from) (last_of from) below (disk_at a j) (disk_at b j) (start j e) (omega arith)
        (record { logs = carried.dropped tells j e gone; beside = beside_end j e });
    below = low;
    onward = carried.grows;
  }

-- ---- one after the other

-- a directory whose chain ends in a narrower span
pub flies_wider : (version : Version) (list : Shared) (lo hi low high : ℕ) (d : Disk) → low ≤ lo → hi ≤ high → Flies version list lo hi d → Flies version list low high d
flies_wider version list lo hi low high d le ge is = record {
  normal = is.normal;
  ends = λ c leaves fair. let (n, least, most, at) = is.ends c leaves fair in (n, omega (arith, least, le), omega (arith, most, ge), at);
}

module _ {version : Version} {list : Shared} {live0 live1 live2 : Members} {last0 last1 last2 : ℕ} {a b c : State} (one : Flown (Unit {0}) version list (has live0) (has live1) last0 last1 a b) (two : Flown (Unit {0}) version list (has live1) (has live2) last1 last2 b c)
    (rise : (j : ℕ) → faults_at a j ≤ faults_at b j) (rise_after : (j : ℕ) → faults_at b j ≤ faults_at c j) where
  end_one : (j : ℕ) → FliesAt version list (has live0) last0 last1 a j (b.now.dirs j)
  end_one j = (one.each.ends tt).at j

  -- one that was dropped in the first isn't touched in the second
  fallen : (j : ℕ) (dir : Dir) → dir ≡ b.now.dirs j → has live0 j ≡ true → has live1 j ≡ false → Flies version list last0 one.most dir.disk
  fallen j dir same was gone = subst (λ (x : Dir). Flies version list last0 one.most x.disk) (sym same) (one.fall tt j was gone)

  out : (j : ℕ) → has live0 j ≡ false → has live1 j ≡ false
  out j none = elim (cases_Bool (has live1 j)) [
    | inl there ↦ absurd (let apart = sym none ∙ one.alive j there in cc)
    | inr gone ↦ gone
  ]

  at_first : (j : ℕ) (dir : Dir) → FliesAt version list (has live0) last0 last1 a j dir → FliesAt version list (has live0) last0 last2 a j dir
  at_first j dir is = record { flies = λ e. flies_wider version list last0 last1 last0 last2 dir.disk (omega arith) two.onward (is.flies e); same = is.same }

  at_second : (j : ℕ) (dir : Dir) → FliesAt version list (has live1) last1 last2 b j dir → FliesAt version list (has live0) last0 last2 a j dir
  at_second j dir is = record {
    flies = λ e. elim (cases_Bool (has live1 j)) [
      | inl there ↦ flies_wider version list last1 last2 last0 last2 dir.disk one.onward (omega arith) (is.flies there)
      | inr gone ↦ flies_wider version list last0 one.most last0 last2 dir.disk (omega arith) (omega (arith, one.below, two.onward)) (fallen j dir (is.same gone) e gone)
    ];
    same = λ none. is.same (out j none) ∙ (end_one j).same none;
  }

  counted_on : (j : ℕ) → has live0 j ≡ true → has live2 j ≡ false → faults_at a j < 2 ^ 64 - 1 → faults_at a j < faults_at c j
  counted_on j was gone room = elim (cases_Bool (has live1 j)) [
    | inl there ↦ elim (cases_lt (faults_at b j) (2 ^ 64 - 1)) [
      | inl less ↦ omega (arith, rise j, two.counted j there gone less)
      | inr full ↦ omega (arith, room, full, rise_after j)
    ]
    | inr dropped ↦ omega (arith, one.counted j was dropped room, rise_after j)
  ]

  pub flown_trans : Flown (Unit {0}) version list (has live0) (has live2) last0 last2 a c
  flown_trans = record {
    each = throughout_trans (throughout_weaker one.each (λ t m is. record { at = λ j. at_first j (m.dirs j) (is.at j) })) (throughout_weaker two.each (λ t m is. record { at = λ j. at_second j (m.dirs j) (is.at j) }));
    alive = λ j e. one.alive j (two.alive j e);
    counted = counted_on;
    stand = two.stand;
    most = max one.most two.most;
    fall = λ u j was gone. elim (cases_Bool (has live1 j)) [
      | inl there ↦ flies_wider version list last1 two.most last0 (max one.most two.most) (disk_at c j) one.onward (omega arith) (two.fall tt j there gone)
      | inr dropped ↦ flies_wider version list last0 one.most last0 (max one.most two.most) (disk_at c j) (omega arith) (omega arith) (fallen j (c.now.dirs j) (((two.each.ends tt).at j).same dropped) was dropped)
    ];
    below = omega (arith, one.below, two.below, two.onward);
    onward = omega (arith, one.onward, two.onward);
  }
