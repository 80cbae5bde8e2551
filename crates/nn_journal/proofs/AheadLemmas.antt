-- Holders stay ahead, from step to step.
use Rattle.std.proofs.Common.{◌≡◌, ◌≢◌, inl, inr, ⊎_elim, ℕ, ◌-◌, ◌^◌, ◌<◌, true, List, sym, ◌∙◌, ap, subst, arith}
use Rattle.std.proofs.lemmas.Bool.{cases_Bool}
use Rattle.nn_base.specs.DirSets.{Members, has}
use Rattle.nn_host.specs.Moments.{State, Moment, Dir, disk_at, faults_at}
use Rattle.nn_host.specs.Calls.{next_count}
use Rattle.nn_host.specs.Runs.{EachDir}
use Rattle.nn_host.proofs.RunsLemmas.{throughout_trans, throughout_weaker, throughout_refl, throughout_both}
use Rattle.nn_marks.specs.declared.version.Version.{Version}
use Rattle.nn_segment_file.specs.Log.{Shared, Logs}
use Rattle.nn_segment_file.specs.Stages.{Stage, last_of, Does}
use Rattle.nn_journal.specs.Among.{AllAt, AmongAt, SteppedAll}
use Rattle.nn_journal.specs.Carried.{Carried}
use Rattle.nn_journal.specs.Ahead.{AheadAt, HoldersAhead}
use Rattle.nn_segment_file.specs.declared.step.Step.{Step}
use Rattle.nn_segment_file.proofs.CallLemmas.{logs_weaker}
use Rattle.nn_segment_file.proofs.StageLemmas.{stage_logs, does_grow}

rose : (n : ℕ) → n < 2 ^ 64 - 1 → next_count n ≢ n
rose n small e = omega (arith, small, e)

-- one step
pub ahead_step : {told : Type 0} {version : Version} {list : Shared} {from to : Stage} {step : Step} {first : ℕ} {bytes : List ℕ} {live live2 holders : Members} {a b : State} → Does version list step first bytes from to → (told → AllAt version list from live a)
    → SteppedAll told step first bytes holders live live2 a b → HoldersAhead told version list (last_of from) (last_of to) live holders a b
ahead_step {told} {version} {list} {from} {to} {live = live} {holders = holders} {a = a} does start stepped = throughout_weaker (throughout_both (stepped.any_moment version list from to does start) (stepped.order version list from to does start)) (λ tells m at. ⊎_elim
    (λ untouched. record {
      mid = last_of from;
      low = omega arith;
      holding = λ j is_live holds small same. ((at.0.at j).logged is_live).logs;
      others = λ j is_live lacks. subst (λ (d : Dir). Logs version list (last_of from) (last_of from) d.disk) (sym (untouched j lacks)) (stage_logs version list from (disk_at a j) (start tells j is_live));
    })
    (λ held. record {
      mid = last_of to;
      low = does_grow does;
      holding = λ j is_live holds small same. stage_logs version list to (m.dirs j).disk (held j is_live holds small same);
      others = λ j is_live lacks. ((at.0.at j).logged is_live).logs;
    })
    at.1)

-- nothing done
pub ahead_none : {told : Type 0} {version : Version} {list : Shared} (stage : Stage) {live holders : Members} {a : State} → (told → AllAt version list stage live a) → HoldersAhead told version list (last_of stage) (last_of stage) live holders a a
ahead_none {told} {version} {list} stage {live} {holders} {a} start = throughout_refl (λ tells. record {
  mid = last_of stage;
  low = omega arith;
  holding = λ j is_live holds small same. stage_logs version list stage (disk_at a j) (start tells j is_live);
  others = λ j is_live lacks. stage_logs version list stage (disk_at a j) (start tells j is_live);
})

-- one after another
module _ {told : Type 0} {version : Version} {list : Shared} {from mid to : Stage} {below1 below2 : ℕ} {live0 live1 live2 : Members} {a b c : State} (holders : Members) (one : Carried told version list from mid below1 holders live0 live1 a b) (two : Carried told version list mid to below2 holders live1 live2 b c) where
  ahead_first : (m : Moment) → AheadAt version list (last_of from) (last_of mid) live0 holders a m → AheadAt version list (last_of from) (last_of to) live0 holders a m
  ahead_first m p = record {
    mid = p.mid;
    low = p.low;
    holding = λ j is_live holds small same. logs_weaker p.mid (last_of to) (omega arith) two.grows (p.holding j is_live holds small same);
    others = p.others;
  }

  -- a holder that hasn't failed is still live
  holder_live : (m : Moment) → EachDir (AmongAt version list mid to live1 b) m → (j : ℕ) → has live0 j ≡ true → faults_at a j < 2 ^ 64 - 1 → (m.dirs j).faults ≡ faults_at a j → (has live1 j ≡ true) × (faults_at b j ≡ faults_at a j)
  holder_live m each j is_live small same = ⊎_elim
      (λ stays. (stays.same_live ∙ is_live, stays.faults))
      (λ dropped. absurd (rose (faults_at a j) small (sym dropped.faults ∙ ap (λ (d : Dir). d.faults) (sym ((each.at j).same dropped.not_live)) ∙ same)))
      (one.counted j)

  ahead_second : told → (m : Moment) → EachDir (AmongAt version list mid to live1 b) m × AheadAt version list (last_of mid) (last_of to) live1 holders b m → AheadAt version list (last_of from) (last_of to) live0 holders a m
  ahead_second tells m (each, p) = record {
    mid = p.mid;
    low = omega (arith, one.grows, p.low);
    holding = λ j is_live holds small same. let still = holder_live m each j is_live small same in p.holding j still.0 holds (omega (arith, small, still.1)) (same ∙ sym still.1);
    others = λ j is_live lacks. elim (cases_Bool (has live1 j)) [
      | inl still ↦ logs_weaker (last_of from) p.mid one.grows (omega arith) (p.others j still lacks)
      | inr lost ↦ subst (λ (d : Dir). Logs version list (last_of from) p.mid d.disk) (sym ((each.at j).same lost))
          (logs_weaker (last_of from) p.mid (omega arith) p.low (((one.any_moment.ends tells).at j).logged is_live).logs)
    ];
  }

  pub ahead_both : HoldersAhead told version list (last_of from) (last_of mid) live0 holders a b → HoldersAhead told version list (last_of mid) (last_of to) live1 holders b c → HoldersAhead told version list (last_of from) (last_of to) live0 holders a c
  ahead_both p q = throughout_trans (throughout_weaker p (λ tells m at. ahead_first m at)) (throughout_weaker (throughout_both two.any_moment q) ahead_second)
