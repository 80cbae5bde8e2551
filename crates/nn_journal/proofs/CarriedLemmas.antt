-- Steps in all live directories, one after another.
use Rattle.std.proofs.Common.{◌≡◌, inl, inr, ⊎_elim, ℕ, ◌≤◌, None, Bool, true, false, List, refl, sym, ◌∙◌, ap, subst, arith}
use Rattle.std.proofs.lemmas.Bool.{cases_Bool, cases_order}
use Rattle.nn_base.specs.declared.sub.Sub.TheVariants.{Current}
use Rattle.nn_base.specs.declared.file_name.FileName.TheVariants.{InProgress}
use Rattle.nn_base.specs.DirSets.{Members, has}
use Rattle.nn_host.specs.Moments.{State, Moment, Dir, disk_at}
use Rattle.nn_host.specs.Calls.{next_count}
use Rattle.nn_host.specs.Runs.{Throughout, EachDir}
use Rattle.nn_host.proofs.RunsLemmas.{throughout_trans, throughout_weaker, throughout_refl}
use Rattle.nn_marks.specs.declared.version.Version.{Version}
use Rattle.nn_segment_file.specs.Log.{Shared, Logs}
use Rattle.nn_segment_file.specs.Steps.{Logged}
use Rattle.nn_segment_file.specs.Stages.{Stage, base_of, last_of, OneInProgress, Does}
use Rattle.nn_journal.specs.Among.{AllAt, AllAlone, AmongAt, EachCounted, SteppedAll}
use Rattle.nn_journal.specs.Carried.{Carried}
use Rattle.nn_segment_file.specs.declared.step.Step.{Step}
use Rattle.nn_segment_file.proofs.BesideLemmas.{beside_refl, older_not_log}
use Rattle.nn_journal.proofs.AheadLemmas.{ahead_none, ahead_step, ahead_both}
use Rattle.nn_segment_file.proofs.CallLemmas.{logs_weaker, logged_weaker}
use Rattle.nn_segment_file.proofs.StageLemmas.{stage_logs, stage_alone, leads_stands, leads_alone, does_grow, does_rise, not_begun, alone_on}

clash : {b : Bool} → b ≡ true → b ≡ false → ⊥
clash t f = let apart = sym t ∙ f in cc

-- who is live in the end was live before
pub still_live : {among old_live live : Members} {a b : State} → EachCounted among old_live live a b → (j : ℕ) → has live j ≡ true → has old_live j ≡ true
still_live counted j is_live = ⊎_elim (λ stays. sym stays.same_live ∙ is_live) (λ dropped. absurd (clash is_live dropped.not_live)) (counted j)

-- nothing done
pub carried_none : {told : Type 0} {version : Version} {list : Shared} {stage : Stage} {holders live : Members} {a : State} (below : ℕ) → (told → AllAt version list stage live a) → Carried told version list stage stage below holders live live a a
carried_none {told} {version} {list} {stage} {holders} {live} {a} below start = record {
  grows = omega arith;
  rises = omega arith;
  alone = λ tells j is_live. stage_alone version list stage (disk_at a j) (start tells j is_live);
  counted = λ j. inl (record { same_live = refl; faults = refl });
  any_moment = throughout_refl (λ tells. record { at = λ j. record { logged = λ is_live. record { logs = stage_logs version list stage (disk_at a j) (start tells j is_live); beside = beside_refl (disk_at a j) }; same = λ out. refl } });
  stands = start;
  dropped = λ tells j is_live lost. absurd (clash is_live lost);
  ahead = ahead_none stage start;
}

-- one step
pub carried_step : {told : Type 0} {version : Version} {list : Shared} {from to : Stage} {step : Step} {first : ℕ} {bytes : List ℕ} {holders old_live live : Members} {a b : State} → Does version list step first bytes from to → (told → AllAt version list from old_live a)
    → SteppedAll told step first bytes holders old_live live a b → Carried told version list from to (last_of to) holders old_live live a b
carried_step {told} {version} {list} {from} {to} {step} {first} {bytes} {holders} {old_live} {live} {a} {b} does start stepped = record {
  grows = does_grow does;
  rises = does_rise does;
  alone = λ tells j is_live. leads_alone does (disk_at b j) (stepped.done version list from to does tells (start tells) j (still_live stepped.counted j is_live) is_live);
  counted = stepped.counted;
  any_moment = stepped.any_moment version list from to does start;
  stands = λ tells j is_live. leads_stands does (disk_at b j) (stepped.done version list from to does tells (start tells) j (still_live stepped.counted j is_live) is_live);
  dropped = λ tells j was lost. ((((stepped.any_moment version list from to does start).ends tells).at j).logged was).logs;
  ahead = ahead_step does start stepped;
}

-- counts, one after another
pub counted_both : {live0 live1 live2 : Members} {a b c : State} → EachCounted live0 live0 live1 a b → EachCounted live1 live1 live2 b c → EachCounted live0 live0 live2 a c
counted_both one two j = elim (two j) [
  | inl stays ↦ elim (one j) [
    | inl before ↦ inl (record { same_live = stays.same_live ∙ before.same_live; faults = stays.faults ∙ before.faults })
    | inr dropped ↦ inr (record { was_among = dropped.was_among; not_live = stays.same_live ∙ dropped.not_live; faults = stays.faults ∙ dropped.faults })
  ]
  | inr dropped ↦ elim (one j) [
    | inl before ↦ inr (record { was_among = sym before.same_live ∙ dropped.was_among; not_live = dropped.not_live; faults = dropped.faults ∙ ap next_count before.faults })
    | inr earlier ↦ absurd (clash dropped.was_among earlier.not_live)
  ]
]

-- one after another
module _ {told : Type 0} {version : Version} {list : Shared} {from mid to : Stage} {below1 below2 : ℕ} {holders live0 live1 live2 : Members} {a b c : State} (one : Carried told version list from mid below1 holders live0 live1 a b) (two : Carried told version list mid to below2 holders live1 live2 b c) where
  both_counted : EachCounted live0 live0 live2 a c
  both_counted = counted_both one.counted two.counted

  first_part : told → (m : Moment) → EachDir (AmongAt version list from mid live0 a) m → EachDir (AmongAt version list from to live0 a) m
  first_part tells m each = record {
    at = λ j. record {
      logged = λ is_live. logged_weaker (disk_at a j) (last_of from) (last_of to) (beside_refl (disk_at a j)) (omega arith) (omega arith) two.grows ((each.at j).logged is_live);
      same = (each.at j).same;
    };
  }

  by_then : told → EachDir (AmongAt version list from to live0 a) b.now
  by_then tells = first_part tells b.now (one.any_moment.ends tells)

  second_part : told → (m : Moment) → EachDir (AmongAt version list mid to live1 b) m → EachDir (AmongAt version list from to live0 a) m
  second_part tells m each = record {
    at = λ j. record {
      logged = λ is_live. elim (cases_Bool (has live1 j)) [
        | inl still ↦ logged_weaker (disk_at a j) (last_of from) (last_of to) (((by_then tells).at j).logged is_live).beside one.rises one.grows (omega arith) ((each.at j).logged still)
        | inr lost ↦ subst (λ (d : Dir). Logged version list (base_of from) (last_of from) (last_of to) (disk_at a j) d.disk) (sym ((each.at j).same lost)) (((by_then tells).at j).logged is_live)
      ];
      same = λ out. (each.at j).same (elim (cases_Bool (has live1 j)) [
        | inl still ↦ absurd (clash (still_live one.counted j still) out)
        | inr lost ↦ lost
      ]) ∙ ((one.any_moment.ends tells).at j).same out;
    };
  }

  both_run : Throughout told a c (EachDir (AmongAt version list from to live0 a))
  both_run = throughout_trans (throughout_weaker one.any_moment first_part) (throughout_weaker two.any_moment second_part)

  -- a directory that the first dropped isn't touched by the second
  first_dropped : told → (j : ℕ) → has live0 j ≡ true → has live1 j ≡ false → Logs version list (last_of from) below1 (disk_at c j)
  first_dropped tells j was lost = subst (λ (d : Dir). Logs version list (last_of from) below1 d.disk) (sym (((two.any_moment.ends tells).at j).same lost)) (one.dropped tells j was lost)

  -- a segment in progress that is no later than the second stage's is as the first left it
  both_alone : told → (j : ℕ) → has live2 j ≡ true → OneInProgress from to (disk_at c j)
  both_alone tells j is_live first ranged above other =
      let was = still_live two.counted j is_live in
      let older : first ≤ base_of mid → (disk_at c j).file Current (InProgress first) ≡ None = λ le.
      (((two.any_moment.ends tells).at j).logged was).beside.other_files (InProgress first) (older_not_log (InProgress first) first refl le) ∙ one.alone tells j was first ranged above (not_begun mid first le) in
      elim (cases_order first (base_of mid)) [
        | inl same ↦ older (omega (arith, same))
        | inr (inl less) ↦ older (omega (arith, less))
        | inr (inr more) ↦ two.alone tells j is_live first ranged more other
      ]

  pub carried_both : (below : ℕ) → below1 ≤ below → below2 ≤ below → Carried told version list from to below holders live0 live2 a c
  carried_both below low high = record {
    grows = omega (arith, one.grows, two.grows);
    rises = omega (arith, one.rises, two.rises);
    alone = both_alone;
    counted = both_counted;
    any_moment = both_run;
    stands = two.stands;
    ahead = ahead_both holders one two one.ahead two.ahead;
    dropped = λ tells j was lost. elim (cases_Bool (has live1 j)) [
      | inl still ↦ logs_weaker (last_of from) below one.grows high (two.dropped tells j still lost)
      | inr gone ↦ logs_weaker (last_of from) below (omega arith) low (first_dropped tells j was gone)
    ];
  }

-- where no other segment was in progress, none is
pub carried_alone : {told : Type 0} {version : Version} {list : Shared} {from to : Stage} {below : ℕ} {holders old_live live : Members} {a b : State} → Carried told version list from to below holders old_live live a b → told → AllAlone from old_live a → AllAlone to live b
carried_alone {from = from} {to = to} {a = a} {b = b} p tells alone j is_live =
    let was = still_live p.counted j is_live in
    alone_on from to (disk_at a j) (disk_at b j) (p.alone tells j is_live) (((p.any_moment.ends tells).at j).logged was).beside (alone j was)

-- where none is dropped, it doesn't matter how low one would be
pub carried_lower : {told : Type 0} {version : Version} {list : Shared} {from to : Stage} {below : ℕ} {holders old_live live : Members} {a b : State} (low : ℕ) → live ≡ old_live → Carried told version list from to below holders old_live live a b → Carried told version list from to low holders old_live live a b
carried_lower low same p = record {
  grows = p.grows;
  rises = p.rises;
  alone = p.alone;
  counted = p.counted;
  any_moment = p.any_moment;
  stands = p.stands;
  ahead = p.ahead;
  dropped = λ tells j was lost. absurd (clash was (ap (λ (s : Members). has s j) (sym same) ∙ lost));
}
