-- What a floor has left behind stays behind at each moment at which it is emptied.
use Rattle.std.proofs.Common.{◌≡◌, inl, inr, ⊎_elim, Bool, true, false, Ok, Err, refl, sym, ◌∙◌, ap, subst}
use Rattle.std.specs.Prelude.{is_some}
use Rattle.nn_base.specs.declared.sub.Sub.TheVariants.{Current, Previous}
use Rattle.nn_base.specs.declared.file_name.FileName.TheVariants.{Version}
use Rattle.nn_host.specs.Disk.{Held, Disk}
use Rattle.nn_state.specs.declared.state.StorageState.{StorageState}
use Rattle.nn_state.specs.declared.state.Why.TheVariants.{PreviousAlone}
use Rattle.nn_state.specs.Table.{seven_of, table_of}
use Rattle.nn_state.specs.Typed.{IsIn}
use Rattle.nn_state.specs.Recovery.{HasNoTmp, KeepsSeat, IsRecovered}
use Rattle.nn_state.proofs.TableLemmas.{at_rest, rooted, table_at_rest, table_fresh}
use Rattle.nn_state.proofs.LeftLemmas.{seven_left}
use Rattle.nn_pick.proofs.HoldsLemmas.{serves_formatted, fresh_serves}
use Rattle.nn_kept.specs.Kept.{Shared}
use Rattle.nn_kept.specs.Laws.{IsOutranked, EachLeft}
use Rattle.nn_remake.specs.Clearing.{IsAtRest, KeepsCurrent, IsClearing}
use Rattle.nn_remake.proofs.LeftLemmas.{fresh_left}
use Rattle.nn_steps.proofs.SeatLemmas.{left_cut, reads_whole, reads_fair}
use Rattle.nn_steps.proofs.RecoveredLemmas.{served, recovering_keeps, recovering_leaves_behind}
use Rattle.nn_steps.proofs.ClearedLemmas.{clearing_keeps}
use Rattle.nn_host.proofs.CleanLemmas.{reading}
use Rattle.nn_run.specs.Steps.{LeftBehind}
use Rattle.nn_run.specs.Restoring.{StaysBehind}
use Rattle.nn_restore.specs.Emptying.{IsEmptying}

-- ---- while it is recovered

recovering_stays : (old d : Disk) → KeepsSeat old d → StaysBehind old d
recovering_stays old d keeps shared was = record {
  kept = recovering_keeps shared false false old d was.kept keeps;
  behind = recovering_leaves_behind shared old d was.kept.kept was.behind keeps;
}

-- ---- once it was recovered

rest_seven : {A : Type 0} (d : Held A) → d.root ≡ true → HasNoTmp d → seven_of d ≡ at_rest (is_some (d.file Current Version)) (d.has Previous)
rest_seven d root none = λ k. record {
  root = root k;
  current = is_some (d.file Current Version);
  previous = d.has Previous;
  previous_tmp = none.upgrade k;
  removed_tmp = none.rollback k;
  finalized_tmp = none.finalize k;
  last_checkpoint_tmp = none.checkpoint k;
}

table_alone : table_of (at_rest false true) ≡ Err PreviousAlone
unfolding table_of
table_alone = refl

-- of those without a temporary folder the table has a state for all but a lone `previous`
rest_by : {A : Type 0} (d : Held A) (version previous : Bool) (state : StorageState) → seven_of d ≡ at_rest version previous → IsIn state d → IsAtRest d
rest_by d true previous state is fits = inl (ap table_of is ∙ table_at_rest previous)
rest_by d false false state is fits = inr (ap table_of is ∙ table_fresh)
rest_by d false true state is fits = absurd (let apart : Ok state ≡ Err PreviousAlone = sym fits ∙ ap table_of is ∙ table_alone in cc)

recovered_rests : (shared : Shared) (old mid : Disk) → LeftBehind shared mid → IsRecovered old mid → IsAtRest mid
recovered_rests shared old mid was recovered =
    let (state, fits, there) = (was.kept.kept (reading mid) (reads_whole mid) (reads_fair mid)).state in
    let is : IsIn state mid = sym (ap table_of (seven_left mid (reading mid) (reads_whole mid))) ∙ fits in
    rest_by mid (is_some (mid.file Current Version)) (mid.has Previous) state (rest_seven mid (rooted (seven_of mid) state is there) recovered.no_tmp) is

-- ---- while it is cleared

module _ (shared : Shared) (old d : Disk) where
  current_behind : EachLeft old (IsOutranked shared) → KeepsCurrent old d → EachLeft d (IsOutranked shared)
  current_behind low is c leaves fair v a under =
      let it = left_cut old d c leaves is.current is.previous in
      low it.before it.left (it.fair fair) v a (record { serves = served it.before c it.unserved it.current a under.serves; says = under.says })

  clearing_behind : EachLeft old (IsOutranked shared) → IsClearing old d → EachLeft d (IsOutranked shared)
  clearing_behind low is = ⊎_elim
      (λ fresh c leaves fair v a under. absurd (serves_formatted c a under.serves (fresh_serves c (fresh_left d c leaves fresh))))
      (λ keeps. current_behind low keeps)
      is

clearing_stays : (old d : Disk) → IsClearing old d → StaysBehind old d
clearing_stays old d is shared was = record {
  kept = clearing_keeps shared old d was.kept.kept (inl was.behind) is;
  behind = clearing_behind shared old d was.behind is;
}

-- ---- all of it

pub emptying_stays : (old d : Disk) → IsEmptying old d → StaysBehind old d
emptying_stays old d is shared was = ⊎_elim
    (λ same. subst (LeftBehind shared) (sym same) was)
    (λ more. ⊎_elim
    (λ keeps. recovering_stays old d keeps shared was)
    (λ it.
    let between = recovering_stays old it.0 it.1 shared was in
    clearing_stays it.0 d (it.3 (recovered_rests shared old it.0 between it.2)) shared between)
    more)
    is
