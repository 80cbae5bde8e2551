-- The seven truth values where any part of a folder is left.
use Rattle.std.proofs.Common.{◌≡◌, ◌⊎◌, ⊎_elim, false, Option, None, sym, ◌∙◌, ap}
use Rattle.std.specs.Prelude.{is_some}
use Rattle.nn_base.specs.declared.sub.Sub.TheVariants.{Current, Previous, PreviousTmp, RemovedTmp, FinalizedTmp, LastCheckpointTmp, PreviousCheckpoint}
use Rattle.nn_base.specs.declared.file_name.FileName.TheVariants.{Version}
use Rattle.nn_host.specs.Disk.{Disk, File, PartOf}
use Rattle.nn_state.specs.Table.{seven_of}

-- ---- any part of a folder is left

part_version : (f g : Option File) → is_some g ≡ false → (f ≡ None) ⊎ (f ≡ g) → is_some f ≡ is_some g
part_version f g none is = ⊎_elim (λ gone. ap (λ (x : Option File). is_some x) gone ∙ sym none) (λ same. ap (λ (x : Option File). is_some x) same) is

module _ {old part : Disk} where
  -- of `current`, where it has no VERSION
  pub part_current : PartOf Current old part → is_some (old.file Current Version) ≡ false → seven_of part ≡ seven_of old
  part_current is none = λ k. record {
    root = is.root k;
    current = part_version (part.file Current Version) (old.file Current Version) none (is.files Version) k;
    previous = is.other_subs Previous (λ x. cc) k;
    previous_tmp = is.other_subs PreviousTmp (λ x. cc) k;
    removed_tmp = is.other_subs RemovedTmp (λ x. cc) k;
    finalized_tmp = is.other_subs FinalizedTmp (λ x. cc) k;
    last_checkpoint_tmp = is.other_subs LastCheckpointTmp (λ x. cc) k;
  }

  pub part_checkpoint : PartOf PreviousCheckpoint old part → seven_of part ≡ seven_of old
  part_checkpoint is = λ k. record {
    root = is.root k;
    current = is_some (is.other_files Current Version (λ x. cc) k);
    previous = is.other_subs Previous (λ x. cc) k;
    previous_tmp = is.other_subs PreviousTmp (λ x. cc) k;
    removed_tmp = is.other_subs RemovedTmp (λ x. cc) k;
    finalized_tmp = is.other_subs FinalizedTmp (λ x. cc) k;
    last_checkpoint_tmp = is.other_subs LastCheckpointTmp (λ x. cc) k;
  }

  pub part_removed : PartOf RemovedTmp old part → seven_of part ≡ record (seven_of old) { removed_tmp = part.has RemovedTmp }
  part_removed is = λ k. record {
    root = is.root k;
    current = is_some (is.other_files Current Version (λ x. cc) k);
    previous = is.other_subs Previous (λ x. cc) k;
    previous_tmp = is.other_subs PreviousTmp (λ x. cc) k;
    removed_tmp = part.has RemovedTmp;
    finalized_tmp = is.other_subs FinalizedTmp (λ x. cc) k;
    last_checkpoint_tmp = is.other_subs LastCheckpointTmp (λ x. cc) k;
  }

  pub part_finalized : PartOf FinalizedTmp old part → seven_of part ≡ record (seven_of old) { finalized_tmp = part.has FinalizedTmp }
  part_finalized is = λ k. record {
    root = is.root k;
    current = is_some (is.other_files Current Version (λ x. cc) k);
    previous = is.other_subs Previous (λ x. cc) k;
    previous_tmp = is.other_subs PreviousTmp (λ x. cc) k;
    removed_tmp = is.other_subs RemovedTmp (λ x. cc) k;
    finalized_tmp = part.has FinalizedTmp;
    last_checkpoint_tmp = is.other_subs LastCheckpointTmp (λ x. cc) k;
  }
