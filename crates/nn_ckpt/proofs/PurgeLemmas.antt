-- One of the live directories that is purged.
use Rattle.std.proofs.Common.{◌≡◌, inl, inr, ⊎_elim, ℕ, ◌≤◌, false, [], Option, None, is_some, refl, sym, ◌∙◌, ap, subst, arith}
use Rattle.std.proofs.lemmas.Bool.{cases_lt}
use Rattle.std.proofs.lemmas.Option.{none-some}
use Rattle.nn_base.specs.declared.sub.Sub.TheVariants.{Current}
use Rattle.nn_base.specs.declared.file_name.FileName.TheVariants as name
use Rattle.nn_host.specs.Disk.{Disk, File, Reads, Leaves}
use Rattle.nn_host.specs.Moments.{Dir, State, disk_at}
use Rattle.nn_marks.specs.declared.version.Version.{Version}
use Rattle.nn_state.specs.Table.{table_of}
use Rattle.nn_state.proofs.TableLemmas.{seven_by}
use Rattle.nn_chain.specs.Folder.{folder_at}
use Rattle.nn_segment_file.specs.Log.{Shared, Beside, IsOfLog}
use Rattle.nn_segment_file.specs.Stages.{Stage, base_of, last_of}
use Rattle.nn_kept.specs.Laws.{EachLeft}
use Rattle.nn_kept.specs.Ends.{EndsBetween}
use Rattle.nn_ckpt.specs.Retention.{IsPurging, IsPurged, WasPurged, IsPruned}
use Rattle.nn_ckpt.specs.Checkpointed.{HasLastImage, HasTwoImages, StaysTwoImages, IsPurgingOf}
use Rattle.nn_ckpt.proofs.EachLemmas.{IsOfDir}
use Rattle.nn_ckpt.proofs.ImagedLemmas.{ImagedDisk}
use Rattle.nn_ckpt.proofs.PurgingLemmas.{purging_ends, purging_stands}
use Rattle.nn_ckpt.proofs.LoggingLemmas.{logging_keeps_two, logging_keeps_pruned}
use Rattle.nn_ckpt.proofs.TwoLemmas.{images_are_before, purging_keeps_two, purged_is_pruned}

pub purging_none : (r : Reads) (d : Disk) → IsPurgingOf r d d
purging_none r d = record { root = refl; subs = λ s. refl; other_subs = λ s n ne. refl; files = λ n. inl refl }

pub purged_of_dir : IsOfDir WasPurged
purged_of_dir j a b a2 b2 dir reads dir_after reads_after was = record {
  disk = subst (λ (x : Dir). IsPurged (folder_at (a2.reads j) Current) (disk_at a2 j) x.disk) (sym dir_after)
      (subst (λ (x : Dir). IsPurged (folder_at (a2.reads j) Current) x.disk (disk_at b j)) (sym dir)
      (subst (λ (r : Reads). IsPurged (folder_at r Current) (disk_at a j) (disk_at b j)) (sym reads) was.disk));
  reads = subst (λ (x : Reads). IsPurged (folder_at (a2.reads j) Current) (a2.reads j) x) (sym reads_after)
      (subst (λ (r : Reads). IsPurged (folder_at r Current) r (b.reads j)) (sym reads) was.reads);
}

-- at each moment of its purging a directory stands where it stood, with its last image
module _ (version : Version) (list : Shared) (stage : Stage) (r : Reads) (old d : Disk) (as_read : Leaves old r) (p : IsPurging (folder_at r Current) old d) (was : ImagedDisk version list stage old) where
  same_version : d.file Current name.Version ≡ old.file Current name.Version
  same_version = ⊎_elim (λ same. same) (λ gone. absurd gone.0) (p.files name.Version)

  -- what is in progress stays, and none comes
  no_other : (first : ℕ) → old.file Current (name.InProgress first) ≡ None → d.file Current (name.InProgress first) ≡ None
  no_other first none = ⊎_elim (λ same. same ∙ none) (λ gone. gone.1) (p.files (name.InProgress first))

  ended : EndsBetween version false None list (last_of stage) (last_of stage) d × HasLastImage version list (last_of stage) d
  ended = purging_ends version false None list (last_of stage) r old d was.flies.normal as_read was.image was.flies.ends p

  pub purging_imaged : ImagedDisk version list stage d
  purging_imaged = record {
    stands = purging_stands version list stage (last_of stage) r old d as_read was.image was.stands p;
    alone = λ first ranged not_begun. no_other first (was.alone first ranged not_begun);
    flies = record { normal = ap table_of (seven_by old d p.root p.subs (ap (λ (o : Option File). is_some o) same_version)) ∙ was.flies.normal; ends = ended.0 };
    image = ended.1;
  }

-- an image that is whole is none that comes after the last one
two_low : (version : Version) (list : Shared) (older id last : ℕ) (d : Disk) → HasTwoImages version list older id d → HasLastImage version list last d → id ≤ last
two_low version list older id last d two image = elim (cases_lt image.id id) [
  | inl above ↦ absurd (none-some (record { synced = two.whole.bytes; pending = [] }) (sym (image.later id above) ∙ two.whole.stands.image))
  | inr within ↦ omega (arith, within, image.low)
]

-- once it was purged, and then no more than its log was written to
module _ (version : Version) (list : Shared) (stage : Stage) (j : ℕ) (old mid new : State) (as_read : Leaves (disk_at old j) (old.reads j)) (was : ImagedDisk version list stage (disk_at old j)) (purged : WasPurged j old mid) (beside : Beside (IsOfLog (base_of stage)) (disk_at mid j) (disk_at new j)) where
  at_mid : ImagedDisk version list stage (disk_at mid j)
  at_mid = purging_imaged version list stage (old.reads j) (disk_at old j) (disk_at mid j) as_read purged.disk.purging was

  pub then_pruned : EachLeft (disk_at new j) (λ c. IsPruned (folder_at c Current))
  then_pruned = logging_keeps_pruned version list (base_of stage) (last_of stage) (disk_at mid j) (disk_at new j) at_mid.image
      (images_are_before version list stage (last_of stage) (disk_at mid j) at_mid.image at_mid.stands) beside (λ c leaves fair. purged_is_pruned j old mid as_read purged c leaves)

  pub then_two : StaysTwoImages version list (disk_at old j) (disk_at new j)
  then_two older id two =
      let kept = purging_keeps_two version list (old.reads j) (disk_at old j) (disk_at mid j) as_read purged.disk.purging older id two in
      let last : HasLastImage version list (last_of stage) (disk_at mid j) = record {
        id = id;
        whole = kept.whole;
        low = two_low version list older id (last_of stage) (disk_at mid j) kept at_mid.image;
        later = λ other above. let less = kept.less in kept.later other (omega (arith, less, above)) (λ e. omega (arith, e, above));
      } in
      logging_keeps_two version list older id (base_of stage) (disk_at mid j) (disk_at new j) kept (images_are_before version list stage (last_of stage) (disk_at mid j) last at_mid.stands) beside
