-- A directory while it is made and once it was: it isn't formatted, or stands at its image.
use Rattle.std.proofs.Common.{◌≡◌, inl, inr, ⊎_elim, ℕ, ◌<◌, Some, None, refl, sym, ◌∙◌, ap, arith}
use Rattle.std.proofs.lemmas.Option.{none-some}
use Rattle.nn_base.specs.Limits.{program_layout}
use Rattle.nn_base.specs.Names.{first_id}
use Rattle.nn_base.specs.declared.sub.Sub.TheVariants.{Current}
use Rattle.nn_base.specs.declared.file_name.FileName.{FileName}
use Rattle.nn_base.specs.declared.file_name.FileName.TheVariants as name
use Rattle.nn_host.specs.Disk.{Disk, Reads, Leaves}
use Rattle.nn_marks.specs.declared.version.Version.{Version}
use Rattle.nn_state.specs.declared.state.StorageState.TheVariants.{NotFormatted}
use Rattle.nn_chain.specs.Folder.{folder_at}
use Rattle.nn_chain.specs.Records.{first_in, HasNoneAfter}
use Rattle.nn_chain.proofs.SameLemmas.{not_segment}
use Rattle.nn_pick.specs.Refusing.{spent_from}
use Rattle.nn_pick.proofs.HoldsLemmas.{fresh_serves}
use Rattle.nn_segment_file.specs.Log.{Shared, EndsWithin, Rests}
use Rattle.nn_segment_file.specs.Stages.{Ended}
use Rattle.nn_remake.specs.Made.{IsMade, ReadsMade, FreshOrMade}
use Rattle.nn_remake.proofs.LeftLemmas.{fresh_left, made_left, made_no_segment, made_serves}
use Rattle.nn_steps.proofs.MadeLemmas.{made_holds, made_ends}
use Rattle.nn_run.specs.Flights.{Flies}
use Rattle.nn_run.specs.Restoring.{IsMadeAt}
use Rattle.nn_ckpt.specs.Checkpointed.{HasLastImage}
use Rattle.nn_ckpt.proofs.ImagedLemmas.{ImagedDisk}

module _ (version : Version) (list : Shared) (id : ℕ) (layout : version.layout ≡ program_layout) (room : id < spent_from) (d : Disk) where
  pub made_flies : IsMade version id (list id) d → Flies version list id id d
  made_flies made = record { normal = made.normal; ends = made_ends version id list None d layout room made }

  pub making_made : FreshOrMade version id (list id) d → IsMadeAt version list id d
  making_made is = ⊎_elim
      (λ fresh. inl (λ c leaves fair. let left = fresh_left d c leaves fresh in ((NotFormatted, left, λ e. cc), fresh_serves c left)))
      (λ made. inr (made_flies made))
      is

  module _ (made : IsMade version id (list id) d) where
    -- no segment file is there
    no_segment : (n : FileName) (first : ℕ) → first_in n ≡ Some first → d.file Current n ≡ None
    no_segment n first begins = made.whole.other_files n (not_segment n name.Version first refl begins) (not_segment n name.Seen first refl begins) (not_segment n (name.Image id) first refl begins) (not_segment n (name.Md5 id) first refl begins)

    module _ (c : Reads) (leaves : Leaves d c) where
      reads : ReadsMade version id (list id) c
      reads = made_left version id (list id) d c made leaves

      none : HasNoneAfter (folder_at c Current) version.layout id
      none n r above holds = none-some holds.bytes (sym (made_no_segment c reads n holds.first holds.ranged holds.begins) ∙ holds.there)

      ends_within : EndsWithin version list id id (folder_at c Current)
      ends_within =
          let holds = made_holds version id (list id) layout room c reads in
          record { last = id; least = omega arith; most = omega arith; ends = record { says = holds.says; seen = holds.seen; chain = (made_serves c reads).chain; none = none } }

    rests : Rests version list id d
    rests = record {
      has = made.whole.current;
      logs = record { left = λ c leaves fair. ends_within c leaves };
      none = λ n first ranged begins above. no_segment n first begins;
    }

    last_image : HasLastImage version list id d
    last_image = record {
      id = id;
      whole = record { bytes = made.bytes; image = made.image; stands = made.whole.image_files };
      low = omega arith;
      later = λ other above. made.whole.other_files (name.Image other) (λ e. cc) (λ e. cc) (λ e. let same : other ≡ id = ap first_id e in omega (arith, above, same)) (λ e. cc);
    }

    -- it stands where a segment that was ended at its image would leave it
    pub made_imaged : ImagedDisk version list (Ended id) d
    made_imaged = record {
      stands = rests;
      alone = λ first ranged not_begun. no_segment (name.InProgress first) first refl;
      flies = made_flies made;
      image = last_image;
    }
