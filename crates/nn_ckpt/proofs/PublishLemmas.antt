-- An image that is published in one of the live directories.
use Rattle.std.proofs.Common.{◌≡◌, ◌≢◌, inl, inr, ⊎_elim, ℕ, ◌≤◌, false, [], Option, Some, None, is_some, refl, sym, ◌∙◌, ap, subst, arith}
use Rattle.std.proofs.lemmas.Bool.{cases_eq}
use Rattle.std.proofs.lemmas.Option.{none-some}
use Rattle.nn_base.specs.Names.{first_id}
use Rattle.nn_base.specs.declared.sub.Sub.TheVariants.{Current}
use Rattle.nn_base.specs.declared.file_name.FileName.{FileName}
use Rattle.nn_base.specs.declared.file_name.FileName.TheVariants as name
use Rattle.nn_host.specs.Disk.{Disk, File, Reads, Leaves, certain}
use Rattle.nn_host.specs.Moments.{Dir, disk_at}
use Rattle.nn_marks.specs.declared.version.Version.{Version}
use Rattle.nn_tree.specs.Namespace.{Namespace}
use Rattle.nn_state.specs.Table.{table_of}
use Rattle.nn_state.proofs.TableLemmas.{seven_by}
use Rattle.nn_chain.specs.Folder.{folder_at}
use Rattle.nn_chain.specs.Images.{HasIntact}
use Rattle.nn_chain.specs.Records.{first_in}
use Rattle.nn_chain.specs.Chain.{Reached}
use Rattle.nn_chain.specs.Fair.{IsFair}
use Rattle.nn_chain.proofs.SameLemmas.{none_same, none_after_bare}
use Rattle.nn_segment_file.specs.Log.{Shared, EndsAt, EndsWithin, Rests}
use Rattle.nn_segment_file.specs.Stages.{Ended}
use Rattle.nn_remake.specs.Publishing.{IsPublishing, Placed, WasWritten, digest_of}
use Rattle.nn_remake.specs.Rank.{IsRanked, LeftRanked}
use Rattle.nn_remake.proofs.ChainLemmas.{same_segments}
use Rattle.nn_remake.proofs.RankLemmas.{ranked}
use Rattle.nn_kept.proofs.KeptOnwardLemmas.{version_there, seen_there}
use Rattle.nn_steps.proofs.CutLemmas.{left_none}
use Rattle.nn_steps.proofs.PublishedLemmas.{bare_end, publishing_ends}
use Rattle.nn_ckpt.specs.Checkpointed.{HasLastImage, IsPublishingOf, HasPublished}
use Rattle.nn_ckpt.proofs.EachLemmas.{IsOfDir}
use Rattle.nn_ckpt.proofs.ImagedLemmas.{ImagedDisk}

module _ (version : Version) (id : ℕ) (ns : Namespace) where
  pub publishing_none : (r : Reads) (d : Disk) → IsPublishingOf version id ns r d d
  publishing_none r d = record { beside = record { root = refl; subs = λ s. refl; other_subs = λ s n ne. refl; other_files = λ n image md5 ckpt tmp. refl }; image = inl refl }

  pub published_of_dir : IsOfDir (HasPublished version id ns)
  published_of_dir j a b a2 b2 dir reads dir_after reads_after was has =
      let w : WasWritten version id ns j a b = was (ap (λ (x : Dir). x.disk.has Current) (sym dir) ∙ has) in
      record {
        bytes = w.bytes;
        image = w.image;
        disk = subst (λ (x : Dir). Placed id (certain (Some w.bytes)) (certain (Some (digest_of id w.bytes))) (disk_at a2 j) x.disk) (sym dir_after)
            (subst (λ (x : Dir). Placed id (certain (Some w.bytes)) (certain (Some (digest_of id w.bytes))) x.disk (disk_at b j)) (sym dir) w.disk);
        reads = subst (λ (x : Reads). Placed id (Some w.bytes) (Some (digest_of id w.bytes)) (a2.reads j) x) (sym reads_after)
            (subst (λ (x : Reads). Placed id (Some w.bytes) (Some (digest_of id w.bytes)) x (b.reads j)) (sym reads) w.reads);
      }

-- ---- a directory that rests at its last id, at each moment of the publishing of the image of it

module _ (version : Version) (list : Shared) (id : ℕ) (old d : Disk) (r : Reads) (as_read : Leaves old r) (none : (later : ℕ) → id ≤ later → old.file Current (name.Image later) ≡ None) (p : IsPublishing version id (list id) old d) where
  other : (n : FileName) → n ≢ name.Image id → n ≢ name.Md5 id → n ≢ name.Ckpt id → n ≢ name.Md5Tmp id → d.file Current n ≡ old.file Current n
  other = p.beside.other_files

  unsound : ¬ HasIntact (folder_at r Current) version id
  unsound has = none-some has.1.bytes (sym (left_none (old.file Current (name.Image id)) (r.file Current (name.Image id)) (as_read.files Current (name.Image id)) (none id (omega arith))) ∙ has.1.there)

  is_ranked : IsRanked version (record { last = id; ns = list id }) old d
  is_ranked = ranked version id (list id) old d r as_read unsound p

  module _ (c : Reads) (leaves : Leaves d c) (fair : IsFair d c) (rests : Rests version list id old) where
    left : LeftRanked version (record { last = id; ns = list id }) old d c
    left = is_ranked.left c leaves

    at : EndsWithin version list id id (folder_at left.before Current)
    at = rests.logs.left left.before left.left (left.fair fair)

    at_id : at.last ≡ id
    at_id = (let least = at.least in let most = at.most in omega arith)

    still_ends : EndsWithin version list id id (folder_at c Current)
    still_ends =
        let here : Reached = record { last = id; ns = list id } in
        let ends = subst (λ (n : ℕ). EndsAt version list n (folder_at left.before Current)) at_id at.ends in
        let bare = bare_end (folder_at left.before Current) version here (none_after_bare (folder_at left.before Current) version here ends.none) in
        record {
          last = id;
          least = omega arith;
          most = omega arith;
          ends = record {
            says = version_there (folder_at left.before Current) (folder_at c Current) version (sym (left.beside.other_files name.Version (λ e. cc) (λ e. cc) (λ e. cc) (λ e. cc))) ends.says;
            seen = λ said has_seen. ends.seen said (seen_there (folder_at c Current) (folder_at left.before Current) said (left.beside.other_files name.Seen (λ e. cc) (λ e. cc) (λ e. cc) (λ e. cc)) has_seen);
            chain = ⊎_elim (λ it. it) (λ it. it) (left.keeps.last bare here ends.chain);
            none = none_same version.layout (folder_at left.before Current) (folder_at c Current) (same_segments (record { others = left.beside.other_files })) id ends.none;
          };
        }

  publishing_rests : Rests version list id old → Rests version list id d
  publishing_rests rests = record {
    has = p.beside.subs Current ∙ rests.has;
    logs = record { left = λ c leaves fair. still_ends c leaves fair rests };
    none = λ n first ranged begins above. same_segment n first begins ∙ rests.none n first ranged begins above;
  }
    where
      same_segment : (n : FileName) (first : ℕ) → first_in n ≡ Some first → d.file Current n ≡ old.file Current n
      same_segment n first begins = other n (λ e. none-some first (sym (ap first_in e) ∙ begins)) (λ e. none-some first (sym (ap first_in e) ∙ begins)) (λ e. none-some first (sym (ap first_in e) ∙ begins)) (λ e. none-some first (sym (ap first_in e) ∙ begins))

  -- the image that was the last one is, or the new one
  image_then : HasLastImage version list id old → HasLastImage version list id d
  image_then was = elim p.image [
    | inl same ↦ subst (λ (x : Disk). HasLastImage version list id x) (sym same) was
    | inr (inl gone) ↦ record {
      id = was.id;
      whole = record {
        bytes = was.whole.bytes;
        image = was.whole.image;
        stands = record {
          image = other (name.Image was.id) (λ e. apart (ap first_id e)) (λ e. cc) (λ e. cc) (λ e. cc) ∙ was.whole.stands.image;
          digest = other (name.Md5 was.id) (λ e. cc) (λ e. apart (ap first_id e)) (λ e. cc) (λ e. cc) ∙ was.whole.stands.digest;
        };
      };
      low = was.low;
      later = λ n above. elim (cases_eq n id) [
        | inl same ↦ subst (λ (x : ℕ). d.file Current (name.Image x) ≡ None) (sym same) gone
        | inr differs ↦ other (name.Image n) (λ e. differs (ap first_id e)) (λ e. cc) (λ e. cc) (λ e. cc) ∙ was.later n above
      ];
    }
    | inr (inr whole) ↦ record {
      id = id;
      whole = whole;
      low = omega arith;
      later = λ n above. other (name.Image n) (λ e. let same : n ≡ id = ap first_id e in omega (arith, same, above)) (λ e. cc) (λ e. cc) (λ e. cc) ∙ none n (omega (arith, above));
    }
  ]
    where
      apart : was.id ≢ id
      apart same = none-some (record { synced = was.whole.bytes; pending = [] }) (sym (none was.id (omega (arith, same))) ∙ was.whole.stands.image)

  pub publishing_imaged : ImagedDisk version list (Ended id) old → ImagedDisk version list (Ended id) d
  publishing_imaged was = record {
    stands = publishing_rests was.stands;
    alone = λ first ranged not_begun. other (name.InProgress first) (λ e. cc) (λ e. cc) (λ e. cc) (λ e. cc) ∙ was.alone first ranged not_begun;
    flies = record {
      normal = ap table_of (seven_by old d p.beside.root p.beside.subs (ap (λ (o : Option File). is_some o) (other name.Version (λ e. cc) (λ e. cc) (λ e. cc) (λ e. cc)))) ∙ was.flies.normal;
      ends = publishing_ends version false None list id old d was.flies.normal was.flies.ends is_ranked;
    };
    image = image_then was.image;
  }
