-- A directory from which files are removed that count no more behind one image: another image, or a segment that ends at its id or before.
use Rattle.std.proofs.Common.{◌≡◌, ◌≢◌, ◌⊎◌, inl, inr, ⊎_elim, ℕ, ◌<◌, ◌≤◌, ℤ, None, refl, sym, ◌∙◌, subst, arith}
use Rattle.std.proofs.lemmas.Option.{none-some}
use Rattle.nn_base.specs.declared.sub.Sub.{Sub}
use Rattle.nn_base.specs.declared.sub.Sub.TheVariants.{Current}
use Rattle.nn_base.specs.declared.file_name.FileName.{FileName}
use Rattle.nn_base.specs.declared.file_name.FileName.TheVariants as name
use Rattle.nn_base.proofs.NamesLemmas.{sub_tells, file_tells}
use Rattle.nn_host.specs.Disk.{Disk, Reads, Leaves}
use Rattle.nn_host.proofs.FilesLemmas.{there, beside, file_kept}
use Rattle.nn_marks.specs.declared.version.Version.{Version}
use Rattle.nn_tree.specs.Namespace.{Namespace}
use Rattle.nn_record.specs.declared.transaction.Record.{Record}
use Rattle.nn_state.specs.declared.state.StorageState.TheVariants.{Normal}
use Rattle.nn_state.specs.Typed.{IsIn}
use Rattle.nn_chain.specs.Folder.{Folder, folder_at}
use Rattle.nn_chain.specs.Images.{IsIntact}
use Rattle.nn_chain.specs.Records.{HoldsRecord}
use Rattle.nn_chain.proofs.SameLemmas.{intact_same}
use Rattle.nn_segment_file.specs.Log.{without}
use Rattle.nn_steps.proofs.BesideLemmas.{LeftBeside}
use Rattle.nn_steps.proofs.CutLemmas.{IsPart, part_left, part_gone, part_same, part_normal, part_marks}
use Rattle.nn_steps.proofs.LoweringLemmas.{moved}
use Rattle.nn_steps.proofs.NormalLemmas.{SameMarks}
use Rattle.nn_ckpt.proofs.SpanLemmas.{SameRecords}

-- a file that may go beside the image of this id
abbrev pub MayGo : ℕ → FileName → Type 0
MayGo image (name.Image id) = id ≢ image
MayGo image (name.Md5 id) = id ≢ image
MayGo image (name.Ckpt id) = Unit {0}
MayGo image (name.Edits span) = span.1 ≤ image
MayGo image name.Version = ⊥
MayGo image name.VersionTmp = ⊥
MayGo image name.Seen = ⊥
MayGo image name.SeenTmp = ⊥
MayGo image (name.Md5Tmp id) = ⊥
MayGo image (name.InProgress first) = ⊥

-- each file is as it was, or gone if it may go
pub record IsTrimmed (image : ℕ) (old d : Disk) : Type 0 where
  pub root : d.root ≡ old.root
  pub subs : (s : Sub) → d.has s ≡ old.has s
  pub other_subs : (s : Sub) (n : FileName) → s ≢ Current → d.file s n ≡ old.file s n
  pub files : (n : FileName) → (d.file Current n ≡ old.file Current n) ⊎ (MayGo image n × (d.file Current n ≡ None))

-- a segment that may go has no later record
none_went : (image : ℕ) (folder : Folder) (layout : ℤ) (n : FileName) (r : Record) → MayGo image n → image < r.id → ¬ HoldsRecord folder layout n r
none_went image folder layout (name.Edits span) r goes above h = let within = h.within in omega (arith, within, goes, above)
none_went image folder layout (name.Image id) r goes above h = none-some h.first h.begins
none_went image folder layout (name.Md5 id) r goes above h = none-some h.first h.begins
none_went image folder layout (name.Ckpt id) r goes above h = none-some h.first h.begins
none_went image folder layout name.Version r goes above h = goes
none_went image folder layout name.VersionTmp r goes above h = goes
none_went image folder layout name.Seen r goes above h = goes
none_went image folder layout name.SeenTmp r goes above h = goes
none_went image folder layout (name.Md5Tmp id) r goes above h = goes
none_went image folder layout (name.InProgress first) r goes above h = goes

module _ (image : ℕ) (old d : Disk) (is : IsTrimmed image old d) where
  -- a file of another kind stays
  pub trimmed_stays : (n : FileName) → ¬ MayGo image n → d.file Current n ≡ old.file Current n
  trimmed_stays n stays = ⊎_elim (λ same. same) (λ gone. absurd (stays gone.0)) (is.files n)

  -- what isn't there hasn't come
  pub trimmed_none : (n : FileName) → old.file Current n ≡ None → d.file Current n ≡ None
  trimmed_none n none = ⊎_elim (λ same. same ∙ none) (λ gone. gone.1) (is.files n)

  abbrev pub trimmed_part : IsPart old d
  trimmed_part = record {
    root = is.root;
    subs = is.subs;
    files = λ s n. elim (sub_tells s Current) [
      | inr other ↦ inl (is.other_subs s n other.1)
      | inl here ↦ subst (λ (q : Sub). (d.file q n ≡ old.file q n) ⊎ (d.file q n ≡ None)) (sym here.1) (⊎_elim (λ same. inl same) (λ gone. inr gone.1) (is.files n))
    ];
  }

  -- so it is beside a file that stays
  pub trimmed_without : (m : FileName) → IsTrimmed image (without m old) (without m d)
  trimmed_without m = record {
    root = is.root;
    subs = is.subs;
    other_subs = λ s n other. file_kept d Current m None s n (λ e. other e.0) ∙ is.other_subs s n other ∙ sym (file_kept old Current m None s n (λ e. other e.0));
    files = λ n. elim (file_tells n m) [
      | inl same ↦ inl (subst (λ (x : FileName). (without m d).file Current x ≡ (without m old).file Current x) (sym same.1) (there d Current m None ∙ sym (there old Current m None)))
      | inr other ↦ ⊎_elim
          (λ same. inl (beside d Current m n None other.1 ∙ same ∙ sym (beside old Current m n None other.1)))
          (λ gone. inr (gone.0, beside d Current m n None other.1 ∙ gone.1))
          (is.files n)
    ];
  }

  module _ (c : Reads) (leaves : Leaves d c) where
    abbrev pub trimmed_left : LeftBeside (λ s n. d.file s n ≡ None) old d c
    trimmed_left = part_left old d trimmed_part c leaves

    abbrev pub folder_before : Folder
    folder_before = folder_at trimmed_left.before Current

    pub same_file : (n : FileName) → d.file Current n ≡ old.file Current n → c.file Current n ≡ folder_before n
    same_file n e = part_same old d trimmed_part c leaves Current n e

    pub gone_file : (n : FileName) → d.file Current n ≡ None → c.file Current n ≡ None
    gone_file n e = part_gone old d trimmed_part c leaves Current n e

    pub trimmed_normal : IsIn Normal old → IsIn Normal trimmed_left.before
    trimmed_normal normal = part_normal old d trimmed_part c leaves normal

    pub trimmed_marks : SameMarks trimmed_left.before c
    trimmed_marks = part_marks old d trimmed_part c leaves is.other_subs (trimmed_stays name.Version (λ e. e)) (trimmed_stays name.Seen (λ e. e))

    pub trimmed_intact : (version : Version) (ns : Namespace) → IsIntact folder_before version image ns → IsIntact (folder_at c Current) version image ns
    trimmed_intact version ns = intact_same version folder_before (folder_at c Current) image ns (record { image = same_file (name.Image image) (trimmed_stays (name.Image image) (λ e. e refl)); digest = same_file (name.Md5 image) (trimmed_stays (name.Md5 image) (λ e. e refl)) })

    pub held_before : (layout : ℤ) (n : FileName) (r : Record) → HoldsRecord (folder_at c Current) layout n r → HoldsRecord folder_before layout n r
    held_before layout n r h = ⊎_elim
        (λ same. moved (folder_at c Current) folder_before layout n r (sym (same_file n same)) h)
        (λ gone. absurd (none-some h.bytes (sym (gone_file n gone.1) ∙ h.there)))
        (is.files n)

    pub trimmed_records : (layout : ℤ) → SameRecords layout (λ id. image < id) folder_before (folder_at c Current)
    trimmed_records layout = record {
      up = λ n r above h. ⊎_elim
          (λ same. moved folder_before (folder_at c Current) layout n r (same_file n same) h)
          (λ gone. absurd (none_went image folder_before layout n r gone.0 above h))
          (is.files n);
      down = λ n r above h. held_before layout n r h;
    }
