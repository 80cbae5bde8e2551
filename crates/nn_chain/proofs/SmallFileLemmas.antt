-- Writing a small file whose name is no segment's: what a stop leaves is what one could have left before, but for that file.
use Rattle.std.proofs.Common.{◌≡◌, ◌≢◌, ◌⊎◌, inl, inr, ⊎_elim, ℕ, List, Option, Some, None, refl, sym, ◌∙◌, ap, subst, arith}
use Rattle.nn_base.specs.declared.sub.Sub.{Sub}
use Rattle.nn_base.specs.declared.file_name.FileName.{FileName}
use Rattle.nn_base.specs.declared.file_name.FileName.TheVariants.{Image, Md5}
use Rattle.nn_base.proofs.NamesLemmas.{sub_tells, file_tells}
use Rattle.nn_host.specs.Disk.{Disk, Reads, File, Leaves, LeavesFile, with_file}
use Rattle.nn_host.proofs.CleanLemmas.{whole, sure_left}
use Rattle.nn_host.proofs.FilesLemmas.{there, beside, elsewhere}
use Rattle.nn_small.specs.Small.{OldOrNew}
use Rattle.nn_chain.specs.Folder.{folder_at}
use Rattle.nn_chain.specs.Records.{first_in}
use Rattle.nn_chain.specs.Fair.{IsFair}
use Rattle.nn_chain.proofs.SameLemmas.{SameLog, not_segment}

-- all but the small file, and what it is called on the way, is the same
pub record BesideSmall (sub : Sub) (tmp name : FileName) (old new : Reads) : Type 0 where
  pub root : new.root ≡ old.root
  pub subs : (s : Sub) → new.has s ≡ old.has s
  pub other_subs : (s : Sub) (n : FileName) → s ≢ sub → new.file s n ≡ old.file s n
  pub other_files : (n : FileName) → n ≢ tmp → n ≢ name → new.file sub n ≡ old.file sub n

-- A stop could have left `before` of the disk as it was; what it leaves now differs in the small file alone, which is that of `before` or the new one.
pub record LeftSmall (sub : Sub) (tmp name : FileName) (bytes : List ℕ) (old d : Disk) (c : Reads) : Type 0 where
  pub before : Reads
  pub left : Leaves old before
  pub fair : IsFair d c → IsFair old before
  pub beside : BesideSmall sub tmp name before c
  pub file : (c.file sub name ≡ before.file sub name) ⊎ (c.file sub name ≡ Some bytes)

-- its folder has the same segments and images
pub small_log : {sub : Sub} {tmp name : FileName} {old new : Reads} → first_in tmp ≡ None → first_in name ≡ None → ((id : ℕ) → (tmp ≢ Image id) × (tmp ≢ Md5 id) × (name ≢ Image id) × (name ≢ Md5 id))
    → BesideSmall sub tmp name old new → SameLog (folder_at old sub) (folder_at new sub)
small_log {tmp = tmp} {name = name} no_tmp no_name apart p = record {
  segments = record { files = λ n first begins. p.other_files n (not_segment n tmp first no_tmp begins) (not_segment n name first no_name begins) };
  images = λ id. record {
    image = p.other_files (Image id) (λ e. (apart id).0 (sym e)) (λ e. (apart id).2 (sym e));
    digest = p.other_files (Md5 id) (λ e. (apart id).1 (sym e)) (λ e. (apart id).3 (sym e));
  };
}

module _ (sub : Sub) (tmp name : FileName) (bytes : List ℕ) (old d : Disk) (apart : tmp ≢ name) (small : OldOrNew sub tmp name bytes old d) (c : Reads) (leaves : Leaves d c) where
  -- these contents, with the .tmp as it was, and this under the name
  abbrev back : Option (List ℕ) → Reads
  back v = with_file (with_file c sub tmp (whole (old.file sub tmp))) sub name v

  name_back : (v : Option (List ℕ)) → (back v).file sub name ≡ v
  name_back v = there (with_file c sub tmp (whole (old.file sub tmp))) sub name v

  tmp_back : (v : Option (List ℕ)) → (back v).file sub tmp ≡ whole (old.file sub tmp)
  tmp_back v = beside (with_file c sub tmp (whole (old.file sub tmp))) sub name tmp v apart ∙ there c sub tmp (whole (old.file sub tmp))

  other_back : (v : Option (List ℕ)) (n : FileName) → n ≢ tmp → n ≢ name → (back v).file sub n ≡ c.file sub n
  other_back v n no_tmp no_name = beside (with_file c sub tmp (whole (old.file sub tmp))) sub name n v no_name ∙ beside c sub tmp n (whole (old.file sub tmp)) no_tmp

  elsewhere_back : (v : Option (List ℕ)) (s : Sub) (n : FileName) → s ≢ sub → (back v).file s n ≡ c.file s n
  elsewhere_back v s n ne = ap (λ (f : FileName → Option (List ℕ)). f n) (elsewhere (with_file c sub tmp (whole (old.file sub tmp))) sub name v s ne ∙ elsewhere c sub tmp (whole (old.file sub tmp)) s ne)

  -- what holds of the two files and of each other holds of all
  each_file : (P : Sub → FileName → Type 0) → P sub tmp → P sub name → ((n : FileName) → n ≢ tmp → n ≢ name → P sub n) → ((s : Sub) (n : FileName) → s ≢ sub → P s n) → (s : Sub) (n : FileName) → P s n
  each_file P at_tmp at_name others away s n = elim (sub_tells s sub) [
    | inr differs ↦ away s n differs.1
    | inl here ↦ subst (λ (q : Sub). P q n) (sym here.1) (elim (file_tells n tmp) [
      | inl is ↦ subst (P sub) (sym is.1) at_tmp
      | inr no_tmp ↦ elim (file_tells n name) [
        | inl is ↦ subst (P sub) (sym is.1) at_name
        | inr no_name ↦ others n no_tmp.1 no_name.1
      ]
    ])
  ]

  whole_left : (f : Option File) → LeavesFile f (whole f)
  whole_left None = tt
  whole_left (Some f) = record { tail = f.pending; split = refl; short = omega arith }

  of_kept : (v : Option (List ℕ)) (s : Sub) (n : FileName) → d.file s n ≡ old.file s n → (back v).file s n ≡ c.file s n → LeavesFile (old.file s n) ((back v).file s n)
  of_kept v s n on_disk as_left = subst (λ (f : Option File). LeavesFile f ((back v).file s n)) on_disk (subst (LeavesFile (d.file s n)) (sym as_left) (leaves.files s n))

  left_back : (v : Option (List ℕ)) → LeavesFile (old.file sub name) v → Leaves old (back v)
  left_back v left = record {
    root = leaves.root ∙ small.root;
    subs = λ s. leaves.subs s ∙ small.subs s;
    files = each_file (λ s n. LeavesFile (old.file s n) ((back v).file s n))
        (subst (LeavesFile (old.file sub tmp)) (sym (tmp_back v)) (whole_left (old.file sub tmp)))
        (subst (LeavesFile (old.file sub name)) (sym (name_back v)) left)
        (λ n no_tmp no_name. of_kept v sub n (small.other_files n no_tmp no_name) (other_back v n no_tmp no_name))
        (λ s n ne. of_kept v s n (small.other_subs s n ne) (elsewhere_back v s n ne));
  }

  beside_back : (v : Option (List ℕ)) → BesideSmall sub tmp name (back v) c
  beside_back v = record {
    root = refl;
    subs = λ s. refl;
    other_subs = λ s n ne. sym (elsewhere_back v s n ne);
    other_files = λ n no_tmp no_name. sym (other_back v n no_tmp no_name);
  }

  module _ (no_tmp : first_in tmp ≡ None) (no_name : first_in name ≡ None) where
    -- a segment file is neither
    segment_kept : (s : Sub) (n : FileName) (first : ℕ) → first_in n ≡ Some first → d.file s n ≡ old.file s n
    segment_kept s n first begins = elim (sub_tells s sub) [
      | inr differs ↦ small.other_subs s n differs.1
      | inl here ↦ subst (λ (q : Sub). d.file q n ≡ old.file q n) (sym here.1) (small.other_files n (not_segment n tmp first no_tmp begins) (not_segment n name first no_name begins))
    ]

    segment_back : (v : Option (List ℕ)) (s : Sub) (n : FileName) (first : ℕ) → first_in n ≡ Some first → (back v).file s n ≡ c.file s n
    segment_back v s n first begins = elim (sub_tells s sub) [
      | inr differs ↦ elsewhere_back v s n differs.1
      | inl here ↦ subst (λ (q : Sub). (back v).file q n ≡ c.file q n) (sym here.1) (other_back v n (not_segment n tmp first no_tmp begins) (not_segment n name first no_name begins))
    ]

    fair_back : (v : Option (List ℕ)) → IsFair d c → IsFair old (back v)
    fair_back v fair s n first file text ranged begins stands reads = fair s n first file text ranged begins (segment_kept s n first begins ∙ stands) (sym (segment_back v s n first begins) ∙ reads)

    pub left_small : LeftSmall sub tmp name bytes old d c
    left_small = ⊎_elim
        (λ same. let v = c.file sub name in record {
          before = back v;
          left = left_back v (subst (λ (f : Option File). LeavesFile f v) same (leaves.files sub name));
          fair = fair_back v;
          beside = beside_back v;
          file = inl (sym (name_back v));
        })
        (λ new. let v = whole (old.file sub name) in record {
          before = back v;
          left = left_back v (whole_left (old.file sub name));
          fair = fair_back v;
          beside = beside_back v;
          file = inr (sure_left d c sub name bytes leaves new.0);
        })
        small.file
