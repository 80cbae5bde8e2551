-- Removing an image, and writing one: what each call does, and what a stop finds.
use Rattle.std.proofs.Common.{◌≡◌, ◌≢◌, inl, inr, ⊎_elim, ℕ, List, [], ◌++◌, Option, Some, None, Result, Ok, Err, OnOk, refl, sym, ◌∙◌, ap, subst}
use Rattle.std.proofs.lemmas.Bool.{cases_Bool}
use Rattle.std.specs.Prelude.{true, is_some, if◌then◌else◌}
use Rattle.nn_base.specs.declared.sub.Sub.TheVariants.{Current}
use Rattle.nn_base.specs.declared.file_name.FileName.TheVariants.{Image, Md5, Md5Tmp, Ckpt}
use Rattle.nn_host.specs.Disk.{Held, Disk, File, IsSound, RemoveFile, RenameFile, after, carried_out, certain, fresh_file, add_pending, with_file}
use Rattle.nn_host.specs.Moments.{State, disk_at}
use Rattle.nn_host.specs.Calls.{Called, Done}
use Rattle.nn_host.specs.Runs.{OnlyAt}
use Rattle.nn_host.proofs.FilesLemmas.{there, beside}
use Rattle.nn_host.proofs.WorkLemmas.{work_once, work_more, work_trans, work_weaker}
use Rattle.md5.specs.Md5.{md5}
use Rattle.nn_marks.specs.declared.version.Version.{Version}
use Rattle.nn_marks.specs.Digest.{md5_text_of}
use Rattle.nn_tree.specs.Namespace.{Namespace}
use Rattle.nn_small.specs.Small.{OldOrNew, Written, replaced}
use Rattle.nn_small.proofs.SmallLemmas.{replaced_name, replaced_tmp, replaced_other}
use Rattle.nn_remake.specs.declared.fault.MakeFault.{MakeFault}
use Rattle.nn_remake.specs.Publishing.{BesideFile, BesideImage, Placed, IsImageUnder, digest_of, IsRemoving, IsPublishing, WasRemoved, WasStaged, WasWritten}
use Rattle.nn_remake.proofs.BesideLemmas.{beside_refl, beside_trans, beside_set, of_image, of_digest, of_ckpt, of_tmp, file_beside, small_beside}

-- ---- what stands under the names of an image is removed

pub work_unnamed : {T E told : Type 0} {i : ℕ} {id : ℕ} {a b : State} {r : Result T E} → Called told i (RemoveFile Current (Image id)) a b r → OnlyAt told i a b (IsRemoving id (disk_at a i))
work_unnamed {i = i} {id = id} {a = a} called = work_once called
    (λ tells. record { beside = beside_refl id (disk_at a i); image = inl refl })
    (λ tells part makes. subst (IsRemoving id (disk_at a i)) (sym makes) (record { beside = beside_set id (disk_at a i) (Image id) None (of_image id); image = inr (there (disk_at a i) Current (Image id) None) }))

pub work_removed : {T E told : Type 0} {i : ℕ} {id : ℕ} {a b c : State} {r : Result T E} → OnlyAt told i a b (IsRemoving id (disk_at a i)) → (told → (disk_at b i).file Current (Image id) ≡ None) → Called told i (RemoveFile Current (Md5 id)) b c r
    → OnlyAt told i a c (IsRemoving id (disk_at a i))
work_removed {i = i} {id = id} {a = a} {b = b} work gone called = work_more work called
    (λ tells p part makes. subst (IsRemoving id (disk_at a i)) (sym makes) (record {
      beside = beside_trans id (disk_at a i) (disk_at b i) _ p.beside (beside_set id (disk_at b i) (Md5 id) None (of_digest id));
      image = inr (beside (disk_at b i) Current (Md5 id) (Image id) None (λ e. cc) ∙ gone tells);
    }))

pub image_gone : {i : ℕ} {id : ℕ} {a b : State} → Done i (RemoveFile Current (Image id)) a b → (disk_at b i).file Current (Image id) ≡ None
image_gone {i} {id} {a} {b} done = ap (λ (d : Disk). d.file Current (Image id)) done.disk ∙ there (disk_at a i) Current (Image id) None

-- ---- an image gets its name

-- it stands under the name that it has on the way, beside its MD5 file
pub record IsReady {A : Type 0} (id : ℕ) (image digest : A) (old d : Held A) : Type 0 where
  pub beside_all : BesideImage id old d
  pub ckpt : d.file Current (Ckpt id) ≡ Some image
  pub sum : d.file Current (Md5 id) ≡ Some digest
  pub tmp : d.file Current (Md5Tmp id) ≡ None

module _ {A : Type 0} (id : ℕ) (image digest : A) where
  ready : (d : Held A) → IsReady id image digest d (replaced (with_file d Current (Ckpt id) (Some image)) Current (Md5Tmp id) (Md5 id) (Some digest))
  ready d =
      let staged = with_file d Current (Ckpt id) (Some image) in
      let cleared = with_file staged Current (Md5Tmp id) None in
      record {
        beside_all = beside_trans id d staged _ (beside_set id d (Ckpt id) (Some image) (of_ckpt id))
            (beside_trans id staged cleared _ (beside_set id staged (Md5Tmp id) None (of_tmp id)) (beside_set id cleared (Md5 id) (Some digest) (of_digest id)));
        ckpt = replaced_other staged Current (Md5Tmp id) (Md5 id) (Some digest) (Ckpt id) (λ e. cc) (λ e. cc) ∙ there d Current (Ckpt id) (Some image);
        sum = replaced_name staged Current (Md5Tmp id) (Md5 id) (Some digest);
        tmp = replaced_tmp staged Current (Md5Tmp id) (Md5 id) (Some digest) (λ e. cc);
      }

  pub ready_after : (old staged d : Held A) → staged ≡ with_file old Current (Ckpt id) (Some image) → d ≡ replaced staged Current (Md5Tmp id) (Md5 id) (Some digest) → IsReady id image digest old d
  ready_after old staged d stands written = subst (IsReady id image digest old) (sym (written ∙ ap (λ (x : Held A). replaced x Current (Md5Tmp id) (Md5 id) (Some digest)) stands)) (ready old)

  pub placed : (fresh : A) (add : A → List ℕ → A) (old d : Held A) → IsReady id image digest old d → Placed id (Some image) (Some digest) old (after fresh add (RenameFile Current (Ckpt id) (Image id)) d)
  placed fresh add old d p = subst (Placed id (Some image) (Some digest) old) (sym renamed) (record {
    beside = beside_trans id old d _ p.beside_all (beside_trans id d moved _ (beside_set id d (Ckpt id) None (of_ckpt id)) (beside_set id moved (Image id) (Some image) (of_image id)));
    stands = record {
      image = there moved Current (Image id) (Some image);
      digest = beside moved Current (Image id) (Md5 id) (Some image) (λ e. cc) ∙ beside d Current (Ckpt id) (Md5 id) None (λ e. cc) ∙ p.sum;
    };
    ckpt = beside moved Current (Image id) (Ckpt id) (Some image) (λ e. cc) ∙ there d Current (Ckpt id) None;
    tmp = beside moved Current (Image id) (Md5Tmp id) (Some image) (λ e. cc) ∙ beside d Current (Ckpt id) (Md5Tmp id) None (λ e. cc) ∙ p.tmp;
  })
    where
      moved : Held A
      moved = with_file d Current (Ckpt id) None

      renamed : after fresh add (RenameFile Current (Ckpt id) (Image id)) d ≡ with_file (with_file d Current (Ckpt id) None) Current (Image id) (Some image)
      renamed = λ k. if is_some (p.ckpt k) then with_file (with_file d Current (Ckpt id) None) Current (Image id) (p.ckpt k) else d

-- ---- the moments of it

-- an image that isn't there stays away while its staged file is written
pub none_staged : (version : Version) (id : ℕ) (ns : Namespace) (old d : Disk) → old.file Current (Image id) ≡ None → BesideFile (Ckpt id) old d → IsPublishing version id ns old d
none_staged version id ns old d none p =
    let differs : Image id ≢ Ckpt id = λ e. cc in
    record {
      beside = file_beside id (Ckpt id) old d (of_ckpt id) p;
      image = inr (inl (p.files Current (Image id) (λ it. differs it.1) ∙ none));
    }

-- and while its MD5 file is
pub none_summed : (version : Version) (id : ℕ) (ns : Namespace) (bytes : List ℕ) (old staged d : Disk) → old.file Current (Image id) ≡ None → BesideFile (Ckpt id) old staged → OldOrNew Current (Md5Tmp id) (Md5 id) bytes staged d → IsPublishing version id ns old d
none_summed version id ns bytes old staged d none p q =
    let differs : Image id ≢ Ckpt id = λ e. cc in
    record {
      beside = beside_trans id old staged d (file_beside id (Ckpt id) old staged (of_ckpt id) p) (small_beside id bytes staged d q);
      image = inr (inl (q.other_files (Image id) (λ e. cc) (λ e. cc) ∙ p.files Current (Image id) (λ it. differs it.1) ∙ none));
    }

module _ {told : Type 0} {i : ℕ} (version : Version) (id : ℕ) (ns : Namespace) {a b : State} (none : told → (disk_at a i).file Current (Image id) ≡ None) (staging : OnlyAt told i a b (BesideFile (Ckpt id) (disk_at a i))) where
  pub work_staged : OnlyAt told i a b (IsPublishing version id ns (disk_at a i))
  work_staged = work_weaker staging (λ tells d p. none_staged version id ns (disk_at a i) d (none tells) p)

  pub work_summed : {bytes : List ℕ} {c : State} → OnlyAt told i b c (OldOrNew Current (Md5Tmp id) (Md5 id) bytes (disk_at b i)) → OnlyAt told i a c (IsPublishing version id ns (disk_at a i))
  work_summed {bytes} summing = work_trans work_staged (work_weaker summing (λ tells d p. none_summed version id ns bytes (disk_at a i) (disk_at b i) d (none tells) (staging.ends tells) p))

abbrev pub whole_file : List ℕ → File
whole_file bytes = record { synced = bytes; pending = [] }

-- where its folder isn't there, nothing is named
unnamed : (id : ℕ) (d : Disk) → d.file Current (Ckpt id) ≡ None → carried_out (RenameFile Current (Ckpt id) (Image id)) d ≡ d
unnamed id d none = λ k. if is_some (none k) then with_file (with_file d Current (Ckpt id) None) Current (Image id) (none k) else d

-- what the last call does
pub work_named : {T E told : Type 0} {i : ℕ} {version : Version} {id : ℕ} {ns : Namespace} {a b c : State} {r : Result T E} (bytes : List ℕ) → IsImageUnder version id ns bytes → (told → IsSound (disk_at b i))
    → (told → (disk_at a i).has Current ≡ true → IsReady id (whole_file bytes) (whole_file (digest_of id bytes)) (disk_at a i) (disk_at b i)) → OnlyAt told i a b (IsPublishing version id ns (disk_at a i)) → Called told i (RenameFile Current (Ckpt id) (Image id)) b c r
    → OnlyAt told i a c (IsPublishing version id ns (disk_at a i))
work_named {i = i} {version = version} {id = id} {ns = ns} {a = a} {b = b} bytes image sound is_ready work called = work_more work called (λ tells p part makes. elim (cases_Bool ((disk_at a i).has Current)) [
  | inl has ↦
      let stands = placed id (whole_file bytes) (whole_file (digest_of id bytes)) fresh_file add_pending (disk_at a i) (disk_at b i) (is_ready tells has) in
      subst (IsPublishing version id ns (disk_at a i)) (sym makes) (record { beside = stands.beside; image = inr (inr (record { bytes = bytes; image = image; stands = stands.stands })) })
  | inr lacks ↦
      let none = (sound tells).files Current (Ckpt id) (p.beside.subs Current ∙ lacks) in
      subst (IsPublishing version id ns (disk_at a i)) (sym (makes ∙ unnamed id (disk_at b i) none)) p
])

-- both small files are written, so it is ready, on the disk and as it reads
module _ {i : ℕ} {id : ℕ} {bytes sum : List ℕ} {a b c : State} (same : sum ≡ md5 bytes) (staged : WasStaged id bytes i a b) (written : Written i Current (Md5Tmp id) (Md5 id) (md5_text_of sum id) b c) where
  of_bytes : Written i Current (Md5Tmp id) (Md5 id) (digest_of id bytes) b c
  of_bytes = subst (λ (m : List ℕ). Written i Current (Md5Tmp id) (Md5 id) (md5_text_of m id) b c) same written

  pub disk_ready : IsReady id (whole_file bytes) (whole_file (digest_of id bytes)) (disk_at a i) (disk_at c i)
  disk_ready = ready_after id (whole_file bytes) (whole_file (digest_of id bytes)) (disk_at a i) (disk_at b i) (disk_at c i) staged.disk of_bytes.disk

  pub reads_ready : IsReady id bytes (digest_of id bytes) (a.reads i) (c.reads i)
  reads_ready = ready_after id bytes (digest_of id bytes) (a.reads i) (b.reads i) (c.reads i) staged.reads of_bytes.reads

-- a folder that is there stays
pub still_there : {i : ℕ} {id : ℕ} {bytes : List ℕ} {a b : State} → (disk_at a i).has Current ≡ true → WasStaged id bytes i a b → (disk_at b i).has Current ≡ true
still_there has staged = ap (λ (d : Disk). d.has Current) staged.disk ∙ has

pub was_written : {i : ℕ} {version : Version} {id : ℕ} {ns : Namespace} {a b c : State} (bytes : List ℕ) → IsImageUnder version id ns bytes
    → IsReady id (whole_file bytes) (whole_file (digest_of id bytes)) (disk_at a i) (disk_at b i) → IsReady id bytes (digest_of id bytes) (a.reads i) (b.reads i) → Done i (RenameFile Current (Ckpt id) (Image id)) b c
    → WasWritten version id ns i a c
was_written {i} {version} {id} {ns} {a} {b} {c} bytes image disk reads done = record {
  bytes = bytes;
  image = image;
  disk = subst (Placed id (certain (Some bytes)) (certain (Some (digest_of id bytes))) (disk_at a i)) (sym done.disk) (placed id (whole_file bytes) (whole_file (digest_of id bytes)) fresh_file add_pending (disk_at a i) (disk_at b i) disk);
  reads = subst (Placed id (Some bytes) (Some (digest_of id bytes)) (a.reads i)) (sym done.reads) (placed id bytes (digest_of id bytes) [] (λ old more. old ++ more) (a.reads i) (b.reads i) reads);
}

-- ---- in place of what was there

pub work_removing : {told : Type 0} {i : ℕ} (version : Version) {id : ℕ} (ns : Namespace) {a b : State} → OnlyAt told i a b (IsRemoving id (disk_at a i)) → OnlyAt told i a b (IsPublishing version id ns (disk_at a i))
work_removing version ns work = work_weaker work (λ tells d p. record { beside = p.beside; image = ⊎_elim (λ same. inl same) (λ none. inr (inl none)) p.image })

pub work_after : {told : Type 0} {i : ℕ} {version : Version} {id : ℕ} {ns : Namespace} {a b c : State} → (told → WasRemoved id i a b) → OnlyAt told i a b (IsPublishing version id ns (disk_at a i)) → OnlyAt told i b c (IsPublishing version id ns (disk_at b i))
    → OnlyAt told i a c (IsPublishing version id ns (disk_at a i))
work_after {i = i} {id = id} {a = a} {b = b} removed first second = work_trans first (work_weaker second (λ tells d p. record {
  beside = beside_trans id (disk_at a i) (disk_at b i) d (removed tells).disk p.beside;
  image = ⊎_elim (λ same. inr (inl (ap (λ (x : Disk). x.file Current (Image id)) same ∙ (removed tells).image))) (λ image. inr image) p.image;
}))

placed_after : {A : Type 0} {id : ℕ} {image digest : Option A} (a b c : Held A) → BesideImage id a b → Placed id image digest b c → Placed id image digest a c
placed_after {id = id} a b c p q = record { beside = beside_trans id a b c p q.beside; stands = q.stands; ckpt = q.ckpt; tmp = q.tmp }

pub written_after : {T : Type 0} {i : ℕ} (version : Version) {id : ℕ} (ns : Namespace) {a b : State} (c : State) (r : Result T MakeFault) → WasRemoved id i a b → OnOk r (WasWritten version id ns i b c) → OnOk r (WasWritten version id ns i a c)
written_after {i = i} version ns {a = a} {b = b} c (Ok v) removed written = record {
  bytes = written.bytes;
  image = written.image;
  disk = placed_after (disk_at a i) (disk_at b i) (disk_at c i) removed.disk written.disk;
  reads = placed_after (a.reads i) (b.reads i) (c.reads i) removed.reads written.reads;
}
written_after version ns c (Err fault) removed written = tt
