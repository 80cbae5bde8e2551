-- What a stop leaves of a disk while an image is published: its rank is that of something that one could leave before.
use Rattle.std.proofs.Common.{◌≡◌, ◌≢◌, inl, inr, ⊎_elim, ℕ, Option, Some, Result, Ok, Err, OnOk, None, refl, sym, ◌∙◌, ap, subst}
use Rattle.std.proofs.lemmas.Bool.{cases_Bool}
use Rattle.std.specs.Prelude.{true, false}
use Rattle.nn_base.specs.declared.sub.Sub.{Sub}
use Rattle.nn_base.specs.declared.sub.Sub.TheVariants.{Current}
use Rattle.nn_base.specs.declared.file_name.FileName.{FileName}
use Rattle.nn_base.specs.declared.file_name.FileName.TheVariants.{Image, Md5, Md5Tmp, Ckpt}
use Rattle.nn_base.proofs.NamesLemmas.{sub_tells, file_tells}
use Rattle.nn_host.specs.Disk.{Held, Disk, Reads, File, Leaves, LeavesFile, certain, with_file}
use Rattle.nn_host.specs.Moments.{State, IsLawful, disk_at}
use Rattle.nn_host.specs.Runs.{OnlyAt}
use Rattle.nn_host.proofs.CleanLemmas.{sure_left}
use Rattle.nn_host.proofs.FilesLemmas.{there, beside}
use Rattle.nn_host.proofs.LawfulLemmas.{unread}
use Rattle.nn_host.proofs.WorkLemmas.{work_trans, work_weaker}
use Rattle.nn_marks.specs.declared.version.Version.{Version}
use Rattle.nn_tree.specs.Namespace.{Namespace}
use Rattle.nn_chain.specs.Folder.{folder_at}
use Rattle.nn_chain.specs.Images.{HasIntact, IsIntact}
use Rattle.nn_chain.specs.Records.{first_in}
use Rattle.nn_chain.specs.Fair.{IsFair}
use Rattle.nn_remake.specs.declared.fault.MakeFault.{MakeFault}
use Rattle.nn_remake.specs.Publishing.{BesideImage, Placed, IsPublishing, IsWhole, WasWritten, digest_of}
use Rattle.nn_remake.specs.Published.{IsPublished, IsOnlyOf, ReadsIntact}
use Rattle.nn_remake.specs.Rank.{IsRanked, KeepsRank, ReadsRanked}
use Rattle.nn_remake.proofs.BesideLemmas.{beside_refl, beside_trans, beside_set, of_image, of_digest, of_ckpt, of_tmp}
use Rattle.nn_remake.proofs.LeftLemmas.{none_left}
use Rattle.nn_chain.proofs.SameLemmas.{not_segment}
use Rattle.nn_remake.proofs.ChainLemmas.{SameBut, rank_without, rank_with, rank_same}

beside_sym : {A : Type 0} {id : ℕ} {old d : Held A} → BesideImage id old d → BesideImage id d old
beside_sym p = record {
  root = sym p.root;
  subs = λ s. sym (p.subs s);
  other_subs = λ s n ne. sym (p.other_subs s n ne);
  other_files = λ n w x y z. sym (p.other_files n w x y z);
}

same_but : {id : ℕ} {before c : Reads} → BesideImage id before c → SameBut id (folder_at before Current) (folder_at c Current)
same_but p = record { others = p.other_files }

-- what holds beside the four files and of each of them holds of all
all_files : (id : ℕ) (P : Sub → FileName → Type 0) → ((s : Sub) (n : FileName) → s ≢ Current → P s n) → ((n : FileName) → n ≢ Image id → n ≢ Md5 id → n ≢ Ckpt id → n ≢ Md5Tmp id → P Current n)
    → P Current (Image id) → P Current (Md5 id) → P Current (Ckpt id) → P Current (Md5Tmp id) → (s : Sub) (n : FileName) → P s n
all_files id P subs files image digest ckpt tmp s n = elim (sub_tells s Current) [
  | inr other ↦ subs s n other.1
  | inl here ↦ subst (λ (q : Sub). P q n) (sym here.1) (elim (file_tells n (Image id)) [
    | inl is ↦ subst (P Current) (sym is.1) image
    | inr no_image ↦ elim (file_tells n (Md5 id)) [
      | inl is ↦ subst (P Current) (sym is.1) digest
      | inr no_digest ↦ elim (file_tells n (Ckpt id)) [
        | inl is ↦ subst (P Current) (sym is.1) ckpt
        | inr no_ckpt ↦ elim (file_tells n (Md5Tmp id)) [
          | inl is ↦ subst (P Current) (sym is.1) tmp
          | inr no_tmp ↦ files n no_image.1 no_digest.1 no_ckpt.1 no_tmp.1
        ]
      ]
    ]
  ])
]

-- ---- these contents, with the four files of others

abbrev with_image : {A : Type 0} → ℕ → Held A → Held A → Held A
with_image id c r = with_file c Current (Image id) (r.file Current (Image id))

abbrev with_digest : {A : Type 0} → ℕ → Held A → Held A → Held A
with_digest id c r = with_file (with_image id c r) Current (Md5 id) (r.file Current (Md5 id))

abbrev with_ckpt : {A : Type 0} → ℕ → Held A → Held A → Held A
with_ckpt id c r = with_file (with_digest id c r) Current (Ckpt id) (r.file Current (Ckpt id))

abbrev with_four : {A : Type 0} → ℕ → Held A → Held A → Held A
with_four id c r = with_file (with_ckpt id c r) Current (Md5Tmp id) (r.file Current (Md5Tmp id))

module _ {A : Type 0} (id : ℕ) (c r : Held A) where
  four_beside : BesideImage id c (with_four id c r)
  four_beside = beside_trans id c (with_image id c r) _ (beside_set id c (Image id) _ (of_image id))
      (beside_trans id (with_image id c r) (with_digest id c r) _ (beside_set id (with_image id c r) (Md5 id) _ (of_digest id))
      (beside_trans id (with_digest id c r) (with_ckpt id c r) _ (beside_set id (with_digest id c r) (Ckpt id) _ (of_ckpt id)) (beside_set id (with_ckpt id c r) (Md5Tmp id) _ (of_tmp id))))

  four_tmp : (with_four id c r).file Current (Md5Tmp id) ≡ r.file Current (Md5Tmp id)
  four_tmp = there (with_ckpt id c r) Current (Md5Tmp id) (r.file Current (Md5Tmp id))

  four_ckpt : (with_four id c r).file Current (Ckpt id) ≡ r.file Current (Ckpt id)
  four_ckpt = beside (with_ckpt id c r) Current (Md5Tmp id) (Ckpt id) (r.file Current (Md5Tmp id)) (λ e. cc) ∙ there (with_digest id c r) Current (Ckpt id) (r.file Current (Ckpt id))

  four_digest : (with_four id c r).file Current (Md5 id) ≡ r.file Current (Md5 id)
  four_digest = beside (with_ckpt id c r) Current (Md5Tmp id) (Md5 id) (r.file Current (Md5Tmp id)) (λ e. cc) ∙ beside (with_digest id c r) Current (Ckpt id) (Md5 id) (r.file Current (Ckpt id)) (λ e. cc)
      ∙ there (with_image id c r) Current (Md5 id) (r.file Current (Md5 id))

  four_image : (with_four id c r).file Current (Image id) ≡ r.file Current (Image id)
  four_image = beside (with_ckpt id c r) Current (Md5Tmp id) (Image id) (r.file Current (Md5Tmp id)) (λ e. cc) ∙ beside (with_digest id c r) Current (Ckpt id) (Image id) (r.file Current (Ckpt id)) (λ e. cc)
      ∙ beside (with_image id c r) Current (Md5 id) (Image id) (r.file Current (Md5 id)) (λ e. cc) ∙ there c Current (Image id) (r.file Current (Image id))

-- ---- what a stop leaves, with the four files as one could leave them before

module _ (id : ℕ) (old d : Disk) (c r : Reads) (kept : BesideImage id old d) (leaves : Leaves d c) (as_read : Leaves old r) where
  of_kept : (s : Sub) (n : FileName) → d.file s n ≡ old.file s n → (with_four id c r).file s n ≡ c.file s n → LeavesFile (old.file s n) ((with_four id c r).file s n)
  of_kept s n on_disk as_left = subst (λ (f : Option File). LeavesFile f ((with_four id c r).file s n)) on_disk (subst (LeavesFile (d.file s n)) (sym as_left) (leaves.files s n))

  of_read : (n : FileName) → (with_four id c r).file Current n ≡ r.file Current n → LeavesFile (old.file Current n) ((with_four id c r).file Current n)
  of_read n same = subst (LeavesFile (old.file Current n)) (sym same) (as_read.files Current n)

  four_left : Leaves old (with_four id c r)
  four_left = record {
    root = leaves.root ∙ kept.root;
    subs = λ s. leaves.subs s ∙ kept.subs s;
    files = all_files id (λ s n. LeavesFile (old.file s n) ((with_four id c r).file s n))
        (λ s n ne. of_kept s n (kept.other_subs s n ne) ((four_beside id c r).other_subs s n ne))
        (λ n w x y z. of_kept Current n (kept.other_files n w x y z) ((four_beside id c r).other_files n w x y z))
        (of_read (Image id) (four_image id c r))
        (of_read (Md5 id) (four_digest id c r))
        (of_read (Ckpt id) (four_ckpt id c r))
        (of_read (Md5Tmp id) (four_tmp id c r));
  }

-- a segment file is none of the four
segment_kept : {A : Type 0} {id : ℕ} {old d : Held A} → BesideImage id old d → (s : Sub) (n : FileName) (first : ℕ) → first_in n ≡ Some first → d.file s n ≡ old.file s n
segment_kept {id = id} {old = old} {d = d} p s n first begins = elim (sub_tells s Current) [
  | inr other ↦ p.other_subs s n other.1
  | inl here ↦ subst (λ (q : Sub). d.file q n ≡ old.file q n) (sym here.1)
      (p.other_files n (not_segment n (Image id) first refl begins) (not_segment n (Md5 id) first refl begins) (not_segment n (Ckpt id) first refl begins) (not_segment n (Md5Tmp id) first refl begins))
]

fair_kept : {id : ℕ} {old d : Disk} {before c : Reads} → BesideImage id old d → BesideImage id before c → IsFair d c → IsFair old before
fair_kept p q fair sub n first file bytes ranged begins stands reads = fair sub n first file bytes ranged begins (segment_kept p sub n first begins ∙ stands) (segment_kept q sub n first begins ∙ reads)

-- ---- the rank

-- an image that isn't intact where its files are the same
still_unsound : (version : Version) (id : ℕ) (before r : Reads) → before.file Current (Image id) ≡ r.file Current (Image id) → before.file Current (Md5 id) ≡ r.file Current (Md5 id)
    → ¬ HasIntact (folder_at r Current) version id → ¬ HasIntact (folder_at before Current) version id
still_unsound version id before r image digest unsound (ns, p) = unsound (ns, record { bytes = p.bytes; there = sym image ∙ p.there; digest = sym digest ∙ p.digest; image = p.image })

whole_left : (version : Version) (id : ℕ) (ns : Namespace) (d : Disk) (c : Reads) → Leaves d c → IsWhole version id ns d → IsIntact (folder_at c Current) version id ns
whole_left version id ns d c leaves whole = record {
  bytes = whole.bytes;
  there = sure_left d c Current (Image id) whole.bytes leaves whole.stands.image;
  digest = sure_left d c Current (Md5 id) (digest_of id whole.bytes) leaves whole.stands.digest;
  image = whole.image;
}

-- a disk that is as it was
pub ranked_same : (version : Version) (id : ℕ) (ns : Namespace) (old d : Disk) → d ≡ old → IsRanked version (record { last = id; ns = ns }) old d
ranked_same version id ns old d same = record {
  left = λ c leaves. record {
    before = c;
    left = subst (λ (x : Disk). Leaves x c) same leaves;
    fair = λ fair. subst (λ (x : Disk). IsFair x c) same fair;
    beside = beside_refl id c;
    keeps = rank_same version (record { last = id; ns = ns }) (folder_at c Current);
  };
}

-- a disk while the image is published, where what read of it wasn't intact
pub ranked : (version : Version) (id : ℕ) (ns : Namespace) (old d : Disk) (r : Reads) → Leaves old r → ¬ HasIntact (folder_at r Current) version id → IsPublishing version id ns old d → IsRanked version (record { last = id; ns = ns }) old d
ranked version id ns old d r as_read unsound p = ⊎_elim
    (λ same. ranked_same version id ns old d same)
    (λ image. record {
      left = λ c leaves.
          let before = with_four id c r in
          let kept : BesideImage id before c = beside_sym (four_beside id c r) in
          let not_there = still_unsound version id before r (four_image id c r) (four_digest id c r) unsound in
          record {
            before = before;
            left = four_left id old d c r p.beside leaves as_read;
            fair = fair_kept p.beside kept;
            beside = kept;
            keeps = ⊎_elim
                (λ none. rank_without version id (folder_at before Current) (folder_at c Current) (same_but kept) not_there (none_left d c (Image id) leaves none) (record { last = id; ns = ns }))
                (λ whole. rank_with version id (folder_at before Current) (folder_at c Current) (same_but kept) not_there ns (whole_left version id ns d c leaves whole))
                image;
          };
    })
    p.image

-- ---- over a run

pub work_same : {told : Type 0} {i : ℕ} (version : Version) (id : ℕ) (ns : Namespace) {a b : State} → OnlyAt told i a b (λ d. d ≡ disk_at a i) → OnlyAt told i a b (IsPublishing version id ns (disk_at a i))
work_same {i = i} version id ns {a = a} work = work_weaker work (λ tells d same. record { beside = subst (BesideImage id (disk_at a i)) (sym same) (beside_refl id (disk_at a i)); image = inl same })

pub rank_of_same : {told : Type 0} {i : ℕ} (version : Version) (id : ℕ) (ns : Namespace) {a b : State} → OnlyAt told i a b (λ d. d ≡ disk_at a i) → OnlyAt told i a b (IsRanked version (record { last = id; ns = ns }) (disk_at a i))
rank_of_same {i = i} version id ns {a = a} work = work_weaker work (λ tells d same. ranked_same version id ns (disk_at a i) d same)

pub rank_of : {told : Type 0} {i : ℕ} (version : Version) (id : ℕ) (ns : Namespace) {a b : State} → (told → Leaves (disk_at a i) (a.reads i)) → (told → ¬ HasIntact (folder_at (a.reads i) Current) version id) → OnlyAt told i a b (IsPublishing version id ns (disk_at a i))
    → OnlyAt told i a b (IsRanked version (record { last = id; ns = ns }) (disk_at a i))
rank_of {i = i} version id ns {a = a} as_read unsound work = work_weaker work (λ tells d p. ranked version id ns (disk_at a i) d (a.reads i) (as_read tells) (unsound tells) p)

-- first only a look, and then the image is published
pub work_then : {told : Type 0} {i : ℕ} {version : Version} {id : ℕ} {ns : Namespace} {a b c : State} → OnlyAt told i a b (λ d. d ≡ disk_at a i) → OnlyAt told i b c (IsPublishing version id ns (disk_at b i)) → OnlyAt told i a c (IsPublishing version id ns (disk_at a i))
work_then {version = version} {id = id} {ns = ns} p q = work_trans (work_same version id ns p) (work_weaker q (λ tells d is. subst (λ (x : Disk). IsPublishing version id ns x d) (p.ends tells) is))

-- a folder that is there stays
pub still_has : {old d : Disk} → d ≡ old → old.has Current ≡ true → d.has Current ≡ true
still_has same has = ap (λ (x : Disk). x.has Current) same ∙ has

pub written_then : {T : Type 0} (i : ℕ) (version : Version) (id : ℕ) (ns : Namespace) (a b c : State) (r : Result T MakeFault) → ¬ HasIntact (folder_at (a.reads i) Current) version id → disk_at b i ≡ disk_at a i → b.reads i ≡ a.reads i
    → OnOk r (WasWritten version id ns i b c) → OnOk r (IsPublished version id ns i a c)
written_then i version id ns a b c (Ok v) unsound disk reads w = inl (record {
  unsound = unsound;
  written = record {
    bytes = w.bytes;
    image = w.image;
    disk = subst (λ (x : Disk). Placed id (certain (Some w.bytes)) (certain (Some (digest_of id w.bytes))) x (disk_at c i)) disk w.disk;
    reads = subst (λ (x : Reads). Placed id (Some w.bytes) (Some (digest_of id w.bytes)) x (c.reads i)) reads w.reads;
  };
})
written_then i version id ns a b c (Err fault) unsound disk reads w = tt

pub written_intact : {T : Type 0} (i : ℕ) (version : Version) (id : ℕ) (ns : Namespace) (b c : State) (r : Result T MakeFault) → OnOk r (WasWritten version id ns i b c) → OnOk r (ReadsIntact version id ns i c)
written_intact i version id ns b c (Ok v) w = record { bytes = w.bytes; there = w.reads.stands.image; digest = w.reads.stands.digest; image = w.image }
written_intact i version id ns b c (Err fault) w = tt

-- an intact image that was there
pub was_intact : (i : ℕ) (version : Version) (id : ℕ) (ns : Namespace) (a b : State) → HasIntact (folder_at (a.reads i) Current) version id → b.reads i ≡ a.reads i → IsOnlyOf version id ns i a → ReadsIntact version id ns i b
was_intact i version id ns a b (found, intact) reads only = subst (λ (r : Reads). IsIntact (folder_at r Current) version id ns) (sym reads) (subst (IsIntact (folder_at (a.reads i) Current) version id) (only found intact) intact)

-- ---- as it reads

-- nothing reads in a folder that isn't there
none_read : (i : ℕ) (s : State) → IsLawful s → (disk_at s i).has Current ≡ false → (n : FileName) → (s.reads i).file Current n ≡ None
none_read i s lawful lacks n = unread (disk_at s i) (s.reads i) Current n (lawful.reads i) (lawful.disks i) lacks

pub ranked_then : {T : Type 0} (i : ℕ) (version : Version) (id : ℕ) (ns : Namespace) (a b c : State) (r : Result T MakeFault) → IsLawful a → IsLawful c → ¬ HasIntact (folder_at (a.reads i) Current) version id
    → (disk_at c i).has Current ≡ (disk_at a i).has Current → b.reads i ≡ a.reads i → ((disk_at a i).has Current ≡ true → OnOk r (WasWritten version id ns i b c)) → OnOk r (ReadsRanked version (record { last = id; ns = ns }) i a c)
ranked_then i version id ns a b c (Ok v) before after unsound has reads written = elim (cases_Bool ((disk_at a i).has Current)) [
  | inl there ↦
      let w = written there in
      let beside = subst (λ (x : Reads). BesideImage id x (c.reads i)) reads w.reads.beside in
      rank_with version id (folder_at (a.reads i) Current) (folder_at (c.reads i) Current) (same_but beside) unsound ns (written_intact i version id ns b c (Ok v) w)
  | inr lacks ↦
      let none = none_read i c after (has ∙ lacks) in
      rank_without version id (folder_at (a.reads i) Current) (folder_at (c.reads i) Current) (record { others = λ n w x y z. none n ∙ sym (none_read i a before lacks n) }) unsound (none (Image id)) (record { last = id; ns = ns })
]
ranked_then i version id ns a b c (Err fault) before after unsound has reads written = tt

pub ranked_still : (i : ℕ) (version : Version) (id : ℕ) (ns : Namespace) (a b : State) → b.reads i ≡ a.reads i → ReadsRanked version (record { last = id; ns = ns }) i a b
ranked_still i version id ns a b reads = subst (λ (r : Reads). KeepsRank version (record { last = id; ns = ns }) (folder_at (a.reads i) Current) (folder_at r Current)) (sym reads) (rank_same version (record { last = id; ns = ns }) (folder_at (a.reads i) Current))
